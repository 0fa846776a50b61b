use Rattle.std.proofs.Common.{refl}
use Rattle.cc_run.proofs.Made.{makes_for}
use Rattle.cc_run.specs.Modes.Making.{making_promise}
use Rattle.cc_tell.specs.Manners.{Summed}
use Rattle.cc_list.proofs.Outcomes.{prints_made}
use Rattle.cc_run.proofs.modes.make.sum_up.Goals as goal

pub returns : goal.returns
returns g c = λ d q of are task.
    prints_made (making_promise c.args.size c.args.budget) (Summed c.args.size) _ _ _ c.search.result (makes_for c.args.size c.args.budget _ _ refl refl task) (c.search.ensures d q of are)
