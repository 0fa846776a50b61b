use Rattle.std.proofs.Common.{Bor, List, ℕ, ap, option_map}
use Rattle.cc_rivals.specs.Putting.{put_rules}
use Rattle.cc_rivals.proofs.Folding.{puts_nothing}
use Rattle.cc_rivals.proofs.Turns.{none_initial}
use Rattle.cc_wide.specs.WideLists.{initial_wide}
use Rattle.cc_rivals.proofs.walk.put_initial.Goals as goal

pub returns-in-Determined : goal.returns-in-Determined
returns-in-Determined c =
    let row = option_map (λ (r : Bor (List ℕ)). r.now) c.args.row in
    puts_nothing c.args.draft.now (λ sizes made. put_rules row sizes made (initial_wide c.args.kind c.args.number c.args.size))
    (λ sizes made. ap (put_rules row sizes made) (none_initial c.args.kind c.args.number c.args.size c.in-Determined.is))
