use Rattle.std.proofs.Common.{◌∙◌, ◌*◌}
use Rattle.cc_why.proofs.Truths.{truth_from}
use Rattle.cc_why.proofs.history.is_true_at.Goals as goal

pub returns : goal.returns
returns c = λ term written.
    c.value.ensures term written
    ∙ truth_from c.args.row.now c.from_step.result.now (c.args.step * c.args.stride) term c.from_step.ensures
