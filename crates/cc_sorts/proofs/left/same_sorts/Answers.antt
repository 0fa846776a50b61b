use Rattle.std.proofs.Common.{◌∙◌}
use Rattle.cc_sorts.proofs.Fitting.{pointwise_texts}
use Rattle.cc_sorts.proofs.left.same_sorts.Goals as goal

pub returns : goal.returns
returns c = c.eq.ensures ∙ pointwise_texts c.args.sorts.now c.args.others.now
