use Rattle.std.proofs.Common.{sym, ◌∙◌}
use Rattle.cc_defs.specs.Trees.{plain_sum}
use Rattle.cc_laws.proofs.LoneTerms.{single_lone, not_lone}
use Rattle.cc_laws.proofs.sums.lone.Goals as goal

pub returns-then-is_single : goal.returns-then-is_single
returns-then-is_single c = c.piece_name.ensures ∙ single_lone c.args.sum.now (sym c.is_single.ensures ∙ c.if-is_single.true)

pub returns : goal.returns
returns c = not_lone (plain_sum c.args.sum.now) (sym c.is_single.ensures ∙ c.if-is_single.false)
