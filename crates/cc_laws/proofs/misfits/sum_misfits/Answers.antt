use Rattle.std.proofs.Common.{sym, ◌∙◌}
use Rattle.cc_defs.specs.Trees.{plain_sum}
use Rattle.cc_laws.specs.Vocabulary.{vocabulary_of}
use Rattle.cc_laws.proofs.LoneTerms.{single_fits, several_misfit}
use Rattle.cc_laws.proofs.misfits.sum_misfits.Goals as goal

pub returns-then-is_single : goal.returns-then-is_single
returns-then-is_single c = single_fits (vocabulary_of c.args.table.now) (plain_sum c.args.sum.now) (sym c.is_single.ensures ∙ c.if-is_single.true)

pub returns : goal.returns
returns c = c.some_piece_misfits.ensures ∙ several_misfit (vocabulary_of c.args.table.now) (plain_sum c.args.sum.now) (sym c.is_single.ensures ∙ c.if-is_single.false)
