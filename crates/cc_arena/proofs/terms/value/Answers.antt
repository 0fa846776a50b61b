use Rattle.std.proofs.Common.{[], ◌∙◌}
use Rattle.std.proofs.Math.Seq.{take-length}
use Rattle.cc_arena.proofs.terms.value.Goals as goal

pub walk-requires-clause-ends : goal.walk-requires-clause-ends
walk-requires-clause-ends c = ([], c.requires.formula, take-length c.args.term.now ∙ c.requires.written)

pub returns : goal.returns
returns c formula same = (c.walk.ensures [] formula (take-length c.args.term.now ∙ same)).0
