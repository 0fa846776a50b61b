use Rattle.std.proofs.Common.{◌↔◌, IsTrue, subst}
use Rattle.cc_defs.specs.Clauses.{Literal}
use Rattle.std.specs.Prelude.{Contains}
use Rattle.cc_stage.proofs.Marked.{alone_then, both_else}
use Rattle.cc_stage.specs.Marks.{clause_of}
use Rattle.cc_stage.proofs.marks.has_alone.Goals as goal

pub returns-then-has : goal.returns-then-has
returns-then-has c =
    alone_then _ _ c.has.result c.has.ensures c.has-then-has.result c.if-has.true
    (subst (λ (l : Literal). IsTrue c.has-then-has.result ↔ Contains (clause_of c.args.marks.now) l) c.opposite.ensures c.has-then-has.ensures)

pub returns-else-has : goal.returns-else-has
returns-else-has c = both_else _ _ c.has.result c.has.ensures c.if-has.false
