use Rattle.std.proofs.Common.{◌↔◌, IsTrue, subst}
use Rattle.cc_defs.specs.Clauses.{Literal, HasAlone}
use Rattle.cc_stage.proofs.Marked.{both_then, both_else}
use Rattle.cc_stage.proofs.marks.clash_at.Goals as goal

pub returns-then-has_alone : goal.returns-then-has_alone
returns-then-has_alone c =
    both_then _ _ c.has_alone.result c.has_alone.ensures c.is_alone_in.result c.if-has_alone.true
    (subst (λ (l : Literal). IsTrue c.is_alone_in.result ↔ HasAlone c.args.clause.now l) c.opposite.ensures c.is_alone_in.ensures)

pub returns-else-has_alone : goal.returns-else-has_alone
returns-else-has_alone c = both_else _ _ c.has_alone.result c.has_alone.ensures c.if-has_alone.false
