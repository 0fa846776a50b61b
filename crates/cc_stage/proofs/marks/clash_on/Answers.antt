use Rattle.std.proofs.Common.{refl}
use Rattle.cc_clauses.proofs.Searches.{clash_first, clash_second}
use Rattle.cc_stage.specs.Marks.{clause_of}
use Rattle.std.proofs.lemmas.Bool.{false≢true}
use Rattle.cc_stage.proofs.marks.clash_on.Goals as goal

pub returns-then-clash_at : goal.returns-then-clash_at
returns-then-clash_at c =
    ((λ _. clash_first (clause_of c.args.marks.now) c.args.clause.now c.args.pivot (rw c.positive.ensures at (c.if-clash_at.ensures.0 refl))), (λ _. refl))

pub returns : goal.returns
returns c =
    clash_second (clause_of c.args.marks.now) c.args.clause.now c.args.pivot c.clash_at-2.result (λ by. absurd (false≢true ((rw c.positive.ensures at c.if-clash_at.ensures).1 by)))
    (rw c.negative.ensures at c.clash_at-2.ensures)
