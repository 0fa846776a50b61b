use Rattle.std.proofs.Common.{◌∙◌, sym}
use Rattle.std.proofs.lemmas.Bool.{false≢true, not-false, not-true}
use Rattle.cc_check.proofs.silent.is_right_at.Goals as goal

pub returns-then-not-place-clause-right : goal.returns-then-not-place-clause-right
returns-then-not-place-clause-right g c = λ of is.
    let right = c.is_right.ensures.right of is in ((λ yes. (not-true c.args.place.is_closed c.if-not-place.true, right.0 yes)), (λ here. right.1 here.1))

pub returns-else-not-place-clause-right : goal.returns-else-not-place-clause-right
returns-else-not-place-clause-right g c = λ of is. (
  (λ yes. absurd (false≢true (sym c.if-not-place.false ∙ yes))),
  (λ here. absurd (false≢true (sym here.0 ∙ not-false c.args.place.is_closed c.if-not-place.false))),
)
