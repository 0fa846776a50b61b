-- A false clause along the fronts of a trail, from the last step back.
use Rattle.std.proofs.Common.{◌≡◌, ◌≢◌, ◌∙◌, ℕ, ◌<◌, inl, inr, Bool, true, false, not, List, [], ◌∷◌, ◌++◌, Some, None, refl, sym, subst, ap, append_assoc, append-nil}
use Rattle.std.specs.Prelude.{◌⊎◌, Contains}
use Rattle.cc_defs.specs.Clauses.{Literal, opposite, Clash, IsResolvent}
use Rattle.cc_trail.specs.declared.entries.Step.{Step}
use Rattle.cc_trail.specs.Steps.{level_after}
use Rattle.cc_trail.specs.Watches.{IsFalseBy, HasReason, AreReasonedAfter}
use Rattle.cc_cdcl.specs.Analysis.{AreFalseBy, OpenLevelsAfter}
use Rattle.cc_cdcl.specs.Laws.{ResolventIsFalse, OtherIsFalse}

not_not : (b : Bool) → not (not b) ≡ b
not_not true = refl
not_not false = refl

not_itself : (b : Bool) → b ≡ not b → ⊥
not_itself true e = cc
not_itself false e = cc

pub opposite_twice : (literal : Literal) → opposite (opposite literal) ≡ literal
opposite_twice literal = ap (λ (sign : Bool). let l : Literal = record { variable = literal.variable; positive = sign } in l) (not_not literal.positive)

-- what is false by a front and one step more is the opposite of the step's literal, or false by the front
pub front_or_last : (front : List Step) (last : Step) (literal : Literal) → IsFalseBy (front ++ last ∷ []) literal → IsFalseBy front literal ⊎ (literal ≡ opposite last.lit)
front_or_last [] last literal (step, inl same, is) =
    inr (sym (opposite_twice literal) ∙ ap opposite (sym is) ∙ ap (λ (s : Step). opposite s.lit) (sym same))
front_or_last [] last literal (step, inr none, is) = absurd none
front_or_last (first ∷ front) last literal (step, inl same, is) = inl (step, inl same, is)
front_or_last (first ∷ front) last literal (step, inr here, is) = elim (front_or_last front last literal (step, here, is)) [
  | inl (other, there, equal) ↦ inl (other, inr there, equal)
  | inr same ↦ inr same
]

pub passed : OtherIsFalse
passed front last clause falsified lacks literal here = elim (front_or_last front last literal (falsified literal here)) [
  | inl before ↦ before
  | inr same ↦ absurd (lacks (subst (λ (l : Literal). Contains clause l) same here))
]

pub resolved : ResolventIsFalse
resolved front last clause reason apart falsified here there others = (clash, false_then)
  where
    -- no step of the front is of the variable
    not_before : (literal : Literal) → literal.variable ≡ last.lit.variable → IsFalseBy front literal → ⊥
    not_before literal same (step, inside, is) = apart step inside (ap (λ (l : Literal). l.variable) is ∙ same)

    not_last : Contains clause (opposite (opposite last.lit)) → ⊥
    not_last inside = elim (front_or_last front last (opposite (opposite last.lit)) (falsified (opposite (opposite last.lit)) inside)) [
      | inl before ↦ not_before (opposite (opposite last.lit)) refl before
      | inr same ↦ not_itself (not last.lit.positive) (sym (ap (λ (l : Literal). l.positive) same))
    ]

    not_opposite : (literal : Literal) → literal ≡ last.lit → Contains reason (opposite literal) → ⊥
    not_opposite literal is inside = elim (others (opposite literal) inside) [
      | inl same ↦ not_itself last.lit.positive (sym (ap (λ (l : Literal). l.positive) same) ∙ ap (λ (l : Literal). not l.positive) is)
      | inr before ↦ not_before (opposite literal) (ap (λ (l : Literal). l.variable) is) before
    ]

    literal_is : record { variable = last.lit.variable; positive = not (not last.lit.positive) } ≡ last.lit
    literal_is = opposite_twice last.lit

    clash : Clash clause reason last.lit.variable
    clash = (
      not last.lit.positive,
      (here, not_last),
      (subst (λ (l : Literal). Contains reason l) (sym literal_is) there, not_opposite (opposite (opposite last.lit)) literal_is),
    )

    false_then : (resolvent : List Literal) → IsResolvent clause reason last.lit.variable resolvent → AreFalseBy front resolvent
    false_then resolvent is literal inside = by ((is.members literal).0 inside)
      where
        by : (Contains clause literal ⊎ Contains reason literal) × (literal.variable ≢ last.lit.variable) → IsFalseBy front literal
        by (inl one, differs) = elim (front_or_last front last literal (falsified literal one)) [
          | inl before ↦ before
          | inr same ↦ absurd (differs (ap (λ (l : Literal). l.variable) same))
        ]
        by (inr two, differs) = elim (others literal two) [
          | inl same ↦ absurd (differs (ap (λ (l : Literal). l.variable) same))
          | inr before ↦ before
        ]

-- ---- what is known of a step behind a front

pub reasoned_at : (clauses : List (List Literal)) (before front : List Step) (last : Step) (gone : List Step) → AreReasonedAfter clauses before (front ++ last ∷ gone) →
    (number : ℕ) → last.reason ≡ Some number → HasReason clauses (before ++ front) last.lit number
reasoned_at clauses before [] last gone reasoned number is =
    subst (λ (steps : List Step). HasReason clauses steps last.lit number) (sym (append-nil before)) (reasoned.0 number is)
reasoned_at clauses before (step ∷ front) last gone reasoned number is =
    subst (λ (steps : List Step). HasReason clauses steps last.lit number) (append_assoc before (step ∷ []) front)
    (reasoned_at clauses (before ++ step ∷ []) front last gone reasoned.1 number is)

pub opens_at : (before front : List Step) (last : Step) (gone : List Step) → OpenLevelsAfter before (front ++ last ∷ gone) → last.reason ≡ None →
    level_after 0 (before ++ front) < last.level
opens_at before [] last gone opened none = subst (λ (steps : List Step). level_after 0 steps < last.level) (sym (append-nil before)) (opened.0 none)
opens_at before (step ∷ front) last gone opened none =
    subst (λ (steps : List Step). level_after 0 steps < last.level) (append_assoc before (step ∷ []) front) (opens_at (before ++ step ∷ []) front last gone opened.1 none)
