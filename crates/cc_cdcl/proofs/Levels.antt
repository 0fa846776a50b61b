-- Levels of steps, and what is true and false up to a level.
use Rattle.std.proofs.Common.{◌≡◌, ◌≢◌, ◌∙◌, ℕ, ◌<◌, ◌≤◌, inl, inr, Bool, not, List, [], ◌∷◌, Option, Some, None, option_map, option_and_then, refl, sym, subst, ap, ap₂, arith}
use Rattle.std.specs.Prelude.{◌⊎◌}
use Rattle.std.proofs.lemmas.Bool.Decides.{eqb_tells, leb_tells}
use Rattle.cc_defs.specs.Assignments.{IsFailed}
use Rattle.cc_defs.specs.Clauses.{Literal, IsIn, opposite}
use Rattle.cc_trail.specs.declared.entries.Step.{Step}
use Rattle.cc_trail.specs.Steps.{AreApart, IsRising, level_after, step_of, steps_to, sign_of, sign_to, values_of, values_to}
use Rattle.cc_trail.specs.Trails.{level_of_step}
use Rattle.cc_cdcl.specs.Analysis.{AreFalseBy, level_of}

-- ---- looking a step up

pub found_in : (steps : List Step) (variable : ℕ) (step : Step) → step_of steps variable ≡ Some step → IsIn steps step × (step.lit.variable ≡ variable)
found_in [] variable step found = cc
found_in (first ∷ steps) variable step found = elim (eqb_tells first.lit.variable variable) [
  | inl same ↦ here (same.1) (rw (same.0) at found)
  | inr other ↦ let rest = found_in steps variable step (rw (other.0) at found) in (inr rest.0, rest.1)
]
  where
    here : first.lit.variable ≡ variable → Some first ≡ Some step → IsIn (first ∷ steps) step × (step.lit.variable ≡ variable)
    here same found = let is : first ≡ step = cc in (inl is, subst (λ (s : Step). s.lit.variable ≡ variable) is same)

pub in_found : (steps : List Step) → AreApart steps → (step : Step) → IsIn steps step → step_of steps step.lit.variable ≡ Some step
in_found [] apart step none = absurd none
in_found (first ∷ steps) apart step (inl is) = elim (eqb_tells first.lit.variable step.lit.variable) [
  | inl same ↦ rw (same.0) (ap (λ (s : Step). Some s) is)
  | inr other ↦ absurd (other.1 (ap (λ (s : Step). s.lit.variable) is))
]
in_found (first ∷ steps) apart step (inr there) = elim (eqb_tells first.lit.variable step.lit.variable) [
  | inl same ↦ absurd (apart.0 step there (sym (same.1)))
  | inr other ↦ rw (other.0) (in_found steps apart.1 step there)
]

-- ---- levels

pub rises : (level : ℕ) (steps : List Step) → IsRising level steps → level ≤ level_after level steps
rises level [] rising = omega arith
rises level (first ∷ steps) rising = let rest = rises first.level steps rising.1 in elim (rising.0) [
  | inl same ↦ omega (arith, same)
  | inr next ↦ omega (arith, next)
]

pub level_most : (level : ℕ) (steps : List Step) → IsRising level steps → (step : Step) → IsIn steps step → step.level ≤ level_after level steps
level_most level [] rising step none = absurd none
level_most level (first ∷ steps) rising step (inl same) = subst (λ (s : Step). s.level ≤ level_after first.level steps) same (rises first.level steps rising.1)
level_most level (first ∷ steps) rising step (inr here) = level_most first.level steps rising.1 step here

-- ---- values up to a level

pub to_lower : (level k : ℕ) (found : Option Step) → option_map level_of_step found ≡ Some k → k ≤ level → option_and_then (sign_to level) found ≡ option_map sign_of found
to_lower level k None is low = cc
to_lower level k (Some step) is low = elim (leb_tells step.level level) [
  | inl below ↦ rw (below.0) refl
  | inr above ↦ let same : step.level ≡ k = cc in let high : level < step.level = above.1 in absurd (omega arith)
]

pub to_higher : (level k : ℕ) (found : Option Step) → option_map level_of_step found ≡ Some k → level < k → option_and_then (sign_to level) found ≡ None
to_higher level k None is high = cc
to_higher level k (Some step) is high = elim (leb_tells step.level level) [
  | inl below ↦ let same : step.level ≡ k = cc in let low : step.level ≤ level = below.1 in absurd (omega arith)
  | inr above ↦ rw (above.0) refl
]

-- what is kept of a look-up where higher levels are gone
none_kept : (back : ℕ) (steps : List Step) (variable : ℕ) → ((step : Step) → IsIn steps step → step.lit.variable ≢ variable) → step_of (steps_to back steps) variable ≡ None
none_kept back [] variable fresh = refl
none_kept back (first ∷ steps) variable fresh = elim (leb_tells first.level back) [
  | inr gone ↦ rw (gone.0) (none_kept back steps variable (λ s here. fresh s (inr here)))
  | inl kept ↦ elim (eqb_tells first.lit.variable variable) [
    | inl same ↦ absurd (fresh first (inl refl) (same.1))
    | inr other ↦ rw (kept.0, other.0) (none_kept back steps variable (λ s here. fresh s (inr here)))
  ]
]

pub kept_or_none : (back : ℕ) (steps : List Step) (variable : ℕ) → AreApart steps → (step_of (steps_to back steps) variable ≡ step_of steps variable) ⊎
    (step_of (steps_to back steps) variable ≡ None)
kept_or_none back [] variable apart = inl refl
kept_or_none back (first ∷ steps) variable apart = elim (eqb_tells first.lit.variable variable) [
  | inl same ↦ elim (leb_tells first.level back) [
    | inl kept ↦ inl (rw (kept.0, same.0) refl)
    | inr gone ↦ inr (rw (gone.0) (none_kept back steps variable (λ s here e. apart.0 s here (e ∙ sym (same.1)))))
  ]
  | inr other ↦ elim (leb_tells first.level back) [
    | inl kept ↦ rw (kept.0, other.0) (kept_or_none back steps variable apart.1)
    | inr gone ↦ rw (gone.0, other.0) (kept_or_none back steps variable apart.1)
  ]
]

pub none_back : (level back k : ℕ) (steps : List Step) (variable : ℕ) → AreApart steps → level_of steps variable ≡ Some k → level < k →
    values_to level (steps_to back steps) variable ≡ None
none_back level back k steps variable apart is high = elim (kept_or_none back steps variable apart) [
  | inl same ↦ ap (option_and_then (sign_to level)) same ∙ to_higher level k (step_of steps variable) is high
  | inr none ↦ ap (option_and_then (sign_to level)) none
]

-- ---- false clauses, in both readings

-- a variable that has a value has a step
pub has_step : (steps : List Step) (variable : ℕ) (sign : Bool) → values_of steps variable ≡ Some sign →
    (step : Step) × IsIn steps step × (step_of steps variable ≡ Some step) × (step.lit.variable ≡ variable) × (step.lit.positive ≡ sign)
has_step steps variable sign is = by (step_of steps variable) refl is
  where
    by : (found : Option Step) → step_of steps variable ≡ found → option_map sign_of found ≡ Some sign →
        (step : Step) × IsIn steps step × (step_of steps variable ≡ Some step) × (step.lit.variable ≡ variable) × (step.lit.positive ≡ sign)
    by None at e = cc
    by (Some step) at e = let same : step.lit.positive ≡ sign = cc in let there = found_in steps variable step at in (step, there.0, at, there.1, same)

pub same_literal : (a b : Literal) → a.variable ≡ b.variable → a.positive ≡ b.positive → a ≡ b
same_literal a b e f = ap₂ (λ (v : ℕ) (p : Bool). let l : Literal = record { variable = v; positive = p } in l) e f

pub failed_false : (steps : List Step) (clause : List Literal) → IsFailed (values_of steps) clause → AreFalseBy steps clause
failed_false steps clause failed literal here =
    let (step, inside, at, variable, sign) = has_step steps literal.variable (not literal.positive) (failed literal here) in
    (step, inside, same_literal step.lit (opposite literal) variable sign)

pub false_failed : (steps : List Step) (clause : List Literal) → AreApart steps → AreFalseBy steps clause → IsFailed (values_of steps) clause
false_failed steps clause apart falsified literal here =
    let (step, inside, is) = falsified literal here in
    ap (values_of steps) (sym (ap (λ (l : Literal). l.variable) is)) ∙ ap (option_map sign_of) (in_found steps apart step inside) ∙
    ap (λ (l : Literal). Some l.positive) is
