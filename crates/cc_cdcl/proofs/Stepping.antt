-- What steps give as they grow and as they are gone back over, and how many of them there are.
use Rattle.std.proofs.Common.{◌≡◌, ◌≢◌, ◌∙◌, ℕ, ◌+◌, ◌<◌, ◌≤◌, suc, inl, inr, eqb, Bool, true, false, List, [], ◌∷◌, ◌++◌, length, map, Option, Some, None, option_and_then, option_map, refl, sym, subst, ap, arith}
use Rattle.std.specs.List.{IsDistinct, AllByRecursion, list_any}
use Rattle.std.proofs.lemmas.Bool.Decides.{eqb_tells, leb_tells}
use Rattle.std.proofs.lemmas.List.{length-map}
use Rattle.std.proofs.lemmas.Map.Steps.{length-le_from_distinct_below}
use Rattle.cc_defs.specs.Assignments.{Values}
use Rattle.cc_defs.specs.Clauses.{IsIn}
use Rattle.cc_trail.specs.declared.entries.Step.{Step}
use Rattle.cc_trail.specs.Steps.{AreApart, AreSteps, IsRising, level_after, sign_of, sign_to, step_of, steps_to, values_of, values_to}
use Rattle.cc_cdcl.proofs.Learning.{level_is, within}
use Rattle.cc_cdcl.proofs.Levels.{has_step, to_lower}

-- what one assignment gives another one gives too
abbrev pub GivesMore : Values → Values → Type 0
GivesMore values others = (variable : ℕ) (sign : Bool) → values variable ≡ Some sign → others variable ≡ Some sign

-- ---- look-ups

step_more : (steps more : List Step) (variable : ℕ) (step : Step) → step_of steps variable ≡ Some step → step_of (steps ++ more) variable ≡ Some step
step_more [] more variable step is = cc
step_more (first ∷ steps) more variable step is = elim (eqb_tells first.lit.variable variable) [
  | inl same ↦ rw (same.0) (rw (same.0) at is)
  | inr other ↦ rw (other.0) (step_more steps more variable step (rw (other.0) at is))
]

step_kept : (back : ℕ) (steps : List Step) (variable : ℕ) (step : Step) → step_of steps variable ≡ Some step → step.level ≤ back →
    step_of (steps_to back steps) variable ≡ Some step
step_kept back [] variable step is low = cc
step_kept back (first ∷ steps) variable step is low = elim (eqb_tells first.lit.variable variable) [
  | inl same ↦ here (same.0) (rw (same.0) at is)
  | inr other ↦ elim (leb_tells first.level back) [
    | inl kept ↦ rw (kept.0, other.0) (step_kept back steps variable step (rw (other.0) at is) low)
    | inr gone ↦ rw (gone.0) (step_kept back steps variable step (rw (other.0) at is) low)
  ]
]
  where
    here : eqb first.lit.variable variable ≡ true → Some first ≡ Some step → step_of (steps_to back (first ∷ steps)) variable ≡ Some step
    here same is = elim (leb_tells first.level back) [
      | inl kept ↦ rw (kept.0, same) is
      | inr gone ↦ let equal : first ≡ step = cc in let levels : first.level ≡ step.level = ap (λ (s : Step). s.level) equal in let high : back < first.level = gone.1 in absurd (omega arith)
    ]

-- ---- values up to a level

by_step : (level : ℕ) (sign : Bool) (found : Option Step) → option_and_then (sign_to level) found ≡ Some sign →
    (step : Step) × (found ≡ Some step) × (step.level ≤ level) × (step.lit.positive ≡ sign)
by_step level sign None is = cc
by_step level sign (Some step) is = elim (leb_tells step.level level) [
  | inl low ↦ let same : step.lit.positive ≡ sign = there (rw (low.0) at is) in (step, refl, low.1, same)
  | inr high ↦ let gone = rw (high.0) at is in cc
]
  where
    there : Some step.lit.positive ≡ Some sign → step.lit.positive ≡ sign
    there e = cc

given_by : (level : ℕ) (step : Step) (found : Option Step) → found ≡ Some step → step.level ≤ level → option_and_then (sign_to level) found ≡ Some step.lit.positive
given_by level step found is low = ap (option_and_then (sign_to level)) is ∙ at
  where
    at : sign_to level step ≡ Some step.lit.positive
    at = elim (leb_tells step.level level) [ inl below ↦ rw (below.0) refl | inr above ↦ let high : level < step.level = above.1 in absurd (omega arith) ]

pub values_grow : (level : ℕ) (steps more : List Step) → GivesMore (values_to level steps) (values_to level (steps ++ more))
values_grow level steps more variable sign is =
    let (step, found, low, same) = by_step level sign (step_of steps variable) is in
    given_by level step (step_of (steps ++ more) variable) (step_more steps more variable step found) low ∙ ap (λ (s : Bool). Some s) same

pub values_higher : (level other : ℕ) (steps : List Step) → level ≤ other → GivesMore (values_to level steps) (values_to other steps)
values_higher level other steps less variable sign is =
    let (step, found, low, same) = by_step level sign (step_of steps variable) is in
    given_by other step (step_of steps variable) found (omega arith) ∙ ap (λ (s : Bool). Some s) same

pub values_kept : (level back : ℕ) (steps : List Step) → level ≤ back → GivesMore (values_to level steps) (values_to level (steps_to back steps))
values_kept level back steps less variable sign is =
    let (step, found, low, same) = by_step level sign (step_of steps variable) is in
    given_by level step (step_of (steps_to back steps) variable) (step_kept back steps variable step found (omega arith)) low ∙ ap (λ (s : Bool). Some s) same

pub values_last : (variables : ℕ) (steps : List Step) (level_count : ℕ) → AreSteps variables steps level_count → GivesMore (values_of steps) (values_to level_count steps)
values_last variables steps level_count are variable sign is =
    let (step, inside, at, same, sign_is) = has_step steps variable sign is in
    to_lower level_count step.level (step_of steps variable) (level_is steps variable step at) (within variables steps level_count are step inside) ∙ is

pub values_all : (level : ℕ) (steps : List Step) → GivesMore (values_to level steps) (values_of steps)
values_all level steps variable sign is =
    let (step, found, low, same) = by_step level sign (step_of steps variable) is in
    ap (option_map sign_of) found ∙ ap (λ (s : Bool). Some s) same

pub none_step : (steps : List Step) (variable : ℕ) → values_of steps variable ≡ None → step_of steps variable ≡ None
none_step steps variable none = by (step_of steps variable) none
  where
    by : (found : Option Step) → option_map sign_of found ≡ None → found ≡ None
    by None e = refl
    by (Some step) e = cc

-- ---- going back

steps_above : (back level : ℕ) (steps : List Step) → IsRising level steps → back < level → steps_to back steps ≡ []
steps_above back level [] rising high = refl
steps_above back level (first ∷ steps) rising high = elim (leb_tells first.level back) [
  | inl low ↦ let below : first.level ≤ back = low.1 in absurd (elim (rising.0) [ inl same ↦ omega (arith, same) | inr next ↦ omega (arith, next) ])
  | inr above ↦ rw (above.0) (steps_above back first.level steps rising.1 (above.1))
]

-- the steps of the levels up to one are a front
pub back_front : (back level : ℕ) (steps : List Step) → IsRising level steps → (gone : List Step) × (steps ≡ steps_to back steps ++ gone)
back_front back level [] rising = ([], refl)
back_front back level (first ∷ steps) rising = elim (leb_tells first.level back) [
  | inl low ↦ let (gone, is) = back_front back first.level steps rising.1 in (gone, rw (low.0) (ap (λ (rest : List Step). first ∷ rest) is))
  | inr above ↦ (first ∷ steps, rw (above.0, steps_above back first.level steps rising.1 (above.1)) refl)
]

-- ---- how many there are

unequal : (a b : ℕ) → a ≢ b → eqb a b ≡ false
unequal a b apart = elim (eqb_tells a b) [ inl same ↦ absurd (apart (same.1)) | inr other ↦ other.0 ]

abbrev place_of : Step → ℕ
place_of step = step.lit.variable

others_apart : (x : ℕ) (steps : List Step) → ((step : Step) → IsIn steps step → step.lit.variable ≢ x) →
    AllByRecursion (λ n. eqb x n ≡ false) (map place_of steps)
others_apart x [] fresh = tt
others_apart x (step ∷ steps) fresh = (unequal x step.lit.variable (λ e. fresh step (inl refl) (sym e)), others_apart x steps (λ other here. fresh other (inr here)))

distinct : (steps : List Step) → AreApart steps → IsDistinct eqb (map place_of steps)
unfolding IsDistinct
distinct [] apart = tt
distinct (step ∷ steps) apart = (others_apart step.lit.variable steps apart.0, distinct steps apart.1)

distinct_with : (steps : List Step) → AreApart steps → ((step : Step) → IsIn steps step → step.lit.variable ≢ 0) → IsDistinct eqb (0 ∷ map place_of steps)
unfolding IsDistinct
distinct_with steps apart some = (others_apart 0 steps some, distinct steps apart)

below : (n : ℕ) (steps : List Step) → ((step : Step) → IsIn steps step → step.lit.variable < n) → (q : ℕ) → list_any (eqb q) (map place_of steps) ≡ true → q < n
below n [] low q found = cc
below n (step ∷ steps) low q found = elim (eqb_tells q step.lit.variable) [
  | inl same ↦ subst (λ (k : ℕ). k < n) (sym (same.1)) (low step (inl refl))
  | inr other ↦ below n steps (λ o here. low o (inr here)) q (rw (other.0) at found)
]

below_with : (n : ℕ) (steps : List Step) → 0 < n → ((step : Step) → IsIn steps step → step.lit.variable < n) → (q : ℕ) → list_any (eqb q) (0 ∷ map place_of steps) ≡ true → q < n
below_with n steps some low q found = elim (eqb_tells q 0) [
  | inl same ↦ omega (arith, same.1)
  | inr other ↦ below n steps low q (rw (other.0) at found)
]

levels_few : (level : ℕ) (steps : List Step) → IsRising level steps → level_after level steps ≤ level + length steps
levels_few level [] rising = omega arith
levels_few level (first ∷ steps) rising = let rest = levels_few first.level steps rising.1 in elim (rising.0) [
  | inl same ↦ omega (arith, same)
  | inr next ↦ omega (arith, next)
]

pub steps_few : (variables : ℕ) (steps : List Step) (level_count : ℕ) → AreSteps variables steps level_count → (length steps ≤ variables) × (level_count ≤ length steps)
steps_few variables steps level_count are =
    let few = length-le_from_distinct_below (0 ∷ map place_of steps) (suc variables)
    (distinct_with steps are.apart (λ step here e. let some : 0 < step.lit.variable = (are.over step here).0 in absurd (omega arith)))
    (below_with (suc variables) steps (omega arith) (λ step here. let most : step.lit.variable ≤ variables = (are.over step here).1 in omega arith)) in
    let count : length (map place_of steps) ≡ length steps = length-map steps place_of in
    let levels = are.levels in
    let low = levels_few 0 steps are.rising in
    (omega arith, omega arith)
