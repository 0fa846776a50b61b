-- Steps in a list: levels, places, one more step at the end, one less.
use Rattle.std.proofs.Common.{◌≡◌, ◌≢◌, ◌∙◌, ℕ, ◌+◌, ◌<◌, ◌≤◌, zero, suc, inl, inr, eqb, true, false, List, [], ◌∷◌, ◌++◌, length, get_or, take, map, Some, None, refl, sym, subst, ap, arith}
use Rattle.std.specs.Prelude.{◌⊎◌}
use Rattle.std.specs.List.{IsDistinct, AllByRecursion, list_any}
use Rattle.std.proofs.lemmas.Bool.Decides.{eqb_tells, leb_tells}
use Rattle.std.proofs.lemmas.List.{length-map}
use Rattle.std.proofs.lemmas.Map.Steps.{length-le_from_distinct_below}
use Rattle.cc_defs.specs.Clauses.{Literal, IsIn, IsLiteralOver}
use Rattle.cc_trail.specs.declared.entries.Step.{Step}
use Rattle.cc_trail.specs.Steps.{step_of, steps_to, level_after, IsRising, AreApart, AreSteps}
use Rattle.cc_trail.specs.EntryParts.{place_from}

-- ---- members

pub in_left : {X : Type 0} (xs ys : List X) (x : X) → IsIn xs x → IsIn (xs ++ ys) x
in_left [] ys x none = elim none [ ]
in_left (y ∷ xs) ys x (inl same) = inl same
in_left (y ∷ xs) ys x (inr later) = inr (in_left xs ys x later)

pub in_right : {X : Type 0} (xs ys : List X) (x : X) → IsIn ys x → IsIn (xs ++ ys) x
in_right [] ys x here = here
in_right (y ∷ xs) ys x here = inr (in_right xs ys x here)

pub in_cases : {X : Type 0} (xs ys : List X) (x : X) → IsIn (xs ++ ys) x → IsIn xs x ⊎ IsIn ys x
in_cases [] ys x here = inr here
in_cases (y ∷ xs) ys x (inl same) = inl (inl same)
in_cases (y ∷ xs) ys x (inr later) = elim (in_cases xs ys x later) [
  | inl left ↦ inl (inr left)
  | inr right ↦ inr right
]

pub in_push : {X : Type 0} (xs : List X) (last x : X) → IsIn (xs ++ last ∷ []) x → IsIn xs x ⊎ (last ≡ x)
in_push xs last x here = elim (in_cases xs (last ∷ []) x here) [
  | inl left ↦ inl left
  | inr right ↦ inr (only right)
]
  where
    only : IsIn (last ∷ []) x → last ≡ x
    only (inl same) = same
    only (inr none) = elim none [ ]

pub in_take : {X : Type 0} (n : ℕ) (xs : List X) (x : X) → IsIn (take n xs) x → IsIn xs x
in_take zero xs x none = elim none [ ]
in_take (suc n) [] x none = elim none [ ]
in_take (suc n) (y ∷ xs) x (inl same) = inl same
in_take (suc n) (y ∷ xs) x (inr later) = inr (in_take n xs x later)

-- ---- levels

pub level_push : (level : ℕ) (steps : List Step) (step : Step) → level_after level (steps ++ step ∷ []) ≡ step.level
level_push level [] step = refl
level_push level (first ∷ steps) step = level_push first.level steps step

pub rising_push : (level : ℕ) (steps : List Step) (step : Step) → IsRising level steps →
    (step.level ≡ level_after level steps) ⊎ (step.level ≡ suc (level_after level steps)) → IsRising level (steps ++ step ∷ [])
rising_push level [] step rising next = (next, tt)
rising_push level (first ∷ steps) step rising next = (rising.0, rising_push first.level steps step rising.1 next)

pub rising_pop : (level : ℕ) (steps : List Step) (step : Step) → IsRising level (steps ++ step ∷ []) →
    IsRising level steps × ((step.level ≡ level_after level steps) ⊎ (step.level ≡ suc (level_after level steps)))
rising_pop level [] step rising = (tt, rising.0)
rising_pop level (first ∷ steps) step rising =
    let rest = rising_pop first.level steps step rising.1 in ((rising.0, rest.0), rest.1)

pub level_low : (level : ℕ) (steps : List Step) → IsRising level steps → (level ≤ level_after level steps) × (level_after level steps ≤ level + length steps)
level_low level [] rising = ((omega arith), (omega arith))
level_low level (first ∷ steps) rising =
    let rest = level_low first.level steps rising.1 in
    elim (rising.0) [
      | inl same ↦ ((omega (arith, rest.0, same)), omega (arith, rest.1, same))
      | inr next ↦ ((omega (arith, rest.0, next)), omega (arith, rest.1, next))
    ]

pub levels_most : (level : ℕ) (steps : List Step) → IsRising level steps → (step : Step) → IsIn steps step → step.level ≤ level_after level steps
levels_most level [] rising step none = elim none [ ]
levels_most level (first ∷ steps) rising step (inl same) =
    let rest = level_low first.level steps rising.1 in
    subst (λ (s : Step). s.level ≤ level_after first.level steps) same (rest.0)
levels_most level (first ∷ steps) rising step (inr later) = levels_most first.level steps rising.1 step later

-- ---- variables

pub apart_push : (steps : List Step) (step : Step) → AreApart steps → ((other : Step) → IsIn steps other → other.lit.variable ≢ step.lit.variable) →
    AreApart (steps ++ step ∷ [])
apart_push [] step apart fresh = ((λ other none. elim none [ ]), tt)
apart_push (first ∷ steps) step apart fresh = (
  (λ other here. elim (in_push steps step other here) [
    | inl left ↦ apart.0 other left
    | inr same ↦ λ equal. fresh first (inl refl) (sym equal ∙ ap (λ (s : Step). s.lit.variable) (sym same))
  ]),
  apart_push steps step apart.1 (λ other here. fresh other (inr here)),
)

pub apart_pop : (steps : List Step) (step : Step) → AreApart (steps ++ step ∷ []) →
    AreApart steps × ((other : Step) → IsIn steps other → other.lit.variable ≢ step.lit.variable)
apart_pop [] step apart = (tt, (λ other none. elim none [ ]))
apart_pop (first ∷ steps) step apart =
    let rest = apart_pop steps step apart.1 in (
      ((λ other here. apart.0 other (in_left steps (step ∷ []) other here)), rest.0),
      (λ other here. other_fresh rest.1 other here),
    )
  where
    other_fresh : ((other : Step) → IsIn steps other → other.lit.variable ≢ step.lit.variable) → (other : Step) → IsIn (first ∷ steps) other → other.lit.variable ≢ step.lit.variable
    other_fresh rest other (inl same) = λ equal. apart.0 step (in_right steps (step ∷ []) step (inl refl)) (sym equal ∙ ap (λ (s : Step). s.lit.variable) (sym same))
    other_fresh rest other (inr here) = rest other here

-- two steps of one variable are one
pub same_step : (steps : List Step) → AreApart steps → (a b : Step) → IsIn steps a → IsIn steps b → a.lit.variable ≡ b.lit.variable → a ≡ b
same_step [] apart a b none there equal = elim none [ ]
same_step (first ∷ steps) apart a b (inl one) (inl two) equal = sym one ∙ two
same_step (first ∷ steps) apart a b (inl one) (inr two) equal = absurd (apart.0 b two (sym equal ∙ ap (λ (s : Step). s.lit.variable) (sym one)))
same_step (first ∷ steps) apart a b (inr one) (inl two) equal = absurd (apart.0 a one (equal ∙ ap (λ (s : Step). s.lit.variable) (sym two)))
same_step (first ∷ steps) apart a b (inr one) (inr two) equal = same_step steps apart.1 a b one two equal

first_apart : (first : Step) (steps : List Step) (variable : ℕ) → first.lit.variable ≢ variable → ((step : Step) → IsIn steps step → step.lit.variable ≢ variable) →
    (step : Step) → IsIn (first ∷ steps) step → step.lit.variable ≢ variable
first_apart first steps variable other rest step (inl same) = subst (λ (s : Step). s.lit.variable ≢ variable) same other
first_apart first steps variable other rest step (inr here) = rest step here

some_none : (step : Step) → Some step ≡ None → ⊥
some_none step e = cc

pub none_of : (steps : List Step) (variable : ℕ) → step_of steps variable ≡ None → (step : Step) → IsIn steps step → step.lit.variable ≢ variable
none_of [] variable none step here = elim here [ ]
none_of (first ∷ steps) variable none step here = elim (eqb_tells first.lit.variable variable) [
  | inl same ↦ absurd (some_none first (rw (same.0) at none))
  | inr other ↦ first_apart first steps variable (other.1) (none_of steps variable (rw (other.0) at none)) step here
]

pub of_none : (steps : List Step) (variable : ℕ) → ((step : Step) → IsIn steps step → step.lit.variable ≢ variable) → step_of steps variable ≡ None
of_none [] variable fresh = refl
of_none (first ∷ steps) variable fresh = elim (eqb_tells first.lit.variable variable) [
  | inl same ↦ absurd (fresh first (inl refl) (same.1))
  | inr other ↦ rw (other.0) (of_none steps variable (λ step here. fresh step (inr here)))
]

-- what is found is a member, and of the variable
pub step_found : (steps : List Step) (variable : ℕ) (step : Step) → step_of steps variable ≡ Some step → IsIn steps step × (step.lit.variable ≡ variable)
step_found [] variable step found = cc
step_found (first ∷ steps) variable step found = elim (eqb_tells first.lit.variable variable) [
  | inl same ↦ here (same.1) (rw (same.0) at found)
  | inr other ↦ let rest = step_found steps variable step (rw (other.0) at found) in (inr rest.0, rest.1)
]
  where
    here : first.lit.variable ≡ variable → Some first ≡ Some step → IsIn (first ∷ steps) step × (step.lit.variable ≡ variable)
    here same found = let is : first ≡ step = cc in (inl is, subst (λ (s : Step). s.lit.variable ≡ variable) is same)

-- a member is what is found
pub found_step : (steps : List Step) → AreApart steps → (step : Step) → IsIn steps step → step_of steps step.lit.variable ≡ Some step
found_step [] apart step none = elim none [ ]
found_step (first ∷ steps) apart step (inl same) = subst (λ (s : Step). step_of (first ∷ steps) s.lit.variable ≡ Some s) same first_found
  where
    first_found : step_of (first ∷ steps) first.lit.variable ≡ Some first
    first_found = elim (eqb_tells first.lit.variable first.lit.variable) [
      | inl is ↦ rw (is.0) refl
      | inr no_way ↦ absurd (no_way.1 refl)
    ]
found_step (first ∷ steps) apart step (inr later) = elim (eqb_tells first.lit.variable step.lit.variable) [
  | inl is ↦ absurd (apart.0 step later (sym (is.1)))
  | inr other ↦ rw (other.0) (found_step steps apart.1 step later)
]

-- ---- places

pub place_none : (before : ℕ) (steps : List Step) (variable : ℕ) → ((step : Step) → IsIn steps step → step.lit.variable ≢ variable) → place_from before steps variable ≡ 0
place_none before [] variable fresh = refl
place_none before (first ∷ steps) variable fresh = elim (eqb_tells first.lit.variable variable) [
  | inl same ↦ absurd (fresh first (inl refl) (same.1))
  | inr other ↦ rw (other.0) (place_none (suc before) steps variable (λ step here. fresh step (inr here)))
]

pub place_push_other : (before : ℕ) (steps : List Step) (step : Step) (variable : ℕ) → step.lit.variable ≢ variable →
    place_from before (steps ++ step ∷ []) variable ≡ place_from before steps variable
place_push_other before [] step variable apart = elim (eqb_tells step.lit.variable variable) [
  | inl same ↦ absurd (apart (same.1))
  | inr other ↦ rw (other.0) refl
]
place_push_other before (first ∷ steps) step variable apart = elim (eqb_tells first.lit.variable variable) [
  | inl same ↦ rw (same.0) refl
  | inr other ↦ rw (other.0) (place_push_other (suc before) steps step variable apart)
]

pub place_push_same : (before : ℕ) (steps : List Step) (step : Step) → ((other : Step) → IsIn steps other → other.lit.variable ≢ step.lit.variable) →
    place_from before (steps ++ step ∷ []) step.lit.variable ≡ suc (before + length steps)
place_push_same before [] step fresh = elim (eqb_tells step.lit.variable step.lit.variable) [
  | inl same ↦ rw (same.0) (omega arith)
  | inr no_way ↦ absurd (no_way.1 refl)
]
place_push_same before (first ∷ steps) step fresh = elim (eqb_tells first.lit.variable step.lit.variable) [
  | inl same ↦ absurd (fresh first (inl refl) (same.1))
  | inr other ↦
      let rest : place_from (suc before) (steps ++ step ∷ []) step.lit.variable ≡ suc (suc before + length steps) =
      place_push_same (suc before) steps step (λ o here. fresh o (inr here)) in
      rw (other.0) (omega arith)
]

pub place_found : (before : ℕ) (steps : List Step) (variable k j : ℕ) (d : Step) → place_from before steps variable ≡ suc k → k ≡ before + j →
    (j < length steps) × (step_of steps variable ≡ Some (get_or steps j d)) × ((step : Step) → IsIn (take j steps) step → step.lit.variable ≢ variable)
place_found before [] variable k j d found is = cc
place_found before (first ∷ steps) variable k zero d found is = elim (eqb_tells first.lit.variable variable) [
  | inl same ↦ ((omega arith), (rw (same.0) refl), (λ step none. elim none [ ]))
  | inr other ↦ absurd (later_place (suc before) steps variable k (rw (other.0) at found) (omega arith))
]
  where
    later_place : (before : ℕ) (steps : List Step) (variable k : ℕ) → place_from before steps variable ≡ suc k → k < before → ⊥
    later_place before [] variable k found low = cc
    later_place before (first ∷ steps) variable k found low = elim (eqb_tells first.lit.variable variable) [
      | inl same ↦ let is : suc before ≡ suc k = rw (same.0) at found in absurd (omega arith)
      | inr other ↦ later_place (suc before) steps variable k (rw (other.0) at found) (omega arith)
    ]
place_found before (first ∷ steps) variable k (suc j) d found is = elim (eqb_tells first.lit.variable variable) [
  | inl same ↦ let at_first : suc before ≡ suc k = rw (same.0) at found in absurd (omega arith)
  | inr other ↦
      let rest = place_found (suc before) steps variable k j d (rw (other.0) at found) (omega arith) in (
        (omega (arith, rest.0)),
        (rw (other.0) (rest.1)),
        (λ step here. behind (other.1) (rest.2) step here),
      )
]
  where
    behind : first.lit.variable ≢ variable → ((step : Step) → IsIn (take j steps) step → step.lit.variable ≢ variable) →
        (step : Step) → IsIn (first ∷ take j steps) step → step.lit.variable ≢ variable
    behind other rest step (inl same) = subst (λ (s : Step). s.lit.variable ≢ variable) same other
    behind other rest step (inr here) = rest step here

pub place_nowhere : (before : ℕ) (steps : List Step) (variable : ℕ) → place_from before steps variable ≡ 0 → step_of steps variable ≡ None
place_nowhere before [] variable none = refl
place_nowhere before (first ∷ steps) variable none = elim (eqb_tells first.lit.variable variable) [
  | inl same ↦ let is : suc before ≡ 0 = rw (same.0) at none in absurd (omega arith)
  | inr other ↦ rw (other.0) (place_nowhere (suc before) steps variable (rw (other.0) at none))
]

-- ---- there is room for one more

unequal : (x y : ℕ) → x ≢ y → eqb x y ≡ false
unequal x y apart = elim (eqb_tells x y) [
  | inl same ↦ absurd (apart (same.1))
  | inr other ↦ other.0
]

variables_apart : (x : ℕ) (steps : List Step) → ((step : Step) → IsIn steps step → step.lit.variable ≢ x) →
    AllByRecursion (λ y. eqb x y ≡ false) (map (λ (step : Step). step.lit.variable) steps)
variables_apart x [] fresh = tt
variables_apart x (step ∷ steps) fresh =
    (unequal x step.lit.variable (λ e. fresh step (inl refl) (sym e)), variables_apart x steps (λ other here. fresh other (inr here)))

variables_distinct : (steps : List Step) → AreApart steps → IsDistinct eqb (map (λ (step : Step). step.lit.variable) steps)
unfolding IsDistinct
variables_distinct [] apart = tt
variables_distinct (step ∷ steps) apart =
    (variables_apart step.lit.variable steps apart.0, variables_distinct steps apart.1)

with_two : (x : ℕ) (steps : List Step) → AreApart steps → ((step : Step) → IsIn steps step → step.lit.variable ≢ x) →
    ((step : Step) → IsIn steps step → step.lit.variable ≢ 0) → x ≢ 0 → IsDistinct eqb (0 ∷ x ∷ map (λ (step : Step). step.lit.variable) steps)
unfolding IsDistinct
with_two x steps apart fresh some other =
    ((unequal 0 x (λ e. other (sym e)), variables_apart 0 steps some), (variables_apart x steps fresh, variables_distinct steps apart))

variables_below : (n : ℕ) (steps : List Step) → ((step : Step) → IsIn steps step → step.lit.variable < n) → (q : ℕ) →
    list_any (eqb q) (map (λ (step : Step). step.lit.variable) steps) ≡ true → q < n
variables_below n [] low q found = cc
variables_below n (step ∷ steps) low q found = elim (eqb_tells q step.lit.variable) [
  | inl same ↦ subst (λ (k : ℕ). k < n) (sym (same.1)) (low step (inl refl))
  | inr other ↦ variables_below n steps (λ o here. low o (inr here)) q (rw (other.0) at found)
]

two_below : (n x : ℕ) (steps : List Step) → x < n → ((step : Step) → IsIn steps step → step.lit.variable < n) → (q : ℕ) →
    list_any (eqb q) (0 ∷ x ∷ map (λ (step : Step). step.lit.variable) steps) ≡ true → q < n
two_below n x steps high low q found = elim (eqb_tells q 0) [
  | inl same ↦ omega (arith, same.1)
  | inr some ↦ elim (eqb_tells q x) [
    | inl same ↦ omega (arith, same.1)
    | inr other ↦ variables_below n steps low q (rw (some.0, other.0) at found)
  ]
]

pub room : (variables level_count : ℕ) (steps : List Step) (literal : Literal) → AreSteps variables steps level_count → IsLiteralOver variables literal →
    step_of steps literal.variable ≡ None → length steps < variables
room variables level_count steps literal are over none =
    let some : 0 < literal.variable = over.0 in
    let high : literal.variable ≤ variables = over.1 in
    let distinct = with_two literal.variable steps are.apart (none_of steps literal.variable none)
    (λ step here e. let low : 0 < step.lit.variable = (are.over step here).0 in absurd (omega arith)) (λ e. absurd (omega arith)) in
    let low = length-le_from_distinct_below (0 ∷ literal.variable ∷ map (λ (step : Step). step.lit.variable) steps) (suc variables) distinct
    (two_below (suc variables) literal.variable steps (omega arith) (λ step here. let high : step.lit.variable ≤ variables = (are.over step here).1 in omega arith)) in
    let count : length (map (λ (step : Step). step.lit.variable) steps) ≡ length steps = length-map steps (λ (step : Step). step.lit.variable) in
    omega arith

-- ---- one more step, and one less

pub steps_push : (variables level_count : ℕ) (steps : List Step) (step : Step) → AreSteps variables steps level_count → IsLiteralOver variables step.lit →
    step_of steps step.lit.variable ≡ None → (step.level ≡ level_count) ⊎ (step.level ≡ suc level_count) → AreSteps variables (steps ++ step ∷ []) step.level
steps_push variables level_count steps step are over none next = record {
  variables_few = are.variables_few;
  over = λ other here. elim (in_push steps step other here) [
    | inl left ↦ are.over other left
    | inr same ↦ subst (λ (s : Step). IsLiteralOver variables s.lit) same over
  ];
  apart = apart_push steps step are.apart (none_of steps step.lit.variable none);
  rising = rising_push 0 steps step are.rising (subst (λ (n : ℕ). (step.level ≡ n) ⊎ (step.level ≡ suc n)) are.levels next);
  levels = sym (level_push 0 steps step);
}

pub steps_pop : (variables level_count : ℕ) (steps : List Step) (step : Step) → AreSteps variables (steps ++ step ∷ []) level_count →
    AreSteps variables steps (level_after 0 steps)
steps_pop variables level_count steps step are = record {
  variables_few = are.variables_few;
  over = λ other here. are.over other (in_left steps (step ∷ []) other here);
  apart = (apart_pop steps step are.apart).0;
  rising = (rising_pop 0 steps step are.rising).0;
  levels = refl;
}

pub level_count_few : (variables level_count : ℕ) (steps : List Step) → AreSteps variables steps level_count → level_count ≤ length steps
level_count_few variables level_count steps are =
    let low = level_low 0 steps are.rising in
    let is = are.levels in
    omega (arith, low.1)

-- ---- the steps of levels up to one

all_kept : (level : ℕ) (steps : List Step) → ((step : Step) → IsIn steps step → step.level ≤ level) → steps_to level steps ≡ steps
all_kept level [] low = refl
all_kept level (step ∷ steps) low = elim (leb_tells step.level level) [
  | inl is ↦ rw (is.0) (ap (λ (rest : List Step). step ∷ rest) (all_kept level steps (λ other here. low other (inr here))))
  | inr high ↦ let below : step.level ≤ level = low step (inl refl) in let above : level < step.level = high.1 in absurd (omega arith)
]

none_kept : (level : ℕ) (steps : List Step) → ((step : Step) → IsIn steps step → level < step.level) → steps_to level steps ≡ []
none_kept level [] high = refl
none_kept level (step ∷ steps) high = elim (leb_tells step.level level) [
  | inl is ↦ let above : level < step.level = high step (inl refl) in let below : step.level ≤ level = is.1 in absurd (omega arith)
  | inr is ↦ rw (is.0) (none_kept level steps (λ other here. high other (inr here)))
]

pub front_kept : (level : ℕ) (steps gone : List Step) → ((step : Step) → IsIn steps step → step.level ≤ level) → ((step : Step) → IsIn gone step → level < step.level) →
    steps ≡ steps_to level (steps ++ gone)
front_kept level [] gone low high = sym (none_kept level gone high)
front_kept level (step ∷ steps) gone low high = elim (leb_tells step.level level) [
  | inl is ↦ rw (is.0) (ap (λ (rest : List Step). step ∷ rest) (front_kept level steps gone (λ other here. low other (inr here)) high))
  | inr is ↦ let below : step.level ≤ level = low step (inl refl) in let above : level < step.level = is.1 in absurd (omega arith)
]
