-- What the arrays of entries keep: a look-up, one more step, one less.
use Rattle.std.proofs.Common.{◌≡◌, ◌≢◌, ◌∙◌, ℕ, ◌+◌, ◌<◌, ◌≤◌, zero, suc, inl, inr, List, [], ◌∷◌, ◌++◌, length, get_or, set, take, map, replicate, Some, None, refl, sym, subst, ap, arith}
use Rattle.std.specs.Prelude.{◌⊎◌}
use Rattle.std.proofs.lemmas.Bool.Decides.{eqb_tells}
use Rattle.std.proofs.lemmas.List.{length-set, length-replicate, get_or-set_other, get_or-set_same, take_more_set, take_more, get_or-take, length-take-le}
use Rattle.cc_defs.specs.Clauses.{Literal, IsIn, IsLiteralOver}
use Rattle.cc_trail.specs.declared.entries.Step.{Step}
use Rattle.cc_trail.specs.Steps.{step_of, level_after, AreSteps}
use Rattle.cc_trail.specs.EntryParts.{place_from, literal_of_step, IsKept}
use Rattle.cc_trail.proofs.StepLists.{none_of, place_push_other, place_push_same, place_none, place_found, place_nowhere, room, steps_push, steps_pop, level_push, rising_pop, apart_pop, in_right}

map_push : {A B : Type 0} (f : A → B) (xs : List A) (x : A) → map f (xs ++ x ∷ []) ≡ map f xs ++ f x ∷ []
map_push f [] x = refl
map_push f (y ∷ ys) x = let rest = map_push f ys x in cc

take_fewer : (n : ℕ) (xs ys : List Literal) → take (suc n) xs ≡ ys → take n xs ≡ take n ys
take_fewer zero xs ys e = refl
take_fewer (suc n) [] ys e = rw (← e) refl
take_fewer (suc n) (x ∷ xs) ys e = rw (← e) (ap (λ (rest : List Literal). x ∷ rest) (take_fewer n xs (take (suc n) xs) refl))

front_only : (n : ℕ) (steps : List Step) (x : Literal) → length steps ≡ n → take n (map literal_of_step steps ++ x ∷ []) ≡ map literal_of_step steps
front_only zero [] x e = refl
front_only zero (step ∷ steps) x e = absurd (omega arith)
front_only (suc n) [] x e = absurd (omega arith)
front_only (suc n) (step ∷ steps) x e = ap (λ (rest : List Literal). step.lit ∷ rest) (front_only n steps x (omega arith))

pub last_level_is : (steps : List Step) (last : ℕ) (d : Step) → last < length steps → (get_or steps last d).level ≡ level_after 0 (take (last + 1) steps)
last_level_is steps last d within = rw (take_more steps last d within) (sym (level_push 0 (take last steps) (get_or steps last d)))

module _ (variables count : ℕ) (steps : List Step) (literals : List Literal) (places : List ℕ) (level_count : ℕ) (kept : IsKept variables count steps literals places level_count) where
  pub front_length : length (take count steps) ≡ count
  front_length = let few = kept.count_few in let all = kept.steps_count in length-take-le count steps (omega arith)

  pub place_at : (variable : ℕ) → variable ≤ variables → variable < length places
  place_at variable within = let all = kept.places_count in omega arith

  -- a look-up by the place that is kept
  pub found : (variable value k : ℕ) (d : Step) → variable ≤ variables → value ≡ get_or places variable 0 → value ≡ suc k →
      (k < count) × (k < length steps) × (step_of (take count steps) variable ≡ Some (get_or steps k d)) × ((step : Step) → IsIn (take k (take count steps)) step → step.lit.variable ≢ variable)
  found variable value k d within value_is is =
      let there = place_found 0 (take count steps) variable k k d (sym (kept.places_are variable within) ∙ sym value_is ∙ is) (omega arith) in
      let few = kept.count_few in
      let all = kept.steps_count in
      let front = front_length in
      let low : k < count = omega (arith, there.0) in (
        low,
        (omega arith),
        (there.1 ∙ ap (λ (s : Step). Some s) (get_or-take count steps k d low)),
        there.2,
      )

  pub not_found : (variable value : ℕ) → variable ≤ variables → value ≡ get_or places variable 0 → value ≡ 0 → step_of (take count steps) variable ≡ None
  not_found variable value within value_is is = place_nowhere 0 (take count steps) variable (sym (kept.places_are variable within) ∙ sym value_is ∙ is)

  -- one more step
  module _ (step : Step) (over : IsLiteralOver variables step.lit) (none : step_of (take count steps) step.lit.variable ≡ None) where
    pub push_within : (count < variables) × (count < length steps) × (count < length literals) × (step.lit.variable < length places)
    push_within =
        let free = room variables level_count (take count steps) step.lit kept.are_steps over none in
        let front = front_length in
        let all = kept.steps_count in
        let all_literals = kept.literals_count in
        let few : count < variables = omega arith in
        (few, (omega arith), (omega arith), place_at step.lit.variable over.1)

    pub pushed : take (count + 1) (set steps count step) ≡ take count steps ++ step ∷ []
    pushed = take_more_set steps count step (push_within.1)

    pub kept_push : (place : ℕ) → place ≡ suc count → (step.level ≡ level_count) ⊎ (step.level ≡ suc level_count) →
        IsKept variables (count + 1) (set steps count step) (set literals count step.lit) (set places step.lit.variable place) step.level
    kept_push place place_is next = record {
      count_few = let few : count < variables = push_within.0 in omega arith;
      steps_count = length-set steps count step ∙ kept.steps_count;
      literals_count = length-set literals count step.lit ∙ kept.literals_count;
      places_count = length-set places step.lit.variable place ∙ kept.places_count;
      literals_are =
          take_more_set literals count step.lit (push_within.2) ∙ ap (λ (ls : List Literal). ls ++ step.lit ∷ []) kept.literals_are ∙
          sym (map_push literal_of_step (take count steps) step) ∙ ap (λ (ss : List Step). map literal_of_step ss) (sym pushed);
      places_are = λ variable within. rw pushed (elim (eqb_tells variable step.lit.variable) [
        | inl same ↦
            let front = front_length in
            let there = place_push_same 0 (take count steps) step (none_of (take count steps) step.lit.variable none) in
            rw (same.1) (get_or-set_same places step.lit.variable place 0 (push_within.3) ∙ (omega (arith, there)))
        | inr other ↦
            get_or-set_other places step.lit.variable variable place 0 (other.1) ∙ kept.places_are variable within ∙
            sym (place_push_other 0 (take count steps) step variable (λ e. other.1 (sym e)))
      ]);
      are_steps = rw pushed (steps_push variables level_count (take count steps) step kept.are_steps over none next);
    }

  -- one step less
  module _ (last : ℕ) (d : Step) (last_is : count ≡ suc last) where
    pub pop_within : (last < count) × (last < length steps)
    pop_within = let few = kept.count_few in let all = kept.steps_count in ((omega arith), (omega arith))

    pub popped : take count steps ≡ take last steps ++ get_or steps last d ∷ []
    popped =
        let one : count ≡ last + 1 = omega arith in
        rw one (take_more steps last d (pop_within.1))

    front_steps : AreSteps variables (take last steps ++ get_or steps last d ∷ []) level_count
    front_steps = subst (λ (ss : List Step). AreSteps variables ss level_count) popped kept.are_steps

    pub last_over : IsLiteralOver variables (get_or steps last d).lit
    last_over = front_steps.over (get_or steps last d) (in_right (take last steps) (get_or steps last d ∷ []) (get_or steps last d) (inl refl))

    pub last_level_then : (get_or steps last d).level ≡ level_count
    last_level_then = sym (level_push 0 (take last steps) (get_or steps last d)) ∙ sym front_steps.levels

    pub level_falls : (level_after 0 (take last steps) ≤ level_count) × (level_count ≤ level_after 0 (take last steps) + 1)
    level_falls =
        let next = (rising_pop 0 (take last steps) (get_or steps last d) front_steps.rising).1 in
        let is = last_level_then in
        elim next [
          | inl same ↦ ((omega (arith, same)), omega (arith, same))
          | inr more ↦ ((omega (arith, more)), omega (arith, more))
        ]

    literals_front : take last literals ≡ map literal_of_step (take last steps)
    literals_front =
        let one : count ≡ last + 1 = omega arith in
        take_fewer last literals (map literal_of_step (take count steps)) (rw (← last_is) kept.literals_are) ∙
        ap (λ (ss : List Step). take last (map literal_of_step ss)) popped ∙
        ap (λ (ls : List Literal). take last ls) (map_push literal_of_step (take last steps) (get_or steps last d)) ∙
        front_only last (take last steps) (literal_of_step (get_or steps last d)) (length-take-le last steps (omega (arith, pop_within.1)))

    pub kept_pop : IsKept variables last steps literals (set places (get_or steps last d).lit.variable 0) (level_after 0 (take last steps))
    kept_pop = record {
      count_few = let few = kept.count_few in omega arith;
      steps_count = kept.steps_count;
      literals_count = kept.literals_count;
      places_count = length-set places (get_or steps last d).lit.variable 0 ∙ kept.places_count;
      literals_are = literals_front;
      places_are = λ variable within. elim (eqb_tells variable (get_or steps last d).lit.variable) [
        | inl same ↦
            rw (same.1) (get_or-set_same places (get_or steps last d).lit.variable 0 0 (place_at (get_or steps last d).lit.variable (last_over.1)) ∙
            sym (place_none 0 (take last steps) (get_or steps last d).lit.variable ((apart_pop (take last steps) (get_or steps last d) front_steps.apart).1)))
        | inr other ↦
            get_or-set_other places (get_or steps last d).lit.variable variable 0 0 (other.1) ∙ kept.places_are variable within ∙
            ap (λ (ss : List Step). place_from 0 ss variable) popped ∙ place_push_other 0 (take last steps) (get_or steps last d) variable (λ e. other.1 (sym e))
      ];
      are_steps = steps_pop variables level_count (take last steps) (get_or steps last d) front_steps;
    }

pub kept_none : (variables : ℕ) (steps : List Step) (literals : List Literal) (places : List ℕ) → variables ≤ 4000000 → length steps ≡ variables →
    length literals ≡ variables → places ≡ replicate (variables + 1) 0 → IsKept variables 0 steps literals places 0
kept_none variables steps literals places few steps_count literals_count places_are = record {
  count_few = omega arith;
  steps_count = steps_count;
  literals_count = literals_count;
  places_count = ap length places_are ∙ length-replicate (variables + 1) 0;
  literals_are = refl;
  places_are = λ variable within. rw places_are (all_zero (variables + 1) variable);
  are_steps = record {
    variables_few = few;
    over = λ step none. elim none [ ];
    apart = tt;
    rising = tt;
    levels = refl;
  };
}
  where
    all_zero : (n k : ℕ) → get_or {A = ℕ} (replicate n 0) k 0 ≡ 0
    all_zero zero k = refl
    all_zero (suc n) zero = refl
    all_zero (suc n) (suc k) = all_zero n k
