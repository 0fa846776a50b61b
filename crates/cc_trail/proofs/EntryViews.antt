-- What the holder of entries sees after its parts have changed.
use Rattle.std.proofs.Common.{◌≡◌, ◌≢◌, ◌∙◌, ℕ, ◌+◌, ◌-◌, ◌<◌, ◌≤◌, zero, suc, List, [], ◌∷◌, ◌++◌, length, get_or, replicate, set, take, Some, None, refl, sym, subst, ap, arith}
use Rattle.std.specs.Prelude.{◌⊎◌, IfSome, IfNone, slice_get}
use Rattle.std.proofs.lemmas.List.{get_or-replicate, get_or-take, length-replicate}
use Rattle.std.proofs.lemmas.Option.{slice_get-get_or}
use Rattle.cc_defs.specs.Clauses.{Literal, IsIn, IsLiteralOver}
use Rattle.cc_defs.specs.Limits.{most_variables}
use Rattle.cc_trail.specs.declared.entries.Step.{Step}
use Rattle.cc_trail.specs.declared.entries.Entries.TheInside.{Inside}
use Rattle.cc_trail.specs.Links.{no_literal}
use Rattle.cc_trail.specs.Steps.{EntriesView, AreApart, step_of, level_after, AreSteps}
use Rattle.cc_trail.specs.EntryParts.{view_of, mark_of, AreMarked, IsKeptIn, IsKept}
use Rattle.cc_trail.specs.EntrySteps.{IsPopped}
use Rattle.cc_trail.proofs.Codes.{read_at}
use Rattle.cc_trail.proofs.Marked.{marked_push, marked_pop}
use Rattle.cc_trail.proofs.StepLists.{level_count_few}
use Rattle.cc_trail.proofs.Kept.{found, not_found, place_at, front_length, push_within, pushed, kept_push, popped, last_over, last_level_then, level_falls, kept_pop}

no_step : Step
no_step = record { lit = no_literal; level = 0; reason = None }

pub none_kept : (variables : ℕ) (steps : List Step) (literals : List Literal) (places marks : List ℕ) → variables ≤ most_variables → length steps ≡ variables → length literals ≡ variables →
    places ≡ replicate (variables + 1) 0 → marks ≡ replicate (variables + 1) 0 → IsKept variables 0 steps literals places 0 × AreMarked variables [] marks
none_kept variables steps literals places marks few steps_count literals_count places_are marks_are = (
  record {
    count_few = omega arith;
    steps_count = steps_count;
    literals_count = literals_count;
    places_count = ap length places_are ∙ length-replicate (variables + 1) 0;
    literals_are = refl;
    places_are = λ variable low. ap (λ (ns : List ℕ). get_or ns variable 0) places_are ∙ get_or-replicate (variables + 1) variable 0 0 (omega arith);
    are_steps = record { variables_few = few; over = λ step none. elim none [ ]; apart = tt; rising = tt; levels = refl };
  },
  record {
    count = ap length marks_are ∙ length-replicate (variables + 1) 0;
    marks_are = λ variable low. ap (λ (ns : List ℕ). get_or ns variable 0) marks_are ∙ get_or-replicate (variables + 1) variable 0 0 (omega arith);
  },
)

module _ (inside : Inside) (old : EntriesView) (is : view_of inside ≡ old) (kept : IsKeptIn inside) where
  pub over_here : (literal : Literal) → IsLiteralOver old.variables literal → IsLiteralOver inside.variables literal
  over_here literal over = subst (λ (v : EntriesView). IsLiteralOver v.variables literal) (sym is) over

  pub open_here : (variable : ℕ) → step_of old.steps variable ≡ None → step_of (take inside.count inside.steps.items) variable ≡ None
  open_here variable open_yet = subst (λ (v : EntriesView). step_of v.steps variable ≡ None) (sym is) open_yet

  pub within_here : (variable : ℕ) → variable ≤ old.variables → variable ≤ inside.variables
  within_here variable within = subst (λ (v : EntriesView). variable ≤ v.variables) (sym is) within

  pub place_room : (variable : ℕ) → variable ≤ old.variables → variable < length inside.places.items
  place_room variable within =
      let low = within_here variable within in
      let count = kept.places_count in
      omega arith

  pub mark_room : length inside.marks.items ≡ inside.variables + 1 → (variable : ℕ) → variable ≤ old.variables → variable < length inside.marks.items
  mark_room count variable within = let low = within_here variable within in omega arith

  pub steps_here : AreSteps old.variables old.steps old.level_count
  steps_here = subst (λ (v : EntriesView). AreSteps v.variables v.steps v.level_count) is kept.are_steps

  module _ (variable value : ℕ) (within : variable ≤ old.variables) (value_is : value ≡ get_or inside.places.items variable value) where
    read : value ≡ get_or inside.places.items variable 0
    read = read_at inside.places.items variable value 0
        (place_at inside.variables inside.count inside.steps.items inside.literals.items inside.places.items inside.level_count kept variable (within_here variable within)) value_is

    pub found_here : (k : ℕ) (d : Step) → (1 ≤ value) × (k ≡ value - 1) →
        (k < inside.count) × (k < length inside.steps.items) × (step_of old.steps variable ≡ Some (get_or inside.steps.items k d)) ×
        ((step : Step) → IsIn (take k old.steps) step → step.lit.variable ≢ variable) × (k ≤ length old.steps)
    found_here k d value_then =
        let some : 1 ≤ value = value_then.0 in
        let k_is : k ≡ value - 1 = value_then.1 in
        let there = found inside.variables inside.count inside.steps.items inside.literals.items inside.places.items inside.level_count kept variable value k d
        (within_here variable within) read (omega arith) in
        let front : length (take inside.count inside.steps.items) ≡ inside.count =
        front_length inside.variables inside.count inside.steps.items inside.literals.items inside.places.items inside.level_count kept in
        let low : k < inside.count = there.0 in (
          there.0,
          there.1,
          subst (λ (v : EntriesView). step_of v.steps variable ≡ Some (get_or inside.steps.items k d)) is (there.2),
          subst (λ (v : EntriesView). (step : Step) → IsIn (take k v.steps) step → step.lit.variable ≢ variable) is (there.3),
          subst (λ (v : EntriesView). k ≤ length v.steps) is (omega arith),
        )

    pub place_here : (k : ℕ) → (1 ≤ value) × (k ≡ value - 1) → (k < length inside.steps.items) × ((step : Step) → IsIn (take k old.steps) step → step.lit.variable ≢ variable) × (k ≤ length old.steps)
    place_here k value_then = let there = found_here k no_step value_then in (there.1, there.3, there.4)

    pub step_here : (k : ℕ) → (1 ≤ value) × (k ≡ value - 1) → IfSome (step_of old.steps variable) (λ step. slice_get old.steps k ≡ Some step)
    step_here k value_then =
        let there = found_here k no_step value_then in
        let low : k < inside.count = there.0 in
        let front : length (take inside.count inside.steps.items) ≡ inside.count =
        front_length inside.variables inside.count inside.steps.items inside.literals.items inside.places.items inside.level_count kept in
        rw (there.2) (subst (λ (v : EntriesView). slice_get v.steps k ≡ Some (get_or inside.steps.items k no_step)) is
        (slice_get-get_or (take inside.count inside.steps.items) k no_step (omega arith) ∙
        ap (λ (s : Step). Some s) (get_or-take inside.count inside.steps.items k no_step low)))

    pub no_end_here : (k n : ℕ) → (1 ≤ value) × (k ≡ value - 1) → IfNone (step_of old.steps variable) (k ≡ n)
    no_end_here k n value_then = let there = found_here k no_step value_then in rw (there.2) tt

    pub not_found_here : (1 ≤ value → ⊥) → step_of old.steps variable ≡ None
    not_found_here none =
        subst (λ (v : EntriesView). step_of v.steps variable ≡ None) is
        (not_found inside.variables inside.count inside.steps.items inside.literals.items inside.places.items inside.level_count kept variable value
        (within_here variable within) read (zero_of value none))
      where
        zero_of : (n : ℕ) → (1 ≤ n → ⊥) → n ≡ 0
        zero_of zero none = refl
        zero_of (suc n) none = absurd (none (omega arith))

  module _ (step : Step) (over : IsLiteralOver old.variables step.lit) (open_yet : step_of old.steps step.lit.variable ≡ None) where
    pub within_push : (inside.count < inside.variables) × (inside.count < length inside.steps.items) × (inside.count < length inside.literals.items) × (step.lit.variable < length inside.places.items)
    within_push = push_within inside.variables inside.count inside.steps.items inside.literals.items inside.places.items inside.level_count kept step
        (over_here step.lit over) (open_here step.lit.variable open_yet)

    pub kept_then : (variable place : ℕ) → variable ≡ step.lit.variable → place ≡ suc inside.count → (step.level ≡ inside.level_count) ⊎ (step.level ≡ suc inside.level_count) →
        IsKept inside.variables (inside.count + 1) (set inside.steps.items inside.count step) (set inside.literals.items inside.count step.lit) (set inside.places.items variable place) step.level
    kept_then variable place variable_is place_is next = rw variable_is
        (kept_push inside.variables inside.count inside.steps.items inside.literals.items inside.places.items inside.level_count kept step
        (over_here step.lit over) (open_here step.lit.variable open_yet) place place_is next)

    pub pushed_here : take (inside.count + 1) (set inside.steps.items inside.count step) ≡ old.steps ++ step ∷ []
    pushed_here = pushed inside.variables inside.count inside.steps.items inside.literals.items inside.places.items inside.level_count kept step
        (over_here step.lit over) (open_here step.lit.variable open_yet) ∙ ap (λ (v : EntriesView). v.steps ++ step ∷ []) is

    pub marked_then : AreMarked inside.variables (take inside.count inside.steps.items) inside.marks.items → (variable mark : ℕ) → variable ≡ step.lit.variable → mark ≡ mark_of (Some step) →
        AreMarked inside.variables (take (inside.count + 1) (set inside.steps.items inside.count step)) (set inside.marks.items variable mark)
    marked_then marked variable mark variable_is mark_is = rw (
      variable_is,
      pushed inside.variables inside.count inside.steps.items inside.literals.items inside.places.items inside.level_count kept step
          (over_here step.lit over) (open_here step.lit.variable open_yet),
    )
        (marked_push inside.variables (take inside.count inside.steps.items) step ((over_here step.lit over).1) inside.marks.items mark marked
        (open_here step.lit.variable open_yet) mark_is)

  pub levels_few : inside.level_count ≤ inside.count
  levels_few =
      let levels = level_count_few inside.variables inside.level_count (take inside.count inside.steps.items) kept.are_steps in
      let front = front_length inside.variables inside.count inside.steps.items inside.literals.items inside.places.items inside.level_count kept in omega arith

  pub mark_here : AreMarked inside.variables (take inside.count inside.steps.items) inside.marks.items → (variable mark : ℕ) → variable ≤ old.variables →
      mark ≡ get_or inside.marks.items variable mark → mark ≡ mark_of (step_of old.steps variable)
  mark_here marked variable mark within is_read =
      let low = within_here variable within in
      let count = marked.count in
      read_at inside.marks.items variable mark 0 (omega (arith, low)) is_read ∙ marked.marks_are variable low ∙ ap (λ (v : EntriesView). mark_of (step_of v.steps variable)) is

  module _ (some : 0 < old.level_count) where
    pub count_some : inside.count ≡ suc (inside.count - 1)
    count_some = at inside.count refl
      where
        at : (n : ℕ) → inside.count ≡ n → n ≡ suc (n - 1)
        at zero none =
            let levels = kept.are_steps.levels in
            let empty : level_after 0 (take inside.count inside.steps.items) ≡ 0 = rw none refl in
            let level_is : inside.level_count ≡ old.level_count = ap (λ (v : EntriesView). v.level_count) is in
            absurd (omega arith)
        at (suc n) e = omega arith

    module _ (d : Step) where
      pub pop_over : IsLiteralOver inside.variables (get_or inside.steps.items (inside.count - 1) d).lit
      pop_over = last_over inside.variables inside.count inside.steps.items inside.literals.items inside.places.items inside.level_count kept (inside.count - 1) d count_some

      pub pop_place : (variable : ℕ) → variable ≡ (get_or inside.steps.items (inside.count - 1) d).lit.variable → variable < length inside.places.items
      pop_place variable variable_is = rw variable_is
          (place_at inside.variables inside.count inside.steps.items inside.literals.items inside.places.items inside.level_count kept
          (get_or inside.steps.items (inside.count - 1) d).lit.variable (pop_over.1))

      pub marked_popped : AreMarked inside.variables (take inside.count inside.steps.items) inside.marks.items → (variable : ℕ) →
          variable ≡ (get_or inside.steps.items (inside.count - 1) d).lit.variable → (variable < length inside.marks.items) ×
          AreMarked inside.variables (take (inside.count - 1) inside.steps.items) (set inside.marks.items variable 0)
      marked_popped marked variable variable_is =
          let last : take inside.count inside.steps.items ≡ take (inside.count - 1) inside.steps.items ++ get_or inside.steps.items (inside.count - 1) d ∷ [] =
          popped inside.variables inside.count inside.steps.items inside.literals.items inside.places.items inside.level_count kept (inside.count - 1) d count_some in
          let count = marked.count in
          let over = pop_over.1 in
          rw variable_is (
            (omega (arith, over)),
            marked_pop inside.variables (take (inside.count - 1) inside.steps.items) (get_or inside.steps.items (inside.count - 1) d) over inside.marks.items
                (subst (λ (ss : List Step). AreMarked inside.variables ss inside.marks.items) last marked)
                (subst (λ (ss : List Step). AreApart ss) last kept.are_steps.apart),
          )

      pub kept_popped : (variable level : ℕ) → variable ≡ (get_or inside.steps.items (inside.count - 1) d).lit.variable → level ≡ level_after 0 (take (inside.count - 1) inside.steps.items) →
          IsKept inside.variables (inside.count - 1) inside.steps.items inside.literals.items (set inside.places.items variable 0) level
      kept_popped variable level variable_is level_is = rw (variable_is, level_is)
          (kept_pop inside.variables inside.count inside.steps.items inside.literals.items inside.places.items inside.level_count kept (inside.count - 1) d count_some)

      pub is_popped : (level : ℕ) → level ≡ level_after 0 (take (inside.count - 1) inside.steps.items) →
          IsPopped old (record { variables = inside.variables; steps = take (inside.count - 1) inside.steps.items; level_count = level })
      is_popped level level_is =
          let falls = level_falls inside.variables inside.count inside.steps.items inside.literals.items inside.places.items inside.level_count kept (inside.count - 1) d count_some in
          subst (λ (v : EntriesView). IsPopped v (record { variables = inside.variables; steps = take (inside.count - 1) inside.steps.items; level_count = level })) is (record {
            last = get_or inside.steps.items (inside.count - 1) d;
            variables = refl;
            steps = popped inside.variables inside.count inside.steps.items inside.literals.items inside.places.items inside.level_count kept (inside.count - 1) d count_some;
            level = last_level_then inside.variables inside.count inside.steps.items inside.literals.items inside.places.items inside.level_count kept (inside.count - 1) d count_some;
            falls = omega (arith, falls.0);
            by_one = omega (arith, falls.1);
          })

  pub view_pushed : (step : Step) (level : ℕ) → take (inside.count + 1) (set inside.steps.items inside.count step) ≡ old.steps ++ step ∷ [] →
      ◌≡◌ {A = EntriesView} (record { variables = inside.variables; steps = take (inside.count + 1) (set inside.steps.items inside.count step); level_count = level })
      (record old { steps = old.steps ++ step ∷ []; level_count = level })
  view_pushed step level pushed_is = rw pushed_is (ap (λ (v : EntriesView). let w : EntriesView = record v { steps = old.steps ++ step ∷ []; level_count = level } in w) is)

  pub level_is : inside.level_count ≡ old.level_count
  level_is = ap (λ (v : EntriesView). v.level_count) is

  pub view_kept : (step : Step) → take (inside.count + 1) (set inside.steps.items inside.count step) ≡ old.steps ++ step ∷ [] →
      ◌≡◌ {A = EntriesView} (record { variables = inside.variables; steps = take (inside.count + 1) (set inside.steps.items inside.count step); level_count = inside.level_count })
      (record old { steps = old.steps ++ step ∷ [] })
  view_kept step pushed_is = rw pushed_is (ap (λ (v : EntriesView). let w : EntriesView = record v { steps = old.steps ++ step ∷ [] } in w) is)
