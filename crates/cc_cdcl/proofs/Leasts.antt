-- The row that is found by the least choices is the least one.
use Rattle.std.proofs.Common.{◌≡◌, ◌≢◌, ◌∙◌, ℕ, ◌+◌, ◌-◌, ◌<◌, zero, suc, inl, inr, eqb, Bool, true, false, not, ◌||◌, List, [], ◌∷◌, ◌++◌, Option, Some, None, refl, sym, subst, ap, ap₂, arith, append_assoc, append-nil}
use Rattle.std.specs.Prelude.{◌⊎◌, Contains, if◌then◌else◌, slice_get, unwrap_or}
use Rattle.std.proofs.lemmas.Bool.Decides.{eqb_tells}
use Rattle.std.specs.Cmp.{nat_cmp_is}
use Rattle.std.specs.declared.cmp.Ordering.TheVariants.{Less, Equal}
use Rattle.cc_defs.specs.Assignments.{Values, HasNoValue}
use Rattle.cc_defs.specs.Clauses.{Literal, IsIn, is_made_true, meets}
use Rattle.cc_defs.specs.Rows.{IsRow, IsBelow}
use Rattle.cc_trail.specs.declared.entries.Step.{Step}
use Rattle.cc_trail.specs.Steps.{values_of}
use Rattle.cc_trail.specs.Watches.{AreReasonedAfter, HasReason}
use Rattle.cc_cdcl.specs.Choices.{AreChosenAfter, IsNext, IsNextFrom}
use Rattle.cc_clauses.specs.RowsOf.{HasRowFrom, HasRow, MeetsAll}
use Rattle.cc_cdcl.specs.LeastRows.{row_of}
use Rattle.cc_cdcl.specs.Laws.{LeastRowIsFound, ChoicesAreKept}
use Rattle.cc_cdcl.specs.Sets.{assignment_of}
use Rattle.cc_cdcl.proofs.Closed.{full_met}
use Rattle.cc_clauses.proofs.Denials.{eqb_itself}
use Rattle.cc_cdcl.proofs.Denials.{given_true}
use Rattle.cc_cdcl.proofs.Exactly.{has_row}
use Rattle.cc_cdcl.proofs.Picking.{in_more, same_or}

-- ---- rows, by their atoms

same_index : (value index : ℕ) → eqb value index ≡ true → value ≡ index
same_index value index e = elim (eqb_tells value index) [ inl same ↦ same.1 | inr other ↦ absurd (tests e (other.0)) ]
  where
    tests : eqb value index ≡ true → eqb value index ≡ false → ⊥
    tests e f = cc

below_first : (i j : ℕ) (row other : List ℕ) → i < j → IsBelow (i ∷ row) (j ∷ other)
below_first i j row other less = rw (← nat_cmp_is i j Less less) refl

below_rest : (i j : ℕ) (row other : List ℕ) → i ≡ j → IsBelow row other → IsBelow (i ∷ row) (j ∷ other)
below_rest i j row other same below = rw (← nat_cmp_is i j Equal same) below

-- one assignment has each true atom of the other's row
same_rows : (first : ℕ) (sizes row other : List ℕ) (a b : ℕ → Bool) → ((variable : ℕ) → b variable ≡ true → a variable ≡ true) → IsRow sizes row → IsRow sizes other →
    HasRowFrom first sizes b row → HasRowFrom first sizes a other → row ≡ other
same_rows first [] [] [] a b goes is other_is has other_has = refl
same_rows first [] (i ∷ row) other a b goes is other_is has other_has = absurd is
same_rows first [] [] (j ∷ other) a b goes is other_is has other_has = absurd other_is
same_rows first (size ∷ sizes) [] other a b goes is other_is has other_has = absurd is
same_rows first (size ∷ sizes) (i ∷ row) [] a b goes is other_is has other_has = absurd other_is
same_rows first (size ∷ sizes) (i ∷ row) (j ∷ other) a b goes is other_is has other_has =
    ap₂ (λ (n : ℕ) (ns : List ℕ). n ∷ ns) (sym (same_index j i (sym (other_has.0 i is.0) ∙ goes (first + i) (has.0 i is.0 ∙ eqb_itself i))))
    (same_rows (first + size) sizes row other a b goes is.1 other_is.1 has.1 other_has.1)

-- ---- where a choice turns out otherwise

abbrev Gives : Values → (ℕ → Bool) → Type 0
Gives values a = (variable : ℕ) (sign : Bool) → values variable ≡ Some sign → a variable ≡ sign

module _ (values : Values) (literal : Literal) (a b : ℕ → Bool) (gives_a : Gives values a) (gives_b : Gives values b)
    (made : b literal.variable ≡ literal.positive) (otherwise : a literal.variable ≢ literal.positive) where
  chosen_otherwise : (first : ℕ) (sizes row other : List ℕ) → IsRow sizes row → IsRow sizes other → HasRowFrom first sizes b row → HasRowFrom first sizes a other →
      IsNextFrom first sizes values literal → (other ≡ row) ⊎ IsBelow row other
  chosen_otherwise first [] [] [] is other_is has other_has next = inl refl
  chosen_otherwise first [] (i ∷ row) other is other_is has other_has next = absurd is
  chosen_otherwise first [] [] (j ∷ other) is other_is has other_has next = absurd other_is
  chosen_otherwise first (size ∷ sizes) [] other is other_is has other_has next = absurd is
  chosen_otherwise first (size ∷ sizes) (i ∷ row) [] is other_is has other_has next = absurd other_is
  chosen_otherwise first (size ∷ sizes) (i ∷ row) (j ∷ other) is other_is has other_has (inl ((value, low, true_is), next)) =
      let at_i : value ≡ i = sym (same_index i value (sym (has.0 value low) ∙ gives_b (first + value) true true_is)) in
      let at_j : value ≡ j = sym (same_index j value (sym (other_has.0 value low) ∙ gives_a (first + value) true true_is)) in
      elim (chosen_otherwise (first + size) sizes row other is.1 other_is.1 has.1 other_has.1 next) [
        | inl same ↦ inl (ap₂ (λ (n : ℕ) (ns : List ℕ). n ∷ ns) (sym at_j ∙ at_i) same)
        | inr below ↦ inr (below_rest i j row other (sym at_i ∙ at_j) below)
      ]
  chosen_otherwise first (size ∷ sizes) (i ∷ row) (j ∷ other) is other_is has other_has (inr (none, (value, low, literal_is, unset, lower))) =
      inr (below_first i j row other less)
    where
      at_i : value ≡ i
      at_i = sym (same_index i value (sym (has.0 value low) ∙ sym (ap (λ (l : Literal). b l.variable) literal_is) ∙ made ∙ ap (λ (l : Literal). l.positive) literal_is))

      true_j : a (first + j) ≡ true
      true_j = other_has.0 j other_is.0 ∙ eqb_itself j

      not_lower : j < value → ⊥
      not_lower less = let false_j = gives_a (first + j) false (lower j less) in let is_true = true_j in cc

      not_same : j ≢ value
      not_same same = otherwise (ap (λ (l : Literal). a l.variable) literal_is ∙ ap (λ (n : ℕ). a (first + n)) (sym same) ∙ true_j ∙ sym (ap (λ (l : Literal). l.positive) literal_is))

      less : i < j
      less = let one = not_lower in let two = not_same in grind arith

-- ---- what assignments give that make steps true

abbrev MakesTrue : (ℕ → Bool) → List Step → Type 0
MakesTrue a steps = (step : Step) → IsIn steps step → a step.lit.variable ≡ step.lit.positive

gives : (a : ℕ → Bool) (steps : List Step) → MakesTrue a steps → Gives (values_of steps) a
gives a [] makes variable sign is = cc
gives a (step ∷ steps) makes variable sign is = elim (eqb_tells step.lit.variable variable) [
  | inl same ↦ ap a (sym (same.1)) ∙ makes step (inl refl) ∙ signs (rw (same.0) at is)
  | inr other ↦ gives a steps (λ s here. makes s (inr here)) variable sign (rw (other.0) at is)
]
  where
    signs : Some step.lit.positive ≡ Some sign → step.lit.positive ≡ sign
    signs e = cc

front_gives : (before more : List Step) (variable : ℕ) (sign : Bool) → values_of before variable ≡ Some sign → values_of (before ++ more) variable ≡ Some sign
front_gives [] more variable sign is = cc
front_gives (step ∷ before) more variable sign is = elim (eqb_tells step.lit.variable variable) [
  | inl same ↦ rw (same.0) (rw (same.0) at is)
  | inr other ↦ rw (other.0) (front_gives before more variable sign (rw (other.0) at is))
]

next_gives : (before more : List Step) (step : Step) → values_of before step.lit.variable ≡ None → values_of (before ++ step ∷ more) step.lit.variable ≡ Some step.lit.positive
next_gives [] more step none = rw (eqb_itself step.lit.variable) refl
next_gives (first ∷ before) more step none = elim (eqb_tells first.lit.variable step.lit.variable) [
  | inl same ↦ absurd (some_none (rw (same.0) at none))
  | inr other ↦ rw (other.0) (next_gives before more step (rw (other.0) at none))
]
  where
    some_none : Some first.lit.positive ≡ None → ⊥
    some_none e = cc

pushed_true : (a : ℕ → Bool) (before : List Step) (step : Step) → MakesTrue a before → a step.lit.variable ≡ step.lit.positive → MakesTrue a (before ++ step ∷ [])
pushed_true a [] step makes is other (inl same) = subst (λ (s : Step). a s.lit.variable ≡ s.lit.positive) same is
pushed_true a [] step makes is other (inr none) = absurd none
pushed_true a (first ∷ before) step makes is other (inl same) = makes other (inl same)
pushed_true a (first ∷ before) step makes is other (inr here) = pushed_true a before step (λ s there. makes s (inr there)) is other here

-- a clause of reason makes its literal true
made_as : (value sign : Bool) → (if sign then value else not value) ≡ true → value ≡ sign
made_as true true e = refl
made_as true false e = cc
made_as false true e = cc
made_as false false e = refl

made_not : (value sign : Bool) → value ≡ not sign → (if sign then value else not value) ≡ true → ⊥
made_not true true e f = cc
made_not true false e f = cc
made_not false true e f = cc
made_not false false e f = cc

left_true : (a : ℕ → Bool) (clause : List Literal) (literal : Literal) → meets a clause ≡ true →
    ((other : Literal) → Contains clause other → (other ≡ literal) ⊎ (is_made_true a other ≡ true → ⊥)) → is_made_true a literal ≡ true
left_true a [] literal met others = cc
left_true a (first ∷ clause) literal met others = by (is_made_true a first) refl (left_true a clause literal) met
  where
    by : (b : Bool) → is_made_true a first ≡ b → (meets a clause ≡ true → ((other : Literal) → Contains clause other → (other ≡ literal) ⊎ (is_made_true a other ≡ true → ⊥)) →
        is_made_true a literal ≡ true) → (is_made_true a first || meets a clause) ≡ true → is_made_true a literal ≡ true
    by true is rest met = elim (others first (0, omega arith, refl)) [
      | inl same ↦ ap (is_made_true a) (sym same) ∙ is
      | inr never ↦ absurd (never is)
    ]
    by false is rest met = rest (rw is at met) (λ other (k, low, same). others other (suc k, omega arith, same))

in_numbered : (clauses : List (List Literal)) (k : ℕ) (clause : List Literal) → slice_get clauses k ≡ Some clause → Contains clauses clause
in_numbered [] k clause is = cc
in_numbered (first ∷ clauses) zero clause is = let same : first ≡ clause = cc in (0, omega arith, same)
in_numbered (first ∷ clauses) (suc k) clause is = in_more first clauses clause (in_numbered clauses k clause is)

reason_true : (a : ℕ → Bool) (clauses : List (List Literal)) (before : List Step) (literal : Literal) (number : ℕ) → MeetsAll a clauses → MakesTrue a before →
    HasReason clauses before literal number → a literal.variable ≡ literal.positive
reason_true a clauses before literal number met makes (clause, numbered, member, others) =
    made_as (a literal.variable) literal.positive (left_true a clause literal (met clause (in_numbered clauses (number - 1) clause numbered.1)) false_others)
  where
    false_others : (other : Literal) → Contains clause other → (other ≡ literal) ⊎ (is_made_true a other ≡ true → ⊥)
    false_others other here = elim (others other here) [
      | inl same ↦ inl same
      | inr (step, there, is) ↦
          inr (made_not (a other.variable) other.positive (ap (λ (l : Literal). a l.variable) (sym is) ∙ makes step there ∙ ap (λ (l : Literal). l.positive) is))
    ]

-- ---- along the steps

module _ (sizes : List ℕ) (clauses : List (List Literal)) (whole : List Step) (row other : List ℕ) (is : IsRow sizes row) (other_is : IsRow sizes other)
    (has : HasRow sizes (assignment_of (values_of whole)) row) (a : ℕ → Bool) (other_has : HasRow sizes a other) (met : MeetsAll a clauses) where
  abbrev Least : Type 0
  Least = (other ≡ row) ⊎ IsBelow row other

  given_as : (value : Option Bool) (sign : Bool) → value ≡ Some sign → unwrap_or value false ≡ sign
  given_as value sign e = ap (λ (v : Option Bool). unwrap_or v false) e

  one_step : (before more : List Step) (step : Step) → whole ≡ before ++ step ∷ more → MakesTrue a before →
      ((number : ℕ) → step.reason ≡ Some number → HasReason clauses before step.lit number) → (step.reason ≡ None → IsNext sizes (values_of before) step.lit) →
      (MakesTrue a (before ++ step ∷ []) → Least) → (reason : Option ℕ) → step.reason ≡ reason → Least
  one_step before more step split makes reasons next goes_on (Some number) reason_is =
      goes_on (pushed_true a before step makes (reason_true a clauses before step.lit number met makes (reasons number reason_is)))
  one_step before more step split makes reasons next goes_on None reason_is = elim (same_or (a step.lit.variable) step.lit.positive) [
    | inl same ↦ goes_on (pushed_true a before step makes same)
    | inr differ ↦ chosen_otherwise (values_of before) step.lit a (assignment_of (values_of whole)) (gives a before makes)
        (λ variable sign given_is. given_as (values_of whole variable) sign
        (ap (λ (steps : List Step). values_of steps variable) split ∙ front_gives before (step ∷ more) variable sign given_is))
        (given_as (values_of whole step.lit.variable) step.lit.positive
        (ap (λ (steps : List Step). values_of steps step.lit.variable) split ∙ next_gives before more step (none_yet 1 sizes (next reason_is))))
        differ 1 sizes row other is other_is has other_has (next reason_is)
  ]
    where
      none_yet : (first : ℕ) (sizes : List ℕ) → IsNextFrom first sizes (values_of before) step.lit → HasNoValue (values_of before) step.lit
      none_yet first [] next = next.0
      none_yet first (size ∷ sizes) (inl (there, next)) = none_yet (first + size) sizes next
      none_yet first (size ∷ sizes) (inr (none, (value, low, literal_is, unset, lower))) = unset

  least_from : (before steps : List Step) → whole ≡ before ++ steps → AreReasonedAfter clauses before steps → AreChosenAfter sizes before steps → MakesTrue a before → Least
  least_from before [] split reasoned chosen makes =
      inl (sym (same_rows 1 sizes row other a (assignment_of (values_of whole))
      (λ variable true_is. gives a before makes variable true
      (ap (λ (steps : List Step). values_of steps variable) (sym (split ∙ append-nil before)) ∙ given_true (values_of whole variable) true_is)) is other_is has other_has))
  least_from before (step ∷ steps) split reasoned chosen makes =
      one_step before steps step split makes reasoned.0 chosen.0
      (least_from (before ++ step ∷ []) steps (split ∙ sym (append_assoc before (step ∷ []) steps)) reasoned.1 chosen.1) step.reason refl

pub least_found : LeastRowIsFound
least_found sizes variables clauses steps over positions reasoned chosen full closed =
    let found = assignment_of (values_of steps) in
    let met : MeetsAll found clauses = full_met variables clauses (values_of steps) over full closed in
    let there = has_row found 1 sizes (λ clause here. met clause (positions clause here)) in
    record {
      one = record { is_row = there.0; assignment = found; has = there.1; meets_all = met };
      least = λ other is.
          least_from sizes clauses steps (row_of sizes found) other there.0 is.is_row there.1 is.assignment is.has is.meets_all [] steps refl reasoned chosen
          (λ step none. absurd none);
    }

-- ---- choices are kept

pub chosen_push : (sizes : List ℕ) (before steps : List Step) (last : Step) → AreChosenAfter sizes before steps →
    (last.reason ≡ None → IsNext sizes (values_of (before ++ steps)) last.lit) → AreChosenAfter sizes before (steps ++ last ∷ [])
chosen_push sizes before [] last chosen next =
    ((λ is. subst (λ (ss : List Step). IsNext sizes (values_of ss) last.lit) (append-nil before) (next is)), tt)
chosen_push sizes before (step ∷ steps) last chosen next = (
  chosen.0,
  chosen_push sizes (before ++ step ∷ []) steps last chosen.1
      (λ is. subst (λ (ss : List Step). IsNext sizes (values_of ss) last.lit) (sym (append_assoc before (step ∷ []) steps)) (next is)),
)

pub chosen_front : (sizes : List ℕ) (before steps gone : List Step) → AreChosenAfter sizes before (steps ++ gone) → AreChosenAfter sizes before steps
chosen_front sizes before [] gone chosen = tt
chosen_front sizes before (step ∷ steps) gone chosen = (chosen.0, chosen_front sizes (before ++ step ∷ []) steps gone chosen.1)

pub choices_kept : ChoicesAreKept
choices_kept sizes steps = (
  (λ last chosen some. chosen_push sizes [] steps last chosen (λ none. absurd (some none))),
  (λ trail literal chosen next. chosen_push sizes [] trail.steps (record { lit = literal; level = trail.level_count + 1; reason = None }) chosen (λ none. next)),
  (λ gone chosen. chosen_front sizes [] steps gone chosen),
)
