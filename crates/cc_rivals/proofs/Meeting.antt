-- What the clauses of candidates and of rivals say of a row.
use Rattle.std.proofs.Common.{◌≡◌, ◌≢◌, ◌∙◌, ℕ, zero, suc, ◌+◌, ◌<◌, inl, inr, Bool, true, false, not, ◌&&◌, ◌||◌, List, [], ◌∷◌, slice_get, Option, Some, None, refl, sym, ap, subst, arith, IsTrue, IsFalse}
use Rattle.std.specs.Prelude.{◌↔◌, ◌==◌, if◌then◌else◌, nat_lt, IfSome, slice_index}
use Rattle.std.specs.List.{list_all, list_any, AllByRecursion}
use Rattle.std.proofs.lemmas.Bool.{eqb-true, eq-eqb, ne_eqb, lt-ltb, cases_Bool}
use Rattle.cc_defs.specs.ClauseForms.{Made, first_variable, in_order, made_of, positive, put, same_literal, true_variable, written}
use Rattle.cc_defs.specs.ClauseLists.{Asserted, assert_all, deny}
use Rattle.cc_defs.specs.Clauses.{Literal, opposite}
use Rattle.cc_defs.specs.Rows.{IsRow}
use Rattle.cc_defs.specs.Sections.{denial_from, row_denial}
use Rattle.cc_defs.specs.Terms.{Ground}
use Rattle.cc_clauses.specs.Tells.{Tells}
use Rattle.cc_form.specs.Laws.{TermFits}
use Rattle.cc_form.specs.Parts.{AreWorth, IsWorth, Says, SaysBehind, SaysFrom, axioms_behind, joined_parts}
use Rattle.cc_form.proofs.Saying.{atom_worth, opposite_worth, parts_tell_rows, says_alike, says_behind, says_clause, says_defined, says_from, says_nothing, says_then, says_with, term_worth, worth_added, worth_kept}
use Rattle.cc_form.proofs.Telling.{says_conditions, says_denied}
use Rattle.cc_rivals.specs.Meets.{rule_met}
use Rattle.cc_rivals.proofs.Meant.{WideFits}
use Rattle.cc_theory.specs.Completion.{holds}
use Rattle.cc_wide.specs.WideLists.{WideTimed, all_implied, implied, implied_with, reduct_heads}

-- ---- one rule: where its parts are true, so is its head

abbrev Any : List ℕ → Type 0
Any row = Unit {0}

abbrev defined : Made → Asserted
defined made = record { last = made.last; clauses = made.clauses }

module _ (sizes : List ℕ) (last : ℕ) (f head : Ground) (fit : TermFits sizes f) (head_fit : TermFits sizes head) where
  abbrev m : Made
  m = made_of sizes last f

  abbrev told : Made
  told = made_of sizes m.last head

  abbrev two : SaysFrom sizes last (joined_parts (defined m) (defined told)) (λ row. Any row × Any row)
  two = says_then sizes last (defined m) (defined told) Any Any (says_defined sizes last f fit) (says_defined sizes m.last head head_fit)

  abbrev literals : List Literal
  literals = opposite m.literal ∷ told.literal ∷ []

  abbrev worths : List (List ℕ → Bool)
  worths = (λ row. not (holds row f)) ∷ (λ row. holds row head) ∷ []

  two_worth : AreWorth sizes last two.given literals worths
  two_worth = (
    opposite_worth sizes last two.given m.literal (λ row. holds row f)
        (worth_kept sizes last (defined m) (defined told) Any Any (says_defined sizes last f fit) (says_behind_of) m.literal (λ row. holds row f) (term_worth sizes last f fit)),
    (worth_added sizes last (defined m) (defined told) Any Any (says_defined sizes last f fit) (says_defined sizes m.last head head_fit) told.literal (λ row. holds row head) (term_worth sizes m.last head head_fit), tt),
  )
    where
      says_behind_of : SaysBehind sizes last (says_defined sizes last f fit).given m.last (defined told) Any
      says_behind_of = says_behind sizes last (says_defined sizes last f fit).given m.last (defined told) Any (says_defined sizes m.last head head_fit)

  says_two : SaysFrom sizes last (joined_parts (joined_parts (defined m) (defined told)) (record { last = told.last; clauses = written literals })) (λ row. (Any row × Any row) × IsTrue (list_any (λ worth. worth row) worths))
  says_two = says_with sizes last (joined_parts (defined m) (defined told)) (record { last = told.last; clauses = written literals }) (λ row. Any row × Any row) (λ row. IsTrue (list_any (λ worth. worth row) worths)) two
      (says_clause sizes last two.given told.last literals worths two_worth)

module _ (sizes : List ℕ) (last : ℕ) (f g head : Ground) (fit : TermFits sizes f) (other_fit : TermFits sizes g) (head_fit : TermFits sizes head) where
  abbrev m1 : Made
  m1 = made_of sizes last f

  abbrev m2 : Made
  m2 = made_of sizes m1.last g

  abbrev m3 : Made
  m3 = made_of sizes m2.last head

  abbrev first_two : Asserted
  first_two = joined_parts (defined m1) (defined m2)

  abbrev parts : SaysFrom sizes last first_two (λ row. Any row × Any row)
  parts = says_then sizes last (defined m1) (defined m2) Any Any (says_defined sizes last f fit) (says_defined sizes m1.last g other_fit)

  abbrev three : SaysFrom sizes last (joined_parts first_two (defined m3)) (λ row. (Any row × Any row) × Any row)
  three = says_then sizes last first_two (defined m3) (λ row. Any row × Any row) Any parts (says_defined sizes m2.last head head_fit)

  abbrev literals3 : List Literal
  literals3 = opposite m1.literal ∷ opposite m2.literal ∷ m3.literal ∷ []

  abbrev worths3 : List (List ℕ → Bool)
  worths3 = (λ row. not (holds row f)) ∷ (λ row. not (holds row g)) ∷ (λ row. holds row head) ∷ []

  three_worth : AreWorth sizes last three.given literals3 worths3
  three_worth =
      let second = says_behind sizes last (says_defined sizes last f fit).given m1.last (defined m2) Any (says_defined sizes m1.last g other_fit) in
      let third = says_behind sizes last parts.given m2.last (defined m3) Any (says_defined sizes m2.last head head_fit) in
      let of_f = worth_kept sizes last (defined m1) (defined m2) Any Any (says_defined sizes last f fit) second m1.literal (λ row. holds row f) (term_worth sizes last f fit) in
      let of_g = worth_added sizes last (defined m1) (defined m2) Any Any (says_defined sizes last f fit) (says_defined sizes m1.last g other_fit) m2.literal (λ row. holds row g) (term_worth sizes m1.last g other_fit) in (
        opposite_worth sizes last three.given m1.literal (λ row. holds row f) (worth_kept sizes last first_two (defined m3) (λ row. Any row × Any row) Any parts third m1.literal (λ row. holds row f) of_f),
        (
          opposite_worth sizes last three.given m2.literal (λ row. holds row g) (worth_kept sizes last first_two (defined m3) (λ row. Any row × Any row) Any parts third m2.literal (λ row. holds row g) of_g),
          (worth_added sizes last first_two (defined m3) (λ row. Any row × Any row) Any parts (says_defined sizes m2.last head head_fit) m3.literal (λ row. holds row head) (term_worth sizes m2.last head head_fit), tt),
        ),
      )

  says_three : SaysFrom sizes last (joined_parts (joined_parts first_two (defined m3)) (record { last = m3.last; clauses = written literals3 })) (λ row. ((Any row × Any row) × Any row) × IsTrue (list_any (λ worth. worth row) worths3))
  says_three = says_with sizes last (joined_parts first_two (defined m3)) (record { last = m3.last; clauses = written literals3 }) (λ row. (Any row × Any row) × Any row) (λ row. IsTrue (list_any (λ worth. worth row) worths3)) three
      (says_clause sizes last three.given m3.last literals3 worths3 three_worth)

one_part : (p q : Bool) → (not p || (q || false)) ≡ (not (p && true) || q)
one_part true true = refl
one_part true false = refl
one_part false q = refl

two_parts : (p r q : Bool) → (not p || (not r || (q || false))) ≡ (not (p && r) || q)
two_parts true true true = refl
two_parts true true false = refl
two_parts true false q = refl
two_parts false r q = refl

implied_says : (sizes : List ℕ) (last : ℕ) (now : Ground) (before : Option Ground) (head : Ground) → TermFits sizes now → IfSome before (TermFits sizes) → TermFits sizes head →
    SaysFrom sizes last (implied_with sizes (made_of sizes last now) before head) (λ row. IsTrue (rule_met row (record { now = now; before = before; head = head })))
implied_says sizes last now None head fit none head_fit =
    says_alike sizes last (implied_with sizes (made_of sizes last now) None head)
    (λ row. (Any row × Any row) × IsTrue (list_any (λ worth. worth row) (worths sizes last now head fit head_fit))) (λ row. IsTrue (rule_met row (record { now = now; before = None; head = head })))
    (λ row is. let same = one_part (holds row now) (holds row head) in ((λ h. sym same ∙ h.1), (λ h. ((tt, tt), same ∙ h))))
    (says_two sizes last now head fit head_fit)
implied_says sizes last now (Some before) head fit before_fit head_fit =
    says_alike sizes last (implied_with sizes (made_of sizes last now) (Some before) head)
    (λ row. ((Any row × Any row) × Any row) × IsTrue (list_any (λ worth. worth row) (worths3 sizes last now before head fit before_fit head_fit))) (λ row. IsTrue (rule_met row (record { now = now; before = Some before; head = head })))
    (λ row is. let same = two_parts (holds row now) (holds row before) (holds row head) in ((λ h. sym same ∙ h.1), (λ h. (((tt, tt), tt), same ∙ h))))
    (says_three sizes last now before head fit before_fit head_fit)

both : (a b : Bool) → IsTrue (a && b) ↔ (IsTrue a × IsTrue b)
both true b = ((λ h. (refl, h)), (λ h. h.1))
both false b = ((λ h. absurd cc), (λ h. let wrong = h.0 in absurd cc))

pub rules_say : (sizes : List ℕ) (last : ℕ) (rules : List WideTimed) → AllByRecursion (WideFits sizes) rules → SaysFrom sizes last (all_implied sizes last rules) (λ row. IsTrue (list_all (rule_met row) rules))
rules_say sizes last [] fit = says_alike sizes last (all_implied sizes last []) Any (λ row. IsTrue (list_all (rule_met row) [])) (λ row is. ((λ h. refl), (λ h. tt))) (says_nothing sizes last)
rules_say sizes last (rule ∷ rules) fit =
    let first = implied sizes last rule in
    says_alike sizes last (all_implied sizes last (rule ∷ rules)) (λ row. IsTrue (rule_met row rule) × IsTrue (list_all (rule_met row) rules)) (λ row. IsTrue (list_all (rule_met row) (rule ∷ rules)))
    (λ row is. let here = both (rule_met row rule) (list_all (rule_met row) rules) in (here.1, here.0))
    (says_then sizes last first (all_implied sizes first.last rules) (λ row. IsTrue (rule_met row rule)) (λ row. IsTrue (list_all (rule_met row) rules))
    (implied_says sizes last rule.now rule.before rule.head fit.0.now fit.0.before fit.0.head) (rules_say sizes first.last rules fit.1))

-- ---- the list of candidates

module _ (sizes : List ℕ) (rules : List WideTimed) (conditions : List Ground) (claim : Option Ground) (fit : AllByRecursion (WideFits sizes) rules) (conditions_fit : AllByRecursion (TermFits sizes) conditions)
    (claim_fits : IfSome claim (TermFits sizes)) where
  abbrev of_rules : Asserted
  of_rules = all_implied sizes (true_variable sizes) rules

  abbrev asked : Asserted
  asked = assert_all sizes of_rules.last conditions

  abbrev denied : Asserted
  denied = deny sizes asked.last claim

  abbrev pub candidate_parts : Asserted
  candidate_parts = joined_parts (joined_parts of_rules asked) denied

  abbrev Denied : List ℕ → Type 0
  Denied row = IfSome claim (λ claim. IsFalse (holds row claim))

  abbrev pub Said : List ℕ → Type 0
  Said row = (IsTrue (list_all (rule_met row) rules) × IsTrue (list_all (holds row) conditions)) × Denied row

  candidates_say : Says sizes candidate_parts Said
  candidates_say =
      says_then sizes (true_variable sizes) (joined_parts of_rules asked) denied (λ row. IsTrue (list_all (rule_met row) rules) × IsTrue (list_all (holds row) conditions)) Denied
      (says_then sizes (true_variable sizes) of_rules asked (λ row. IsTrue (list_all (rule_met row) rules)) (λ row. IsTrue (list_all (holds row) conditions))
      (rules_say sizes (true_variable sizes) rules fit) (says_conditions sizes of_rules.last conditions conditions_fit))
      (says_denied sizes asked.last claim claim_fits)

  pub candidates_tell : Tells (axioms_behind sizes candidate_parts) (λ row. IsRow sizes row × Said row)
  candidates_tell = parts_tell_rows sizes candidate_parts Said candidates_say

-- ---- the clause that denies a row, as it is written

and_false : (b : Bool) → (b && false) ≡ false
and_false true = refl
and_false false = refl

-- none of them is in another sign
no_opposite : (variable first : ℕ) (sizes row : List ℕ) → list_any (same_literal (opposite (opposite (positive variable)))) (denial_from first sizes row) ≡ false
no_opposite variable first [] row = refl
no_opposite variable first (size ∷ sizes) [] = refl
no_opposite variable first (size ∷ sizes) (index ∷ row) =
    ap (λ (b : Bool). b || list_any (same_literal (opposite (opposite (positive variable)))) (denial_from (first + size) sizes row)) (and_false (variable == first + index))
    ∙ no_opposite variable (first + size) sizes row

no_tautology : (whole_first : ℕ) (whole_sizes whole_row : List ℕ) (first : ℕ) (sizes row : List ℕ) →
    list_any (λ literal. list_any (same_literal (opposite literal)) (denial_from whole_first whole_sizes whole_row)) (denial_from first sizes row) ≡ false
no_tautology whole_first whole_sizes whole_row first [] row = refl
no_tautology whole_first whole_sizes whole_row first (size ∷ sizes) [] = refl
no_tautology whole_first whole_sizes whole_row first (size ∷ sizes) (index ∷ row) =
    ap (λ (b : Bool). b || list_any (λ literal. list_any (same_literal (opposite literal)) (denial_from whole_first whole_sizes whole_row)) (denial_from (first + size) sizes row)) (no_opposite (first + index) whole_first whole_sizes whole_row)
    ∙ no_tautology whole_first whole_sizes whole_row (first + size) sizes row

-- a literal stands before those of later variables
put_first : (variable first : ℕ) (sizes row : List ℕ) → variable < first → put (opposite (positive variable)) (denial_from first sizes row) ≡ opposite (positive variable) ∷ denial_from first sizes row
put_first variable first [] row less = refl
put_first variable first (size ∷ sizes) [] less = refl
put_first variable first (size ∷ sizes) (index ∷ row) less =
    let others = denial_from (first + size) sizes row in
    let here = opposite (positive (first + index)) in
    let new = opposite (positive variable) in
    let apart : (variable == first + index) ≡ false = ne_eqb variable (first + index) (λ e. omega arith) in
    let before : nat_lt variable (first + index) ≡ true = lt-ltb variable (first + index) (omega arith) in
    ap (λ (b : Bool). if b && true then here ∷ others else (if nat_lt variable (first + index) || ((variable == first + index) && (true && false)) then new ∷ here ∷ others else here ∷ put new others)) apart
    ∙ ap (λ (b : Bool). if b || ((variable == first + index) && (true && false)) then new ∷ here ∷ others else here ∷ put new others) before

ordered : (first : ℕ) (sizes row : List ℕ) → IsRow sizes row → in_order (denial_from first sizes row) ≡ denial_from first sizes row
ordered first [] row is = refl
ordered first (size ∷ sizes) [] is = refl
ordered first (size ∷ sizes) (index ∷ row) is =
    ap (put (opposite (positive (first + index)))) (ordered (first + size) sizes row is.1)
    ∙ put_first (first + index) (first + size) sizes row (let less = is.0 in omega arith)

pub denial_written : (sizes row : List ℕ) → IsRow sizes row → written (row_denial sizes row) ≡ row_denial sizes row ∷ []
denial_written sizes row is =
    ap (λ (b : Bool). if b then [] else in_order (row_denial sizes row) ∷ []) (no_tautology 1 sizes row 1 sizes row)
    ∙ ap (λ (l : List Literal). l ∷ []) (ordered 1 sizes row is)

-- ---- and what it says

-- one of the positions has another value
abbrev worths_from : ℕ → List ℕ → List (List ℕ → Bool)
worths_from position [] = []
worths_from position (index ∷ row) = (λ other. not (slice_index other position == index)) ∷ worths_from (suc position) row

next_first : (sizes : List ℕ) (position size : ℕ) → slice_get sizes position ≡ Some size → first_variable sizes (suc position) ≡ first_variable sizes position + size
next_first [] position size at = absurd cc
next_first (s ∷ []) zero size at = let same : s ≡ size = cc in omega arith
next_first (s ∷ t ∷ sizes) zero size at = let same : s ≡ size = cc in omega arith
next_first (s ∷ sizes) (suc position) size at = let more = next_first sizes position size at in omega arith

module _ (sizes : List ℕ) (start : ℕ) (before : List ℕ → List Bool) where
  denial_worths : (position first : ℕ) (rest row : List ℕ) → IsRow rest row → first ≡ first_variable sizes position → ((j size : ℕ) → slice_get rest j ≡ Some size → slice_get sizes (position + j) ≡ Some size) →
      AreWorth sizes start before (denial_from first rest row) (worths_from position row)
  denial_worths position first [] [] is at there = tt
  denial_worths position first [] (index ∷ row) is at there = absurd is
  denial_worths position first (size ∷ rest) [] is at there = absurd is
  denial_worths position first (size ∷ rest) (index ∷ row) is at there =
      let here : slice_get sizes position ≡ Some size = ap (slice_get sizes) (let e : position ≡ position + 0 = omega arith in e) ∙ there 0 size refl in (
        opposite_worth sizes start before (positive (first + index)) (λ other. slice_index other position == index)
            (subst (λ (n : ℕ). IsWorth sizes start before (positive (n + index)) (λ other. slice_index other position == index)) (sym at) (atom_worth sizes start before position index (size, here, is.0))),
        denial_worths (suc position) (first + size) rest row is.1 (ap (λ (n : ℕ). n + size) at ∙ sym (next_first sizes position size here))
            (λ j s e. ap (slice_get sizes) (let k : suc position + j ≡ position + suc j = omega arith in k) ∙ there (suc j) s e),
      )

or_gives : (p q : Bool) → (p || q) ≡ true → (p ≡ false → q ≡ true)
or_gives true q e f = absurd cc
or_gives false q e f = e

or_right : (p q : Bool) → q ≡ true → (p || q) ≡ true
or_right true q e = refl
or_right false q e = e

module _ (full : List ℕ) where
  abbrev Reads : ℕ → List ℕ → Type 0
  Reads position rest = (j : ℕ) → slice_index full (position + j) ≡ slice_index rest j

  abbrev differ : ℕ → List ℕ → Bool
  differ position row = list_any (λ worth. worth full) (worths_from position row)

  first_read : (position first : ℕ) (rest : List ℕ) → Reads position (first ∷ rest) → slice_index full position ≡ first
  first_read position first rest reads = ap (slice_index full) (let e : position ≡ position + 0 = omega arith in e) ∙ reads 0

  rest_read : (position first : ℕ) (rest : List ℕ) → Reads position (first ∷ rest) → Reads (suc position) rest
  rest_read position first rest reads j = ap (slice_index full) (let e : suc position + j ≡ position + suc j = omega arith in e) ∙ reads (suc j)

  differing : (position : ℕ) (sizes row rest : List ℕ) → IsRow sizes row → IsRow sizes rest → Reads position rest → differ position row ≡ true → rest ≢ row
  differing position [] [] [] is other reads e same = absurd cc
  differing position [] (index ∷ row) rest is other reads e same = absurd is
  differing position [] [] (x ∷ rest) is other reads e same = absurd other
  differing position (size ∷ sizes) [] rest is other reads e same = absurd is
  differing position (size ∷ sizes) (index ∷ row) [] is other reads e same = absurd other
  differing position (size ∷ sizes) (index ∷ row) (x ∷ rest) is other reads e same =
      let first : x ≡ index = cc in
      let more : rest ≡ row = cc in
      let equal : not (slice_index full position == index) ≡ false = ap not (eq-eqb (slice_index full position) index (first_read position x rest reads ∙ first)) in
      differing (suc position) sizes row rest is.1 other.1 (rest_read position x rest reads) (or_gives (not (slice_index full position == index)) (differ (suc position) row) e equal) more

  apart_differ : (position : ℕ) (sizes row rest : List ℕ) → IsRow sizes row → IsRow sizes rest → Reads position rest → rest ≢ row → differ position row ≡ true
  apart_differ position [] [] [] is other reads apart = absurd (apart refl)
  apart_differ position [] (index ∷ row) rest is other reads apart = absurd is
  apart_differ position [] [] (x ∷ rest) is other reads apart = absurd other
  apart_differ position (size ∷ sizes) [] rest is other reads apart = absurd is
  apart_differ position (size ∷ sizes) (index ∷ row) [] is other reads apart = absurd other
  apart_differ position (size ∷ sizes) (index ∷ row) (x ∷ rest) is other reads apart = elim (cases_Bool (slice_index full position == index)) [
    | inl e ↦
        let first : x ≡ index = sym (first_read position x rest reads) ∙ eqb-true (slice_index full position) index e in
        or_right (not (slice_index full position == index)) (differ (suc position) row)
        (apart_differ (suc position) sizes row rest is.1 other.1 (rest_read position x rest reads) (λ same. apart (ap (λ (y : ℕ). y ∷ rest) first ∙ ap (λ (l : List ℕ). index ∷ l) same)))
    | inr e ↦ ap (λ (b : Bool). not b || differ (suc position) row) e
  ]

module _ (sizes row : List ℕ) (last : ℕ) (is : IsRow sizes row) where
  abbrev pub denial_part : Asserted
  denial_part = record { last = last; clauses = row_denial sizes row ∷ [] }

  denial_says : SaysFrom sizes last denial_part (λ other. other ≢ row)
  denial_says =
      subst (λ (cs : List (List Literal)). SaysFrom sizes last (record { last = last; clauses = cs }) (λ other. other ≢ row)) (denial_written sizes row is)
      (says_alike sizes last (record { last = last; clauses = written (row_denial sizes row) }) (λ other. IsTrue (list_any (λ worth. worth other) (worths_from 0 row))) (λ other. other ≢ row)
      (λ other is_other.
      let reads : (j : ℕ) → slice_index other (0 + j) ≡ slice_index other j = λ j. ap (slice_index other) (let e : 0 + j ≡ j = omega arith in e) in
      ((λ h. differing other 0 sizes row other is is_other reads h), (λ h. apart_differ other 0 sizes row other is is_other reads h)))
      (says_from sizes last (record { last = last; clauses = written (row_denial sizes row) }) (λ other. IsTrue (list_any (λ worth. worth other) (worths_from 0 row)))
      (says_clause sizes last (λ other. []) last (row_denial sizes row) (worths_from 0 row)
      (denial_worths sizes last (λ other. []) 0 1 sizes row is (first_is sizes) (λ j size e. ap (slice_get sizes) (let k : 0 + j ≡ j = omega arith in k) ∙ e)))))
    where
      first_is : (s : List ℕ) → 1 ≡ first_variable s 0
      first_is [] = refl
      first_is (x ∷ s) = refl

-- ---- the list of rivals

module _ (sizes row : List ℕ) (rules : List WideTimed) (is : IsRow sizes row) (fit : AllByRecursion (TermFits sizes) (reduct_heads rules row)) where
  abbrev heads : Asserted
  heads = assert_all sizes (true_variable sizes) (reduct_heads rules row)

  abbrev pub rival_parts : Asserted
  rival_parts = joined_parts heads (denial_part sizes row heads.last is)

  abbrev pub RivalSaid : List ℕ → Type 0
  RivalSaid other = IsTrue (list_all (holds other) (reduct_heads rules row)) × (other ≢ row)

  pub rivals_tell : Tells (axioms_behind sizes rival_parts) (λ other. IsRow sizes other × RivalSaid other)
  rivals_tell =
      parts_tell_rows sizes rival_parts RivalSaid
      (says_then sizes (true_variable sizes) heads (denial_part sizes row heads.last is) (λ other. IsTrue (list_all (holds other) (reduct_heads rules row))) (λ other. other ≢ row)
      (says_conditions sizes (true_variable sizes) (reduct_heads rules row) fit) (denial_says sizes row heads.last is))
