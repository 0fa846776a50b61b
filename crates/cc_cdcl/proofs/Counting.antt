-- Earned lines have different closed assignments, and those of k open variables are numbers below 3 ^ k.
use Rattle.std.proofs.Common.{◌≡◌, ◌∙◌, ℕ, ◌+◌, ◌-◌, ◌*◌, ◌^◌, ◌<◌, ◌≤◌, zero, suc, inl, inr, eqb, Bool, true, false, List, [], ◌∷◌, ◌++◌, length, Option, Some, None, refl, sym, subst, ap, arith}
use Rattle.std.specs.Prelude.{◌⊎◌, Contains}
use Rattle.std.specs.List.{AllByRecursion, IsDistinct, list_any}
use Rattle.std.proofs.Math.Nat.{pow-succ'}
use Rattle.std.proofs.lemmas.Bool.Decides.{eqb_tells}
use Rattle.std.proofs.lemmas.List.Elements.{Contains-push}
use Rattle.std.proofs.lemmas.Map.Steps.{length-le_from_distinct_below}
use Rattle.cc_defs.specs.Assignments.{Values, IsClosed, IsUnit, IsEarned, AreOpen}
use Rattle.cc_defs.specs.Clauses.{Literal, IsOver}
use Rattle.cc_cdcl.specs.Earned.{Line, Derived, Given, AreEarnedBehind, earned_count}
use Rattle.cc_cdcl.specs.Laws.{EarnedLinesAreFew}
use Rattle.cc_cdcl.specs.Sets.{value_of_both, intersection}
use Rattle.cc_cdcl.proofs.Closed.{alike_closed, fewer_closed, member_over}

-- ---- an assignment as a number in base 3

abbrev digit : Option Bool → ℕ
digit None = 0
digit (Some false) = 1
digit (Some true) = 2

abbrev code : List ℕ → Values → ℕ
code [] values = 0
code (variable ∷ found) values = digit (values variable) + 3 * code found values

digit_low : (value : Option Bool) → digit value ≤ 2
digit_low None = omega arith
digit_low (Some false) = omega arith
digit_low (Some true) = omega arith

digit_same : (a b : Option Bool) → digit a ≡ digit b → a ≡ b
digit_same None None e = refl
digit_same None (Some true) e = absurd (omega arith)
digit_same None (Some false) e = absurd (omega arith)
digit_same (Some true) None e = absurd (omega arith)
digit_same (Some true) (Some true) e = refl
digit_same (Some true) (Some false) e = absurd (omega arith)
digit_same (Some false) None e = absurd (omega arith)
digit_same (Some false) (Some true) e = absurd (omega arith)
digit_same (Some false) (Some false) e = refl

power : (n : ℕ) → 3 ^ suc n ≡ 3 * 3 ^ n
power n = pow-succ' 3 n

code_low : (found : List ℕ) (values : Values) → code found values < 3 ^ length found
code_low [] values = omega arith
code_low (variable ∷ found) values =
    let rest = code_low found values in
    let low = digit_low (values variable) in
    let more = power (length found) in omega arith

code_lower : (found : List ℕ) (values : Values) (variable : ℕ) → Contains found variable → values variable ≡ None → suc (code found values) < 3 ^ length found
code_lower [] values variable (k, within, is) none = absurd (omega arith)
code_lower (first ∷ found) values variable (zero, within, is) none =
    let rest = code_low found values in
    let here : digit (values first) ≡ 0 = ap (λ (v : ℕ). digit (values v)) is ∙ ap digit none in
    let more = power (length found) in omega arith
code_lower (first ∷ found) values variable (suc k, within, is) none =
    let rest = code_lower found values variable (k, omega arith, is) none in
    let low = digit_low (values first) in
    let more = power (length found) in omega arith

code_same : (found : List ℕ) (a b : Values) → code found a ≡ code found b → (variable : ℕ) → Contains found variable → a variable ≡ b variable
code_same [] a b e variable (k, within, is) = absurd (omega arith)
code_same (first ∷ found) a b e variable (zero, within, is) =
    let low_a = digit_low (a first) in
    let low_b = digit_low (b first) in
    subst (λ (v : ℕ). a v ≡ b v) is (digit_same (a first) (b first) (omega arith))
code_same (first ∷ found) a b e variable (suc k, within, is) =
    let low_a = digit_low (a first) in
    let low_b = digit_low (b first) in
    code_same found a b (omega arith) variable (k, omega arith, is)

-- ---- closed assignments with one number are alike

alike_or : (a b : Option Bool) → (a ≡ b) ⊎ (value_of_both a b ≡ None)
alike_or None b = inr refl
alike_or (Some a) None = inr refl
alike_or (Some true) (Some true) = inl refl
alike_or (Some false) (Some false) = inl refl
alike_or (Some true) (Some false) = inr refl
alike_or (Some false) (Some true) = inr refl

module _ (variables : ℕ) (axioms : List (List Literal)) (found : List ℕ) (are : AreOpen variables axioms found) where
  alike : (a b : Values) → IsClosed a axioms → IsClosed b axioms → code found a ≡ code found b → (variable : ℕ) → 0 < variable → variable ≤ variables →
      a variable ≡ b variable
  alike a b closed_a closed_b same variable some high = elim (alike_or (a variable) (b variable)) [
    | inl is ↦ is
    | inr none ↦ code_same found a b same variable
        ((are.members variable).1 (some, high, record { values = intersection a b; closed = alike_closed axioms a b closed_a closed_b; none = none }))
  ]

  unit_alike : (a b : Values) (clause : List Literal) → IsOver variables clause → ((variable : ℕ) → 0 < variable → variable ≤ variables → a variable ≡ b variable) →
      IsUnit a clause → IsUnit b clause
  unit_alike a b clause over same unit = record {
    left = unit.left;
    member = unit.member;
    open_yet = sym (at unit.left unit.member) ∙ unit.open_yet;
    others = λ literal member. elim (unit.others literal member) [
      | inl is ↦ inl is
      | inr is ↦ inr (sym (at literal member) ∙ is)
    ];
  }
    where
      at : (literal : Literal) → Contains clause literal → a literal.variable ≡ b literal.variable
      at literal member = let low = member_over variables clause over literal member in same literal.variable low.0 low.1

  -- the number of an assignment that is closed over these clauses
  abbrev IsCode : List (List Literal) → ℕ → Type 0
  IsCode clauses q = (values : Values) × IsClosed values clauses × (code found values ≡ q) × (suc q < 3 ^ length found)

  abbrev Extends : List (List Literal) → Type 0
  Extends before = (values : Values) → IsClosed values before → IsClosed values axioms

  record Codes (before : List (List Literal)) (count : ℕ) : Type 0 where
    codes : List ℕ
    many : length codes ≡ count
    apart : IsDistinct eqb codes
    each : AllByRecursion (IsCode before) codes

  fewer : (before : List (List Literal)) (clause : List Literal) (codes : List ℕ) → AllByRecursion (IsCode (before ++ clause ∷ [])) codes → AllByRecursion (IsCode before) codes
  fewer before clause [] each = tt
  fewer before clause (q ∷ codes) each =
      let (values, closed, is, low) = each.0 in
      ((values, fewer_closed values before (clause ∷ []) closed, is, low), fewer before clause codes each.1)

  -- an assignment in which a clause is unit has another number than those that are closed over it
  others : (before : List (List Literal)) (clause : List Literal) (values : Values) → Extends before → IsOver variables clause → IsClosed values before → IsUnit values clause →
      (codes : List ℕ) → AllByRecursion (IsCode (before ++ clause ∷ [])) codes → AllByRecursion (λ q. eqb (code found values) q ≡ false) codes
  others before clause values extends over closed unit [] each = tt
  others before clause values extends over closed unit (q ∷ codes) each = (other each.0, others before clause values extends over closed unit codes each.1)
    where
      other : IsCode (before ++ clause ∷ []) q → eqb (code found values) q ≡ false
      other (later, closed_later, is, low) = elim (eqb_tells (code found values) q) [
        | inr apart ↦ apart.0
        | inl same ↦ absurd (closed_later.none_unit clause (Contains-push before clause) (unit_alike values later clause over
            (alike values later (extends values closed) (extends later (fewer_closed later before (clause ∷ []) closed_later)) (same.1 ∙ sym is)) unit))
      ]

  one_more : (before : List (List Literal)) (clause : List Literal) (count : ℕ) → Extends before → IsOver variables clause → IsEarned before clause →
      Codes (before ++ clause ∷ []) count → Codes before (suc count)
  unfolding IsDistinct
  one_more before clause count extends over earned rest =
      let low = member_over variables clause over earned.unit.left earned.unit.member in
      let there = (are.members earned.unit.left.variable).1 (low.0, low.1, record { values = earned.values; closed = extends earned.values earned.closed; none = earned.unit.open_yet }) in
      record {
        codes = code found earned.values ∷ rest.codes;
        many = ap suc rest.many;
        apart = (others before clause earned.values extends over earned.closed earned.unit rest.codes rest.each, rest.apart);
        each = (
          (earned.values, earned.closed, refl, code_lower found earned.values earned.unit.left.variable there earned.unit.open_yet),
          fewer before clause rest.codes rest.each,
        );
      }

  no_more : (before : List (List Literal)) (clause : List Literal) (count : ℕ) → Codes (before ++ clause ∷ []) count → Codes before count
  no_more before clause count rest = record { codes = rest.codes; many = rest.many; apart = rest.apart; each = fewer before clause rest.codes rest.each }

  extends_more : (before : List (List Literal)) (clause : List Literal) → Extends before → Extends (before ++ clause ∷ [])
  extends_more before clause extends values closed = extends values (fewer_closed values before (clause ∷ []) closed)

  codes_of : (before : List (List Literal)) (lines : List Line) → Extends before → AreEarnedBehind variables before lines → Codes before (earned_count lines)
  unfolding IsDistinct
  codes_of before [] extends earned = record { codes = []; many = refl; apart = tt; each = tt }
  codes_of before (Derived [] ∷ lines) extends earned = no_more before [] (earned_count lines) (codes_of (before ++ [] ∷ []) lines (extends_more before [] extends) earned.2)
  codes_of before (Derived (literal ∷ literals) ∷ lines) extends earned =
      one_more before (literal ∷ literals) (earned_count lines) extends earned.0 earned.1
      (codes_of (before ++ (literal ∷ literals) ∷ []) lines (extends_more before (literal ∷ literals) extends) earned.2)
  codes_of before (Given clause ∷ lines) extends earned = no_more before clause (earned_count lines) (codes_of (before ++ clause ∷ []) lines (extends_more before clause extends) earned.2)

  all_low : (before : List (List Literal)) (codes : List ℕ) → AllByRecursion (IsCode before) codes → (q : ℕ) → list_any (eqb q) codes ≡ true → suc q < 3 ^ length found
  all_low before [] each q here = cc
  all_low before (first ∷ codes) each q here = elim (eqb_tells q first) [
    | inl same ↦ subst (λ (n : ℕ). suc n < 3 ^ length found) (sym (same.1)) (each.0.3)
    | inr other ↦ all_low before codes each.1 q (rw (other.0) at here)
  ]

  few : (lines : List Line) → AreEarnedBehind variables axioms lines → earned_count lines < 3 ^ length found
  few lines earned =
      let all = codes_of axioms lines (λ values closed. closed) earned in
      let most = length-le_from_distinct_below all.codes (3 ^ length found - 1) all.apart
      (λ q here. let low = all_low axioms all.codes all.each q here in omega arith) in
      let many = all.many in
      let some = code_low found (λ variable. None) in omega arith

pub earned_few : EarnedLinesAreFew
earned_few variables axioms lines opens over earned (found, are, is) = subst (λ (n : ℕ). earned_count lines < 3 ^ n) is (few variables axioms found are lines earned)
