-- Clauses and chains of a section within its limits.
use Rattle.std.proofs.Common.{◌≡◌, ℕ, zero, suc, ◌+◌, ◌-◌, ◌<◌, ◌≤◌, inl, inr, Bool, true, false, if◌then◌else◌, List, [], ◌∷◌, ◌++◌, length, Option, Some, None, refl, subst, arith}
use Rattle.std.specs.Prelude.{Contains, nat_lt, slice_get, sum}
use Rattle.std.specs.List.{AllByRecursion}
use Rattle.std.specs.Option.{option_or}
use Rattle.std.proofs.lemmas.Bool.{ltb-false}
use Rattle.std.proofs.lemmas.List.Sums.{sum_by-cons}
use Rattle.cc_defs.specs.declared.refusal.Refusal.{Refusal}
use Rattle.cc_defs.specs.ClauseLists.{ClauseList}
use Rattle.cc_defs.specs.Clauses.{IsOver, IsResolvent, Literal, Reaches, ReachesFrom}
use Rattle.cc_defs.specs.Limits.{most_clauses, most_variables}
use Rattle.cc_defs.specs.LogVersions.{AreEarlier}
use Rattle.cc_defs.specs.Rows.{IsRow}
use Rattle.cc_defs.specs.Sections.{denial_from}
use Rattle.cc_form.specs.Forms.{form_refusal}

-- ---- limits

none_passed : (b : Bool) (refusal : Refusal) (rest : Option Refusal) → (if b then Some refusal else rest) ≡ None → (b ≡ false) × (rest ≡ None)
none_passed true refusal rest is = absurd cc
none_passed false refusal rest is = (refl, is)

or_none : (first second : Option Refusal) → option_or first second ≡ None → second ≡ None
or_none None second is = is
or_none (Some refusal) second is = absurd cc

low_where : (most number : ℕ) → nat_lt most number ≡ false → number ≤ most
low_where most number is = ltb-false most number is

pub form_low : (rules : Option Refusal) (list : ClauseList) → option_or rules (form_refusal list) ≡ None →
    (list.variables ≤ most_variables) × (length list.clauses ≤ most_clauses)
form_low rules list is =
    let first = none_passed (nat_lt most_variables list.variables) _ _ (or_none rules (form_refusal list) is) in
    let second = none_passed (nat_lt most_clauses (length list.clauses)) _ _ first.1 in
    (low_where most_variables list.variables first.0, low_where most_clauses (length list.clauses) second.0)

-- ---- clauses over variables

over_at : (variables : ℕ) (clause : List Literal) (literal : Literal) → IsOver variables clause → Contains clause literal → literal.variable ≤ variables
over_at variables [] literal over (k, below, is) = omega arith
over_at variables (first ∷ clause) literal over (zero, below, is) = subst (λ (z : Literal). z.variable ≤ variables) is over.1
over_at variables (first ∷ clause) literal over (suc k, below, is) = over_at variables clause literal over.2 (k, omega arith, is)

over_both : (variables : ℕ) (clause : List Literal) (literal : Literal) → IsOver variables clause → Contains clause literal → IsOver variables (literal ∷ [])
over_both variables [] literal over (k, below, is) = omega arith
over_both variables (first ∷ clause) literal over (zero, below, is) = subst (λ (z : Literal). IsOver variables (z ∷ [])) is (over.0, over.1, tt)
over_both variables (first ∷ clause) literal over (suc k, below, is) = over_both variables clause literal over.2 (k, omega arith, is)

over_from : (variables : ℕ) (clause : List Literal) → ((literal : Literal) → Contains clause literal → IsOver variables (literal ∷ [])) → IsOver variables clause
over_from variables [] each = tt
over_from variables (first ∷ clause) each =
    let here = each first (zero, omega arith, refl) in
    (here.0, here.1, over_from variables clause (λ literal there. each literal (suc there.0, (let below = there.1 in omega arith), there.2)))

pub over_most : (few many : ℕ) (clause : List Literal) → few ≤ many → IsOver few clause → IsOver many clause
over_most few many [] less over = tt
over_most few many (literal ∷ clause) less over = let low = over.1 in (over.0, omega arith, over_most few many clause less over.2)

pub over_push : (variables : ℕ) (clauses : List (List Literal)) (added : List Literal) → AllByRecursion (IsOver variables) clauses → IsOver variables added →
    AllByRecursion (IsOver variables) (clauses ++ added ∷ [])
over_push variables [] added all over = (over, tt)
over_push variables (clause ∷ clauses) added all over = (all.0, over_push variables clauses added all.1 over)

pub denial_over : (variables first : ℕ) (sizes row : List ℕ) → 0 < first → first + sum sizes ≤ suc variables → IsRow sizes row → IsOver variables (denial_from first sizes row)
denial_over variables first [] row some most is = tt
denial_over variables first (size ∷ sizes) [] some most is = tt
denial_over variables first (size ∷ sizes) (index ∷ row) some most is =
    let all = sum_by-cons (λ (n : ℕ). n) size sizes in
    let low = is.0 in
    (omega arith, omega arith, denial_over variables (first + size) sizes row (omega arith) (omega arith) is.1)

pub row_low : (most : ℕ) (sizes row : List ℕ) → sum sizes ≤ most → IsRow sizes row → AllByRecursion (λ (index : ℕ). index ≤ most) row
row_low most [] [] few is = tt
row_low most [] (index ∷ row) few is = absurd is
row_low most (size ∷ sizes) [] few is = absurd is
row_low most (size ∷ sizes) (index ∷ row) few is =
    let all = sum_by-cons (λ (n : ℕ). n) size sizes in
    let low = is.0 in
    (omega arith, row_low most sizes row (omega arith) is.1)

-- ---- chains

numbered : (variables : ℕ) (clauses : List (List Literal)) (k : ℕ) (clause : List Literal) → AllByRecursion (IsOver variables) clauses → slice_get clauses k ≡ Some clause →
    IsOver variables clause × (k < length clauses)
numbered variables [] k clause all is = absurd cc
numbered variables (first ∷ clauses) zero clause all is =
    let same : first ≡ clause = cc in
    (subst (IsOver variables) same all.0, omega arith)
numbered variables (first ∷ clauses) (suc k) clause all is =
    let rest = numbered variables clauses k clause all.1 is in
    let low = rest.1 in (rest.0, omega arith)

resolved_over : (variables pivot : ℕ) (a b r : List Literal) → IsOver variables a → IsOver variables b → IsResolvent a b pivot r → IsOver variables r
resolved_over variables pivot a b r of_a of_b is = over_from variables r (λ literal there. elim ((is.members literal).0 there).0 [
  | inl in_a ↦ over_both variables a literal of_a in_a
  | inr in_b ↦ over_both variables b literal of_b in_b
])

-- A chain names earlier clauses, and each of its numbers and pivots is at most so great.
pub record IsLowChain (own most : ℕ) (chain : List ℕ) : Type 0 where
  pub earlier : AreEarlier own chain
  pub low : AllByRecursion (λ (number : ℕ). number ≤ most) chain

module _ (variables most : ℕ) (clauses : List (List Literal)) (all : AllByRecursion (IsOver variables) clauses) (few : variables ≤ most) (short : length clauses ≤ most) where
  low_from : (from : List Literal) (number : ℕ) (chain : List ℕ) (clause : List Literal) → IsOver variables from → 0 < number → number ≤ length clauses →
      ReachesFrom clauses from chain clause → IsLowChain (length clauses + 1) most (number ∷ chain)
  low_from from number [] clause over some low is = record { earlier = (some, omega arith); low = (omega arith, tt) }
  low_from from number (pivot ∷ []) clause over some low is = absurd is
  low_from from number (pivot ∷ after ∷ chain) clause over some low (other, next, (positive_there, there), resolvent, rest) =
      let found = numbered variables clauses (after - 1) other all there in
      let below : after - 1 < length clauses = found.1 in
      let (sign, alone, _) = resolvent.clash in
      let pivot_low = over_at variables from (record { variable = pivot; positive = sign }) over alone.0 in
      let more = low_from next after chain clause (resolved_over variables pivot from other next over found.0 resolvent) positive_there (omega arith) rest in
      record { earlier = (some, omega arith, more.earlier); low = (omega arith, (omega arith, more.low)) }

  pub low_chain : (chain : List ℕ) (clause : List Literal) → Reaches clauses chain clause → IsLowChain (length clauses + 1) most chain
  low_chain [] clause is = absurd is
  low_chain (number ∷ chain) clause (first, (some, there), rest) =
      let found = numbered variables clauses (number - 1) first all there in
      let below : number - 1 < length clauses = found.1 in
      low_from first number chain clause found.0 some (omega arith) rest
