-- The clause that denies a row, as a loop makes it, and faults.
use Rattle.std.proofs.Common.{◌≡◌, ℕ, zero, suc, ◌+◌, ◌<◌, ◌≤◌, List, [], ◌∷◌, ◌++◌, length, drop, get_or, map, IsErrAnd, IfErr, Result, Ok, Err, sym, ap, subst, arith, sum}
use Rattle.std.specs.List.{AllByRecursion}
use Rattle.std.proofs.lemmas.List.{drop_more}
use Rattle.std.proofs.lemmas.List.Sums.{sum_by-cons}
use Rattle.cc_arena.specs.declared.ground_laws.GroundCondition.{GroundCondition}
use Rattle.cc_defs.specs.declared.refusal.Fault.{Fault}
use Rattle.cc_defs.specs.declared.signature.At.TheVariants.{Number}
use Rattle.cc_defs.specs.Clauses.{IsLiteralOver}
use Rattle.cc_defs.specs.Rows.{IsRow}
use Rattle.cc_defs.specs.Sections.{denial_from}
use Rattle.cc_defs.specs.Terms.{Ground}
use Rattle.cc_form.specs.Machine.{IsPast}
use Rattle.cc_rivals.proofs.Folding.{past_more}
use Rattle.cc_rivals.proofs.Turns.{no_nodes}

pub row_at : (sizes row : List ℕ) (index : ℕ) → IsRow (drop index sizes) (drop index row) → index < length sizes → (index < length row) × (get_or row index 0 < get_or sizes index 0)
row_at [] row index is low = absurd (omega arith)
row_at (size ∷ sizes) [] zero is low = absurd is
row_at (size ∷ sizes) (value ∷ row) zero is low = (omega arith, is.0)
row_at (size ∷ sizes) [] (suc index) is low = absurd (row_short sizes index is (omega arith))
  where
    row_short : (sizes : List ℕ) (index : ℕ) → IsRow (drop index sizes) [] → index < length sizes → ⊥
    row_short [] index is low = omega arith
    row_short (size ∷ sizes) zero is low = is
    row_short (size ∷ sizes) (suc index) is low = row_short sizes index is (omega arith)
row_at (size ∷ sizes) (value ∷ row) (suc index) is low = let rest = row_at sizes row index is (omega arith) in (omega (arith, rest.0), rest.1)

pub sum_at : (sizes : List ℕ) (index : ℕ) → index < length sizes → get_or sizes index 0 ≤ sum (drop index sizes)
sum_at [] index low = absurd (omega arith)
sum_at (size ∷ sizes) zero low = let all : sum (size ∷ sizes) ≡ size + sum sizes = sum_by-cons (λ (n : ℕ). n) size sizes in omega arith
sum_at (size ∷ sizes) (suc index) low = sum_at sizes index (omega arith)

-- its literals are of the variables of atoms
pub denial_over : (top first : ℕ) (sizes row : List ℕ) → IsRow sizes row → 1 ≤ first → first + sum sizes ≤ top + 1 → AllByRecursion (IsLiteralOver top) (denial_from first sizes row)
denial_over top first [] row is some most = tt
denial_over top first (size ∷ sizes) [] is some most = absurd is
denial_over top first (size ∷ sizes) (index ∷ row) is some most =
    let all : sum (size ∷ sizes) ≡ size + sum sizes = sum_by-cons (λ (n : ℕ). n) size sizes in
    let less = is.0 in (
      ((omega arith), (omega arith)),
      denial_over top (first + size) sizes row is.1 (omega arith) (omega arith),
    )

-- ---- faults

pub err_past : {X : Type 0} (result : Result X Fault) (fault : Fault) (last more : ℕ) → IsErrAnd result (λ given. given ≡ fault) → last ≤ more → IsPast last fault → IfErr result (IsPast more)
err_past (Ok x) fault last more failed less past = absurd failed
err_past (Err given) fault last more failed less past = subst (IsPast more) (sym failed) (past_more last more fault less past)

-- ---- conditions

abbrev pub no_condition : GroundCondition
no_condition = record { at = Number 0; nodes = no_nodes }

pub condition_turn : (f : GroundCondition → Ground) (conditions : List GroundCondition) (i : ℕ) → i < length conditions → map f (drop i conditions) ≡ (f (get_or conditions i no_condition) ∷ []) ++ map f (drop (i + 1) conditions)
condition_turn f conditions i less = ap (map f) (drop_more conditions i no_condition less)
