-- Clauses of a section: over its variables, and not too long.
use Rattle.std.proofs.Common.{◌≡◌, ℕ, zero, suc, ◌+◌, ◌*◌, ◌-◌, ◌<◌, ◌≤◌, inl, inr, true, false, Bool, List, [], ◌∷◌, length, Some, refl, sym, subst, ap, arith}
use Rattle.std.specs.Prelude.{Contains, slice_get, sum}
use Rattle.std.specs.List.{AllByRecursion}
use Rattle.std.proofs.lemmas.List.Sums.{sum_by-cons}
use Rattle.cc_defs.specs.ClauseForms.{positive}
use Rattle.cc_defs.specs.Clauses.{Literal, IsBefore, IsClause, IsOver, IsResolvent, Reaches, ReachesFrom, opposite}
use Rattle.cc_defs.specs.Rows.{IsRow}
use Rattle.cc_defs.specs.Sections.{denial_from, row_denial}
use Rattle.cc_log.specs.Entries.{AreBefore}

pub in_first : {A : Type 0} (x : A) (xs : List A) → Contains (x ∷ xs) x
in_first x xs = (zero, omega arith, refl)

pub in_rest : {A : Type 0} (y x : A) (xs : List A) → Contains xs x → Contains (y ∷ xs) x
in_rest y x xs (k, below, is) = (suc k, omega arith, is)

-- ---- over variables

over_at : (variables : ℕ) (clause : List Literal) (literal : Literal) → IsOver variables clause → Contains clause literal →
    (0 < literal.variable) × (literal.variable ≤ variables)
over_at variables [] literal over (k, below, is) = omega arith
over_at variables (first ∷ clause) literal over (zero, below, is) = subst (λ (z : Literal). (0 < z.variable) × (z.variable ≤ variables)) is (over.0, over.1)
over_at variables (first ∷ clause) literal over (suc k, below, is) = over_at variables clause literal over.2 (k, omega arith, is)

over_from : (variables : ℕ) (clause : List Literal) → ((literal : Literal) → Contains clause literal → (0 < literal.variable) × (literal.variable ≤ variables)) →
    IsOver variables clause
over_from variables [] each = tt
over_from variables (first ∷ clause) each =
    let here = each first (in_first first clause) in
    (here.0, here.1, over_from variables clause (λ literal there. each literal (in_rest first literal clause there)))

pub record IsGood (variables : ℕ) (clause : List Literal) : Type 0 where
  pub ordered : IsClause clause
  pub over : IsOver variables clause

pub all_good : (variables : ℕ) (clauses : List (List Literal)) → AllByRecursion IsClause clauses → AllByRecursion (IsOver variables) clauses →
    AllByRecursion (IsGood variables) clauses
all_good variables [] all over = tt
all_good variables (clause ∷ clauses) all over = (record { ordered = all.0; over = over.0 }, all_good variables clauses all.1 over.1)

good_resolved : (variables : ℕ) (a b : List Literal) (pivot : ℕ) (r : List Literal) → IsGood variables a → IsGood variables b → IsResolvent a b pivot r → IsGood variables r
good_resolved variables a b pivot r good_a good_b is = record {
  ordered = is.clause;
  over = over_from variables r (λ literal there. elim ((is.members literal).0 there).0 [
    | inl of_a ↦ over_at variables a literal good_a.over of_a
    | inr of_b ↦ over_at variables b literal good_b.over of_b
  ]);
}

-- the clause of a number is there, and it is good as all are
numbered_good : (variables : ℕ) (clauses : List (List Literal)) (k : ℕ) (clause : List Literal) → AllByRecursion (IsGood variables) clauses →
    slice_get clauses k ≡ Some clause → IsGood variables clause × (k < length clauses)
numbered_good variables [] k clause all is = absurd cc
numbered_good variables (first ∷ clauses) zero clause all is =
    let same : first ≡ clause = cc in
    (subst (λ (c : List Literal). IsGood variables c) same all.0, omega arith)
numbered_good variables (first ∷ clauses) (suc k) clause all is =
    let rest = numbered_good variables clauses k clause all.1 is in
    let low = rest.1 in (rest.0, omega arith)

-- what a chain reaches is good, and the chain names clauses below the next number
chain_from : (variables : ℕ) (clauses : List (List Literal)) → AllByRecursion (IsGood variables) clauses → (from : List Literal) (number : ℕ) (chain : List ℕ) (clause : List Literal) →
    IsGood variables from → number ≤ length clauses → ReachesFrom clauses from chain clause → IsGood variables clause × AreBefore (length clauses + 1) (number ∷ chain)
chain_from variables clauses all from number [] clause good low is = (subst (λ (c : List Literal). IsGood variables c) (sym is) good, omega arith)
chain_from variables clauses all from number (pivot ∷ []) clause good low is = absurd is
chain_from variables clauses all from number (pivot ∷ next_number ∷ chain) clause good low (other, next, (some, is), resolvent, rest) =
    let there = numbered_good variables clauses (next_number - 1) other all is in
    let there_low : next_number - 1 < length clauses = there.1 in
    let more = chain_from variables clauses all next next_number chain clause (good_resolved variables from other pivot next good there.0 resolvent) (omega arith) rest in
    (more.0, (omega arith, more.1))

pub chain_good : (variables : ℕ) (clauses : List (List Literal)) → AllByRecursion (IsGood variables) clauses → (chain : List ℕ) (clause : List Literal) →
    Reaches clauses chain clause → IsGood variables clause × AreBefore (length clauses + 1) chain
chain_good variables clauses all [] clause is = absurd is
chain_good variables clauses all (number ∷ chain) clause (first, (some, is), rest) =
    let there = numbered_good variables clauses (number - 1) first all is in
    let low : number - 1 < length clauses = there.1 in
    chain_from variables clauses all first number chain clause there.0 (omega arith) rest

-- ---- denials of rows

denial_over : (variables first : ℕ) (sizes row : List ℕ) → 0 < first → first + sum sizes ≤ suc variables → IsRow sizes row → IsOver variables (denial_from first sizes row)
denial_over variables first [] row some most is = tt
denial_over variables first (size ∷ sizes) [] some most is = tt
denial_over variables first (size ∷ sizes) (index ∷ row) some most is =
    let all = sum_by-cons (λ (n : ℕ). n) size sizes in
    let low = is.0 in
    (omega arith, omega arith, denial_over variables (first + size) sizes row (omega arith) (omega arith) is.1)

denial_ascends : (first : ℕ) (sizes row : List ℕ) (last : Literal) → IsRow sizes row → last.variable < first → IsClause (last ∷ denial_from first sizes row)
denial_ascends first [] row last is below = tt
denial_ascends first (size ∷ sizes) [] last is below = tt
denial_ascends first (size ∷ sizes) (index ∷ row) last is below =
    let within = is.0 in
    (inl (omega arith), denial_ascends (first + size) sizes row (opposite (positive (first + index))) is.1 (omega arith))

clause_tail : (last : Literal) (clause : List Literal) → IsClause (last ∷ clause) → IsClause clause
clause_tail last [] is = tt
clause_tail last (literal ∷ clause) is = is.1

pub denial_good : (variables : ℕ) (sizes row : List ℕ) → sum sizes ≤ variables → IsRow sizes row → IsGood variables (row_denial sizes row)
denial_good variables sizes row most is = record {
  ordered = clause_tail (record { variable = 0; positive = false }) (row_denial sizes row)
      (denial_ascends 1 sizes row (record { variable = 0; positive = false }) is (omega arith));
  over = denial_over variables 1 sizes row (omega arith) (omega arith) is;
}

-- a row is not longer than the sum of its sizes
pub row_few : (sizes row : List ℕ) → IsRow sizes row → length row ≤ sum sizes
row_few [] [] is = omega arith
row_few [] (index ∷ row) is = absurd is
row_few (size ∷ sizes) [] is = omega arith
row_few (size ∷ sizes) (index ∷ row) is =
    let all = sum_by-cons (λ (n : ℕ). n) size sizes in
    let low = is.0 in
    let rest = row_few sizes row is.1 in omega arith

-- ---- how long

abbrev sign : Bool → ℕ
sign true = 1
sign false = 0

sign_low : (positive : Bool) → sign positive ≤ 1
sign_low true = omega arith
sign_low false = omega arith

abbrev code : Literal → ℕ
code literal = 2 * literal.variable + sign literal.positive

code_rises : (a b : Literal) → IsBefore a b → code a < code b
code_rises a b (inl low) = let most = sign_low a.positive in omega arith
code_rises a b (inr (same, negative, affirmed)) =
    let low : sign a.positive ≡ 0 = ap sign negative in
    let high : sign b.positive ≡ 1 = ap sign affirmed in omega arith

clause_below : (variables : ℕ) (first : Literal) (clause : List Literal) → IsClause (first ∷ clause) → IsOver variables (first ∷ clause) → length clause + code first ≤ 2 * variables + 1
clause_below variables first [] is over = let most = sign_low first.positive in let low = over.1 in omega arith
clause_below variables first (next ∷ clause) is over =
    let rest = clause_below variables next clause is.1 over.2 in
    let rises = code_rises first next is.0 in omega arith

pub clause_few : (variables : ℕ) (clause : List Literal) → IsGood variables clause → length clause ≤ 2 * variables
clause_few variables [] good = omega arith
clause_few variables (first ∷ clause) good =
    let most = clause_below variables first clause good.ordered good.over in
    let some = good.over.0 in omega arith
