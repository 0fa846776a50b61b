-- The clause that denies a row: an assignment that has the row does not meet it, and one that has another row does.
use Rattle.std.proofs.Common.{◌≡◌, ◌≢◌, ◌∙◌, ℕ, ◌+◌, ◌<◌, ◌≤◌, suc, inl, inr, eqb, Bool, true, false, List, [], ◌∷◌, refl, ap₂, arith}
use Rattle.std.proofs.lemmas.Bool.Decides.{eqb_tells}
use Rattle.std.specs.List.{sum}
use Rattle.std.proofs.lemmas.List.Sums.{sum_by-cons}
use Rattle.cc_defs.specs.ClauseForms.{positive}
use Rattle.cc_defs.specs.Clauses.{Literal, IsClause, IsOver, meets, opposite}
use Rattle.cc_defs.specs.Rows.{IsRow}
use Rattle.cc_defs.specs.Sections.{denial_from}
use Rattle.cc_clauses.specs.RowsOf.{HasRowFrom}

pub eqb_itself : (n : ℕ) → eqb n n ≡ true
eqb_itself n = elim (eqb_tells n n) [ inl same ↦ same.0 | inr other ↦ absurd (other.1 refl) ]

pub denied : (first : ℕ) (sizes row : List ℕ) (assignment : ℕ → Bool) → IsRow sizes row → HasRowFrom first sizes assignment row →
    meets assignment (denial_from first sizes row) ≡ false
denied first [] row assignment is has = refl
denied first (size ∷ sizes) [] assignment is has = refl
denied first (size ∷ sizes) (index ∷ row) assignment is has =
    rw (has.0 index is.0 ∙ eqb_itself index) (denied (first + size) sizes row assignment is.1 has.1)

pub not_denied : (first : ℕ) (sizes row other : List ℕ) (assignment : ℕ → Bool) → IsRow sizes row → IsRow sizes other → other ≢ row →
    HasRowFrom first sizes assignment other → meets assignment (denial_from first sizes row) ≡ true
not_denied first [] [] [] assignment is other_is apart has = absurd (apart refl)
not_denied first [] (index ∷ row) other assignment is other_is apart has = absurd is
not_denied first [] [] (index ∷ other) assignment is other_is apart has = absurd other_is
not_denied first (size ∷ sizes) [] other assignment is other_is apart has = absurd is
not_denied first (size ∷ sizes) (index ∷ row) [] assignment is other_is apart has = absurd has
not_denied first (size ∷ sizes) (index ∷ row) (value ∷ other) assignment is other_is apart has = elim (eqb_tells value index) [
  | inr differ ↦ rw (has.0 index is.0 ∙ differ.0) refl
  | inl same ↦ rw (has.0 index is.0 ∙ same.0)
      (not_denied (first + size) sizes row other assignment is.1 other_is.1 (λ e. apart (ap₂ (λ (n : ℕ) (ns : List ℕ). n ∷ ns) (same.1) e)) has.1)
]

-- ---- the clause itself

before_denial : (literal : Literal) (next : ℕ) (sizes row : List ℕ) → literal.variable < next → IsRow sizes row → IsClause (denial_from next sizes row) →
    IsClause (literal ∷ denial_from next sizes row)
before_denial literal next [] row low is clause = tt
before_denial literal next (size ∷ sizes) [] low is clause = tt
before_denial literal next (size ∷ sizes) (index ∷ row) low is clause = (inl (omega arith), clause)

pub denial_is_clause : (first : ℕ) (sizes row : List ℕ) → IsRow sizes row → IsClause (denial_from first sizes row)
denial_is_clause first [] row is = tt
denial_is_clause first (size ∷ sizes) [] is = tt
denial_is_clause first (size ∷ sizes) (index ∷ row) is =
    let low : index < size = is.0 in
    before_denial (opposite (positive (first + index))) (first + size) sizes row (omega arith) is.1 (denial_is_clause (first + size) sizes row is.1)

pub denial_over : (variables first : ℕ) (sizes row : List ℕ) → 0 < first → first + sum sizes ≤ suc variables → IsRow sizes row → IsOver variables (denial_from first sizes row)
denial_over variables first [] row some most is = tt
denial_over variables first (size ∷ sizes) [] some most is = tt
denial_over variables first (size ∷ sizes) (index ∷ row) some most is =
    let low : index < size = is.0 in
    let all : sum (size ∷ sizes) ≡ size + sum sizes = sum_by-cons (λ (n : ℕ). n) size sizes in
    (omega arith, omega arith, denial_over variables (first + size) sizes row (omega arith) (omega arith) is.1)
