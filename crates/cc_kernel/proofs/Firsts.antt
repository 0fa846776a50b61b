-- The first empty clause of a list of axioms.
use Rattle.std.proofs.Common.{◌≡◌, ◌∙◌, ℕ, ◌+◌, ◌<◌, zero, suc, List, [], ◌∷◌, length, drop, Some, refl, sym, ap, arith, add-one}
use Rattle.std.specs.Prelude.{slice_get}
use Rattle.cc_defs.specs.Clauses.{Literal}
use Rattle.cc_kernel.specs.Kernels.{axioms_of, first_empty}

-- the rest from an index on begins with the clause of that index
drop_at : (clauses : List (List Literal)) (index : ℕ) (clause : List Literal) → slice_get clauses index ≡ Some clause →
    drop index clauses ≡ clause ∷ drop (suc index) clauses
drop_at [] index clause is = cc
drop_at (first ∷ clauses) zero clause is = let same : first ≡ clause = cc in ap (λ (c : List Literal). c ∷ clauses) same
drop_at (first ∷ clauses) (suc index) clause is = drop_at clauses index clause is

number_is : (number : ℕ) (clause : List Literal) (rest : List (List Literal)) → length clause ≡ 0 → first_empty number (axioms_of (clause ∷ rest)) ≡ Some number
number_is number [] rest none = refl
number_is number (literal ∷ clause) rest none = absurd (omega arith)

number_is_later : (number : ℕ) (clause : List Literal) (rest : List (List Literal)) → 0 < length clause →
    first_empty number (axioms_of (clause ∷ rest)) ≡ first_empty (number + 1) (axioms_of rest)
number_is_later number [] rest some = absurd (omega arith)
number_is_later number (literal ∷ clause) rest some = refl

pub found_here : (clauses : List (List Literal)) (index : ℕ) (clause : List Literal) → slice_get clauses index ≡ Some clause → length clause ≡ 0 →
    first_empty (index + 1) (axioms_of (drop index clauses)) ≡ Some (index + 1)
found_here clauses index clause is none =
    ap (λ (rest : List (List Literal)). first_empty (index + 1) (axioms_of rest)) (drop_at clauses index clause is) ∙
    number_is (index + 1) clause (drop (suc index) clauses) none

pub not_here : (clauses : List (List Literal)) (index : ℕ) (clause : List Literal) → slice_get clauses index ≡ Some clause → 0 < length clause →
    first_empty (index + 1) (axioms_of (drop index clauses)) ≡ first_empty ((index + 1) + 1) (axioms_of (drop (index + 1) clauses))
not_here clauses index clause is some =
    let next : drop (index + 1) clauses ≡ drop (suc index) clauses = ap (λ (n : ℕ). drop n clauses) (add-one index) in
    ap (λ (rest : List (List Literal)). first_empty (index + 1) (axioms_of rest)) (drop_at clauses index clause is) ∙
    number_is_later (index + 1) clause (drop (suc index) clauses) some ∙
    ap (λ (rest : List (List Literal)). first_empty ((index + 1) + 1) (axioms_of rest)) (sym next)
