-- What is chosen next where an assignment is closed: some value of each position is not false.
use Rattle.std.proofs.Common.{◌≡◌, ℕ, ◌+◌, ◌<◌, zero, suc, inl, inr, false, List, [], ◌∷◌, map, Some, refl, subst, arith}
use Rattle.std.specs.Prelude.{Contains}
use Rattle.std.proofs.lemmas.List.Elements.{Contains-append_right, Contains-push_cases}
use Rattle.cc_defs.specs.Assignments.{Values, IsClosed, IsFailed, IsFalseIn}
use Rattle.cc_defs.specs.ClauseForms.{positive}
use Rattle.cc_defs.specs.ClauseLists.{exactly_one, position_variables, positions_from}
use Rattle.cc_defs.specs.Clauses.{Literal}
use Rattle.cc_defs.specs.Rules.{upto}

from_map : {A B : Type 0} (f : A → B) (xs : List A) (y : B) → Contains (map f xs) y → (x : A) × Contains xs x × (f x ≡ y)
from_map f [] y (k, within, is) = absurd (omega arith)
from_map f (x ∷ xs) y (zero, within, is) = (x, (0, omega arith, refl), is)
from_map {A = A} f (x ∷ xs) y (suc k, within, is) = behind (from_map f xs y (k, omega arith, is))
  where
    behind : (z : A) × Contains xs z × (f z ≡ y) → (z : A) × Contains (x ∷ xs) z × (f z ≡ y)
    behind (z, (j, low, same), e) = (z, (suc j, omega arith, same), e)

below_upto : (n k : ℕ) → Contains (upto n) k → k < n
below_upto zero k (j, low, is) = absurd (omega arith)
below_upto (suc n) k here = elim (Contains-push_cases (upto n) n k here) [
  | inl before ↦ let low = below_upto n k before in omega arith
  | inr same ↦ omega arith
]

pub not_all_false : (values : Values) (clauses : List (List Literal)) (first size : ℕ) → IsClosed values clauses → Contains clauses (position_variables first size) →
    ((value : ℕ) → value < size → values (first + value) ≡ Some false) → ⊥
not_all_false values clauses first size closed here all = closed.none_failed (position_variables first size) here failed
  where
    failed : IsFailed values (position_variables first size)
    failed literal inside =
        let (value, there, is) = from_map (λ value. positive (first + value)) (upto size) literal inside in
        subst (λ (l : Literal). IsFalseIn values l) is (all value (below_upto size value there))

-- the clauses of the first position, and those of the others
pub first_there : (clauses : List (List Literal)) (first size : ℕ) (sizes : List ℕ) →
    ((clause : List Literal) → Contains (positions_from first (size ∷ sizes)) clause → Contains clauses clause) →
    Contains clauses (position_variables first size) × ((clause : List Literal) → Contains (positions_from (first + size) sizes) clause → Contains clauses clause)
first_there clauses first size sizes all = (
  all (position_variables first size) (0, omega arith, refl),
  (λ clause here. all clause (Contains-append_right (exactly_one (position_variables first size)) (positions_from (first + size) sizes) clause here)),
)
