-- A law of declarations.
use Rattle.std.specs.Prelude.{◌≡◌, ℕ, Bool, true, List}
use Rattle.std.specs.List.{AllByRecursion}
use Rattle.cc_defs.specs.Declarations.{Pair, is_below}

-- a relation in which each sort stands to itself, which goes on, and in which the lower sort of each pair stands to the upper
pub record IsOrderOf (pairs : List Pair) (below : List ℕ → List ℕ → Bool) : Type 0 where
  pub itself : (sort : List ℕ) → below sort sort ≡ true
  pub goes_on : (lower middle upper : List ℕ) → below lower middle ≡ true → below middle upper ≡ true → below lower upper ≡ true
  pub each : AllByRecursion (λ pair. below pair.1 pair.0 ≡ true) pairs

-- `is_below` is the least of these
abbrev pub BelowIsLeast : Type 0
BelowIsLeast = (pairs : List Pair) → IsOrderOf pairs (is_below pairs)
    × ((below : List ℕ → List ℕ → Bool) → IsOrderOf pairs below → (lower upper : List ℕ) → is_below pairs lower upper ≡ true → below lower upper ≡ true)
