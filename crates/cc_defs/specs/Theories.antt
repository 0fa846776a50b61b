-- Causal theories and their models (Giunchiglia, Lee, Lifschitz, McCain and Turner, Nonmonotonic causal theories, 2004).
use Rattle.std.specs.Prelude.{◌≡◌, ℕ, Bool, if◌then◌else◌, IsTrue, List, [], ◌∷◌}
use Rattle.std.specs.List.{list_all}
use Rattle.cc_defs.specs.Rows.{IsRow}

-- a causal rule: a head and a body, each a test of interpretations
pub record Rule : Type 0 where
  pub head : List ℕ → Bool
  pub body : List ℕ → Bool

-- the heads of the rules whose bodies the interpretation satisfies
abbrev pub reduct : List Rule → List ℕ → List (List ℕ → Bool)
reduct [] row = []
reduct (rule ∷ rules) row = if rule.body row then rule.head ∷ reduct rules row else reduct rules row

-- whether an interpretation satisfies each of the heads
abbrev pub satisfies : List ℕ → List (List ℕ → Bool) → Bool
satisfies row heads = list_all (λ head. head row) heads

-- a model: the only interpretation that satisfies the reduct of the theory under it
pub record IsModel (sizes : List ℕ) (rules : List Rule) (row : List ℕ) : Type 0 where
  pub interprets : IsRow sizes row
  pub satisfied : IsTrue (satisfies row (reduct rules row))
  pub only : (other : List ℕ) → IsRow sizes other → IsTrue (satisfies other (reduct rules row)) → other ≡ row
