-- The completion of the rules of a horizon, as a claim about rows.
use Rattle.std.specs.Prelude.{◌≡◌, ℕ, ◌<◌, Bool, List, slice_get, slice_index, Some, IsTrue, Contains}
use Rattle.cc_defs.specs.declared.node.GroundHead.{GroundHead}
use Rattle.cc_defs.specs.declared.node.GroundHead.TheVariants as heads
use Rattle.cc_defs.specs.Terms.{Ground, truth}
use Rattle.cc_defs.specs.TimedRules.{TimedRule}

-- the truth of a term of positions in a row
abbrev pub holds : List ℕ → Ground → Bool
holds row term = truth (λ position. slice_index row position) term

-- some rule with this head has its body
pub record IsCause (rules : List TimedRule) (row : List ℕ) (head : GroundHead) : Type 0 where
  pub rule : TimedRule
  pub member : Contains rules rule
  pub head_is : rule.head ≡ head
  pub body : IsTrue (holds row rule.body)

-- A row meets the completion of rules, over positions of these sizes: at each position with at least two values its own value
-- has a cause, and no other value has one; falsity has none. A position with one value needs no cause.
pub record MeetsCompletion (sizes : List ℕ) (rules : List TimedRule) (row : List ℕ) : Type 0 where
  pub caused : (position size : ℕ) → slice_get sizes position ≡ Some size → 1 < size → IsCause rules row (heads.Atom position (slice_index row position))
  pub only : (position size value : ℕ) → slice_get sizes position ≡ Some size → 1 < size → IsCause rules row (heads.Atom position value) →
      value ≡ slice_index row position
  pub denied : IsCause rules row heads.Falsity → ⊥
