-- What rules ask of a row: that it has their positions, and which of their heads and bodies are true in it.
use Rattle.std.specs.Prelude.{ℕ, ◌-◌, ◌*◌, ◌<◌, ◌≤◌, ◌%◌, nat_lt, Bool, false, not, ◌&&◌, ◌||◌, List, length, slice_get, slice_index, Option, Some, None, IfSome}
use Rattle.std.specs.List.{list_any}
use Rattle.cc_arena.specs.Meanings.{head_truth}
use Rattle.cc_defs.specs.declared.node.GroundHead.{GroundHead}
use Rattle.cc_defs.specs.declared.node.Node.{Node}
use Rattle.cc_defs.specs.declared.signature.Const.{Const}
use Rattle.cc_defs.specs.Signatures.{Signature, ground_constants}
use Rattle.cc_defs.specs.Terms.{IsTerm}
use Rattle.cc_defs.specs.TimedRules.{TimedRule}
use Rattle.cc_theory.specs.Completion.{holds}
use Rattle.cc_theory.specs.Theories.{IsAtom}
use Rattle.cc_theory.specs.declared.rule.Timed.{Timed}
use Rattle.cc_theory.specs.declared.rule.TimedHead.{TimedHead}
use Rattle.cc_theory.specs.declared.rule.TimedHead.TheVariants as timed_heads
use Rattle.cc_theory.specs.declared.rule.TimedRule as made
use Rattle.cc_why.specs.Causes.{is_atom_head}

-- ---- rules of a row

-- a term whose constants a row of so many positions has from one of them on
pub record IsTermFrom (count start : ℕ) (nodes : List Node) : Type 0 where
  pub within : start ≤ count
  pub term : IsTerm (count - start) nodes

-- an atom of one of so many positions, or falsity
abbrev pub IsHeadIn : ℕ → TimedHead → Type 0
IsHeadIn count (timed_heads.Atom position value) = position < count
IsHeadIn count timed_heads.Falsity = Unit {0}

-- a part of a body, if there is one, whose constants a row has from its step on, with so many positions from step to step
abbrev pub IsPartIn : (count stride : ℕ) → Option Timed → Type 0
IsPartIn count stride part = IfSome part (λ timed. IsTermFrom count (timed.step * stride) timed.nodes.now)

-- a rule of a row of so many positions
pub record IsRuleIn (count stride : ℕ) (rule : made.TimedRule) : Type 0 where
  pub head : IsHeadIn count rule.head
  pub now : IsPartIn count stride rule.now
  pub before : IsPartIn count stride rule.before

-- ---- heads and bodies

-- a row has the atom of a head
abbrev pub has_head : List ℕ → GroundHead → Bool
has_head row head = head_truth (λ position. slice_index row position) head

-- a row meets a rule: it has the rule's head, or the body is not true
abbrev pub meets : List ℕ → TimedRule → Bool
meets row rule = not (holds row rule.body) || has_head row rule.head

-- the body of a rule that may be missing
abbrev pub holds_in : List ℕ → Option TimedRule → Bool
holds_in row (Some rule) = holds row rule.body
holds_in row None = false

-- the rule causes the value that a row has at a position
abbrev pub is_cause : List ℕ → ℕ → TimedRule → Bool
is_cause row position rule = is_atom_head position (slice_index row position) rule.head && holds row rule.body

-- ---- positions

-- a row has an atom of the horizon at each of its positions
abbrev pub AreAtoms : Signature → ℕ → List ℕ → Type 0
AreAtoms signature horizon row = (position : ℕ) → position < length row → IsAtom signature horizon position (slice_index row position)

abbrev pub size_of : Option Const → ℕ
size_of (Some constant) = length constant.domain
size_of None = 0

-- how many values the constant at a position has
abbrev pub size_at : Signature → ℕ → ℕ
size_at signature position = size_of (slice_get (ground_constants signature) (position % length (ground_constants signature)))

-- the constant of a position has no two values, or one of the rules causes the one that a row has there
abbrev pub is_settled : Signature → List TimedRule → List ℕ → ℕ → Bool
is_settled signature rules row position = not (nat_lt 1 (size_at signature position)) || list_any (is_cause row position) rules
