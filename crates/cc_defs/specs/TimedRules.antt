-- The rules of a horizon as data: a head, and a body that is a term whose constants are the positions of the horizon.
use Rattle.std.specs.Prelude.{ℕ, ◌+◌, ◌*◌, nat_lt, if◌then◌else◌, List, [], ◌∷◌, ◌++◌, length, map, flat_map, Option, Some, None}
use Rattle.cc_defs.specs.declared.node.GroundHead.{GroundHead}
use Rattle.cc_defs.specs.declared.node.GroundHead.TheVariants as heads
use Rattle.cc_defs.specs.declared.signature.Const.{Const}
use Rattle.cc_defs.specs.declared.signature.Kind.{Kind}
use Rattle.cc_defs.specs.declared.signature.Kind.TheVariants as kinds
use Rattle.cc_defs.specs.declared.signature.LawKind.{LawKind}
use Rattle.cc_defs.specs.declared.signature.LawKind.TheVariants as law_kinds
use Rattle.cc_defs.specs.Description.{Description, stride}
use Rattle.cc_defs.specs.Environments.{Instance, Under, Together, instances}
use Rattle.cc_defs.specs.GroundLaws.{ground_head}
use Rattle.cc_defs.specs.Nodes.{term_of}
use Rattle.cc_defs.specs.Resolved.{Formula, Law}
use Rattle.cc_defs.specs.Rules.{upto}
use Rattle.cc_defs.specs.Satisfaction.{Environment, giving}
use Rattle.cc_defs.specs.Terms.{Ground, Operands, all_of}
use Rattle.cc_defs.specs.Terms as terms

-- the head is an atom of a position and a value index, or falsity
pub record TimedRule : Type 0 where
  pub head : GroundHead
  pub body : Ground

-- ---- a term at a step: each constant is the position that it has there

abbrev mutual
  pub moved : ℕ → Ground → Ground
  moved by terms.Truth = terms.Truth
  moved by terms.Falsehood = terms.Falsehood
  moved by (terms.Atom constant value) = terms.Atom (by + constant) value
  moved by (terms.Not f) = terms.Not (moved by f)
  moved by (terms.All operands) = terms.All (moved_operands by operands)
  moved by (terms.Any operands) = terms.Any (moved_operands by operands)
  moved by (terms.Same f g) = terms.Same (moved by f) (moved by g)

  pub moved_operands : ℕ → Operands → Operands
  moved_operands by terms.nothing = terms.nothing
  moved_operands by (terms.and_then operands last) = terms.and_then (moved_operands by operands) (moved by last)

abbrev pub at_step : Description → ℕ → Ground → Ground
at_step d step formula = moved (step * stride d) formula

abbrev pub head_at_step : Description → ℕ → GroundHead → GroundHead
head_at_step d step (heads.Atom constant value) = heads.Atom (step * stride d + constant) value
head_at_step d step heads.Falsity = heads.Falsity

-- ---- bodies

-- Of an `if` part and an `after` part, each of which may be the formula `true`, which asks nothing.
abbrev pub joined_parts : Ground → Ground → Ground
joined_parts terms.Truth before = before
joined_parts now terms.Truth = now
joined_parts now before = all_of (now ∷ before ∷ [])

abbrev pub part_at : Description → Environment → ℕ → Option Formula → Ground
part_at d env step None = terms.Truth
part_at d env step (Some formula) = at_step d step (term_of d.universe env formula)

-- ---- rules

-- each value of a simple fluent at step 0 is a cause of itself
abbrev pub initial_timed : Kind → ℕ → ℕ → List TimedRule
initial_timed kinds.Simple number size = map (λ value. record { head = heads.Atom number value; body = terms.Atom number value }) (upto size)
initial_timed kinds.Determined number size = []
initial_timed kinds.Action number size = []

abbrev pub all_initial_timed : ℕ → List Const → List TimedRule
all_initial_timed number [] = []
all_initial_timed number (constant ∷ constants) = initial_timed constant.kind number (length constant.domain) ++ all_initial_timed (number + 1) constants

-- a law under an environment: head and `if` part at one step, `after` part at another; there is one where its head is there
abbrev pub timed_with : Description → Law → Environment → ℕ → ℕ → Option GroundHead → List TimedRule
timed_with d law env now before None = []
timed_with d law env now before (Some head) = record {
  head = head_at_step d now head;
  body = joined_parts (at_step d now (term_of d.universe env law.body)) (part_at d env before law.after);
} ∷ []

abbrev pub timed_at : Description → Law → Environment → ℕ → ℕ → List TimedRule
timed_at d law env now before = timed_with d law env now before (ground_head d.universe env law.head)

-- a static law at each step, a dynamic one at each step but the last
abbrev pub timed_of_kind : LawKind → Description → ℕ → Law → ℕ → Environment → List TimedRule
timed_of_kind law_kinds.Static d horizon law step env = timed_at d law env step step
timed_of_kind law_kinds.ActionDynamic d horizon law step env = if nat_lt step horizon then timed_at d law env step step else []
timed_of_kind law_kinds.FluentDynamic d horizon law step env = if nat_lt step horizon then timed_at d law env (step + 1) step else []

-- `caused false after a & b`
abbrev pub timed_together : Description → ℕ → ℕ × ℕ → TimedRule
timed_together d step pair = record { head = heads.Falsity; body = at_step d step (all_of (terms.Atom pair.0 1 ∷ terms.Atom pair.1 1 ∷ [])) }

abbrev pub timed_of_instance : Description → ℕ → ℕ → Instance → List TimedRule
timed_of_instance d horizon step (Under base law values) = timed_of_kind law.kind d horizon law step (giving values)
timed_of_instance d horizon step (Together base pair) = if nat_lt step horizon then timed_together d step pair ∷ [] else []

-- the rules of a horizon, in the order of the theory: the initial ones, then step by step those of each instance
abbrev pub timed_rules : Description → ℕ → List TimedRule
timed_rules d horizon = all_initial_timed 0 d.universe.fluents
    ++ flat_map (λ step. flat_map (timed_of_instance d horizon step) (instances d.universe d.laws)) (upto (horizon + 1))
