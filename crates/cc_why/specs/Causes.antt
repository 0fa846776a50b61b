-- Why a position of a path has its value: the first rule of the theory, in its order, that causes it.
use Rattle.std.specs.Prelude.{ℕ, ◌+◌, ◌==◌, ◌&&◌, Bool, false, if◌then◌else◌, List, ◌++◌, length, map, flat_map, slice_index, Option, Some}
use Rattle.std.specs.List.{find}
use Rattle.std.specs.Option.{option_map}
use Rattle.cc_defs.specs.declared.node.GroundHead.{GroundHead}
use Rattle.cc_defs.specs.declared.node.GroundHead.TheVariants as heads
use Rattle.cc_defs.specs.Description.{Description, sizes_at}
use Rattle.cc_defs.specs.Environments.{Instance, Under, Together, instances}
use Rattle.cc_defs.specs.Rules.{upto}
use Rattle.cc_defs.specs.TimedRules.{TimedRule, all_initial_timed, timed_of_instance}
use Rattle.cc_theory.specs.Completion.{holds}
use Rattle.cc_why.specs.declared.cause.Cause.{Cause}
use Rattle.cc_why.specs.declared.cause.Cause.TheVariants as causes

-- a rule of a horizon, and where it comes from
pub record Sourced : Type 0 where
  pub cause : Cause
  pub rule : TimedRule

abbrev pub sourced : Cause → TimedRule → Sourced
sourced cause rule = record { cause = cause; rule = rule }

-- the base law that an instance is of
abbrev pub cause_of : Instance → Cause
cause_of (Under base law values) = causes.Law base
cause_of (Together base pair) = causes.Law base

abbrev pub sourced_at_step : Description → (horizon step : ℕ) → List Sourced
sourced_at_step d horizon step =
    flat_map (λ instance. map (sourced (cause_of instance)) (timed_of_instance d horizon step instance)) (instances d.universe d.laws)

-- the rules of a horizon in the order of the theory, each with where it comes from
abbrev pub sourced_rules : Description → ℕ → List Sourced
sourced_rules d horizon =
    map (sourced causes.Initial) (all_initial_timed 0 d.universe.fluents) ++ flat_map (sourced_at_step d horizon) (upto (horizon + 1))

-- the head is that the position has this value
abbrev pub is_atom_head : (position value : ℕ) → GroundHead → Bool
is_atom_head position value (heads.Atom other index) = (other == position) && (index == value)
is_atom_head position value heads.Falsity = false

-- the rule causes the value that the row has at the position
abbrev pub is_reason : List ℕ → ℕ → Sourced → Bool
is_reason row position one = is_atom_head position (slice_index row position) one.rule.head && holds row one.rule.body

-- Why a row has its value at a position: the constant has no other one, or the first rule that causes it.
abbrev pub cause_at : Description → ℕ → List ℕ → ℕ → Option Cause
cause_at d horizon row position =
    if slice_index (sizes_at d horizon) position == 1 then Some causes.OneValue
    else option_map (λ one. one.cause) (find (is_reason row position) (sourced_rules d horizon))

-- for each position in order
abbrev pub causes_at : Description → ℕ → List ℕ → List (Option Cause)
causes_at d horizon row = map (cause_at d horizon row) (upto (length row))
