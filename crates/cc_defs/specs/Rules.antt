-- The causal theory of a horizon.
use Rattle.std.specs.Prelude.{ℕ, ◌+◌, ◌&&◌, ◌==◌, if◌then◌else◌, nat_lt, List, [], ◌∷◌, ◌++◌, length, map, flat_map, slice_index, Option, Some, None, true, false, Bool}
use Rattle.cc_defs.specs.declared.signature.Const.{Const}
use Rattle.cc_defs.specs.declared.signature.Kind.{Kind}
use Rattle.cc_defs.specs.declared.signature.Kind.TheVariants as kinds
use Rattle.cc_defs.specs.declared.signature.LawKind.{LawKind}
use Rattle.cc_defs.specs.declared.signature.LawKind.TheVariants as law_kinds
pub use Rattle.cc_defs.specs.Declarations.{upto}
use Rattle.cc_defs.specs.Description.{Description, values_at}
use Rattle.cc_defs.specs.Environments.{Instance, Under, Together, instances}
use Rattle.cc_defs.specs.Resolved.{Formula, Law}
use Rattle.cc_defs.specs.Satisfaction.{Environment, giving, satisfied, head_satisfied}
use Rattle.cc_defs.specs.Theories.{Rule}

-- Each value of a simple fluent at step 0 is a cause of itself.
abbrev pub initial_rule : ℕ → ℕ → Rule
initial_rule number value = record { head = λ row. slice_index row number == value; body = λ row. slice_index row number == value }

abbrev pub initial_rules_of : Kind → ℕ → ℕ → List Rule
initial_rules_of kinds.Simple number size = map (initial_rule number) (upto size)
initial_rules_of kinds.Determined number size = []
initial_rules_of kinds.Action number size = []

abbrev pub initial_rules : ℕ → List Const → List Rule
initial_rules number [] = []
initial_rules number (constant ∷ constants) = initial_rules_of constant.kind number (length constant.domain) ++ initial_rules (number + 1) constants

-- the truth of an optional part of a law at a step; a part that is not written is true
abbrev pub part_satisfied : Description → Environment → List ℕ → ℕ → Option Formula → Bool
part_satisfied d env row step None = true
part_satisfied d env row step (Some formula) = satisfied d.universe (values_at d row step) env formula

-- a law under an environment: head and `if` part at one step, `after` part at another
abbrev pub rule_at : Description → Law → Environment → ℕ → ℕ → Rule
rule_at d law env now before = record {
  head = λ row. head_satisfied d.universe (values_at d row now) env law.head;
  body = λ row. satisfied d.universe (values_at d row now) env law.body && part_satisfied d env row before law.after;
}

-- the rules of a law under an environment at a step of a horizon: a static law at each step, a dynamic one at each but the last
abbrev pub rules_of_kind : LawKind → Description → ℕ → Law → ℕ → Environment → List Rule
rules_of_kind law_kinds.Static d horizon law step env = rule_at d law env step step ∷ []
rules_of_kind law_kinds.ActionDynamic d horizon law step env = if nat_lt step horizon then rule_at d law env step step ∷ [] else []
rules_of_kind law_kinds.FluentDynamic d horizon law step env = if nat_lt step horizon then rule_at d law env (step + 1) step ∷ [] else []

-- `caused false after a & b` for two Boolean actions, whose value `true` has the index 1
abbrev pub not_together : Description → ℕ → ℕ × ℕ → Rule
not_together d step pair = record {
  head = λ row. false;
  body = λ row. (values_at d row step pair.0 == 1) && (values_at d row step pair.1 == 1);
}

-- those of an instance
abbrev pub rules_of_instance : Description → ℕ → ℕ → Instance → List Rule
rules_of_instance d horizon step (Under base law values) = rules_of_kind law.kind d horizon law step (giving values)
rules_of_instance d horizon step (Together base pair) = if nat_lt step horizon then not_together d step pair ∷ [] else []

abbrev pub rules_at_step : Description → ℕ → ℕ → List Rule
rules_at_step d horizon step = flat_map (rules_of_instance d horizon step) (instances d.universe d.laws)

-- the theory of a horizon: the initial rules, then step by step the rules of each instance
abbrev pub rules_at : Description → ℕ → List Rule
rules_at d horizon = initial_rules 0 d.universe.fluents ++ flat_map (rules_at_step d horizon) (upto (horizon + 1))
