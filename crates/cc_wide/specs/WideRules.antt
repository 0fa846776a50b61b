-- The causal theory of a horizon where heads are formulas of any form, and the histories that it has.
use Rattle.std.specs.Prelude.{◌≡◌, ◌≢◌, ℕ, ◌+◌, ◌&&◌, if◌then◌else◌, nat_lt, IsTrue, List, [], ◌∷◌, ◌++◌, map, flat_map}
use Rattle.std.specs.List.{filter}
use Rattle.cc_defs.specs.declared.signature.LawKind.{LawKind}
use Rattle.cc_defs.specs.declared.signature.LawKind.TheVariants as law_kinds
use Rattle.cc_defs.specs.Description.{Description, sizes_at, values_at}
use Rattle.cc_defs.specs.Environments.{choices, has_instance, pairs_of, range_values}
use Rattle.cc_defs.specs.Histories.{Meets}
use Rattle.cc_defs.specs.Resolved.{Query}
use Rattle.cc_defs.specs.Rows.{IsRow}
use Rattle.cc_defs.specs.Rules.{initial_rules, not_together, part_satisfied, upto}
use Rattle.cc_defs.specs.Satisfaction.{Environment, giving, satisfied}
use Rattle.cc_defs.specs.Theories.{IsModel, Rule, reduct, satisfies}
use Rattle.cc_defs.specs.Universe.{Universe, boolean_actions}
use Rattle.cc_wide.specs.WideLaws.{WideBase, One, NoConcurrency, WideDescription, WideLaw, frame, frame_law}

-- ---- instances: the base law of this number under an environment; or two Boolean actions that are not done at once

pub data WideInstance : Type 0 where
  Under : (base : ℕ) → WideLaw → (values : List ℕ) → WideInstance
  Together : (base : ℕ) → (pair : ℕ × ℕ) → WideInstance

-- A law has an instance where its test is true; where its head is one definite atom, that has to be there.
abbrev pub wide_environments : Universe → WideLaw → List (List ℕ)
wide_environments u law = filter (has_instance u (frame_law law)) (choices (map (range_values u) law.ranges))

abbrev pub wide_instances_of : Universe → ℕ → WideBase → List WideInstance
wide_instances_of u base (One law) = map (Under base law) (wide_environments u law)
wide_instances_of u base (NoConcurrency file line) = map (Together base) (pairs_of (boolean_actions u))

abbrev pub wide_instances_from : Universe → ℕ → List WideBase → List WideInstance
wide_instances_from u base [] = []
wide_instances_from u base (law ∷ laws) = wide_instances_of u base law ++ wide_instances_from u (base + 1) laws

abbrev pub wide_instances : WideDescription → List WideInstance
wide_instances w = wide_instances_from w.universe 0 w.laws

-- ---- rules: head and `if` part at one step, `after` part at another; an atom of a head that is not there is false

abbrev pub wide_rule_at : Description → WideLaw → Environment → (now before : ℕ) → Rule
wide_rule_at d law env now before = record {
  head = λ row. satisfied d.universe (values_at d row now) env law.head;
  body = λ row. satisfied d.universe (values_at d row now) env law.body && part_satisfied d env row before law.after;
}

-- a static law at each step, a dynamic one at each but the last
abbrev pub wide_rules_of_kind : LawKind → Description → (horizon : ℕ) → WideLaw → (step : ℕ) → Environment → List Rule
wide_rules_of_kind law_kinds.Static d horizon law step env = wide_rule_at d law env step step ∷ []
wide_rules_of_kind law_kinds.ActionDynamic d horizon law step env = if nat_lt step horizon then wide_rule_at d law env step step ∷ [] else []
wide_rules_of_kind law_kinds.FluentDynamic d horizon law step env = if nat_lt step horizon then wide_rule_at d law env (step + 1) step ∷ [] else []

abbrev pub wide_rules_of_instance : Description → (horizon step : ℕ) → WideInstance → List Rule
wide_rules_of_instance d horizon step (Under base law values) = wide_rules_of_kind law.kind d horizon law step (giving values)
wide_rules_of_instance d horizon step (Together base pair) = if nat_lt step horizon then not_together d step pair ∷ [] else []

-- the theory of a horizon: the initial rules, then step by step the rules of each instance
abbrev pub wide_rules_at : WideDescription → ℕ → List Rule
wide_rules_at w horizon = initial_rules 0 w.universe.fluents
    ++ flat_map (λ step. flat_map (wide_rules_of_instance (frame w) horizon step) (wide_instances w)) (upto (horizon + 1))

abbrev pub wide_sizes : WideDescription → ℕ → List ℕ
wide_sizes w horizon = sizes_at (frame w) horizon

-- a history: a model of the theory of its horizon that satisfies the query
pub record IsGeneral (w : WideDescription) (q : Query) (horizon : ℕ) (row : List ℕ) : Type 0 where
  pub model : IsModel (wide_sizes w horizon) (wide_rules_at w horizon) row
  pub meets : Meets (frame w) q horizon row

-- ---- how models are found: a candidate satisfies its own reduct, and a rival of it is another row that does so

pub record IsCandidate (w : WideDescription) (q : Query) (horizon : ℕ) (row : List ℕ) : Type 0 where
  pub interprets : IsRow (wide_sizes w horizon) row
  pub satisfied : IsTrue (satisfies row (reduct (wide_rules_at w horizon) row))
  pub meets : Meets (frame w) q horizon row

pub record IsRival (w : WideDescription) (horizon : ℕ) (row other : List ℕ) : Type 0 where
  pub interprets : IsRow (wide_sizes w horizon) other
  pub satisfied : IsTrue (satisfies other (reduct (wide_rules_at w horizon) row))
  pub differs : other ≢ row
