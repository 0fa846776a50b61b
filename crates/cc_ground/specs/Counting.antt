-- The limits of grounding: how many environments laws have before their tests, how many lists of values are walked for their sums and
-- comparisons, and how many nodes their terms have.
use Rattle.std.specs.Prelude.{ℕ, ◌+◌, nat_lt, if◌then◌else◌, List, [], ◌∷◌, length, map, Option, Some, None}
use Rattle.cc_defs.specs.declared.refusal.LimitAt.TheVariants as limits
use Rattle.cc_defs.specs.declared.refusal.Refusal.{Refusal}
use Rattle.cc_defs.specs.declared.node.Node.{Node}
use Rattle.cc_defs.specs.Limits.{limit_number}
use Rattle.cc_defs.specs.Refusals.{past}
use Rattle.std.specs.List.{sum_by}
use Rattle.std.specs.Option.{option_or}
use Rattle.cc_defs.specs.Resolved.{BaseLaw, Condition, Formula, Query}
use Rattle.cc_defs.specs.Resolved as resolved
use Rattle.cc_defs.specs.Environments.{Instance, Under, Together, choices, instances, range_values, pairs_of}
use Rattle.cc_defs.specs.Judged.{choices_of}
use Rattle.cc_defs.specs.Satisfaction.{Environment, giving}
use Rattle.cc_defs.specs.GroundLaws.{PlainGroundLaw, PlainGroundCondition, PlainGroundQuery, ground_laws, ground_query}
use Rattle.cc_defs.specs.Universe.{boolean_actions, Universe}

-- lists of values of a law's ranges, or pairs of Boolean actions
abbrev pub instance_count : Universe → BaseLaw → ℕ
instance_count u (resolved.One law) = length (choices (map (range_values u) law.ranges))
instance_count u (resolved.NoConcurrency file line) = length (pairs_of (boolean_actions u))

abbrev pub instances_of_all : Universe → List BaseLaw → ℕ
instances_of_all u [] = 0
instances_of_all u (law ∷ laws) = instance_count u law + instances_of_all u laws

-- ---- lists of values

abbrev pub part_choices : Universe → Environment → Option Formula → ℕ
part_choices u env None = 0
part_choices u env (Some formula) = choices_of u env formula

abbrev pub instance_choices : Universe → Instance → ℕ
instance_choices u (Under base law values) = choices_of u (giving values) law.body + part_choices u (giving values) law.after
instance_choices u (Together base pair) = 0

-- of all instances of base laws
abbrev pub choices_of_all : Universe → List BaseLaw → ℕ
choices_of_all u laws = sum_by (instance_choices u) (instances u laws)

abbrev pub condition_choices : Universe → Condition → ℕ
condition_choices u condition = choices_of u (giving []) condition.formula

abbrev pub claim_choices : Universe → Option Condition → ℕ
claim_choices u None = 0
claim_choices u (Some claim) = condition_choices u claim

-- of a query: a condition counts once, whatever its step
abbrev pub choices_of_query : Universe → Query → ℕ
choices_of_query u query = sum_by (condition_choices u) query.conditions + claim_choices u query.claim

abbrev pub choice_refusal : ℕ → Option Refusal
choice_refusal count = if nat_lt (limit_number limits.Choices) count then Some (past limits.Choices) else None

-- ---- nodes

abbrev pub length_of_part : Option (List Node) → ℕ
length_of_part None = 0
length_of_part (Some nodes) = length nodes

-- the nodes of the terms of laws
abbrev pub nodes_in : List PlainGroundLaw → ℕ
nodes_in [] = 0
nodes_in (law ∷ laws) = length law.body + length_of_part law.after + nodes_in laws

abbrev pub nodes_of_conditions : List PlainGroundCondition → ℕ
nodes_of_conditions [] = 0
nodes_of_conditions (condition ∷ conditions) = length condition.nodes + nodes_of_conditions conditions

abbrev pub nodes_of_claim : Option PlainGroundCondition → ℕ
nodes_of_claim None = 0
nodes_of_claim (Some claim) = length claim.nodes

abbrev pub nodes_in_query : PlainGroundQuery → ℕ
nodes_in_query query = nodes_of_conditions query.conditions + nodes_of_claim query.claim

abbrev pub node_refusal : ℕ → Option Refusal
node_refusal count = if nat_lt (limit_number limits.GroundNodes) count then Some (past limits.GroundNodes) else None

-- the refusal of base laws: too many instances, then too many lists of values, then too many nodes
abbrev pub laws_refusal : Universe → List BaseLaw → Option Refusal
laws_refusal u laws =
    if nat_lt (limit_number limits.LawInstances) (instances_of_all u laws) then Some (past limits.LawInstances)
    else option_or (choice_refusal (choices_of_all u laws)) (node_refusal (nodes_in (ground_laws u laws)))

-- that of a query: too many lists of values, then too many nodes
abbrev pub query_refusal : Universe → ℕ × ℕ → Query → Option Refusal
query_refusal u range query = option_or (choice_refusal (choices_of_query u query)) (node_refusal (nodes_in_query (ground_query u range query)))
