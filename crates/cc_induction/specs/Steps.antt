-- The ground query of a step: its nodes, made of those of a ground query.
use Rattle.std.specs.Prelude.{ℕ, List, [], ◌∷◌, ◌++◌, Option, Some, None, map, filter, if◌then◌else◌}
use Rattle.cc_defs.specs.declared.node.Node.{Node}
use Rattle.cc_defs.specs.declared.node.Node.TheVariants as nodes
use Rattle.cc_defs.specs.declared.signature.At.TheVariants.{Number}
use Rattle.cc_defs.specs.Declarations.{upto}
use Rattle.cc_defs.specs.GroundLaws.{PlainGroundCondition, PlainGroundQuery}
use Rattle.cc_induction.specs.Induction.{is_at_last}

-- the nodes of formulas that are joined by `&`, and of one more
abbrev pub joined_with : Option (List Node) → List Node → List Node
joined_with None others = others
joined_with (Some before) others = before ++ others ++ nodes.All 2 ∷ []

-- those of conditions at the last step, behind others
abbrev pub joined_nodes : Option (List Node) → List PlainGroundCondition → Option (List Node)
joined_nodes before [] = before
joined_nodes before (condition ∷ conditions) = joined_nodes (if is_at_last condition.at then Some (joined_with before condition.nodes) else before) conditions

abbrev pub nodes_at_last : Option PlainGroundCondition → Option (List Node)
nodes_at_last None = None
nodes_at_last (Some condition) = if is_at_last condition.at then Some condition.nodes else None

-- those of the formula that a state is none that is looked for
abbrev pub none_sought_nodes : (conditions claim : Option (List Node)) → List Node
none_sought_nodes (Some conditions) (Some claim) = conditions ++ nodes.Not ∷ [] ++ claim ++ nodes.Any 2 ∷ []
none_sought_nodes None (Some claim) = claim
none_sought_nodes (Some conditions) None = conditions ++ nodes.Not ∷ []
none_sought_nodes None None = nodes.False ∷ []

abbrev pub none_sought_in : PlainGroundQuery → List Node
none_sought_in query = none_sought_nodes (joined_nodes None query.conditions) (nodes_at_last query.claim)

abbrev pub ground_at_last : Option PlainGroundCondition → Option PlainGroundCondition
ground_at_last None = None
ground_at_last (Some condition) = if is_at_last condition.at then Some condition else None

abbrev pub earlier_conditions : List Node → ℕ → List PlainGroundCondition
earlier_conditions none count = map (λ step. record { at = Number step; nodes = none }) (upto count)

abbrev pub later_conditions : List PlainGroundCondition → List PlainGroundCondition
later_conditions conditions = filter (λ condition. is_at_last condition.at) conditions

abbrev pub ground_step : PlainGroundQuery → ℕ → PlainGroundQuery
ground_step query count = record {
  lo = count;
  hi = count;
  conditions = earlier_conditions (none_sought_in query) count ++ later_conditions query.conditions;
  claim = ground_at_last query.claim;
}
