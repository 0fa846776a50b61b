-- What formulas are at their outermost.
use Rattle.std.specs.Prelude.{ℕ, Bool, true, false, not, ◌&&◌, ◌||◌, List, Option}
use Rattle.std.specs.Bool.{beq}
use Rattle.std.specs.List.{list_all, list_any}
use Rattle.cc_defs.specs.declared.node.Node.{Node}
use Rattle.cc_defs.specs.declared.node.Node.TheVariants as nodes
use Rattle.cc_defs.specs.Resolved.{Formula, Term}
use Rattle.cc_defs.specs.Resolved as resolved
use Rattle.cc_defs.specs.Satisfaction.{Value, at_most_value, less_value, same_value}
use Rattle.cc_ground.specs.declared.outermost.Joint.{Joint}
use Rattle.cc_ground.specs.declared.outermost.Joint.TheVariants as joints
use Rattle.cc_ground.specs.declared.pieces.Sign.{Sign}
use Rattle.cc_ground.specs.declared.pieces.Sign.TheVariants as signs

-- what stands between the sides of an equation or comparison
abbrev pub sign_of : Formula → Sign
sign_of (resolved.Equal s t) = signs.Equal
sign_of (resolved.Less s t) = signs.Less
sign_of formula = signs.AtMost

-- how the parts of a formula of two are joined
abbrev pub joint_of : Formula → Joint
joint_of (resolved.Both f g) = joints.Both
joint_of (resolved.Either f g) = joints.Either
joint_of (resolved.Implies f g) = joints.Implies
joint_of formula = joints.Same

abbrev pub joined_truth : Joint → Bool → Bool → Bool
joined_truth joints.Both a b = a && b
joined_truth joints.Either a b = a || b
joined_truth joints.Implies a b = not a || b
joined_truth joints.Same a b = beq a b

abbrev pub is_for_all : Formula → Bool
is_for_all (resolved.ForAll variable sort f) = true
is_for_all formula = false

abbrev pub is_minus : Term → Bool
is_minus (resolved.Minus s t) = true
is_minus term = false

-- the node of a formula that joins so many operands
abbrev pub joining_node : Formula → ℕ → Node
joining_node (resolved.Both f g) count = nodes.All count
joining_node (resolved.ForAll variable sort f) count = nodes.All count
joining_node (resolved.Either f g) count = nodes.Any count
joining_node (resolved.Exists variable sort f) count = nodes.Any count
joining_node formula count = nodes.Same

-- how values stand to one another
abbrev pub stand_values : Sign → Option Value → Option Value → Bool
stand_values signs.Equal = same_value
stand_values signs.Less = less_value
stand_values signs.AtMost = at_most_value

-- for all, or for some
abbrev pub bracket_truth : Bool → (ℕ → Bool) → List ℕ → Bool
bracket_truth true p objects = list_all p objects
bracket_truth false p objects = list_any p objects
