-- What is asked of a query and a key at a horizon.
use Rattle.std.specs.Prelude.{◌≡◌, ◌≤◌, ℕ, ◌*◌, Bool, List, map, Option, IfSome}
use Rattle.std.specs.List.{AllByRecursion}
use Rattle.std.specs.Option.{option_map}
use Rattle.cc_defs.specs.Limits.{most_steps}
use Rattle.cc_defs.specs.declared.lists.Key.{Key}
use Rattle.cc_defs.specs.declared.node.Node.{Node}
use Rattle.cc_defs.specs.GroundLaws.{PlainGroundCondition, PlainGroundQuery}
use Rattle.cc_defs.specs.Histories.{step_of}
use Rattle.cc_defs.specs.Rows.{IsRow}
use Rattle.cc_defs.specs.Signatures.{Signature}
use Rattle.cc_defs.specs.ClauseLists.{ClauseList, key_terms}
use Rattle.cc_defs.specs.Terms.{IsTermOver, postfix}
use Rattle.cc_theory.specs.Making.{stride_of}
use Rattle.cc_theory.specs.Theories.{IsTermAt, PlainTheory}
use Rattle.cc_form.specs.Making.{list_over, nodes_if}
use Rattle.cc_form.specs.Machine.{moved_nodes}
use Rattle.cc_form.specs.Places.{position_sizes}

-- a condition speaks of constants that its step has
abbrev pub IsConditionAt : Signature → ℕ → PlainGroundCondition → Type 0
IsConditionAt signature horizon condition = IsTermAt signature horizon (step_of condition.at horizon) condition.nodes

pub record IsQueryAt (signature : Signature) (horizon : ℕ) (query : PlainGroundQuery) : Type 0 where
  pub conditions : AllByRecursion (IsConditionAt signature horizon) query.conditions
  pub claim : IfSome query.claim (IsConditionAt signature horizon)

-- a key is of the horizon, and has an index for each position, below the number of its values
pub record IsKeyAt (signature : Signature) (horizon : ℕ) (key : Key) : Type 0 where
  pub horizon_is : key.horizon ≡ horizon
  pub row : IsRow (position_sizes signature horizon) key.row

-- the nodes of a condition over the positions of its step
abbrev pub condition_nodes : (stride horizon : ℕ) → PlainGroundCondition → List Node
condition_nodes stride horizon condition = moved_nodes (step_of condition.at horizon * stride) condition.nodes

-- a condition is a term over the positions of its step, which is one of a horizon
abbrev pub IsOverPlaces : List ℕ → (stride horizon : ℕ) → PlainGroundCondition → Type 0
IsOverPlaces sizes stride horizon condition = (step_of condition.at horizon ≤ most_steps) × IsTermOver sizes (condition_nodes stride horizon condition)

-- the clause list of a section of a theory
abbrev pub section_list : PlainTheory → PlainGroundQuery → (with_claim : Bool) → Option Key → ClauseList
section_list theory query with_claim key =
    let sizes = position_sizes theory.signature theory.horizon
    in let stride = stride_of theory.signature
    in list_over sizes stride theory.rules (map (condition_nodes stride theory.horizon) query.conditions)
    (nodes_if with_claim (option_map (condition_nodes stride theory.horizon) query.claim)) (map postfix (key_terms sizes key))
