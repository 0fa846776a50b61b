-- The rules of a horizon as they are made from laws whose terms are nodes: a middle term between the loops and the rules of a
-- description.
use Rattle.std.specs.Prelude.{◌≡◌, ℕ, zero, suc, ◌+◌, ◌*◌, ◌≤◌, nat_lt, if◌then◌else◌, List, [], ◌∷◌, ◌++◌, length, flat_map, Option, Some, None, IfSome}
use Rattle.std.specs.List.{AllByRecursion}
use Rattle.std.specs.Option.{option_map}
use Rattle.cc_arena.specs.declared.ground_laws.GroundCondition.{GroundCondition}
use Rattle.cc_defs.specs.declared.node.Node.{Node}
use Rattle.cc_defs.specs.declared.node.Node.TheVariants as nodes
use Rattle.cc_defs.specs.declared.refusal.LimitAt.TheVariants as limits
use Rattle.cc_defs.specs.declared.refusal.Refusal.{Refusal}
use Rattle.cc_defs.specs.declared.signature.LawKind.{LawKind}
use Rattle.cc_defs.specs.declared.signature.LawKind.TheVariants as law_kinds
use Rattle.cc_defs.specs.Histories.{step_of}
use Rattle.cc_defs.specs.Limits.{most_rules}
use Rattle.cc_defs.specs.Refusals.{past}
use Rattle.cc_defs.specs.Rules.{upto}
use Rattle.cc_defs.specs.Signatures.{Signature}
use Rattle.cc_defs.specs.Terms.{Ground, Operands, Fits, nothing, and_then, postfix}
use Rattle.cc_defs.specs.Terms as terms
use Rattle.cc_defs.specs.TimedRules.{moved}
use Rattle.cc_form.specs.Machine.{moved_nodes}
use Rattle.cc_rivals.specs.declared.timed.Placed.{Placed}
use Rattle.cc_rivals.specs.declared.timed.PlacedRule.{PlacedRule}
use Rattle.cc_theory.specs.Making.{stride_of}
use Rattle.cc_wide.specs.declared.ground.WideGroundLaw.{WideGroundLaw}
use Rattle.cc_wide.specs.WideLists.{WideTimed, all_initial_wide}

-- ---- the formula of nodes: each node takes the formulas of its operands from a stack, and puts its own there

pub record Popped : Type 0 where
  pub operands : Operands
  pub below : List Ground

-- so many operands from a stack, on which the last of them lies
abbrev pub popped : ℕ → List Ground → Popped
popped zero stack = record { operands = nothing; below = stack }
popped (suc count) [] = record { operands = nothing; below = [] }
popped (suc count) (formula ∷ stack) =
    let others = popped count stack
    in record { operands = and_then others.operands formula; below = others.below }

abbrev pub top : List Ground → Ground
top [] = terms.Truth
top (formula ∷ stack) = formula

abbrev pub under : List Ground → List Ground
under [] = []
under (formula ∷ stack) = stack

abbrev pub with_node : Node → List Ground → List Ground
with_node nodes.True stack = terms.Truth ∷ stack
with_node nodes.False stack = terms.Falsehood ∷ stack
with_node (nodes.Atom constant value) stack = terms.Atom constant value ∷ stack
with_node nodes.Not stack = terms.Not (top stack) ∷ under stack
with_node (nodes.All count) stack = let p = popped count stack in terms.All p.operands ∷ p.below
with_node (nodes.Any count) stack = let p = popped count stack in terms.Any p.operands ∷ p.below
with_node nodes.Same stack = terms.Same (top (under stack)) (top stack) ∷ under (under stack)

abbrev pub with_all_nodes : List Node → List Ground → List Ground
with_all_nodes [] stack = stack
with_all_nodes (node ∷ term) stack = with_all_nodes term (with_node node stack)

abbrev pub term_in : List Node → Ground
term_in term = top (with_all_nodes term [])

-- ---- terms and rules at their steps

-- a value of a simple fluent at step 0 is a cause of itself
abbrev pub initial_value : (number value : ℕ) → WideTimed
initial_value number value = record { now = terms.Atom number value; before = None; head = terms.Atom number value }

-- each constant is meant so many positions behind its number
abbrev pub term_at : Placed → Ground
term_at placed = moved placed.first (term_in placed.nodes.now)

abbrev pub timed_of : PlacedRule → WideTimed
timed_of rule = record { now = term_at rule.body; before = option_map term_at rule.after; head = term_at rule.head }

-- head and `if` part at one step, `after` part at another
abbrev pub placed_rule : (stride : ℕ) → WideGroundLaw → (now before : ℕ) → PlacedRule
placed_rule stride law now before = record {
  head = record { first = now * stride; nodes = law.head };
  body = record { first = now * stride; nodes = law.body };
  after = option_map (λ nodes. record { first = before * stride; nodes = nodes }) law.after;
}

-- at a step, by the kind of the law
abbrev pub placed_of_kind : LawKind → (stride horizon step : ℕ) → WideGroundLaw → Option PlacedRule
placed_of_kind law_kinds.Static stride horizon step law = Some (placed_rule stride law step step)
placed_of_kind law_kinds.ActionDynamic stride horizon step law = if nat_lt step horizon then Some (placed_rule stride law step step) else None
placed_of_kind law_kinds.FluentDynamic stride horizon step law = if nat_lt step horizon then Some (placed_rule stride law (step + 1) step) else None

abbrev pub placed_at : (stride horizon step : ℕ) → WideGroundLaw → Option PlacedRule
placed_at stride horizon step law = placed_of_kind law.kind stride horizon step law

-- an optional rule as a list
abbrev pub rules_in : Option PlacedRule → List WideTimed
rules_in None = []
rules_in (Some rule) = timed_of rule ∷ []

abbrev pub rules_at_step : (stride : ℕ) → List WideGroundLaw → (horizon step : ℕ) → List WideTimed
rules_at_step stride laws horizon step = flat_map (λ law. rules_in (placed_at stride horizon step law)) laws

abbrev pub rules_for : Signature → List WideGroundLaw → ℕ → List WideTimed
rules_for signature laws horizon =
    all_initial_wide 0 signature.fluents ++ flat_map (rules_at_step (stride_of signature) laws horizon) (upto (horizon + 1))

-- more rules than their limit
abbrev pub rules_past : Signature → List WideGroundLaw → ℕ → Option Refusal
rules_past signature laws horizon = if nat_lt most_rules (length (rules_for signature laws horizon)) then Some (past limits.Rules) else None

-- that of a condition, at the step that it speaks of
abbrev pub placed_condition : (stride horizon : ℕ) → GroundCondition → Placed
placed_condition stride horizon condition = record { first = step_of condition.at horizon * stride; nodes = condition.nodes }

-- ---- terms and rules over positions

-- a term of positions of these sizes, with not more positions in front of it than there are, and at most so many
pub record IsPlacedBelow (limit : ℕ) (sizes : List ℕ) (placed : Placed) : Type 0 where
  pub formula : Ground
  pub written : placed.nodes.now ≡ postfix formula
  pub fits : AllByRecursion (Fits sizes) (moved_nodes placed.first placed.nodes.now)
  pub within : placed.first ≤ length sizes
  pub low : placed.first ≤ limit

pub record IsRuleBelow (limit : ℕ) (sizes : List ℕ) (rule : PlacedRule) : Type 0 where
  pub head : IsPlacedBelow limit sizes rule.head
  pub body : IsPlacedBelow limit sizes rule.body
  pub after : IfSome rule.after (IsPlacedBelow limit sizes)

abbrev pub IsLawBelow : (limit : ℕ) → List ℕ → (stride horizon step : ℕ) → WideGroundLaw → Type 0
IsLawBelow limit sizes stride horizon step law = IfSome (placed_at stride horizon step law) (IsRuleBelow limit sizes)

-- as many as a draft takes
abbrev pub most_in_front : ℕ
most_in_front = 9000000000000

abbrev pub IsPlacedOver : List ℕ → Placed → Type 0
IsPlacedOver sizes placed = IsPlacedBelow most_in_front sizes placed

abbrev pub IsRuleOver : List ℕ → PlacedRule → Type 0
IsRuleOver sizes rule = IsRuleBelow most_in_front sizes rule

abbrev pub IsLawOver : List ℕ → (stride horizon step : ℕ) → WideGroundLaw → Type 0
IsLawOver sizes stride horizon step law = IsLawBelow most_in_front sizes stride horizon step law
