-- The ground query of a step stands for the step, and is asked of its horizon.
use Rattle.std.proofs.Common.{◌≡◌, ◌∙◌, ℕ, Bool, true, false, List, [], ◌∷◌, ◌++◌, map, Option, Some, None, Result, Ok, Err, IfOk, refl, sym, ap, subst}
use Rattle.std.specs.Prelude.{if◌then◌else◌}
use Rattle.std.specs.Option.{option_map}
use Rattle.cc_arena.specs.declared.ground_laws.GroundQuery.{GroundQuery}
use Rattle.cc_arena.specs.GroundViews.{plain_ground_query}
use Rattle.cc_defs.specs.declared.node.Node.{Node}
use Rattle.cc_defs.specs.declared.signature.At.{At}
use Rattle.cc_defs.specs.declared.signature.At.TheVariants.{Number, Last}
use Rattle.cc_defs.specs.Declarations.{upto}
use Rattle.cc_defs.specs.Description.{Description}
use Rattle.cc_defs.specs.GroundLaws.{PlainGroundCondition, PlainGroundQuery, StandsForQuery, ground_condition, ground_query}
use Rattle.cc_defs.specs.Nodes.{nodes_of}
use Rattle.cc_defs.specs.Resolved.{Both, Condition, Formula, Query}
use Rattle.cc_defs.specs.Satisfaction.{giving}
use Rattle.cc_defs.specs.Universe.{Universe}
use Rattle.cc_induction.specs.Induction.{at_last, is_at_last, joined, joined_behind, last_conditions, none_sought, none_sought_by, step_query}
use Rattle.cc_induction.specs.Steps.{earlier_conditions, ground_at_last, ground_step, joined_nodes, later_conditions, nodes_at_last, none_sought_in, none_sought_nodes}
use Rattle.cc_induction.proofs.Sought.{lasts}

module _ (u : Universe) where
  abbrev nodes : Formula → List Node
  nodes formula = nodes_of u (giving []) formula

  abbrev formulas : List Condition → List Formula
  formulas conditions = map (λ (condition : Condition). condition.formula) conditions

  behind : (first : Formula) (conditions : List Condition) →
      Some (nodes (joined_behind first (formulas (lasts conditions)))) ≡ joined_nodes (Some (nodes first)) (map (ground_condition u) conditions)
  behind first [] = refl
  behind first (condition ∷ conditions) = by condition.at (behind first conditions) (behind (Both first condition.formula) conditions)
    where
      by : (at : At) →
          Some (nodes (joined_behind first (formulas (lasts conditions)))) ≡ joined_nodes (Some (nodes first)) (map (ground_condition u) conditions) →
          Some (nodes (joined_behind (Both first condition.formula) (formulas (lasts conditions))))
          ≡ joined_nodes (Some (nodes (Both first condition.formula))) (map (ground_condition u) conditions) →
          Some (nodes (joined_behind first (formulas (if is_at_last at then condition ∷ lasts conditions else lasts conditions))))
          ≡ joined_nodes (if is_at_last at then Some (nodes (Both first condition.formula)) else Some (nodes first)) (map (ground_condition u) conditions)
      by (Number step) same more = same
      by Last same more = more

  joined_is : (conditions : List Condition) → option_map nodes (joined (formulas (lasts conditions))) ≡ joined_nodes None (map (ground_condition u) conditions)
  joined_is [] = refl
  joined_is (condition ∷ conditions) = by condition.at (joined_is conditions) (behind condition.formula conditions)
    where
      by : (at : At) → option_map nodes (joined (formulas (lasts conditions))) ≡ joined_nodes None (map (ground_condition u) conditions) →
          Some (nodes (joined_behind condition.formula (formulas (lasts conditions)))) ≡ joined_nodes (Some (nodes condition.formula)) (map (ground_condition u) conditions) →
          option_map nodes (joined (formulas (if is_at_last at then condition ∷ lasts conditions else lasts conditions)))
          ≡ joined_nodes (if is_at_last at then Some (nodes condition.formula) else None) (map (ground_condition u) conditions)
      by (Number step) same more = same
      by Last same more = more

  claim_is : (claim : Option Condition) →
      option_map nodes (option_map (λ (condition : Condition). condition.formula) (at_last claim)) ≡ nodes_at_last (option_map (ground_condition u) claim)
  claim_is None = refl
  claim_is (Some claim) = by (is_at_last claim.at)
    where
      by : (last : Bool) → option_map nodes (option_map (λ (condition : Condition). condition.formula) (if last then Some claim else None))
          ≡ (if last then Some (nodes claim.formula) else None)
      by true = refl
      by false = refl

  none_is : (conditions claim : Option Formula) → nodes (none_sought conditions claim) ≡ none_sought_nodes (option_map nodes conditions) (option_map nodes claim)
  none_is (Some conditions) (Some claim) = refl
  none_is None (Some claim) = refl
  none_is (Some conditions) None = refl
  none_is None None = refl

  none_sought_is : (range : ℕ × ℕ) (q : Query) → nodes (none_sought_by q) ≡ none_sought_in (ground_query u range q)
  none_sought_is range q =
      none_is (joined (formulas (last_conditions q))) (option_map (λ (condition : Condition). condition.formula) (at_last q.claim))
      ∙ ap (λ (o : Option (List Node)). none_sought_nodes o (option_map nodes (option_map (λ (condition : Condition). condition.formula) (at_last q.claim)))) (joined_is q.conditions)
      ∙ ap (none_sought_nodes (joined_nodes None (map (ground_condition u) q.conditions))) (claim_is q.claim)

  -- ---- the parts of the query

  later_is : (conditions : List Condition) → map (ground_condition u) (lasts conditions) ≡ later_conditions (map (ground_condition u) conditions)
  later_is [] = refl
  later_is (condition ∷ conditions) = by (is_at_last condition.at) (later_is conditions)
    where
      by : (last : Bool) → map (ground_condition u) (lasts conditions) ≡ later_conditions (map (ground_condition u) conditions) →
          map (ground_condition u) (if last then condition ∷ lasts conditions else lasts conditions)
          ≡ (if last then ground_condition u condition ∷ later_conditions (map (ground_condition u) conditions) else later_conditions (map (ground_condition u) conditions))
      by true more = ap (λ (l : List PlainGroundCondition). ground_condition u condition ∷ l) more
      by false more = more

  ground_claim_is : (claim : Option Condition) → option_map (ground_condition u) (at_last claim) ≡ ground_at_last (option_map (ground_condition u) claim)
  ground_claim_is None = refl
  ground_claim_is (Some claim) = by (is_at_last claim.at)
    where
      by : (last : Bool) → option_map (ground_condition u) (if last then Some claim else None) ≡ (if last then Some (ground_condition u claim) else None)
      by true = refl
      by false = refl

  earlier_is : (formula : Formula) (steps : List ℕ) (others : List Condition) →
      map (ground_condition u) (map (λ (step : ℕ). record { at = Number step; formula = formula }) steps ++ others)
      ≡ map (λ (step : ℕ). record { at = Number step; nodes = nodes formula }) steps ++ map (ground_condition u) others
  earlier_is formula [] others = refl
  earlier_is formula (step ∷ steps) others = ap (λ (l : List PlainGroundCondition). record { at = Number step; nodes = nodes formula } ∷ l) (earlier_is formula steps others)

  abbrev over : ℕ → List PlainGroundCondition → Option PlainGroundCondition → PlainGroundQuery
  over count conditions claim = record { lo = count; hi = count; conditions = conditions; claim = claim }

  step_is : (range : ℕ × ℕ) (q : Query) (count : ℕ) → ground_query u (count, count) (step_query q count) ≡ ground_step (ground_query u range q) count
  step_is range q count =
      ap (λ (c : List PlainGroundCondition). over count c (option_map (ground_condition u) (at_last q.claim)))
      (earlier_is (none_sought_by q) (upto count) (last_conditions q)
      ∙ ap (λ (n : List Node). earlier_conditions n count ++ map (ground_condition u) (last_conditions q)) (none_sought_is range q)
      ∙ ap (λ (c : List PlainGroundCondition). earlier_conditions (none_sought_in (ground_query u range q)) count ++ c) (later_is q.conditions))
      ∙ ap (λ (c : Option PlainGroundCondition). over count (earlier_conditions (none_sought_in (ground_query u range q)) count ++ later_conditions (map (ground_condition u) q.conditions)) c)
      (ground_claim_is q.claim)

pub step_stands : (query : PlainGroundQuery) (d : Description) (q : Query) (count : ℕ) → StandsForQuery query d q → StandsForQuery (ground_step query count) d (step_query q count)
step_stands query d q count stands =
    ((count, count), refl, ap (λ (g : PlainGroundQuery). ground_step g count) stands.2 ∙ sym (step_is d.universe stands.0 q count))

pub made_stands : {E : Type 0} (result : Result GroundQuery E) (query : PlainGroundQuery) (d : Description) (q : Query) (count : ℕ) →
    IfOk result (λ made. plain_ground_query made ≡ ground_step query count) → StandsForQuery query d q →
    IfOk result (λ made. StandsForQuery (plain_ground_query made) d (step_query q count))
made_stands (Ok made) query d q count is stands = subst (λ (g : PlainGroundQuery). StandsForQuery g d (step_query q count)) (sym is) (step_stands query d q count stands)
made_stands (Err fault) query d q count is stands = tt
