-- Whether a row meets the rules of a horizon, and a query.
use Rattle.std.specs.Prelude.{ℕ, Bool, true, not, ◌&&◌, ◌||◌, List, map, Option, Some, None}
use Rattle.std.specs.List.{list_all}
use Rattle.std.specs.Option.{option_map}
use Rattle.cc_arena.specs.declared.ground_laws.GroundCondition.{GroundCondition}
use Rattle.cc_arena.specs.declared.ground_laws.GroundQuery.{GroundQuery}
use Rattle.cc_defs.specs.Terms.{Ground}
use Rattle.cc_rivals.specs.Making.{placed_condition, term_at}
use Rattle.cc_wide.specs.WideLists.{WideTimed, holds_in, test_holds}

-- where the parts of a rule are true, so is its head
abbrev pub rule_met : List ℕ → WideTimed → Bool
rule_met row rule = not (test_holds row rule) || holds_in row rule.head

abbrev pub rules_met : List ℕ → List WideTimed → Bool
rules_met row rules = list_all (rule_met row) rules

abbrev pub claim_denied : List ℕ → Option Ground → Bool
claim_denied row None = true
claim_denied row (Some claim) = not (holds_in row claim)

abbrev pub conditions_at : (stride horizon : ℕ) → List GroundCondition → List Ground
conditions_at stride horizon conditions = map (λ condition. term_at (placed_condition stride horizon condition)) conditions

abbrev pub claim_at : (stride horizon : ℕ) → Option GroundCondition → Option Ground
claim_at stride horizon claim = option_map (λ condition. term_at (placed_condition stride horizon condition)) claim

-- its conditions are true, and its claim is not
abbrev pub query_met : (stride horizon : ℕ) → GroundQuery → List ℕ → Bool
query_met stride horizon query row =
    list_all (holds_in row) (conditions_at stride horizon query.conditions) && claim_denied row (claim_at stride horizon query.claim)
