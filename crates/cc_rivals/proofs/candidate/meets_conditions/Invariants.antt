use Rattle.std.proofs.Common.{◌≡◌, ◌≤◌, ℕ, List, drop}
use Rattle.std.specs.List.{AllByRecursion, list_all}
use Rattle.cc_defs.specs.Histories.{step_of}
use Rattle.cc_defs.specs.Rows.{IsRow}
use Rattle.cc_rivals.specs.Making.{IsPlacedOver, placed_condition}
use Rattle.cc_rivals.specs.Meets.{conditions_at}
use Rattle.cc_rivals.proofs.candidate.meets_conditions.Given as goal
use Rattle.cc_wide.specs.WideLists.{holds_in}

abbrev pub invariant-loop-condition : goal.invariant-loop-condition
invariant-loop-condition l =
    (list_all (holds_in l.row) (conditions_at l.stride l.horizon (drop l.condition-index l.conditions)) ≡ list_all (holds_in l.row) (conditions_at l.stride l.horizon l.conditions))
    × ((sizes : List ℕ) × IsRow sizes l.row × AllByRecursion (λ condition. (step_of condition.at l.horizon ≤ 1000) × IsPlacedOver sizes (placed_condition l.stride l.horizon condition)) (drop l.condition-index l.conditions))
