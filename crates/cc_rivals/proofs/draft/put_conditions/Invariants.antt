use Rattle.std.proofs.Common.{◌≤◌, drop, map}
use Rattle.std.specs.List.{AllByRecursion}
use Rattle.cc_defs.specs.Histories.{step_of}
use Rattle.cc_rivals.specs.Making.{IsPlacedOver, placed_condition, term_at}
use Rattle.cc_rivals.specs.Putting.{put_terms}
use Rattle.cc_rivals.proofs.Folding.{Stands}
use Rattle.cc_rivals.proofs.draft.put_conditions.Given as goal

abbrev pub invariant-loop-condition : goal.invariant-loop-condition
invariant-loop-condition l =
    Stands put_terms l.initial.draft l.draft (map (λ condition. term_at (placed_condition l.stride l.horizon condition)) (drop l.condition-index l.conditions)) (map (λ condition. term_at (placed_condition l.stride l.horizon condition)) l.conditions)
    × AllByRecursion (λ condition. (step_of condition.at l.horizon ≤ 1000) × IsPlacedOver l.initial.draft.places (placed_condition l.stride l.horizon condition)) (drop l.condition-index l.conditions)
