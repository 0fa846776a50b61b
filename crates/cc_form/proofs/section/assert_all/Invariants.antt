use Rattle.std.proofs.Common.{◌≤◌, drop, map}
use Rattle.std.specs.List.{AllByRecursion}
use Rattle.cc_arena.specs.GroundViews.{plain_ground_condition}
use Rattle.cc_defs.specs.Histories.{step_of}
use Rattle.cc_defs.specs.Terms.{IsTermOver}
use Rattle.cc_form.specs.Queries.{condition_nodes}
use Rattle.cc_form.proofs.Asserting.{AssertedSoFar}
use Rattle.cc_form.proofs.section.assert_all.Given as goal

abbrev pub invariant-loop-condition : goal.invariant-loop-condition
invariant-loop-condition l = record {
  so : AssertedSoFar l.initial.writer l.writer (drop l.condition-index (map (λ condition. condition_nodes l.stride l.horizon (plain_ground_condition condition)) l.conditions))
      (map (λ condition. condition_nodes l.stride l.horizon (plain_ground_condition condition)) l.conditions);
  fit : AllByRecursion (λ condition. (step_of condition.at l.horizon ≤ 1000) × IsTermOver l.initial.writer.places (condition_nodes l.stride l.horizon (plain_ground_condition condition))) (drop l.condition-index l.conditions);
}
