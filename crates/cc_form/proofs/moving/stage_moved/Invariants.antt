use Rattle.std.proofs.Common.{◌≡◌, ◌++◌, map, take}
use Rattle.cc_form.specs.Moving.{renamed}
use Rattle.cc_form.specs.Steps.{moved_variable}
use Rattle.cc_form.proofs.moving.stage_moved.Given as goal

abbrev pub invariant-loop-literal : goal.invariant-loop-literal
invariant-loop-literal l = record {
  kept : l.store.kept ≡ l.initial.store.kept;
  staged : l.store.staged.items ≡ l.initial.store.staged.items ++ map (renamed (moved_variable l.by)) (take l.literal-index l.clause);
}
