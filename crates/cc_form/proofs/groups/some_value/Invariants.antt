use Rattle.std.proofs.Common.{◌≡◌}
use Rattle.cc_defs.specs.ClauseLists.{position_variables}
use Rattle.cc_form.proofs.groups.some_value.Given as goal

abbrev pub invariant-loop-value : goal.invariant-loop-value
invariant-loop-value l = record {
  kept : l.store.kept ≡ l.initial.store.kept;
  staged : l.store.staged.items ≡ position_variables l.first l.value;
}
