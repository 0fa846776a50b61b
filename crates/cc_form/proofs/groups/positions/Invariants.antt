use Rattle.std.proofs.Common.{◌≤◌, ◌+◌, drop, sum}
use Rattle.cc_defs.specs.ClauseLists.{positions_from}
use Rattle.cc_form.proofs.Choices.{Done}
use Rattle.cc_form.proofs.groups.positions.Given as goal

abbrev pub invariant-loop-size : goal.invariant-loop-size
invariant-loop-size l = record {
  some : 1 ≤ l.first;
  fits : l.first + sum (drop l.size-index l.sizes) ≤ 4000001;
  done : Done l.initial.store.kept l.store.kept (positions_from l.first (drop l.size-index l.sizes)) (positions_from 1 l.sizes);
}
