use Rattle.std.proofs.Common.{take}
use Rattle.cc_form.specs.Steps.{moved_clauses}
use Rattle.cc_form.specs.Store.{Gives}
use Rattle.cc_form.proofs.moving.keep_all_moved.Given as goal

abbrev pub invariant-loop-index : goal.invariant-loop-index
invariant-loop-index l = Gives l.initial.store.kept l.store.kept (moved_clauses l.by (take l.index l.clauses))
