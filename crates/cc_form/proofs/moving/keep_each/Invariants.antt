use Rattle.std.proofs.Common.{flat_map}
use Rattle.cc_defs.specs.Rules.{upto}
use Rattle.cc_form.specs.Steps.{moved_clauses, way_at}
use Rattle.cc_form.specs.Store.{Gives}
use Rattle.cc_form.proofs.moving.keep_each.Given as goal

abbrev pub invariant-loop-steps : goal.invariant-loop-steps
invariant-loop-steps l = Gives l.initial.store.kept l.store.kept (flat_map (λ steps. moved_clauses (way_at l.way steps) l.clauses) (upto l.steps))
