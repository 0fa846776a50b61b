use Rattle.std.proofs.Common.{flat_map}
use Rattle.cc_defs.specs.ClauseForms.{all_written, atom_variable, positive}
use Rattle.cc_defs.specs.ClauseLists.{bodies_of, completion_of}
use Rattle.cc_defs.specs.Rules.{upto}
use Rattle.cc_form.specs.Making.{bodied}
use Rattle.cc_form.specs.Store.{Gives}
use Rattle.cc_form.proofs.groups.complete_position.Given as goal

abbrev pub invariant-loop-value : goal.invariant-loop-value
invariant-loop-value l = Gives l.initial.store.kept l.store.kept
    (all_written (flat_map (λ value. completion_of (positive (atom_variable l.places l.position value)) (bodies_of l.position value (bodied l.theory.rules l.bodies))) (upto l.value)))
