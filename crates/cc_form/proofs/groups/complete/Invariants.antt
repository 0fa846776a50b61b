use Rattle.std.proofs.Common.{drop}
use Rattle.cc_defs.specs.ClauseForms.{all_written}
use Rattle.cc_defs.specs.ClauseLists.{completion_from}
use Rattle.cc_form.specs.Making.{bodied}
use Rattle.cc_form.proofs.Choices.{Done}
use Rattle.cc_form.proofs.groups.complete.Given as goal

abbrev pub invariant-loop-position : goal.invariant-loop-position
invariant-loop-position l = Done l.initial.store.kept l.store.kept
    (all_written (completion_from l.places (bodied l.theory.rules l.bodies) l.position (drop l.position l.places))) (all_written (completion_from l.places (bodied l.theory.rules l.bodies) 0 l.places))
