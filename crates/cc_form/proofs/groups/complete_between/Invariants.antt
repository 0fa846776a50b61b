use Rattle.std.proofs.Common.{◌-◌, drop, take}
use Rattle.cc_defs.specs.ClauseForms.{all_written}
use Rattle.cc_defs.specs.ClauseLists.{completion_from}
use Rattle.cc_form.specs.Making.{bodied}
use Rattle.cc_form.proofs.Choices.{Done}
use Rattle.cc_form.proofs.groups.complete_between.Given as goal

abbrev pub invariant-loop-position : goal.invariant-loop-position
invariant-loop-position l = Done l.initial.store.kept l.store.kept
    (all_written (completion_from l.places (bodied l.theory.rules l.bodies) l.position (take (l.end - l.position) (drop l.position l.places))))
    (all_written (completion_from l.places (bodied l.theory.rules l.bodies) l.start (take (l.end - l.start) (drop l.start l.places))))
