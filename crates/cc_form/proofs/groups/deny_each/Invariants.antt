use Rattle.std.proofs.Common.{drop}
use Rattle.cc_defs.specs.ClauseForms.{all_written}
use Rattle.cc_defs.specs.ClauseLists.{denials_of}
use Rattle.cc_form.specs.Making.{bodied}
use Rattle.cc_form.proofs.Choices.{Done}
use Rattle.cc_form.proofs.groups.deny_each.Given as goal

abbrev pub invariant-loop-number : goal.invariant-loop-number
invariant-loop-number l = Done l.initial.store.kept l.store.kept (all_written (denials_of (bodied (drop l.number l.rules) (drop l.number l.bodies)))) (all_written (denials_of (bodied l.rules l.bodies)))
