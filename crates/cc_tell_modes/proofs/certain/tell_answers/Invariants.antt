use Rattle.cc_defs.specs.Description.{Description}
use Rattle.cc_tell.specs.Names.{AreNamesOf}
use Rattle.cc_tell_modes.proofs.SureLines.{AreAnswered}
use Rattle.cc_tell_modes.proofs.certain.tell_answers.Given as goal

-- the answers of the values before this one were given
abbrev pub invariant-loop-value : goal.invariant-loop-value
invariant-loop-value g l =
    let desk = g.D.Desk in
    (d : Description) → AreNamesOf l.table l.sig d →
    AreAnswered d l.position l.answers l.value
    (desk.seen l.initial.desk) (desk.seen l.desk)
