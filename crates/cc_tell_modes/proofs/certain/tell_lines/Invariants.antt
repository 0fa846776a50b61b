use Rattle.cc_tell_modes.proofs.SureLines.{AreLogged}
use Rattle.cc_tell_modes.proofs.certain.tell_lines.Given as goal

-- the lines before this one were given
abbrev pub invariant-loop-i : goal.invariant-loop-i
invariant-loop-i g l =
    let desk = g.D.Desk in
    AreLogged l.lines l.i
    (desk.seen l.initial.desk) (desk.seen l.desk)
