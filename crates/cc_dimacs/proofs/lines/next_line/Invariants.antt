use Rattle.std.proofs.Common.{◌≡◌, ◌+◌, drop}
use Rattle.cc_dimacs.proofs.FirstLines.{line_length}
use Rattle.cc_dimacs.proofs.lines.next_line.Given as goal

abbrev pub invariant-loop-i : goal.invariant-loop-i
invariant-loop-i l = l.i + line_length (drop l.i l.text) ≡ line_length l.text
