use Rattle.std.proofs.Common.{◌≡◌, ◌+◌, ◌≤◌, length}
use Rattle.cc_dimacs.specs.Reading.{last_from, told_from}
use Rattle.cc_dimacs.proofs.lines.next_told.Given as goal

abbrev pub invariant-loop-rest : goal.invariant-loop-rest
invariant-loop-rest l =
    (told_from l.fn.first l.fn.text ≡ told_from l.number l.rest) × (last_from l.fn.first l.fn.text ≡ last_from l.number l.rest)
    × (l.fn.first ≤ l.number) × (l.number + length l.rest ≤ l.fn.first + length l.fn.text)

abbrev pub decreases-loop-rest : goal.decreases-loop-rest
decreases-loop-rest l = length l.rest
