use Rattle.std.proofs.Common.{◌≡◌, ◌+◌, ◌≤◌, length}
use Rattle.cc_dimacs.specs.Reading.{is_kept, judged, last_from, told_from}
use Rattle.cc_dimacs.proofs.read.take_text.Given as goal

-- what is found of the lines that are left is found of all
abbrev pub invariant-loop-last : goal.invariant-loop-last
invariant-loop-last l =
    (judged (is_kept l.heading.variables) l.heading.variables l.heading.count l.initial.progress (told_from l.fn.first l.fn.text)
    ≡ judged (is_kept l.heading.variables) l.heading.variables l.heading.count l.progress (told_from l.number l.rest))
    × (last_from l.fn.first l.fn.text ≡ last_from l.number l.rest)
    × (l.fn.first ≤ l.number) × (l.number + length l.rest ≤ l.fn.first + length l.fn.text)

abbrev pub decreases-loop-last : goal.decreases-loop-last
decreases-loop-last l = length l.rest
