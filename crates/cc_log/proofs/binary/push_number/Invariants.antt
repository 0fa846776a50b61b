use Rattle.cc_log.proofs.WrittenBytes.{IsLeft}
use Rattle.cc_log.proofs.binary.push_number.Given as goal

-- what is written, and what is left, is the whole
abbrev pub invariant-loop-left : goal.invariant-loop-left
invariant-loop-left l = IsLeft l.number l.left l.initial.bytes.items l.bytes.items

abbrev pub decreases-loop-left : goal.decreases-loop-left
decreases-loop-left l = l.left
