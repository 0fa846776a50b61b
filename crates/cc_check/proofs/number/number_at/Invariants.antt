use Rattle.std.proofs.Common.{◌≡◌, ◌≤◌, length}
use Rattle.cc_log.specs.Fronts.{number_from, number_of}
use Rattle.cc_check.proofs.number.number_at.Given as goal

-- the number so far, with the digits that are left, is the whole number
abbrev pub invariant-loop-rest : goal.invariant-loop-rest
invariant-loop-rest l = (l.number ≤ 999999999) × (number_from l.number l.rest ≡ number_of l.fn.bytes)

abbrev pub decreases-loop-rest : goal.decreases-loop-rest
decreases-loop-rest l = length l.rest
