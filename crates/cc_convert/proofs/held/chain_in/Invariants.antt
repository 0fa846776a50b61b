use Rattle.std.proofs.Common.{◌≡◌, ◌++◌, length}
use Rattle.cc_check.specs.Readers.{chain_of}
use Rattle.cc_convert.proofs.held.chain_in.Given as goal

abbrev pub invariant-loop-number : goal.invariant-loop-number
invariant-loop-number l = l.nums.items ++ chain_of l.rest ≡ chain_of l.chain

abbrev pub decreases-loop-number : goal.decreases-loop-number
decreases-loop-number l = length (chain_of l.rest)
