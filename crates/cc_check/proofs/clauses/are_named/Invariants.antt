use Rattle.std.proofs.Common.{◌+◌, length}
use Rattle.cc_check.specs.Readers.{chain_of}
use Rattle.cc_check.proofs.Chains.{NamedFrom}
use Rattle.cc_check.proofs.clauses.are_named.Given as goal

abbrev pub invariant-loop-number : goal.invariant-loop-number
invariant-loop-number l = NamedFrom (l.given + l.own) (chain_of l.rest) (chain_of l.chain)

abbrev pub decreases-loop-number : goal.decreases-loop-number
decreases-loop-number l = length (chain_of l.rest)
