use Rattle.std.proofs.Common.{◌≡◌, ◌+◌, drop}
use Rattle.cc_kernel.specs.Kernels.{axioms_of, first_empty}
use Rattle.cc_kernel.proofs.kernel.first_empty_of.Given as goal

-- what the rest gives is what all give
abbrev pub invariant-loop-index : goal.invariant-loop-index
invariant-loop-index l = first_empty (l.index + 1) (axioms_of (drop l.index l.clauses)) ≡ first_empty 1 (axioms_of l.clauses)
