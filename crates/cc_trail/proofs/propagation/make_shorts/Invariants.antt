use Rattle.std.proofs.Common.{ℕ, take}
use Rattle.cc_kernel.specs.Kernels.{clauses_of}
use Rattle.cc_defs.specs.Clauses.{IsIn}
use Rattle.cc_trail.specs.Visits.{AreSound, AreGrown, IsMet}
use Rattle.cc_trail.proofs.propagation.make_shorts.Given as goal

abbrev pub invariant-loop-index : goal.invariant-loop-index
invariant-loop-index l =
    AreSound l.kernel l.entries × AreGrown l.fn.entries l.entries ×
    ((number : ℕ) → IsIn (take l.index l.shorts) number → IsMet (clauses_of l.kernel) l.entries.steps number)
