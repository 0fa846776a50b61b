use Rattle.std.proofs.Common.{◌≡◌, ◌++◌, drop}
use Rattle.cc_defs.specs.Clauses.{IsClause}
use Rattle.cc_clauses.specs.Merging.{merge}
use Rattle.cc_clauses.proofs.resolution.merge_into.Given as goal

-- what is written, and what the rest comes to, is the whole
abbrev pub invariant-loop-literal : goal.invariant-loop-literal
invariant-loop-literal l =
    IsClause l.rest × (l.out.items ++ merge (drop l.literal-index l.short) l.rest ≡ l.initial.out.items ++ merge l.short l.long)
