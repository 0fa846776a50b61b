use Rattle.std.proofs.Common.{◌≡◌, ◌++◌, drop, map}
use Rattle.cc_defs.specs.Resolved.{plain_term}
use Rattle.cc_wide_ground.proofs.copies.copy_terms.Given as goal

abbrev pub invariant-loop-term : goal.invariant-loop-term
invariant-loop-term l = map plain_term l.copies.items ++ map plain_term (drop l.term-index l.terms) ≡ map plain_term l.terms
