use Rattle.std.proofs.Common.{◌≡◌, ◌++◌, drop, map}
use Rattle.cc_defs.specs.Resolved.{plain_term}
use Rattle.cc_wide_ground.proofs.copies.+copy_term.Given as goal

abbrev pub invariant-loop-argument : goal.invariant-loop-argument
invariant-loop-argument l = map plain_term l.copies.items ++ map plain_term (drop l.argument-index l.argument-items) ≡ map plain_term l.argument-items
