use Rattle.std.proofs.Common.{◌≡◌, ℕ, min, length, flat_map, take}
use Rattle.cc_defs.specs.Declarations.{put_declared}
use Rattle.cc_sorts.specs.Declaring.{plain_declarations}
use Rattle.cc_sorts.proofs.entering.count_puts.Given as goal

abbrev pub invariant-loop-declaration : goal.invariant-loop-declaration
invariant-loop-declaration l = (file line : ℕ) → l.count ≡ min (length (flat_map put_declared (plain_declarations file line (take l.declaration-index l.new)))) 10000
