use Rattle.std.proofs.Common.{◌≡◌, ℕ, map, ◌++◌, take}
use Rattle.cc_defs.specs.Declarations.{Sort}
use Rattle.cc_sorts.specs.Declaring.{plain_declarations}
use Rattle.cc_sorts.proofs.declaration.add_sorts.Given as goal

abbrev pub invariant-loop-name : goal.invariant-loop-name
invariant-loop-name l = (file line : ℕ) →
    plain_declarations file line l.found.items ≡ plain_declarations file line l.initial.found.items ++ map (λ name. Sort name.now) (take l.name-index l.names)
