use Rattle.std.proofs.Common.{◌≡◌, ℕ, map, ◌++◌, take}
use Rattle.cc_defs.specs.Declarations.{Constant}
use Rattle.cc_defs.specs.Trees.{plain_shape, plain_kind}
use Rattle.cc_sorts.specs.Declaring.{plain_declarations}
use Rattle.cc_sorts.proofs.declaration.add_constants.Given as goal

abbrev pub invariant-loop-shape : goal.invariant-loop-shape
invariant-loop-shape l = (file line : ℕ) →
    plain_declarations file line l.found.items ≡ plain_declarations file line l.initial.found.items ++ map (λ shape. Constant (plain_shape shape) (plain_kind l.kind) file line) (take l.shape-index l.shapes)
