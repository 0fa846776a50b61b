use Rattle.std.proofs.Common.{◌≡◌, ◌≤◌, ◌*◌, drop, min}
use Rattle.cc_defs.specs.Judged.{product_of}
use Rattle.cc_ground.specs.Views.{universe_of}
use Rattle.cc_ground.proofs.choosing.product.Given as goal

abbrev pub invariant-loop-constant : goal.invariant-loop-constant
invariant-loop-constant l =
    let u = universe_of l.table l.sig in
    (l.count ≤ 16000001) × (min (l.count * product_of u (drop l.constant-index l.constants)) 16000001 ≡ min (product_of u l.constants) 16000001)
