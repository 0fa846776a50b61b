use Rattle.std.proofs.Common.{arith, List, ℕ, refl, ap, ◌++◌, length-append}
use Rattle.cc_theory.proofs.HeadPlaces.{sizes_step, size_count}
use Rattle.cc_theory.proofs.Made.{nothing_left}
use Rattle.cc_theory.specs.Groups.{sizes_of}
use Rattle.cc_theory.proofs.index.sizes.Goals as goal

pub loop-number-preserved : goal.loop-number-preserved
loop-number-preserved c =
    let count = c.stride-constants.ensures.value in
    sizes_step c.args.sig.now c.loop-number.number c.domain_size.result c.loop-number.sizes.items c.push.new.self.items (omega arith) c.domain_size.ensures c.in_ok-push.ensures.items c.loop-number.invariant

pub loop-number-init : goal.loop-number-init
loop-number-init c = ap (λ (w : List ℕ). w ++ sizes_of c.args.sig.now) c.new-sizes.ensures.items

pub returns : goal.returns
returns c =
    let count = size_count c.args.sig.now in let e = c.stride-constants.ensures.value in
    nothing_left (λ (sizes : List ℕ). sizes) (sizes_of c.args.sig.now) c.loop-number.number c.loop-number.sizes.items _ refl (omega arith) c.loop-number.invariant

pub domain_size-requires : goal.domain_size-requires
domain_size-requires c =
    let long = length-append c.args.sig.now.fluents c.args.sig.now.actions in
    let count = c.stride-constants.ensures.value in
    let low = c.loop-number-test.true in omega arith
