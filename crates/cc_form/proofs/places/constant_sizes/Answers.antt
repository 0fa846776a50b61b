use Rattle.std.proofs.Common.{◌≡◌, ◌++◌, List, ℕ, arith, length-append, ap, length}
use Rattle.std.proofs.lemmas.List.{length-map}
use Rattle.cc_defs.specs.Signatures.{ground_constants}
use Rattle.cc_form.proofs.Positions.{sizes_step, sizes_end}
use Rattle.cc_defs.specs.Description.{domain_sizes}
use Rattle.cc_form.proofs.places.constant_sizes.Goals as goal

pub loop-number-preserved : goal.loop-number-preserved
loop-number-preserved c = sizes_step (ground_constants c.args.sig.now) c.loop-number.number c.domain_size.result c.loop-number.sizes.items c.push.new.self.items
    (let long = length-append c.args.sig.now.fluents c.args.sig.now.actions in let less = c.loop-number-test.true in let f = c.from.ensures in let g = c.from-2.ensures in let a = c.fluents.ensures in let b = c.actions.ensures in omega arith) c.domain_size.ensures c.in_ok-push.ensures.items c.loop-number.invariant

pub loop-number-init : goal.loop-number-init
loop-number-init c = ap (λ (l : List ℕ). l ++ domain_sizes (ground_constants c.args.sig.now)) c.new-sizes.ensures.items

pub overflow_add-count : goal.overflow_add-count
overflow_add-count c = let f = c.from.ensures in let g = c.from-2.ensures in let a = c.fluents.type_inv in let b = c.actions.type_inv in omega arith

pub domain_size-requires : goal.domain_size-requires
domain_size-requires c =
    let long = length-append c.args.sig.now.fluents c.args.sig.now.actions in let less = c.loop-number-test.true in let f = c.from.ensures in let g = c.from-2.ensures in let a = c.fluents.ensures in let b = c.actions.ensures in omega arith

pub returns : goal.returns
returns c = sizes_end (domain_sizes (ground_constants c.args.sig.now)) c.loop-number.sizes.items c.loop-number.number
    (let long = length-append c.args.sig.now.fluents c.args.sig.now.actions in let same : length (domain_sizes (ground_constants c.args.sig.now)) ≡ length (ground_constants c.args.sig.now) = length-map _ _ in let most = c.loop-number-test.false in let f = c.from.ensures in let g = c.from-2.ensures in let a = c.fluents.ensures in let b = c.actions.ensures in omega arith)
    c.loop-number.invariant
