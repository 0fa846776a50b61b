use Rattle.std.proofs.Common.{◌∙◌, arith, length-append}
use Rattle.cc_defs.specs.Signatures.{ground_constants}
use Rattle.cc_rivals.proofs.Sizes.{sizes_done, sizes_step, some_constants}
use Rattle.cc_rivals.proofs.positions.constant_sizes.Goals as goal

pub loop-number-preserved : goal.loop-number-preserved
loop-number-preserved c = sizes_step (ground_constants c.args.sig.now) c.loop-number.number c.domain_size.result c.loop-number.sizes.items c.push.new.self.items
    (let long = length-append c.args.sig.now.fluents c.args.sig.now.actions in let less = c.loop-number-test.true in let f = c.from.ensures in let g = c.from-2.ensures in let a = c.fluents.ensures in let b = c.actions.ensures in omega arith) c.domain_size.ensures c.in_ok-push.ensures.items c.loop-number.invariant

pub domain_size-requires : goal.domain_size-requires
domain_size-requires c =
    some_constants c.args.sig.now.fluents c.args.sig.now.actions c.loop-number.number c.from.result c.from-2.result (c.from.ensures ∙ c.fluents.ensures) (c.from-2.ensures ∙ c.actions.ensures) c.loop-number-test.true

pub returns : goal.returns
returns c =
    sizes_done c.args.sig.now.fluents c.args.sig.now.actions c.loop-number.number c.from.result c.from-2.result (c.from.ensures ∙ c.fluents.ensures) (c.from-2.ensures ∙ c.actions.ensures)
    c.loop-number.sizes.items _ c.loop-number-test.false c.loop-number.invariant
