use Rattle.std.proofs.Common.{arith, refl}
use Rattle.cc_theory.proofs.Made.{initial_step, nothing_left, fluent_low}
use Rattle.cc_theory.specs.Making.{all_initial}
use Rattle.cc_theory.proofs.making.add_all_initial.Goals as goal

pub loop-number-preserved : goal.loop-number-preserved
loop-number-preserved c =
    initial_step c.args.sig.now.fluents c.args.sig.now.actions c.loop-number.number c.from.result c.domain_size-size.result c.constant.result.now c.loop-number.rules.items c.add_initial.new.rules.items _
    (omega arith) c.from.ensures c.constant.ensures c.domain_size-size.ensures c.in_ok-add_initial.ensures c.loop-number.invariant

pub returns : goal.returns
returns c = nothing_left (all_initial c.loop-number.number) c.args.sig.now.fluents c.loop-number.number c.loop-number.rules.items _ refl (omega arith) c.loop-number.invariant

pub constant-requires : goal.constant-requires
constant-requires c = fluent_low c.args.sig.now.fluents c.args.sig.now.actions c.loop-number.number c.fluents-number-end.result c.loop-number-test.true c.fluents-number-end.ensures

pub domain_size-size-requires : goal.domain_size-size-requires
domain_size-size-requires c = let low = fluent_low c.args.sig.now.fluents c.args.sig.now.actions c.loop-number.number c.fluents-number-end.result c.loop-number-test.true c.fluents-number-end.ensures in omega arith
