use Rattle.std.proofs.Common.{arith, rules}
use Rattle.cc_theory.proofs.Made.{initial_counted, fluent_low}
use Rattle.cc_theory.proofs.counting.all_initial_count.Goals as goal

pub loop-number-preserved : goal.loop-number-preserved
loop-number-preserved c = (
  omega arith,
  search (
    rules,
    initial_counted c.args.sig.now.fluents c.args.sig.now.actions c.loop-number.number c.initial_count.result c.loop-number.count c.saturating_add.result c.constant.result.now
        (omega arith) c.constant.ensures (c.initial_count.ensures c.loop-number.number) c.saturating_add.ensures c.loop-number.invariant.1,
  ),
)

pub constant-requires : goal.constant-requires
constant-requires c = fluent_low c.args.sig.now.fluents c.args.sig.now.actions c.loop-number.number c.fluents-number-end.result c.loop-number-test.true c.fluents-number-end.ensures
