use Rattle.std.proofs.Common.{arith}
use Rattle.cc_defs.specs.ClauseLists.{positions_from}
use Rattle.cc_form.proofs.Choices.{done_all, done_more, done_none, no_positions, positions_front, sum_front}
use Rattle.cc_form.proofs.groups.positions.Goals as goal

pub loop-size-init : goal.loop-size-init
loop-size-init c = record {
  some = omega arith;
  fits = (let few = c.requires in omega arith);
  done = done_none c.args.store.now.kept (positions_from 1 c.args.sizes.now);
}

pub returns : goal.returns
returns c = done_all c.args.store.now.kept c.loop-size.store.kept _ _ (no_positions c.loop-size.first c.args.sizes.now c.loop-size.size-index c.loop-size-test.false) c.loop-size.invariant.done

pub loop-size-preserved : goal.loop-size-preserved
loop-size-preserved c =
    let sum = sum_front c.args.sizes.now c.loop-size.size-index c.loop-size-test.true in
    let so = c.loop-size.invariant in
    let some = so.some in
    let fits = so.fits in
    record {
      some = omega arith;
      fits = omega arith;
      done = done_more c.args.store.now.kept c.loop-size.store.kept c.exactly_one.new.store.kept _ _ _ _ (positions_front c.loop-size.first c.args.sizes.now c.loop-size.size-index c.loop-size-test.true) so.done c.in_ok-exactly_one.ensures;
    }

pub overflow_add-first : goal.overflow_add-first
overflow_add-first c =
    let sum = sum_front c.args.sizes.now c.loop-size.size-index c.loop-size-test.true in
    let fits = c.loop-size.invariant.fits in
    omega arith
