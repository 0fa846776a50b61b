use Rattle.std.proofs.Common.{refl}
use Rattle.cc_laws.proofs.Expanded.{placed_more, placed_all}
use Rattle.cc_laws.proofs.expansion.places.Goals as goal

pub loop-place-preserved : goal.loop-place-preserved
loop-place-preserved c = placed_more c.args.sorts.now c.loop-place.place _ _ _ _ c.loop-place-test.true c.in_ok-push.ensures.items refl c.loop-place.invariant

pub returns : goal.returns
returns c = placed_all c.args.sorts.now c.loop-place.place c.loop-place.made.items _ c.loop-place-test.false c.loop-place.invariant
