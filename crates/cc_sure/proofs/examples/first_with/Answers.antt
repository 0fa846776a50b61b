use Rattle.std.proofs.Common.{length, refl}
use Rattle.std.proofs.lemmas.Option.{slice_get_read}
use Rattle.cc_sure.proofs.Answering.{first_so}
use Rattle.cc_sure.proofs.examples.first_with.Goals as goal

pub returns-then-has : goal.returns-then-has
returns-then-has c =
    first_so c.args.examples.now c.args.position c.args.value c.loop-i.i c.index-examples-i.result
    (slice_get_read c.args.examples.now (length c.args.examples.now) c.loop-i.i c.index-examples-i.result refl c.loop-i-test.true c.index-examples-i.is)
    c.loop-i.invariant (c.has.ensures.0 c.if-has.true)
