use Rattle.std.proofs.Common.{arith}
use Rattle.cc_theory.proofs.HeadPlaces.{firsts_long}
use Rattle.cc_theory.proofs.index.place_count.Goals as goal

pub bounds-firsts-stride : goal.bounds-firsts-stride
bounds-firsts-stride c = let long = firsts_long c.args.sig.now c.args.firsts.now c.requires.firsts in let e = c.stride.ensures.value in omega arith
