use Rattle.std.proofs.Common.{ap, length, arith}
use Rattle.cc_sorts.proofs.Vectors.{within_still}
use Rattle.cc_sorts.proofs.shown.reserve_each.Goals as goal

pub reserve_at-requires : goal.reserve_at-requires
reserve_at-requires c = within_still c.args.lists.now c.widening.lists c.args.numbers.now c.widening.number-index c.requires (ap length c.widening.invariant.same) c.widening-test.true

pub returns-clause-room : goal.returns-clause-room
returns-clause-room c = λ k within. c.widening.invariant.room k (omega (arith, within, c.widening-test.false))
