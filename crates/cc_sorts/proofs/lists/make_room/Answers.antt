use Rattle.std.proofs.Common.{◌∙◌, ℕ, slice_index_or, arith, ap, length}
use borrow.Author.Count.{below_more}
use Rattle.cc_sorts.specs.Lists.{HasRoom}
use Rattle.cc_sorts.proofs.Making.{room_kept}
use Rattle.cc_sorts.proofs.Vectors.{within_still}
use Rattle.cc_sorts.proofs.lists.make_room.Goals as goal

pub widening-preserved : goal.widening-preserved
widening-preserved c =
    let made = c.make_room_at.new in
    let numbers = c.args.numbers.now in
    record {
      same = c.make_room_at.ensures.same ∙ c.widening.invariant.same;
      grown = omega (arith, c.make_room_at.ensures.grown_to_move, c.widening.invariant.grown);
      room = below_more (λ (k : ℕ). HasRoom made.lists.items c.args.more made.moved.cap (slice_index_or numbers k 0)) c.widening.number-index
          (λ k before. room_kept c.widening.lists.items made.lists.items c.args.more c.widening.moved.cap made.moved.cap (slice_index_or numbers k 0) c.make_room_at.ensures.same (c.make_room_at.ensures.grown (slice_index_or numbers k 0)) c.make_room_at.ensures.grown_to_move (c.widening.invariant.room k before))
          c.in_ok-make_room_at.ensures.room;
    }

pub returns-clause-same : goal.returns-clause-same
returns-clause-same c = c.widening.invariant.same

pub returns-clause-grown : goal.returns-clause-grown
returns-clause-grown c = c.widening.invariant.grown

pub returns-clause-room : goal.returns-clause-room
returns-clause-room c = λ k within. c.widening.invariant.room k (omega (arith, within, c.widening-test.false))

pub make_room_at-requires : goal.make_room_at-requires
make_room_at-requires c = within_still c.args.lists.now c.widening.lists c.args.numbers.now c.widening.number-index c.requires (ap length c.widening.invariant.same) c.widening-test.true
