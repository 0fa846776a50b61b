use Rattle.std.proofs.Common.{◌≤◌, ◌∙◌, ◌+◌, ℕ, length, slice_index_or, arith, ap, ◌<◌}
use borrow.Author.Count.{below_more}
use Rattle.cc_sorts.specs.Lists.{capacities_of}
use Rattle.cc_sorts.specs.SortViews.{members_at}
use Rattle.cc_sorts.proofs.Vectors.{all_at, within_still}
use Rattle.cc_sorts.proofs.shown.reserve_above.Goals as goal

pub widening-preserved : goal.widening-preserved
widening-preserved c =
    let numbers = c.args.numbers.now in
    record {
      same = c.reserve_at.ensures.same ∙ c.widening.invariant.same;
      room = below_more
          (λ (k : ℕ). length (members_at c.args.sorts.now (slice_index_or numbers k 0)) + c.args.more ≤ slice_index_or (capacities_of c.reserve_at.new.lists.items) (slice_index_or numbers k 0) 0)
          c.widening.number-index (λ k before. omega (arith, c.widening.invariant.room k before, c.reserve_at.ensures.grown (slice_index_or numbers k 0)))
          (omega (arith, c.in-Some.ensures, c.in_ok-reserve_at.ensures.room, ap length c.members-members.ensures));
    }

pub returns-clause-same : goal.returns-clause-same
returns-clause-same c = c.widening.invariant.same

pub returns-clause-room : goal.returns-clause-room
returns-clause-room c = λ k within. c.widening.invariant.room k (omega (arith, within, c.widening-test.false))

pub members-members-requires : goal.members-members-requires
members-members-requires c = all_at (λ number. number < length c.args.sorts.now.names) c.args.numbers.now c.widening.number-index 0 c.requires.known c.widening-test.true

pub reserve_at-requires : goal.reserve_at-requires
reserve_at-requires c = within_still c.args.lists.now c.widening.lists c.args.numbers.now c.widening.number-index c.requires.within (ap length c.widening.invariant.same) c.widening-test.true
