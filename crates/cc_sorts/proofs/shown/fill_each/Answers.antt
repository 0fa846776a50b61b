use Rattle.std.proofs.Common.{◌∙◌, ◌≡◌, ◌<◌, ℕ, List, length, slice_index_or, slice_set, subst, sym, arith, ap}
use Rattle.std.proofs.Math.ListN.{length-set}
use Rattle.cc_sorts.specs.Lists.{lists_of, AreBelow}
use Rattle.cc_sorts.specs.Shown.{shown_list}
use Rattle.cc_sorts.specs.SortViews.{members_at}
use Rattle.cc_sorts.proofs.Past.{below_at}
use Rattle.cc_sorts.proofs.Spaces.{set_here}
use Rattle.cc_sorts.proofs.Vectors.{rises, all_at, within_still}
use Rattle.cc_sorts.proofs.shown.fill_each.Goals as goal

pub fill_at-requires-clause-within : goal.fill_at-requires-clause-within
fill_at-requires-clause-within c =
    subst (AreBelow (length c.args.puts.now)) (sym c.members.ensures)
    (below_at (length c.args.puts.now) c.args.sorts.now.members (slice_index_or c.args.numbers.now c.filling.number-index 0) c.requires.past)

pub fill_at-requires-clause-room : goal.fill_at-requires-clause-room
fill_at-requires-clause-room c =
    omega (arith, ap length c.members.ensures, c.filling.invariant.room c.filling.number-index (omega arith) c.filling-test.true)

pub filling-preserved : goal.filling-preserved
filling-preserved c =
    let number = slice_index_or c.args.numbers.now c.filling.number-index 0 in
    let is : lists_of c.fill_at.new.lists.items ≡ slice_set (lists_of c.filling.lists.items) number (shown_list c.args.puts.now (members_at c.args.sorts.now number)) =
    c.fill_at.ensures.filled ∙ ap (λ (w : List ℕ). slice_set (lists_of c.filling.lists.items) number (shown_list c.args.puts.now w)) c.members.ensures in
    record {
      whole = set_here c.args.numbers.now c.filling.number-index (λ (n : ℕ). shown_list c.args.puts.now (members_at c.args.sorts.now n)) (lists_of c.filling.lists.items) (lists_of c.fill_at.new.lists.items)
          c.filling-test.true is ∙ c.filling.invariant.whole;
      count = ap length is ∙ length-set _ _ _ ∙ c.filling.invariant.count;
      room = λ k low within.
          let less : number < slice_index_or c.args.numbers.now k 0 = rises c.args.numbers.now c.filling.number-index k 0 c.requires.numbers (omega arith) within in
          omega (arith, c.fill_at.ensures.kept (slice_index_or c.args.numbers.now k 0) (λ same. omega arith), c.filling.invariant.room k (omega arith) within);
    }

pub members-requires : goal.members-requires
members-requires c = all_at (λ number. number < length c.args.sorts.now.names) c.args.numbers.now c.filling.number-index 0 c.requires.known c.filling-test.true

pub fill_at-requires-clause-number : goal.fill_at-requires-clause-number
fill_at-requires-clause-number c = within_still c.args.lists.now c.filling.lists c.args.numbers.now c.filling.number-index c.requires.within c.filling.invariant.count c.filling-test.true
