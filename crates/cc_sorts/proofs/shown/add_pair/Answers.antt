use Rattle.std.proofs.Common.{◌≡◌, ◌∙◌, ℕ, length, slice_index_or, sym, ap, subst, arith, refl, ◌+◌, ◌≤◌, ◌<◌}
use Rattle.cc_sorts.specs.Lists.{lists_of, capacities_of}
use Rattle.cc_sorts.specs.SortViews.{members_at, IsPast, SortsView}
use Rattle.cc_sorts.proofs.Filled.{above_ascends, above_within, above_pair, listed_len, pair_lists, pair_room}
use Rattle.cc_sorts.proofs.Past.{past_pair}
use Rattle.cc_sorts.proofs.Walks.{on_ok, on_done}
use Rattle.cc_sorts.proofs.shown.add_pair.Goals as goal

pub reserve_above-requires-clause-within : goal.reserve_above-requires-clause-within
reserve_above-requires-clause-within c =
    above_within c.args.sorts.now c.args.upper c.args.lists.now.len c.above.result.now c.above.ensures (listed_len c.args.lists.now c.args.puts.now c.args.sorts.now c.requires.shown c.requires.as_many)

pub reserve_above-requires-clause-known : goal.reserve_above-requires-clause-known
reserve_above-requires-clause-known c = above_within c.args.sorts.now c.args.upper (length c.args.sorts.now.names) c.above.result.now c.above.ensures refl

pub fill_each-requires-clause-within : goal.fill_each-requires-clause-within
fill_each-requires-clause-within c =
    above_within c.args.sorts.now c.args.upper c.reserve_above.new.lists.len c.above-2.result.now
    (above_pair c.args.sorts.now c.put_below.new.self c.args.upper c.args.lower c.above-2.result.now c.requires.apart c.in_ok-put_below.ensures.added c.above-2.ensures)
    (listed_len c.reserve_above.new.lists c.args.puts.now c.args.sorts.now (c.reserve_above.ensures.same ∙ c.requires.shown) c.requires.as_many)

pub fill_each-requires-clause-known : goal.fill_each-requires-clause-known
fill_each-requires-clause-known c = above_within c.put_below.new.self c.args.upper (length c.put_below.new.self.names) c.above-2.result.now c.above-2.ensures refl

pub fill_each-requires-clause-numbers : goal.fill_each-requires-clause-numbers
fill_each-requires-clause-numbers c = above_ascends c.put_below.new.self c.args.upper c.above-2.result.now c.above-2.ensures

pub fill_each-requires-clause-past : goal.fill_each-requires-clause-past
fill_each-requires-clause-past c =
    subst (IsPast (length c.args.puts.now)) (sym c.in_ok-put_below.ensures.added) (past_pair (length c.args.puts.now) c.args.sorts.now c.args.upper c.args.lower c.requires.past)

pub fill_each-requires-clause-room : goal.fill_each-requires-clause-room
fill_each-requires-clause-room c = λ k within.
    let same = above_pair c.args.sorts.now c.put_below.new.self c.args.upper c.args.lower c.above-2.result.now c.requires.apart c.in_ok-put_below.ensures.added c.above-2.ensures in
    let number = slice_index_or c.above-2.result.now k 0 in
    let is : slice_index_or c.above.result.now k 0 ≡ number = ap (λ numbers. slice_index_or numbers k 0) (c.above.ensures ∙ sym same) in
    let count : length c.above.result.now ≡ length c.above-2.result.now = ap length (c.above.ensures ∙ sym same) in
    pair_room c.args.sorts.now c.put_below.new.self c.args.upper c.args.lower number (length c.members-more.result.now) _ c.in_ok-put_below.ensures.added (ap length c.members-more.ensures)
    (subst (λ (n : ℕ). length (members_at c.args.sorts.now n) + length c.members-more.result.now ≤ slice_index_or (capacities_of c.reserve_above.new.lists.items) n 0) is
    (c.in_ok-reserve_above.ensures.room k (omega (arith, count))))

pub returns-clause-lists : goal.returns-clause-lists
returns-clause-lists c =
    pair_lists c.args.puts.now c.args.sorts.now c.put_below.new.self c.args.upper c.args.lower c.above-2.result.now (lists_of c.args.lists.now.items) (lists_of c.reserve_above.new.lists.items)
    (lists_of c.fill_each.new.lists.items) c.requires.apart c.requires.as_many c.requires.shown c.reserve_above.ensures.same c.in_ok-put_below.ensures.added c.above-2.ensures c.fill_each.ensures.filled

pub above-requires-2 : goal.above-requires-2
above-requires-2 c = subst (λ (w : SortsView). c.args.upper < length w.names) (sym c.in_ok-put_below.ensures.added) c.requires.upper

pub returns-clause-added : goal.returns-clause-added
returns-clause-added c = on_ok c.fill_each.result _ c.in_ok-put_below.ensures.added

pub returns-clause-unchanged : goal.returns-clause-unchanged
returns-clause-unchanged c = on_done c.fill_each.result _ c.fill_each.ensures.done
