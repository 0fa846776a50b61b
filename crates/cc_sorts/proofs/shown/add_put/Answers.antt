use Rattle.std.proofs.Common.{◌∙◌, ◌<◌, ℕ, List, ◌++◌, ◌∷◌, [], length, slice_index_or, sym, ap, subst}
use Rattle.cc_sorts.specs.Lists.{lists_of}
use Rattle.cc_sorts.specs.Shown.{HasSpace}
use Rattle.cc_sorts.proofs.Filled.{above_ascends, above_within, above_kept, listed_len, fresh_shown, put_lists}
use Rattle.cc_sorts.proofs.Walks.{on_ok, on_done}
use Rattle.cc_sorts.specs.SortViews.{SortsView, IsPast, with_object}
use Rattle.cc_sorts.proofs.shown.add_put.Goals as goal

pub reserve_each-requires : goal.reserve_each-requires
reserve_each-requires c =
    above_within c.args.sorts.now c.args.put.sort c.args.lists.now.len c.above.result.now c.above.ensures
    (listed_len c.args.lists.now c.args.puts.now.items c.args.sorts.now c.requires.shown c.requires.as_many)

pub show_each-requires-clause-within : goal.show_each-requires-clause-within
show_each-requires-clause-within c =
    above_within c.args.sorts.now c.args.put.sort c.reserve_each.new.lists.len c.above-2.result.now
    (above_kept c.args.sorts.now c.add_object.new.self c.args.put.sort c.len-number.result c.above-2.result.now c.in_ok-add_object.ensures.added c.above-2.ensures)
    (listed_len c.reserve_each.new.lists c.args.puts.now.items c.args.sorts.now (c.reserve_each.ensures.same ∙ c.requires.shown) c.requires.as_many)

pub show_each-requires-clause-numbers : goal.show_each-requires-clause-numbers
show_each-requires-clause-numbers c = above_ascends c.add_object.new.self c.args.put.sort c.above-2.result.now c.above-2.ensures

pub show_each-requires-clause-room : goal.show_each-requires-clause-room
show_each-requires-clause-room c =
    subst (λ (w : List ℕ). (k : ℕ) → k < length w → HasSpace c.reserve_each.new.lists.items 1 (slice_index_or w k 0))
    (c.above.ensures ∙ sym (above_kept c.args.sorts.now c.add_object.new.self c.args.put.sort c.len-number.result c.above-2.result.now c.in_ok-add_object.ensures.added c.above-2.ensures))
    c.in_ok-reserve_each.ensures.room

pub show_each-requires-clause-fresh : goal.show_each-requires-clause-fresh
show_each-requires-clause-fresh c = λ fresh.
    fresh_shown c.args.puts.now.items c.args.put.object c.args.sorts.now (lists_of c.args.lists.now.items) (lists_of c.reserve_each.new.lists.items)
    (c.requires.fresh fresh) c.requires.past c.requires.shown c.reserve_each.ensures.same

pub returns-clause-lists : goal.returns-clause-lists
returns-clause-lists c =
    put_lists c.args.puts.now.items c.push.new.self.items c.args.put c.args.sorts.now c.add_object.new.self c.args.put.sort c.len-number.result c.above-2.result.now
    (lists_of c.args.lists.now.items) (lists_of c.reserve_each.new.lists.items) (lists_of c.show_each.new.lists.items)
    c.requires.as_many c.requires.past c.requires.shown c.reserve_each.ensures.same (c.len-number.ensures ∙ c.args.puts.now.ok.0) c.in_ok-add_object.ensures.added
    (c.in_ok-push.ensures.items ∙ ap (λ items. items ++ c.args.put ∷ []) c.reserve.ensures.items) c.above-2.ensures c.show_each.ensures.shown

pub returns-clause-added : goal.returns-clause-added
returns-clause-added c = on_ok c.show_each.result _ (c.in_ok-add_object.ensures.added ∙ ap (with_object c.args.sorts.now c.args.put.sort) (c.len-number.ensures ∙ c.args.puts.now.ok.0))

pub returns-clause-put : goal.returns-clause-put
returns-clause-put c = on_ok c.show_each.result _ (c.in_ok-push.ensures.items ∙ ap (λ items. items ++ c.args.put ∷ []) c.reserve.ensures.items)

pub above-requires-2 : goal.above-requires-2
above-requires-2 c = subst (λ (w : SortsView). c.args.put.sort < length w.names) (sym c.in_ok-add_object.ensures.added) c.requires.sort

pub returns-clause-unchanged : goal.returns-clause-unchanged
returns-clause-unchanged c = on_done c.show_each.result _ c.show_each.ensures.done

pub returns-clause-puts_kept : goal.returns-clause-puts_kept
returns-clause-puts_kept c = on_done c.show_each.result _ c.show_each.ensures.done

pub add_object-requires-clause-last : goal.add_object-requires-clause-last
add_object-requires-clause-last c = subst (λ (n : ℕ). IsPast n c.args.sorts.now) (sym (c.len-number.ensures ∙ c.args.puts.now.ok.0)) c.requires.past
