use Rattle.std.proofs.Common.{◌∙◌, ap, length, sym, subst, arith, refl}
use Rattle.cc_sorts.specs.Dictionaries.{names_of}
use Rattle.cc_sorts.specs.Lists.{lists_of, list_at}
use Rattle.cc_sorts.specs.Numbers.{Ascends}
use Rattle.cc_sorts.specs.SortViews.{SortsView, with_pair}
use Rattle.cc_sorts.proofs.Reading.{within}
use Rattle.cc_sorts.proofs.Uppers.{apart_numbers}
use Rattle.cc_sorts.proofs.Vectors.{numbers_within, ascends_at, count_within}
use Rattle.cc_sorts.proofs.Walks.{on_err, on_ok, on_done}
use Rattle.cc_sorts.proofs.Widening.{kept_pair, seen_pair, pushed, known_more}
use Rattle.cc_sorts.proofs.Growing.{seen_as, kept_as, kept_same}
use Rattle.cc_sorts.proofs.sorts.Sorts.put_below.Goals as goal

pub put-requires-clause-within_above : goal.put-requires-clause-within_above
put-requires-clause-within_above c =
    numbers_within c.self.inside.above (length (names_of c.self.inside.names)) c.in_ok-moves.moves.lowers.items (list_at (lists_of c.self.inside.below.items) c.args.lower) c.self.invariant.above_are.as_many
    (c.in_ok-moves.ensures.lowers ∙ ap (λ lists. list_at (lists_of lists) c.args.lower) c.deref-2.ensures.value) (c.self.invariant.below_are.within c.args.lower (within c.self.inside c.args.self.now c.self.view_is c.self.invariant c.args.lower c.requires.lower))

pub put-requires-clause-within_below : goal.put-requires-clause-within_below
put-requires-clause-within_below c =
    numbers_within c.self.inside.below (length (names_of c.self.inside.names)) c.in_ok-moves.moves.uppers.items (list_at (lists_of c.self.inside.above.items) c.args.upper) c.self.invariant.below_are.as_many
    (c.in_ok-moves.ensures.uppers ∙ ap (λ lists. list_at (lists_of lists) c.args.upper) c.deref.ensures.value) (c.self.invariant.above_are.within c.args.upper (within c.self.inside c.args.self.now c.self.view_is c.self.invariant c.args.upper c.requires.upper))

pub put-requires-clause-within_members : goal.put-requires-clause-within_members
put-requires-clause-within_members c =
    numbers_within c.self.inside.members (length (names_of c.self.inside.names)) c.in_ok-moves.moves.uppers.items (list_at (lists_of c.self.inside.above.items) c.args.upper) c.self.invariant.members_count
    (c.in_ok-moves.ensures.uppers ∙ ap (λ lists. list_at (lists_of lists) c.args.upper) c.deref.ensures.value) (c.self.invariant.above_are.within c.args.upper (within c.self.inside c.args.self.now c.self.view_is c.self.invariant c.args.upper c.requires.upper))

pub put-requires-clause-uppers : goal.put-requires-clause-uppers
put-requires-clause-uppers c = subst Ascends (sym (c.in_ok-moves.ensures.uppers ∙ ap (λ lists. list_at (lists_of lists) c.args.upper) c.deref.ensures.value)) (ascends_at (lists_of c.self.inside.above.items) c.args.upper c.self.invariant.above_are.ascend)

pub put-requires-clause-lowers : goal.put-requires-clause-lowers
put-requires-clause-lowers c = subst Ascends (sym (c.in_ok-moves.ensures.lowers ∙ ap (λ lists. list_at (lists_of lists) c.args.lower) c.deref-2.ensures.value)) (ascends_at (lists_of c.self.inside.below.items) c.args.lower c.self.invariant.below_are.ascend)

pub put-requires-clause-objects : goal.put-requires-clause-objects
put-requires-clause-objects c = subst Ascends (sym (c.in_ok-moves.ensures.objects ∙ ap (λ lists. list_at (lists_of lists) c.args.lower) c.deref-3.ensures.value)) (ascends_at (lists_of c.self.inside.members.items) c.args.lower c.self.invariant.members_ascend)

pub invariant_of-self-2 : goal.invariant_of-self-2
invariant_of-self-2 c =
    kept_pair (names_of c.self.inside.names) c.self.inside.pairs.items c.self.inside.known.keys (lists_of c.self.inside.above.items) (lists_of c.self.inside.below.items)
    (lists_of c.self.inside.members.items) c.args.upper c.args.lower c.self.invariant (within c.self.inside c.args.self.now c.self.view_is c.self.invariant c.args.upper c.requires.upper) (within c.self.inside c.args.self.now c.self.view_is c.self.invariant c.args.lower c.requires.lower)
    c.in_ok-moves.moves.uppers.items c.in_ok-moves.moves.lowers.items c.in_ok-moves.moves.objects.items
    (c.in_ok-moves.ensures.uppers ∙ ap (λ lists. list_at (lists_of lists) c.args.upper) c.deref.ensures.value)
    (c.in_ok-moves.ensures.lowers ∙ ap (λ lists. list_at (lists_of lists) c.args.lower) c.deref-2.ensures.value)
    (c.in_ok-moves.ensures.objects ∙ ap (λ lists. list_at (lists_of lists) c.args.lower) c.deref-3.ensures.value)
    (apart_numbers c.args.self.now c.args.upper c.args.lower c.requires.apart)
    c.record_pair.new.pairs.items c.record_pair.new.known.keys (lists_of c.put.new.above.items) (lists_of c.put.new.below.items) (lists_of c.put.new.members.items)
    (pushed c.self.inside.pairs.items c.make_room_for_pair.new.pairs.items c.record_pair.new.pairs.items (record { upper = c.args.upper; lower = c.args.lower }) c.record_pair.ensures.pairs c.make_room_for_pair.ensures.pairs)
    (known_more c.self.inside.known.keys c.make_room_for_pair.new.known.keys c.record_pair.new.known.keys c.self.inside.pairs.items (record { upper = c.args.upper; lower = c.args.lower }) c.make_room_for_pair.ensures.known c.record_pair.ensures.known c.self.invariant.known_are)
    c.in_ok-put.ensures.above c.in_ok-put.ensures.below c.in_ok-put.ensures.members

pub returns-clause-added : goal.returns-clause-added
returns-clause-added c = on_ok c.record_pair.result _ (
    seen_pair (names_of c.self.inside.names) c.self.inside.pairs.items c.self.inside.known.keys (lists_of c.self.inside.above.items) (lists_of c.self.inside.below.items)
    (lists_of c.self.inside.members.items) c.args.upper c.args.lower c.self.invariant (within c.self.inside c.args.self.now c.self.view_is c.self.invariant c.args.upper c.requires.upper) (within c.self.inside c.args.self.now c.self.view_is c.self.invariant c.args.lower c.requires.lower)
    c.in_ok-moves.moves.uppers.items c.in_ok-moves.moves.lowers.items c.in_ok-moves.moves.objects.items
    (c.in_ok-moves.ensures.uppers ∙ ap (λ lists. list_at (lists_of lists) c.args.upper) c.deref.ensures.value)
    (c.in_ok-moves.ensures.lowers ∙ ap (λ lists. list_at (lists_of lists) c.args.lower) c.deref-2.ensures.value)
    (c.in_ok-moves.ensures.objects ∙ ap (λ lists. list_at (lists_of lists) c.args.lower) c.deref-3.ensures.value)
    c.record_pair.new.pairs.items (lists_of c.put.new.members.items)
    (pushed c.self.inside.pairs.items c.make_room_for_pair.new.pairs.items c.record_pair.new.pairs.items (record { upper = c.args.upper; lower = c.args.lower }) c.record_pair.ensures.pairs c.make_room_for_pair.ensures.pairs)
    c.in_ok-put.ensures.members
    ∙ ap (λ (view : SortsView). with_pair view c.args.upper c.args.lower) c.self.view_is)

pub put-requires-clause-above : goal.put-requires-clause-above
put-requires-clause-above c = c.self.invariant.above_are.ascend

pub put-requires-clause-below : goal.put-requires-clause-below
put-requires-clause-below c = c.self.invariant.below_are.ascend

pub put-requires-clause-members : goal.put-requires-clause-members
put-requires-clause-members c = c.self.invariant.members_ascend

pub invariant_of-self : goal.invariant_of-self
invariant_of-self c =
    kept_same (names_of c.self.inside.names) c.self.inside.pairs.items c.make_room_for_pair.new.pairs.items c.self.inside.known.keys c.make_room_for_pair.new.known.keys (lists_of c.self.inside.above.items) (lists_of c.self.inside.below.items) (lists_of c.self.inside.members.items)
    c.self.invariant c.make_room_for_pair.ensures.pairs c.make_room_for_pair.ensures.known

pub returns-in_err-make_room_for_pair-clause-unchanged : goal.returns-in_err-make_room_for_pair-clause-unchanged
returns-in_err-make_room_for_pair-clause-unchanged c =
    on_err _ _ (seen_as (names_of c.self.inside.names) (names_of c.self.inside.names) c.self.inside.pairs.items c.make_room_for_pair.new.pairs.items (lists_of c.self.inside.members.items) (lists_of c.self.inside.members.items)
    c.args.self.now c.self.view_is refl c.make_room_for_pair.ensures.pairs refl)

pub invariant_of-self-in_err-put : goal.invariant_of-self-in_err-put
invariant_of-self-in_err-put c =
    kept_as (names_of c.self.inside.names) (names_of c.self.inside.names) c.make_room_for_pair.new.pairs.items c.make_room_for_pair.new.known.keys (lists_of c.self.inside.above.items) (lists_of c.put.new.above.items)
    (lists_of c.self.inside.below.items) (lists_of c.put.new.below.items) (lists_of c.self.inside.members.items) (lists_of c.put.new.members.items)
    (kept_same (names_of c.self.inside.names) c.self.inside.pairs.items c.make_room_for_pair.new.pairs.items c.self.inside.known.keys c.make_room_for_pair.new.known.keys (lists_of c.self.inside.above.items) (lists_of c.self.inside.below.items) (lists_of c.self.inside.members.items)
    c.self.invariant c.make_room_for_pair.ensures.pairs c.make_room_for_pair.ensures.known) refl c.in_err-put.ensures.above c.in_err-put.ensures.below c.in_err-put.ensures.members

pub returns-in_err-put-clause-unchanged : goal.returns-in_err-put-clause-unchanged
returns-in_err-put-clause-unchanged c =
    on_err _ _ (seen_as (names_of c.self.inside.names) (names_of c.self.inside.names) c.self.inside.pairs.items c.make_room_for_pair.new.pairs.items (lists_of c.self.inside.members.items) (lists_of c.put.new.members.items)
    c.args.self.now c.self.view_is refl c.make_room_for_pair.ensures.pairs c.in_err-put.ensures.members)

pub record_pair-requires-clause-room : goal.record_pair-requires-clause-room
record_pair-requires-clause-room c = c.in_ok-make_room_for_pair.ensures.room

pub record_pair-requires-clause-room_to_know : goal.record_pair-requires-clause-room_to_know
record_pair-requires-clause-room_to_know c = c.in_ok-make_room_for_pair.ensures.room_to_know

pub of-requires-clause-upper : goal.of-requires-clause-upper
of-requires-clause-upper c = count_within c.self.inside.above.items c.deref.result.now c.args.upper _ c.deref.ensures.value c.self.invariant.above_are.as_many (within c.self.inside c.args.self.now c.self.view_is c.self.invariant c.args.upper c.requires.upper)

pub of-requires-clause-lower : goal.of-requires-clause-lower
of-requires-clause-lower c = count_within c.self.inside.below.items c.deref-2.result.now c.args.lower _ c.deref-2.ensures.value c.self.invariant.below_are.as_many (within c.self.inside c.args.self.now c.self.view_is c.self.invariant c.args.lower c.requires.lower)

pub of-requires-clause-members : goal.of-requires-clause-members
of-requires-clause-members c = count_within c.self.inside.members.items c.deref-3.result.now c.args.lower _ c.deref-3.ensures.value c.self.invariant.members_count (within c.self.inside c.args.self.now c.self.view_is c.self.invariant c.args.lower c.requires.lower)

pub returns-clause-unchanged : goal.returns-clause-unchanged
returns-clause-unchanged c = on_done _ _ c.record_pair.ensures.done

pub overflow_cast-pair : goal.overflow_cast-pair
overflow_cast-pair c = omega (arith, (within c.self.inside c.args.self.now c.self.view_is c.self.invariant c.args.upper c.requires.upper), c.self.invariant.few)

pub overflow_cast-pair-2 : goal.overflow_cast-pair-2
overflow_cast-pair-2 c = omega (arith, (within c.self.inside c.args.self.now c.self.view_is c.self.invariant c.args.lower c.requires.lower), c.self.invariant.few)
