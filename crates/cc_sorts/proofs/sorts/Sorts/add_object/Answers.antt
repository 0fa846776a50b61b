use Rattle.std.proofs.Common.{◌∙◌, ◌∷◌, [], length, ap, sym, subst, refl}
use Rattle.cc_sorts.specs.Dictionaries.{names_of}
use Rattle.cc_sorts.specs.Lists.{lists_of, list_at, at_each, AllAscend}
use Rattle.cc_sorts.specs.Numbers.{Ascends, union}
use Rattle.cc_sorts.specs.SortViews.{SortsView, with_object, IsPast}
use Rattle.cc_sorts.proofs.Changing.{kept_object, seen_object}
use Rattle.cc_sorts.proofs.Reading.{within, read_above, above_below, above_ascend}
use Rattle.cc_sorts.proofs.Vectors.{numbers_within, vec_within}
use Rattle.cc_sorts.proofs.Growing.{kept_as}
use Rattle.std.proofs.lemmas.Bool.{false≢true}
use Rattle.cc_sorts.proofs.sorts.Sorts.add_object.Goals as goal

pub make_room-requires : goal.make_room-requires
make_room-requires c =
    numbers_within c.self.inside.members (length (names_of c.self.inside.names)) c.deref-above.result.now (list_at (lists_of c.self.inside.above.items) c.args.sort)
    c.self.invariant.members_count
    (read_above c.self.inside c.args.self.now c.self.view_is c.self.invariant c.args.sort c.requires.sort c.index.result.now c.deref-above.result.now c.deref-above.ensures.value c.index.ensures)
    (above_below c.self.inside c.args.self.now c.self.view_is c.self.invariant c.args.sort c.requires.sort)

pub unite_each-requires-clause-within : goal.unite_each-requires-clause-within
unite_each-requires-clause-within c =
    numbers_within c.make_room.new.lists (length (names_of c.self.inside.names)) c.deref-above.result.now (list_at (lists_of c.self.inside.above.items) c.args.sort)
    (ap length c.make_room.ensures.same ∙ c.self.invariant.members_count)
    (read_above c.self.inside c.args.self.now c.self.view_is c.self.invariant c.args.sort c.requires.sort c.index.result.now c.deref-above.result.now c.deref-above.ensures.value c.index.ensures)
    (above_below c.self.inside c.args.self.now c.self.view_is c.self.invariant c.args.sort c.requires.sort)

pub unite_each-requires-clause-numbers : goal.unite_each-requires-clause-numbers
unite_each-requires-clause-numbers c =
    subst Ascends
    (sym (read_above c.self.inside c.args.self.now c.self.view_is c.self.invariant c.args.sort c.requires.sort c.index.result.now c.deref-above.result.now c.deref-above.ensures.value c.index.ensures))
    (above_ascend c.self.inside c.args.self.now c.self.view_is c.self.invariant c.args.sort c.requires.sort)

pub invariant_of-self-2 : goal.invariant_of-self-2
invariant_of-self-2 c =
    kept_object (names_of c.self.inside.names) c.self.inside.pairs.items c.self.inside.known.keys (lists_of c.self.inside.above.items) (lists_of c.self.inside.below.items)
    (lists_of c.self.inside.members.items) (lists_of c.unite_each.new.lists.items) c.args.sort c.args.object c.deref-above.result.now c.self.invariant
    (within c.self.inside c.args.self.now c.self.view_is c.self.invariant c.args.sort c.requires.sort)
    (read_above c.self.inside c.args.self.now c.self.view_is c.self.invariant c.args.sort c.requires.sort c.index.result.now c.deref-above.result.now c.deref-above.ensures.value c.index.ensures)
    (c.unite_each.ensures.united ∙ ap (at_each c.deref-above.result.now (λ list. union list (c.args.object ∷ []))) c.make_room.ensures.same)

pub returns-clause-added : goal.returns-clause-added
returns-clause-added c =
    seen_object (names_of c.self.inside.names) c.self.inside.pairs.items c.self.inside.known.keys (lists_of c.self.inside.above.items) (lists_of c.self.inside.below.items)
    (lists_of c.self.inside.members.items) (lists_of c.unite_each.new.lists.items) c.args.sort c.args.object c.deref-above.result.now c.self.invariant
    (within c.self.inside c.args.self.now c.self.view_is c.self.invariant c.args.sort c.requires.sort)
    (read_above c.self.inside c.args.self.now c.self.view_is c.self.invariant c.args.sort c.requires.sort c.index.result.now c.deref-above.result.now c.deref-above.ensures.value c.index.ensures)
    (c.unite_each.ensures.united ∙ ap (at_each c.deref-above.result.now (λ list. union list (c.args.object ∷ []))) c.make_room.ensures.same)
    (subst (IsPast c.args.object) (sym c.self.view_is) c.requires.last)
    ∙ ap (λ (view : SortsView). with_object view c.args.sort c.args.object) c.self.view_is

pub invariant_of-self-in_err-unite_each : goal.invariant_of-self-in_err-unite_each
invariant_of-self-in_err-unite_each c = absurd (false≢true c.in_err-unite_each.ensures.done)

pub invariant_of-self : goal.invariant_of-self
invariant_of-self c =
    kept_as (names_of c.self.inside.names) (names_of c.self.inside.names) c.self.inside.pairs.items c.self.inside.known.keys (lists_of c.self.inside.above.items) (lists_of c.self.inside.above.items)
    (lists_of c.self.inside.below.items) (lists_of c.self.inside.below.items) (lists_of c.self.inside.members.items) (lists_of c.make_room.new.lists.items) c.self.invariant refl refl refl c.make_room.ensures.same

pub unite_each-requires-clause-room : goal.unite_each-requires-clause-room
unite_each-requires-clause-room c = c.in_ok-make_room.ensures.room

pub index-requires : goal.index-requires
index-requires c = vec_within c.self.inside.above c.args.sort _ c.self.invariant.above_are.as_many (within c.self.inside c.args.self.now c.self.view_is c.self.invariant c.args.sort c.requires.sort)

pub unite_each-requires-clause-lists : goal.unite_each-requires-clause-lists
unite_each-requires-clause-lists c = subst AllAscend (sym c.make_room.ensures.same) c.self.invariant.members_ascend
