use Rattle.std.proofs.Common.{◌∙◌, ap, arith}
use Rattle.cc_defs.specs.Declarations.{is_below}
use Rattle.cc_sorts.specs.Dictionaries.{names_of}
use Rattle.cc_sorts.specs.Lists.{lists_of}
use Rattle.cc_sorts.specs.SortViews.{SortsView, with_implied, name_at}
use Rattle.cc_sorts.proofs.Reading.{within}
use Rattle.cc_sorts.proofs.Uppers.{apart_numbers}
use Rattle.cc_sorts.proofs.Walks.{on_ok, on_done}
use Rattle.cc_sorts.proofs.Widening.{kept_implied, seen_implied, pushed, known_more}
use Rattle.cc_sorts.proofs.Growing.{kept_same}
use Rattle.cc_sorts.proofs.sorts.Sorts.add_implied.Goals as goal

pub invariant_of-self-2 : goal.invariant_of-self-2
invariant_of-self-2 c =
    kept_implied (names_of c.self.inside.names) c.self.inside.pairs.items c.self.inside.known.keys (lists_of c.self.inside.above.items) (lists_of c.self.inside.below.items)
    (lists_of c.self.inside.members.items) c.args.upper c.args.lower c.self.invariant (within c.self.inside c.args.self.now c.self.view_is c.self.invariant c.args.upper c.requires.upper) (within c.self.inside c.args.self.now c.self.view_is c.self.invariant c.args.lower c.requires.lower)
    (apart_numbers c.args.self.now c.args.upper c.args.lower c.requires.apart)
    (ap (λ (view : SortsView). is_below view.pairs (name_at view c.args.lower) (name_at view c.args.upper)) c.self.view_is ∙ c.requires.implied)
    c.record_pair.new.pairs.items c.record_pair.new.known.keys
    (pushed c.self.inside.pairs.items c.make_room_for_pair.new.pairs.items c.record_pair.new.pairs.items (record { upper = c.args.upper; lower = c.args.lower }) c.record_pair.ensures.pairs c.make_room_for_pair.ensures.pairs)
    (known_more c.self.inside.known.keys c.make_room_for_pair.new.known.keys c.record_pair.new.known.keys c.self.inside.pairs.items (record { upper = c.args.upper; lower = c.args.lower }) c.make_room_for_pair.ensures.known c.record_pair.ensures.known c.self.invariant.known_are)

pub returns-clause-added : goal.returns-clause-added
returns-clause-added c = on_ok c.record_pair.result _ (
    seen_implied (names_of c.self.inside.names) c.self.inside.pairs.items c.self.inside.known.keys (lists_of c.self.inside.above.items) (lists_of c.self.inside.below.items)
    (lists_of c.self.inside.members.items) c.args.upper c.args.lower c.self.invariant (within c.self.inside c.args.self.now c.self.view_is c.self.invariant c.args.upper c.requires.upper) (within c.self.inside c.args.self.now c.self.view_is c.self.invariant c.args.lower c.requires.lower)
    c.record_pair.new.pairs.items
    (pushed c.self.inside.pairs.items c.make_room_for_pair.new.pairs.items c.record_pair.new.pairs.items (record { upper = c.args.upper; lower = c.args.lower }) c.record_pair.ensures.pairs c.make_room_for_pair.ensures.pairs)
    ∙ ap (λ (view : SortsView). with_implied view c.args.upper c.args.lower) c.self.view_is)

pub invariant_of-self : goal.invariant_of-self
invariant_of-self c =
    kept_same (names_of c.self.inside.names) c.self.inside.pairs.items c.make_room_for_pair.new.pairs.items c.self.inside.known.keys c.make_room_for_pair.new.known.keys (lists_of c.self.inside.above.items) (lists_of c.self.inside.below.items) (lists_of c.self.inside.members.items)
    c.self.invariant c.make_room_for_pair.ensures.pairs c.make_room_for_pair.ensures.known

pub returns-clause-unchanged : goal.returns-clause-unchanged
returns-clause-unchanged c = on_done c.record_pair.result _ c.record_pair.ensures.done

pub overflow_cast-pair : goal.overflow_cast-pair
overflow_cast-pair c = omega (arith, (within c.self.inside c.args.self.now c.self.view_is c.self.invariant c.args.upper c.requires.upper), c.self.invariant.few)

pub overflow_cast-pair-2 : goal.overflow_cast-pair-2
overflow_cast-pair-2 c = omega (arith, (within c.self.inside c.args.self.now c.self.view_is c.self.invariant c.args.lower c.requires.lower), c.self.invariant.few)
