use Rattle.std.proofs.Common.{◌∙◌, Bool, List, ℕ, arith, ap, subst, sym}
use Rattle.std.specs.Prelude.{if◌then◌else◌}
use Rattle.cc_sorts.specs.Lists.{lists_of, at_each, AllAscend}
use Rattle.cc_sorts.specs.Numbers.{union}
use Rattle.cc_sorts.proofs.Vectors.{below_still}
use Rattle.cc_sorts.proofs.lists.widen.Goals as goal

pub unite_each-requires-clause-room : goal.unite_each-requires-clause-room
unite_each-requires-clause-room c = λ k within. let room = c.in_ok-make_room.ensures.room k within in (room.0, omega (arith, room.1, c.make_room-2.ensures.grown, c.make_room-3.ensures.grown))

pub unite_each-requires-2-clause-lists : goal.unite_each-requires-2-clause-lists
unite_each-requires-2-clause-lists c = subst AllAscend (sym c.make_room-2.ensures.same) c.requires.below

pub unite_each-requires-2-clause-room : goal.unite_each-requires-2-clause-room
unite_each-requires-2-clause-room c = λ k within. let room = c.in_ok-make_room-2.ensures.room k within in (room.0, omega (arith, room.1, c.make_room-3.ensures.grown, c.unite_each.ensures.kept))

pub unite_each-requires-3-clause-lists : goal.unite_each-requires-3-clause-lists
unite_each-requires-3-clause-lists c = subst AllAscend (sym c.make_room-3.ensures.same) c.requires.members

pub unite_each-requires-3-clause-room : goal.unite_each-requires-3-clause-room
unite_each-requires-3-clause-room c = λ k within. let room = c.in_ok-make_room-3.ensures.room k within in (room.0, omega (arith, room.1, c.unite_each.ensures.kept, c.unite_each-2.ensures.kept))

pub returns-clause-above : goal.returns-clause-above
returns-clause-above c =
    let old = lists_of c.args.above.now.items in
    let change : List (List ℕ) → List (List ℕ) = at_each c.args.lowers.now (λ list. union list c.args.uppers.now) in
    c.unite_each.ensures.united ∙ ap change c.make_room.ensures.same ∙ sym (ap (λ (b : Bool). if b then change old else old) c.unite_each-3.ensures.done)

pub returns-clause-below : goal.returns-clause-below
returns-clause-below c =
    let old = lists_of c.args.below.now.items in
    let change : List (List ℕ) → List (List ℕ) = at_each c.args.uppers.now (λ list. union list c.args.lowers.now) in
    c.unite_each-2.ensures.united ∙ ap change c.make_room-2.ensures.same ∙ sym (ap (λ (b : Bool). if b then change old else old) c.unite_each-3.ensures.done)

pub returns-clause-members : goal.returns-clause-members
returns-clause-members c =
    let old = lists_of c.args.members.now.items in
    let change : List (List ℕ) → List (List ℕ) = at_each c.args.uppers.now (λ list. union list c.args.objects.now) in
    c.unite_each-3.ensures.united ∙ ap change c.make_room-3.ensures.same ∙ sym (ap (λ (b : Bool). if b then change old else old) c.unite_each-3.ensures.done)

pub unite_each-requires-3-clause-within : goal.unite_each-requires-3-clause-within
unite_each-requires-3-clause-within c = below_still c.args.members.now c.make_room-3.new.lists c.args.uppers.now c.requires.within_members c.make_room-3.ensures.same

pub unite_each-requires-2-clause-within : goal.unite_each-requires-2-clause-within
unite_each-requires-2-clause-within c = below_still c.args.below.now c.make_room-2.new.lists c.args.uppers.now c.requires.within_below c.make_room-2.ensures.same

pub unite_each-requires-clause-within : goal.unite_each-requires-clause-within
unite_each-requires-clause-within c = below_still c.args.above.now c.make_room.new.lists c.args.lowers.now c.requires.within_above c.make_room.ensures.same

pub unite_each-requires-clause-lists : goal.unite_each-requires-clause-lists
unite_each-requires-clause-lists c = subst AllAscend (sym c.make_room.ensures.same) c.requires.above

pub unite_each-requires-clause-numbers : goal.unite_each-requires-clause-numbers
unite_each-requires-clause-numbers c = c.requires.lowers

pub unite_each-requires-clause-others : goal.unite_each-requires-clause-others
unite_each-requires-clause-others c = c.requires.uppers

pub unite_each-requires-2-clause-numbers : goal.unite_each-requires-2-clause-numbers
unite_each-requires-2-clause-numbers c = c.requires.uppers

pub unite_each-requires-2-clause-others : goal.unite_each-requires-2-clause-others
unite_each-requires-2-clause-others c = c.requires.lowers

pub unite_each-requires-3-clause-numbers : goal.unite_each-requires-3-clause-numbers
unite_each-requires-3-clause-numbers c = c.requires.uppers

pub unite_each-requires-3-clause-others : goal.unite_each-requires-3-clause-others
unite_each-requires-3-clause-others c = c.requires.objects

pub make_room-requires-3 : goal.make_room-requires-3
make_room-requires-3 c = c.requires.within_members
