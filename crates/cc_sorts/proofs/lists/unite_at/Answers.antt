use Rattle.std.proofs.Common.{◌∙◌, List, ℕ, slice_set, arith, sym, ap, length}
use Rattle.std.proofs.lemmas.List.{map-set}
use Rattle.cc_sorts.specs.Lists.{lists_of}
use Rattle.cc_sorts.specs.Numbers.{union}
use Rattle.cc_sorts.proofs.Vectors.{list_here, other_capacity, items_of, room_here}
use Rattle.cc_sorts.proofs.lists.unite_at.Goals as goal

pub returns-clause-united : goal.returns-clause-united
returns-clause-united c =
    map-set items_of c.args.lists.now.items c.args.number c.unite.new.list
    ∙ ap (slice_set (lists_of c.args.lists.now.items) c.args.number)
    (c.unite.ensures.united ∙ ap (λ (list : List ℕ). union list c.args.others.now)
    (sym (list_here c.args.lists.now.items c.args.number c.index_mut-list.result.now c.unite.new.list (omega (arith, c.args.lists.now.ok.0, c.requires.number)) c.index_mut-list.ensures.value)))

pub returns-clause-kept : goal.returns-clause-kept
returns-clause-kept c =
    other_capacity c.args.lists.now.items c.args.number c.index_mut-list.result.now c.unite.new.list (omega (arith, c.args.lists.now.ok.0, c.requires.number)) c.index_mut-list.ensures.value

pub unite-requires-clause-room : goal.unite-requires-clause-room
unite-requires-clause-room c = (room_here c.args.lists.now c.args.number (length c.args.others.now) c.args.moved.now.cap c.index_mut-list.result.now c.requires.number c.index_mut-list.ensures.value c.requires.room).0

pub unite-requires-clause-room_to_move : goal.unite-requires-clause-room_to_move
unite-requires-clause-room_to_move c = (room_here c.args.lists.now c.args.number (length c.args.others.now) c.args.moved.now.cap c.index_mut-list.result.now c.requires.number c.index_mut-list.ensures.value c.requires.room).1
