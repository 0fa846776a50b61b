use Rattle.std.proofs.Common.{◌∙◌, slice_set, arith, sym, ap}
use Rattle.std.proofs.lemmas.List.{map-set}
use Rattle.cc_sorts.specs.Lists.{lists_of}
use Rattle.cc_sorts.specs.Shown.{put_end}
use Rattle.cc_sorts.proofs.Vectors.{list_here, other_capacity, items_of}
use Rattle.cc_sorts.proofs.shown.show_at.Goals as goal

pub returns-clause-shown : goal.returns-clause-shown
returns-clause-shown c =
    map-set items_of c.args.lists.now.items c.args.number c.show.new.list
    ∙ ap (slice_set (lists_of c.args.lists.now.items) c.args.number)
    (c.show.ensures.shown ∙ ap (put_end c.args.object)
    (sym (list_here c.args.lists.now.items c.args.number c.index_mut-list.result.now c.show.new.list (omega (arith, c.args.lists.now.ok.0, c.requires.number)) c.index_mut-list.ensures.value)))

pub returns-clause-kept : goal.returns-clause-kept
returns-clause-kept c =
    other_capacity c.args.lists.now.items c.args.number c.index_mut-list.result.now c.show.new.list (omega (arith, c.args.lists.now.ok.0, c.requires.number)) c.index_mut-list.ensures.value
