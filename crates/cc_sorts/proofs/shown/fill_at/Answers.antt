use Rattle.std.proofs.Common.{◌∙◌, slice_set, arith, ap}
use Rattle.std.proofs.lemmas.List.{map-set}
use Rattle.cc_sorts.specs.Lists.{lists_of}
use Rattle.cc_sorts.proofs.Vectors.{other_capacity, items_of}
use Rattle.cc_sorts.proofs.shown.fill_at.Goals as goal

pub returns-clause-filled : goal.returns-clause-filled
returns-clause-filled c =
    map-set items_of c.args.lists.now.items c.args.number c.fill.new.list ∙ ap (slice_set (lists_of c.args.lists.now.items) c.args.number) c.fill.ensures.filled

pub returns-clause-kept : goal.returns-clause-kept
returns-clause-kept c =
    other_capacity c.args.lists.now.items c.args.number c.index_mut-list.result.now c.fill.new.list (omega (arith, c.args.lists.now.ok.0, c.requires.number)) c.index_mut-list.ensures.value
