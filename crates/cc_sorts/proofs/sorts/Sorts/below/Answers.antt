use Rattle.std.proofs.Common.{◌<◌, ap, length, arith, ◌∙◌}
use Rattle.std.proofs.lemmas.List.{length-map}
use Rattle.cc_sorts.specs.SortViews.{SortsView, name_at}
use Rattle.cc_sorts.proofs.Vectors.{ascends_read, items_of, vec_within}
use Rattle.cc_defs.specs.Declarations.{is_below}
use Rattle.cc_sorts.specs.Numbers.{has}
use Rattle.cc_sorts.proofs.Reading.{within, read_above}
use Rattle.cc_sorts.proofs.sorts.Sorts.below.Goals as goal

pub has-requires : goal.has-requires
has-requires c =
    let within : c.args.lower < length c.self.inside.above.items =
    omega (arith, length-map c.self.inside.above.items items_of, c.self.invariant.above_are.as_many, ap (λ (view : SortsView). length view.names) c.self.view_is, c.requires.lower) in
    ascends_read c.self.inside.above.items c.args.lower c.index.result.now c.deref.result.now within c.index.ensures c.deref.ensures.value c.self.invariant.above_are.ascend

pub returns : goal.returns
returns c =
    c.has.ensures
    ∙ ap (has c.args.upper) (read_above c.self.inside c.args.self.now c.self.view_is c.self.invariant c.args.lower c.requires.lower c.index.result.now c.deref.result.now c.deref.ensures.value c.index.ensures)
    ∙ c.self.invariant.above_are.those c.args.lower c.args.upper (within c.self.inside c.args.self.now c.self.view_is c.self.invariant c.args.lower c.requires.lower) (within c.self.inside c.args.self.now c.self.view_is c.self.invariant c.args.upper c.requires.upper)
    ∙ ap (λ (view : SortsView). is_below view.pairs (name_at view c.args.lower) (name_at view c.args.upper)) c.self.view_is

pub index-requires : goal.index-requires
index-requires c = vec_within c.self.inside.above c.args.lower _ c.self.invariant.above_are.as_many (within c.self.inside c.args.self.now c.self.view_is c.self.invariant c.args.lower c.requires.lower)
