use Rattle.std.proofs.Common.{◌∙◌, ap}
use Rattle.cc_sorts.specs.SortViews.{SortsView, members_at}
use Rattle.cc_sorts.proofs.Reading.{within}
use Rattle.cc_sorts.proofs.Vectors.{list_read, vec_within}
use Rattle.cc_sorts.proofs.sorts.Sorts.members.Goals as goal

pub index-requires : goal.index-requires
index-requires c = vec_within c.self.inside.members c.args.sort _ c.self.invariant.members_count (within c.self.inside c.args.self.now c.self.view_is c.self.invariant c.args.sort c.requires)

pub returns : goal.returns
returns c =
    list_read c.self.inside.members.items c.args.sort _ c.index.result.now c.deref.result.now c.self.invariant.members_count (within c.self.inside c.args.self.now c.self.view_is c.self.invariant c.args.sort c.requires) c.index.ensures c.deref.ensures.value
    ∙ ap (λ (view : SortsView). members_at view c.args.sort) c.self.view_is
