use Rattle.std.proofs.Common.{◌∙◌}
use Rattle.cc_sorts.proofs.Numbered.{above_are}
use Rattle.cc_sorts.proofs.Reading.{read_above, within}
use Rattle.cc_sorts.proofs.Vectors.{vec_within}
use Rattle.cc_sorts.proofs.sorts.Sorts.above.Goals as goal

pub returns : goal.returns
returns c =
    read_above c.self.inside c.args.self.now c.self.view_is c.self.invariant c.args.sort c.requires c.index.result.now c.deref.result.now c.deref.ensures.value c.index.ensures
    ∙ above_are c.self.inside c.args.self.now c.self.view_is c.self.invariant c.args.sort c.requires

pub index-requires : goal.index-requires
index-requires c = vec_within c.self.inside.above c.args.sort _ c.self.invariant.above_are.as_many (within c.self.inside c.args.self.now c.self.view_is c.self.invariant c.args.sort c.requires)
