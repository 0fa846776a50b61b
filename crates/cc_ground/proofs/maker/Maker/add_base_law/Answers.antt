use Rattle.std.proofs.Common.{List, subst}
use Rattle.std.specs.Result.{IfErr, OnOk}
use Rattle.cc_defs.specs.GroundLaws.{PlainGroundLaw}
use Rattle.cc_ground.specs.Counting.{nodes_in}
use Rattle.cc_ground.specs.Views.{HasMade, LacksRoom, universe_in}
use Rattle.cc_ground.proofs.Ranging.{base_law_is, pairs_are}
use Rattle.cc_ground.proofs.maker.Maker.add_base_law.Goals as goal

pub returns-in-One-clause-made : goal.returns-in-One-clause-made
returns-in-One-clause-made c =
    let maker = c.args.self.now in
    subst (λ (laws : List PlainGroundLaw). OnOk c.add_instances.result (HasMade laws c.args.made.now.items c.add_instances.new.made.items maker c.add_instances.new.self))
    (base_law_is (universe_in maker) c.args.base c.args.law.now c.in-One.law c.in-One.is) c.add_instances.ensures.made

pub returns-in-One-clause-full : goal.returns-in-One-clause-full
returns-in-One-clause-full c =
    let maker = c.args.self.now in
    subst (λ (laws : List PlainGroundLaw). IfErr c.add_instances.result (LacksRoom (nodes_in laws) maker.room))
    (base_law_is (universe_in maker) c.args.base c.args.law.now c.in-One.law c.in-One.is) c.add_instances.ensures.full

pub returns-in-NoConcurrency-clause-made : goal.returns-in-NoConcurrency-clause-made
returns-in-NoConcurrency-clause-made c =
    let maker = c.args.self.now in
    subst (λ (laws : List PlainGroundLaw). OnOk c.add_pairs.result (HasMade laws c.args.made.now.items c.add_pairs.new.made.items maker c.add_pairs.new.self))
    (pairs_are (universe_in maker) c.args.base c.args.law.now _ _ c.args.actions.now c.in-NoConcurrency.is c.requires.actions) c.add_pairs.ensures.made

pub returns-in-NoConcurrency-clause-full : goal.returns-in-NoConcurrency-clause-full
returns-in-NoConcurrency-clause-full c =
    let maker = c.args.self.now in
    subst (λ (laws : List PlainGroundLaw). IfErr c.add_pairs.result (LacksRoom (nodes_in laws) maker.room))
    (pairs_are (universe_in maker) c.args.base c.args.law.now _ _ c.args.actions.now c.in-NoConcurrency.is c.requires.actions) c.add_pairs.ensures.full
