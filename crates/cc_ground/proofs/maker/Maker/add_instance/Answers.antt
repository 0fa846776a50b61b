use Rattle.std.proofs.Common.{◌∙◌, List, subst, sym}
use Rattle.cc_defs.specs.GroundLaws.{PlainGroundLaw}
use Rattle.cc_defs.specs.Resolved.{plain_law}
use Rattle.cc_defs.specs.Satisfaction.{giving}
use Rattle.std.specs.Result.{IfErr}
use Rattle.cc_ground.specs.Counting.{nodes_in}
use Rattle.cc_ground.specs.Views.{LacksRoom, universe_in}
use Rattle.cc_ground.proofs.Ranging.{is_under, made_from, made_none, not_under}
use Rattle.cc_ground.proofs.maker.Maker.add_instance.Goals as goal

pub returns-then-not-branch-clause-made : goal.returns-then-not-branch-clause-made
returns-then-not-branch-clause-made c =
    let maker = c.args.self.now in
    made_none c.args.made.now.items maker c.passes.new.env
    (not_under (universe_in maker) c.args.base (plain_law c.args.law.now) maker.env c.in_ok-passes.field-0 c.requires c.in_ok-passes.ensures.passed c.if-not-branch.true)
    c.in_ok-passes.ensures.env

pub returns-in-Some-clause-made : goal.returns-in-Some-clause-made
returns-in-Some-clause-made c =
    let maker = c.args.self.now in
    let law = plain_law c.args.law.now in
    made_from c.args.made.now.items c.add_law.new.made.items maker c.add_law.new.self c.passes.new.env c.add_law.result
    (is_under (universe_in maker) c.args.base law maker.env c.passes.new.env c.in_ok-passes.field-0 _ c.requires c.in_ok-passes.ensures.passed
    c.if-not-branch.false c.in_ok-passes.ensures.env (sym c.in-Some.is ∙ c.in_ok-head.ensures) (c.heads_there_are_ground.ensures (universe_in maker) (giving maker.env.values) law.head))
    c.in_ok-passes.ensures.env c.add_law.ensures.made

pub returns-in-Some-clause-full : goal.returns-in-Some-clause-full
returns-in-Some-clause-full c =
    let maker = c.args.self.now in
    let law = plain_law c.args.law.now in
    subst (λ (laws : List PlainGroundLaw). IfErr c.add_law.result (LacksRoom (nodes_in laws) maker.room))
    (is_under (universe_in maker) c.args.base law maker.env c.passes.new.env c.in_ok-passes.field-0 _ c.requires c.in_ok-passes.ensures.passed
    c.if-not-branch.false c.in_ok-passes.ensures.env (sym c.in-Some.is ∙ c.in_ok-head.ensures) (c.heads_there_are_ground.ensures (universe_in maker) (giving maker.env.values) law.head))
    c.add_law.ensures.full

pub returns-in-None-clause-made : goal.returns-in-None-clause-made
returns-in-None-clause-made c =
    let maker = c.args.self.now in
    let law = plain_law c.args.law.now in
    made_none c.args.made.now.items maker c.passes.new.env
    (is_under (universe_in maker) c.args.base law maker.env c.passes.new.env c.in_ok-passes.field-0 _ c.requires c.in_ok-passes.ensures.passed
    c.if-not-branch.false c.in_ok-passes.ensures.env (sym c.in-None.is ∙ c.in_ok-head.ensures) (c.heads_there_are_ground.ensures (universe_in maker) (giving maker.env.values) law.head))
    c.in_ok-passes.ensures.env
