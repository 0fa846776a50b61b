use Rattle.std.proofs.Common.{List, length, ap, subst, arith}
use Rattle.cc_defs.specs.Resolved.{plain_law}
use Rattle.cc_ground.specs.Counting.{nodes_in}
use Rattle.cc_defs.specs.GroundLaws.{PlainGroundLaw}
use Rattle.cc_ground.specs.Views.{LacksRoom, universe_in}
use Rattle.cc_ground.proofs.Ranging.{behind_range, choice_lacks, choice_more, choices_end, still_unbound}
use Rattle.cc_ground.specs.declared.maker.Halt.TheVariants as halts
use Rattle.cc_ground.proofs.Putting.{err_on, lacks_so}
use Rattle.cc_ground.proofs.maker.Maker.+add_choices.Goals as goal

pub returns-in_err-add_choices-clause-full : goal.returns-in_err-add_choices-clause-full
returns-in_err-add_choices-clause-full t c =
    let maker = c.args.self.now in
    let law = plain_law c.args.law.now in
    let values = c.values_in_range-values.result in
    let halt = c.in_err-add_choices.field-0.0 in
    lacks_so _ _ halt c.from_residual-in_err-add_choices.result c.from_residual-in_err-add_choices.ensures.1
    (subst (λ (laws : List PlainGroundLaw). LacksRoom (nodes_in laws) maker.room halt)
    (behind_range (universe_in maker) c.args.base law maker.env.values c.args.ranges.now c.in-Some.range.now c.in-Some.others.now values c.in-Some.ensures.cases.0 c.values_in_range-values.ensures)
    (choice_lacks c.args.base law c.in-Some.others.now values c.loop-index.index c.give.new.self halt c.loop-index.invariant c.at.ensures c.in_ok-give.ensures c.in_err-add_choices.ensures.full))

pub loop-index-preserved : goal.loop-index-preserved
loop-index-preserved t c =
    choice_more c.args.base (plain_law c.args.law.now) c.in-Some.others.now c.values_in_range-values.result c.loop-index.index c.add_choices.new.self c.give.new.self c.take_back.new.self
    c.loop-index.invariant c.at.ensures c.in_ok-give.ensures c.in_ok-add_choices.ensures.made (c.take_back.ensures _ _)

pub returns-clause-made : goal.returns-clause-made
returns-clause-made t c =
    choices_end c.args.base (plain_law c.args.law.now) c.args.ranges.now c.in-Some.range.now c.in-Some.others.now c.values_in_range-values.result c.loop-index.index
    c.in-Some.ensures.cases.0 c.values_in_range-values.ensures (omega arith) c.loop-index.invariant

pub add_choices-requires : goal.add_choices-requires
add_choices-requires t c =
    let like = c.loop-index.invariant.like in
    (omega (arith, ap length c.in-Some.ensures.cases.0), still_unbound c.args.self.now c.loop-index.self _ c.give.new.self c.requires like c.in_ok-give.ensures)

pub returns-in_err-give-clause-made : goal.returns-in_err-give-clause-made
returns-in_err-give-clause-made t c = err_on _ c.from_residual.result c.from_residual.ensures.0

pub returns-in_err-add_choices-clause-made : goal.returns-in_err-add_choices-clause-made
returns-in_err-add_choices-clause-made t c = err_on _ c.from_residual-in_err-add_choices.result c.from_residual-in_err-add_choices.ensures.0

pub returns-in_err-give-clause-full : goal.returns-in_err-give-clause-full
returns-in_err-give-clause-full t c = lacks_so _ _ halts.OutOfMemory c.from_residual.result c.from_residual.ensures.1 tt
