use Rattle.std.proofs.Common.{arith, sym}
use Rattle.std.proofs.lemmas.Iterator.Adapters.{position_from-zero}
use Rattle.cc_defs.specs.Satisfaction.{is_number}
use Rattle.cc_ground.proofs.Bare.{numbers_counted, object_is, object_not}
use Rattle.cc_ground.proofs.sums.object_in_turn.Goals as goal

pub loop-place-init : goal.loop-place-init
loop-place-init c = sym (position_from-zero (is_number c.args.plus c.args.minus) c.args.table.now.numbers)

pub returns-then-branch : goal.returns-then-branch
returns-then-branch c =
    let counted = numbers_counted c.args.table.now c.has_declarations.ensures in
    object_is c.args.plus c.args.minus c.args.table.now.numbers c.loop-place.place c.in_ok-object.object c.in_ok-is_number_at.field-0 _ (omega (arith, counted)) c.in_ok-object.ensures c.in_ok-is_number_at.ensures
    c.if-branch.true c.loop-place.invariant

pub loop-place-preserved : goal.loop-place-preserved
loop-place-preserved c =
    let counted = numbers_counted c.args.table.now c.has_declarations.ensures in
    object_not c.args.plus c.args.minus c.args.table.now.numbers c.loop-place.place c.in_ok-object.object c.in_ok-is_number_at.field-0 _ (omega (arith, counted)) c.in_ok-object.ensures c.in_ok-is_number_at.ensures
    c.if-branch.false c.loop-place.invariant
