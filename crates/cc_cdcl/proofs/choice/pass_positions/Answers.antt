use Rattle.std.proofs.Common.{◌∙◌, sym, arith}
use Rattle.cc_trail.specs.Steps.{values_of}
use Rattle.cc_cdcl.proofs.Placing.{cursor_moved, index_none, index_some, position_within}
use Rattle.cc_cdcl.proofs.choice.pass_positions.Goals as goal

pub true_value-requires-clause-some : goal.true_value-requires-clause-some
true_value-requires-clause-some c =
    let within = position_within 1 c.args.sizes.now c.loop-cursor.cursor.position (values_of c.args.trail.now.steps) c.loop-cursor.cursor.first
    c.loop-cursor.invariant.positions c.loop-cursor-test.true in within.0

pub true_value-requires-clause-within : goal.true_value-requires-clause-within
true_value-requires-clause-within c =
    let within = position_within 1 c.args.sizes.now c.loop-cursor.cursor.position (values_of c.args.trail.now.steps) c.loop-cursor.cursor.first
    c.loop-cursor.invariant.positions c.loop-cursor-test.true in
    let sizes = c.requires.sizes in omega (arith, within.1)

pub returns-then-true_value-size-clause-none : goal.returns-then-true_value-size-clause-none
returns-then-true_value-size-clause-none c =
    λ low. index_none (values_of c.args.trail.now.steps) c.loop-cursor.cursor.first _ (sym c.true_value.ensures ∙ c.if-true_value-size.true)

pub overflow_add-cursor-in-loop-cursor : goal.overflow_add-cursor-in-loop-cursor
overflow_add-cursor-in-loop-cursor c =
    let within = position_within 1 c.args.sizes.now c.loop-cursor.cursor.position (values_of c.args.trail.now.steps) c.loop-cursor.cursor.first
    c.loop-cursor.invariant.positions c.loop-cursor-test.true in
    let sizes = c.requires.sizes in let few = c.requires.few in omega (arith, within.1)

pub loop-cursor-preserved : goal.loop-cursor-preserved
loop-cursor-preserved c =
    cursor_moved c.args.sizes.now c.args.trail.now.variables (values_of c.args.trail.now.steps) c.loop-cursor.cursor c.loop-cursor.invariant c.loop-cursor-test.true
    (index_some (values_of c.args.trail.now.steps) _ c.loop-cursor.cursor.first (λ e. c.if-true_value-size.false (c.true_value.ensures ∙ e)))

pub returns-clause-none : goal.returns-clause-none
returns-clause-none c = λ low there. let test = c.loop-cursor-test.false in omega arith
