use Rattle.std.proofs.Common.{◌+◌, arith, ap, drop, flat_map}
use Rattle.cc_defs.specs.Rules.{upto}
use Rattle.cc_rivals.specs.Making.{rules_at_step}
use Rattle.cc_rivals.specs.Meets.{rule_met}
use Rattle.cc_rivals.proofs.Testing.{all_pass, fails, passes}
use Rattle.cc_rivals.proofs.Turns.{step_turn, upto_done}
use Rattle.cc_rivals.proofs.candidate.meets_steps.Goals as goal

pub meets_step-requires-clause-laws : goal.meets_step-requires-clause-laws
meets_step-requires-clause-laws c = (c.requires.laws.0, c.requires.laws.1, c.requires.laws.2 c.loop-step.step (let less = c.loop-step-test.true in omega arith))

pub returns-then-not-meets_step : goal.returns-then-not-meets_step
returns-then-not-meets_step c =
    let f = rules_at_step c.args.stride c.args.laws.now c.args.horizon in
    let n = c.args.horizon + 1 in
    let i = c.loop-step.step in
    fails (rule_met c.args.row.now) (flat_map f (drop i (upto n))) (flat_map f (upto n)) c.loop-step.invariant (f i) (flat_map f (drop (i + 1) (upto n))) (step_turn f n i c.loop-step-test.true) c.meets_step.result c.meets_step.ensures
    c.if-not-meets_step.true

pub loop-step-preserved : goal.loop-step-preserved
loop-step-preserved c =
    let f = rules_at_step c.args.stride c.args.laws.now c.args.horizon in
    let n = c.args.horizon + 1 in
    let i = c.loop-step.step in
    passes (rule_met c.args.row.now) (flat_map f (drop i (upto n))) (flat_map f (upto n)) c.loop-step.invariant (f i) (flat_map f (drop (i + 1) (upto n))) (step_turn f n i c.loop-step-test.true) c.meets_step.result c.meets_step.ensures
    c.if-not-meets_step.false

pub returns : goal.returns
returns c =
    let f = rules_at_step c.args.stride c.args.laws.now c.args.horizon in
    let n = c.args.horizon + 1 in
    let i = c.loop-step.step in
    all_pass (rule_met c.args.row.now) (flat_map f (drop i (upto n))) (flat_map f (upto n)) c.loop-step.invariant (ap (flat_map f) (upto_done n i c.loop-step-test.false))
