use Rattle.std.proofs.Common.{Bor, ◌+◌, List, ℕ, ap, arith, drop, flat_map, option_map, subst, sym}
use Rattle.std.specs.List.{AllByRecursion}
use Rattle.cc_defs.specs.Rules.{upto}
use Rattle.cc_rivals.specs.Making.{IsLawOver, rules_at_step}
use Rattle.cc_rivals.specs.Putting.{put_rules}
use Rattle.cc_rivals.proofs.Folding.{loop_ends, loop_fails, loop_turn, rules_fold}
use Rattle.cc_rivals.proofs.Turns.{step_turn, upto_done}
use Rattle.cc_rivals.proofs.walk.put_steps.Goals as goal

pub put_step-requires-clause-laws : goal.put_step-requires-clause-laws
put_step-requires-clause-laws c =
    subst (λ (p : List ℕ). AllByRecursion (IsLawOver p c.args.stride c.args.horizon c.loop-step.step) c.args.laws.now) (sym c.loop-step.invariant.places)
    (c.requires.laws c.loop-step.step (let less = c.loop-step-test.true in omega arith))

pub returns-in_err-put_step : goal.returns-in_err-put_step
returns-in_err-put_step c =
    let row = option_map (λ (r : Bor (List ℕ)). r.now) c.args.row in
    let f = rules_at_step c.args.stride c.args.laws.now c.args.horizon in
    let n = c.args.horizon + 1 in
    let i = c.loop-step.step in
    loop_fails (put_rules row) (rules_fold row) c.args.draft.now c.loop-step.draft c.put_step.new.draft c.from_residual.result c.in_err-put_step.field-0.0
    (flat_map f (drop i (upto n))) (f i) (flat_map f (drop (i + 1) (upto n))) (flat_map f (upto n)) c.loop-step.invariant
    (step_turn f n i c.loop-step-test.true) c.from_residual.ensures.1 c.in_err-put_step.ensures c.put_step.new.draft

pub loop-step-preserved : goal.loop-step-preserved
loop-step-preserved c =
    let row = option_map (λ (r : Bor (List ℕ)). r.now) c.args.row in
    let f = rules_at_step c.args.stride c.args.laws.now c.args.horizon in
    let n = c.args.horizon + 1 in
    let i = c.loop-step.step in
    loop_turn (put_rules row) (rules_fold row) c.args.draft.now c.loop-step.draft c.put_step.new.draft
    (flat_map f (drop i (upto n))) (f i) (flat_map f (drop (i + 1) (upto n))) (flat_map f (upto n)) c.loop-step.invariant
    (step_turn f n i c.loop-step-test.true) c.in_ok-put_step.ensures

pub returns : goal.returns
returns c =
    let row = option_map (λ (r : Bor (List ℕ)). r.now) c.args.row in
    let f = rules_at_step c.args.stride c.args.laws.now c.args.horizon in
    let n = c.args.horizon + 1 in
    let i = c.loop-step.step in
    loop_ends (put_rules row) (rules_fold row) c.args.draft.now c.loop-step.draft (flat_map f (drop i (upto n))) (flat_map f (upto n)) c.loop-step.invariant
    (ap (flat_map f) (upto_done n i c.loop-step-test.false))
