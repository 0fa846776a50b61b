use Rattle.std.proofs.Common.{[], ◌∷◌, refl, arith}
use Rattle.cc_defs.specs.declared.node.Node.TheVariants as nodes
use Rattle.cc_form.specs.Machine.{run}
use Rattle.cc_form.specs.Making.{key_up}
use Rattle.cc_form.proofs.KeySteps.{turn_fails, turn_ran}
use Rattle.cc_form.proofs.Parts.{runs_err}
use Rattle.cc_form.proofs.section.step_up.Goals as goal

pub returns-in_err-step_pair : goal.returns-in_err-step_pair
returns-in_err-step_pair c =
    let b = c.args.writer.now in
    runs_err b c.step_pair.new.writer c.from_residual.result (run b.places (key_up c.args.count) b.stack.items b.last) c.in_err-step_pair.field-0.0 c.from_residual.ensures.1
    (turn_fails b c.loop-pair.writer key_up (λ p. nodes.All 2 ∷ nodes.Any 2 ∷ []) c.loop-pair.pair c.args.count (nodes.All 2 ∷ nodes.Any 2 ∷ []) c.in_err-step_pair.field-0.0 (λ k. refl) refl c.loop-pair-test.true
    c.loop-pair.invariant.ran c.in_err-step_pair.ensures.runs)

pub loop-pair-preserved : goal.loop-pair-preserved
loop-pair-preserved c =
    let b = c.args.writer.now in
    record {
      ran = turn_ran b c.loop-pair.writer c.step_pair.new.writer key_up (λ p. nodes.All 2 ∷ nodes.Any 2 ∷ []) c.loop-pair.pair (nodes.All 2 ∷ nodes.Any 2 ∷ []) (λ k. refl) refl c.loop-pair.invariant.ran c.in_ok-step_pair.ensures.runs;
      long = (let long = c.loop-pair.invariant.long in let more = c.in_ok-step_pair.ensures.long in omega arith);
    }
