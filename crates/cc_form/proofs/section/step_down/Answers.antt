use Rattle.std.proofs.Common.{◌∙◌, ◌<◌, ℕ, List, slice_get, get_or, length, refl, sym, ap, subst, arith}
use Rattle.std.specs.Prelude.{slice_index}
use Rattle.cc_form.specs.Machine.{run}
use Rattle.cc_form.specs.Making.{key_down, key_part}
use Rattle.cc_form.proofs.Choices.{size_at}
use Rattle.cc_form.proofs.KeySteps.{turn_fails, turn_ran}
use Rattle.cc_form.proofs.Parts.{runs_err}
use Rattle.cc_form.proofs.Positions.{row_below, row_long}
use Rattle.cc_form.proofs.section.step_down.Goals as goal

pub bounds-sizes-position : goal.bounds-sizes-position
bounds-sizes-position c =
    let long = row_long c.args.writer.now.places c.args.row.now c.requires.row in
    let same = ap length (c.sizes.ensures ∙ c.loop-position.invariant.ran.built.places) in
    let less = c.loop-position-test.true in
    omega arith

pub step_part-requires-clause-size : goal.step_part-requires-clause-size
step_part-requires-clause-size c =
    let long = row_long c.args.writer.now.places c.args.row.now c.requires.row in
    let same = ap length (c.sizes.ensures ∙ c.loop-position.invariant.ran.built.places) in
    let less = c.loop-position-test.true in
    ap (λ (p : List ℕ). slice_get p c.loop-position.position) (sym c.sizes.ensures) ∙ size_at c.sizes.result.now c.loop-position.position (omega arith)

pub step_part-requires-clause-value : goal.step_part-requires-clause-value
step_part-requires-clause-value c =
    let long = row_long c.args.writer.now.places c.args.row.now c.requires.row in
    let less = c.loop-position-test.true in
    subst (λ (p : List ℕ). get_or c.args.row.now c.loop-position.position 0 < get_or p c.loop-position.position 0) (sym (c.sizes.ensures ∙ c.loop-position.invariant.ran.built.places))
    (row_below c.args.writer.now.places c.args.row.now c.requires.row c.loop-position.position (omega arith))

pub returns-in_err-step_part-clause-runs : goal.returns-in_err-step_part-clause-runs
returns-in_err-step_part-clause-runs c =
    let b = c.args.writer.now in
    let m = c.loop-position.writer in
    let n = c.loop-position.position in
    let row = c.args.row.now in
    runs_err b c.step_part.new.writer c.from_residual.result (run b.places (key_down b.places row (length row)) b.stack.items b.last) c.in_err-step_part.field-0.0 c.from_residual.ensures.1
    (turn_fails b m (key_down b.places row) (λ p. key_part p (slice_index b.places p) (slice_index row p)) n (length row) (key_part n (get_or c.sizes.result.now n 0) (get_or row n 0)) c.in_err-step_part.field-0.0 (λ k. refl)
    (ap (λ (p : List ℕ). key_part n (get_or p n 0) (get_or row n 0)) (c.sizes.ensures ∙ c.loop-position.invariant.ran.built.places)) c.loop-position-test.true c.loop-position.invariant.ran c.in_err-step_part.ensures.runs)

pub loop-position-preserved : goal.loop-position-preserved
loop-position-preserved c =
    let b = c.args.writer.now in
    let m = c.loop-position.writer in
    let n = c.loop-position.position in
    let row = c.args.row.now in
    record {
      ran = turn_ran b m c.step_part.new.writer (key_down b.places row) (λ p. key_part p (slice_index b.places p) (slice_index row p)) n (key_part n (get_or c.sizes.result.now n 0) (get_or row n 0)) (λ k. refl)
          (ap (λ (p : List ℕ). key_part n (get_or p n 0) (get_or row n 0)) (c.sizes.ensures ∙ c.loop-position.invariant.ran.built.places)) c.loop-position.invariant.ran c.in_ok-step_part.ensures.runs;
      long = (let long = c.loop-position.invariant.long in let more = c.in_ok-step_part.ensures.long in omega arith);
    }
