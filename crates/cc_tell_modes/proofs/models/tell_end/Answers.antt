use Rattle.std.proofs.Common.{◌≡◌, ◌∙◌, [], List, ℕ, append-nil}
use Rattle.cc_ports.specs.declared.desk.To.TheVariants as outputs
use Rattle.cc_tell_modes.specs.ModelTexts.{models_end}
use Rattle.cc_tell.specs.Givens.{given_to, joined, nothing}
use Rattle.cc_tell.proofs.GivenSteps.{one_as, step_again, step_as, step_cut, step_done, step_nothing, step_then}
use Rattle.cc_tell_modes.proofs.models.tell_end.Goals as goal

-- the line of the log, and then that of the end
both : (out log : List ℕ) → joined (given_to outputs.Log log) (given_to outputs.Out out) ≡ record nothing { out = out; log = log }
both out log = λ i. record { out = out; err = []; log = append-nil log i }

pub returns-in_err-tell_line_in-clause-told : goal.returns-in_err-tell_line_in-clause-told
returns-in_err-tell_line_in-clause-told g c =
    let out = models_end c.args.lister.listed c.args.word in
    step_as _ _ _ _ c.from_residual.result (both out _)
    (step_cut _ (given_to outputs.Out out) _ _ c.tell_line_in.result c.in_err-tell_line_in.field-0.0 c.from_residual.result c.tell_line_in.ensures c.in_err-tell_line_in.was
    c.from_residual.ensures.1)

pub returns-in_err-text-clause-told : goal.returns-in_err-text-clause-told
returns-in_err-text-clause-told g c =
    let out = models_end c.args.lister.listed c.args.word in
    step_as _ _ _ _ c.from_residual-in_err-text.result (both out _)
    (step_then _ (given_to outputs.Out out) _ _ _ c.tell_line_in.result c.in_ok-tell_line_in.field-0 c.from_residual-in_err-text.result c.tell_line_in.ensures c.in_ok-tell_line_in.was
    (step_nothing _ _ c.from_residual-in_err-text.result c.from_residual-in_err-text.ensures.1))

pub returns-in_err-give-clause-told : goal.returns-in_err-give-clause-told
returns-in_err-give-clause-told g c =
    let out = models_end c.args.lister.listed c.args.word in
    let gave = one_as outputs.Out _ _ _ _ c.give.result (c.as_bytes.ensures.value ∙ c.in_ok-text.ensures) c.give.ensures in
    step_as _ _ _ _ c.from_residual-in_err-give.result (both out _)
    (step_then _ (given_to outputs.Out out) _ _ _ c.tell_line_in.result c.in_ok-tell_line_in.field-0 c.from_residual-in_err-give.result c.tell_line_in.ensures c.in_ok-tell_line_in.was
    (step_again _ _ _ c.give.result c.in_err-give.field-0.0 c.from_residual-in_err-give.result gave c.in_err-give.was c.from_residual-in_err-give.ensures.1))

pub returns-clause-told : goal.returns-clause-told
returns-clause-told g c =
    let out = models_end c.args.lister.listed c.args.word in
    let gave = one_as outputs.Out _ _ _ _ c.give.result (c.as_bytes.ensures.value ∙ c.in_ok-text.ensures) c.give.ensures in
    step_as _ _ _ _ _ (both out _)
    (step_then _ (given_to outputs.Out out) _ _ _ c.tell_line_in.result c.in_ok-tell_line_in.field-0 _ c.tell_line_in.ensures c.in_ok-tell_line_in.was
    (step_done _ _ _ c.give.result c.in_ok-give.field-0 _ gave c.in_ok-give.was))
