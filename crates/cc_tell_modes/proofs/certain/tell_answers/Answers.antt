use Rattle.cc_tell_modes.proofs.SureLines.{all_answered, answer_stopped, answer_told, none_answered}
use Rattle.cc_tell_modes.proofs.certain.tell_answers.Goals as goal

pub loop-value-init : goal.loop-value-init
loop-value-init g c = λ d of. none_answered d c.args.position c.args.answers.now _

pub loop-value-preserved : goal.loop-value-preserved
loop-value-preserved g c = λ d of.
    answer_told d c.args.position c.args.answers.now c.loop-value.value _ _ _ _ c.tell_answer.result c.in_ok-tell_answer.field-0
    c.loop-value-test.true (c.loop-value.invariant d of) (c.tell_answer.ensures d of) c.in_ok-tell_answer.was

pub returns-in_err-tell_answer : goal.returns-in_err-tell_answer
returns-in_err-tell_answer g c = λ d of.
    answer_stopped d c.args.position c.args.answers.now c.loop-value.value _ _ _ _ c.tell_answer.result c.in_err-tell_answer.field-0.0 c.from_residual.result
    c.loop-value-test.true (c.loop-value.invariant d of) (c.tell_answer.ensures d of) c.in_err-tell_answer.was c.from_residual.ensures.1

pub returns : goal.returns
returns g c = λ d of. all_answered d c.args.position c.args.answers.now c.loop-value.value _ _ _ c.loop-value-test.false (c.loop-value.invariant d of)
