use Rattle.cc_tell.proofs.GivenSteps.{step_as, step_nothing}
use Rattle.cc_tell.proofs.SummedTexts.{last_texts}
use Rattle.cc_tell.proofs.summing.sum.Goals as goal

pub returns-in_err-keep-in-NoHistory-clause-told : goal.returns-in_err-keep-in-NoHistory-clause-told
returns-in_err-keep-in-NoHistory-clause-told g c = λ d before row up none. step_nothing _ _ c.from_residual.result c.from_residual.ensures.1

pub returns-in_err-keep-in-Ended-clause-told : goal.returns-in_err-keep-in-Ended-clause-told
returns-in_err-keep-in-Ended-clause-told g c = λ d before row up none. step_nothing _ _ c.from_residual-in_err-keep-in-Ended.result c.from_residual-in_err-keep-in-Ended.ensures.1

pub returns-in_ok-keep-in-Ended-clause-told : goal.returns-in_ok-keep-in-Ended-clause-told
returns-in_ok-keep-in-Ended-clause-told g c = λ d before row up none.
    let is = c.in-Ended.is in
    let kept = c.in_ok-keep-in-Ended.ensures in
    step_as _ _ _ _ c.tell_summary.result (last_texts c.args.size d before c.args.outcome.now.items _ c.args.event.now c.in-Ended.ending row up none is kept) c.tell_summary.ensures
