use Rattle.std.proofs.Common.{◌≡◌, ◌∙◌, refl}
use Rattle.std.proofs.lemmas.Result.{IfOk-at_ok}
use Rattle.cc_tell.proofs.GivenSteps.{one_as, step_nothing}
use Rattle.cc_tell.proofs.refusing.give_made.Goals as goal

pub returns-in-Ok : goal.returns-in-Ok
returns-in-Ok g c = λ text is.
    one_as c.args.to _ text _ _ c.give.result (c.as_bytes.ensures.value ∙ c.text.ensures ∙ IfOk-at_ok (λ given. given ≡ text) c.in-Ok.is is) c.give.ensures

pub returns-in-Err : goal.returns-in-Err
returns-in-Err g c = λ text is. step_nothing _ _ _ refl
