use Rattle.std.proofs.Common.{[], ◌∙◌, Err, ap, refl}
use Rattle.cc_list.proofs.Outcomes.{prints_lacking, prints_refusal, prints_unopened, refused_known}
use Rattle.cc_make.specs.Single.{each_is}
use Rattle.cc_run.proofs.Made.{made_describes, made_refused, no_rose}
use Rattle.cc_run.specs.Modes.Making.{making_promise}
use Rattle.cc_run.proofs.modes.make.make.Goals as goal

pub make_described-requires-clause-describes : goal.make_described-requires-clause-describes
make_described-requires-clause-describes g c =
    let is = c.of-source.ensures.text ∙ (c.as_bytes.ensures.value ∙ (c.text-2.ensures ∙ c.in_ok-text.ensures)) in
    made_describes c.args.size _ c.describe_with.result c.in-Ok.said (ap each_is is) c.in-Ok.is c.describe_with.ensures.described

pub returns-in-Ok : goal.returns-in-Ok
returns-in-Ok g c = prints_unopened (making_promise c.args.size c.args.budget) _ _ _ c.make_described.result (λ files. refl) c.make_described.ensures

pub returns-in-Err-Refused : goal.returns-in-Err-Refused
returns-in-Err-Refused g c =
    let promise = making_promise c.args.size c.args.budget in
    let is = c.of-source.ensures.text ∙ (c.as_bytes.ensures.value ∙ (c.text-2.ensures ∙ c.in_ok-text.ensures)) in
    let refused = made_refused c.args.size _ c.describe_with.result c.in-Err-Refused.refusal c.in-Err-Refused.file (ap each_is is)
    (c.in-Err-Refused.is ∙ ap Err c.in-Err-Refused.field-0-is) c.describe_with.ensures.refused in
    prints_unopened promise _ _ _ c.refuse.result (λ files. refl)
    (prints_refusal promise _ [] c.in-Err-Refused.refusal c.text-in-Err-Refused.result.now _ _ c.refuse.result tt
    (rw c.text-in-Err-Refused.ensures (refused_known _ promise c.in-Err-Refused.refusal c.in-Err-Refused.file (λ files. refused))) c.refuse.ensures.told c.refuse.ensures.status)

pub returns-in-Err-ReadFault : goal.returns-in-Err-ReadFault
returns-in-Err-ReadFault g c = absurd (no_rose (c.describe_with.ensures.failed (c.in-Err-ReadFault.is ∙ ap Err c.in-Err-ReadFault.field-0-is)))

pub returns : goal.returns
returns g c =
    prints_unopened (making_promise c.args.size c.args.budget) _ _ _ _ (λ files. refl) (prints_lacking (making_promise c.args.size c.args.budget) _ [] _ _ refl)

pub returns-in_err-text : goal.returns-in_err-text
returns-in_err-text g c =
    prints_unopened (making_promise c.args.size c.args.budget) _ _ _ c.from_residual.result (λ files. refl)
    (prints_lacking (making_promise c.args.size c.args.budget) _ [] _ c.from_residual.result c.from_residual.ensures.1)
