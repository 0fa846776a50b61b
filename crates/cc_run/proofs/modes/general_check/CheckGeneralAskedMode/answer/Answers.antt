use Rattle.std.proofs.Common.{[], ◌∷◌, inl, refl}
use Rattle.cc_describe.specs.declared.heads.Heads.TheVariants as heads
use Rattle.cc_describe.specs.Describing.{AreToOpen, IsDescribedWide}
use Rattle.cc_describe.specs.FirstRefusal.{file_named}
use Rattle.cc_list.proofs.Described.{is_read_by}
use Rattle.cc_list.proofs.Outcomes.{known}
use Rattle.cc_run.proofs.LogsJudged.{prints_judged, silent_may}
use Rattle.cc_run.proofs.Reading.{prints_fault, wide_description_is}
use Rattle.cc_run.proofs.WideClaims.{names_wide, wide_claim_refuses}
use Rattle.cc_run.specs.Modes.CheckingGeneral.{NamesGeneral, general_checking_promise, general_judging, named_for_general}
use Rattle.cc_run.specs.Modes.Generally.{RefusesGenerally, wide_in}
use Rattle.cc_words.specs.Views.{general_checking_by}
use Rattle.cc_run.proofs.modes.general_check.CheckGeneralAskedMode.answer.Goals as goal

pub prepare_wide-requires-clause-of : goal.prepare_wide-requires-clause-of
prepare_wide-requires-clause-of g c =
    let says = c.requires.read.says in
    (wide_in says.0, wide_description_is says.0 c.args.said.now says.2)

pub returns-in-Ok : goal.returns-in-Ok
returns-in-Ok g c = λ describes.
    let by = general_checking_by c.args.self.now in
    let of = is_read_by heads.Any (IsDescribedWide heads.Any) _ (λ files. files) by.file c.args.said.now c.requires.read.says describes in
    let is = wide_description_is of.places c.args.said.now of.said in
    let named = c.in-Ok.ensures.named (wide_in of.places) is in
    prints_judged general_judging (λ files. RefusesGenerally files (named_for_general by)) (NamesGeneral by) (λ files. AreToOpen heads.Any files by.file) by.log silent_may
    (wide_in of.places, named.0) _ _ c.judge_log.result (names_wide _ (named_for_general by) c.args.said.now of named.0 named.2)
    (c.judge_log.ensures (wide_in of.places, named.0) named.1)

pub returns : goal.returns
returns g c = λ describes.
    let by = general_checking_by c.args.self.now in
    let of = is_read_by heads.Any (IsDescribedWide heads.Any) _ (λ files. files) by.file c.args.said.now c.requires.read.says describes in
    prints_fault (general_checking_promise by) _ (c.args.self.now.log.now ∷ []) c.args.said.now.described.files c.in-Err.fault _ _ c.refuse_fault.result tt
    (λ refusal is. known _ _ (λ before. (general_checking_promise by).Refuses before.files refusal (file_named c.args.said.now.described.files refusal)) (λ before so. inl so) ((wide_claim_refuses _ (named_for_general by) c.args.said.now of c.in-Err.fault (c.in-Err.ensures.refused (wide_in of.places) (wide_description_is of.places c.args.said.now of.said))) refusal is))
    c.refuse_fault.ensures
