use Rattle.std.proofs.Common.{[], ◌∷◌, inl, refl}
use Rattle.cc_describe.specs.FirstRefusal.{file_named}
use Rattle.cc_list.proofs.Described.{description_is}
use Rattle.cc_list.proofs.Outcomes.{known}
use Rattle.cc_describe.specs.declared.heads.Heads.TheVariants as heads
use Rattle.cc_describe.specs.Describing.{AreToOpen}
use Rattle.cc_list.specs.Tasks.{description_in}
use Rattle.cc_run.proofs.Claims.{claim_refuses, names_unclaimed}
use Rattle.cc_run.proofs.LogsJudged.{prints_judged, silent_may}
use Rattle.cc_run.proofs.Reading.{prints_fault, read_bare}
use Rattle.cc_run.specs.Modes.CheckingSure.{NamesSure, named_to_check, sure_checking_promise, sure_judging}
use Rattle.cc_run.specs.Modes.Surely.{RefusesClaimed}
use Rattle.cc_words.specs.Views.{sure_checking_by}
use Rattle.cc_run.proofs.modes.sure_check.CheckSureAskedMode.answer.Goals as goal

pub prepare_unclaimed-requires-clause-of : goal.prepare_unclaimed-requires-clause-of
prepare_unclaimed-requires-clause-of g c =
    let says = c.requires.read.says in
    (description_in says.0, description_is says.0 c.args.said.now.described says.2.described)

pub returns-in-Ok : goal.returns-in-Ok
returns-in-Ok g c = λ describes.
    let by = sure_checking_by c.args.self.now in
    let of = read_bare _ by.file c.args.said.now c.requires.read.says describes in
    let is = description_is of.places c.args.said.now.described of.said in
    let named = c.in-Ok.ensures.named (description_in of.places) is in
    prints_judged sure_judging (λ files. RefusesClaimed files (named_to_check by)) (NamesSure by) (λ files. AreToOpen heads.Definite files by.file) by.log silent_may
    (description_in of.places, named.0) _ _ c.judge_log.result (names_unclaimed _ (named_to_check by) c.args.said.now.described of named.0 named.2)
    (c.judge_log.ensures (description_in of.places, named.0) named.1)

pub returns : goal.returns
returns g c = λ describes.
    let by = sure_checking_by c.args.self.now in
    let of = read_bare _ by.file c.args.said.now c.requires.read.says describes in
    prints_fault (sure_checking_promise by) _ (c.args.self.now.log.now ∷ []) c.args.said.now.described.files c.in-Err.fault _ _ c.refuse_fault.result tt
    (λ refusal is. known _ _ (λ before. (sure_checking_promise by).Refuses before.files refusal (file_named c.args.said.now.described.files refusal)) (λ before so. inl so) ((claim_refuses _ (named_to_check by) c.args.said.now.described of c.in-Err.fault (c.in-Err.ensures.refused (description_in of.places) (description_is of.places c.args.said.now.described of.said))) refusal is))
    c.refuse_fault.ensures
