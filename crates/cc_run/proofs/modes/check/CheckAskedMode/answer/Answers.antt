use Rattle.std.proofs.Common.{[], ◌∷◌, None, inl, refl}
use Rattle.cc_describe.specs.FirstRefusal.{file_named}
use Rattle.cc_list.proofs.Described.{description_is, task_read}
use Rattle.cc_list.proofs.Outcomes.{known}
use Rattle.cc_describe.specs.declared.heads.Heads.TheVariants as heads
use Rattle.cc_describe.specs.Describing.{AreToOpen}
use Rattle.cc_list.specs.Tasks.{RefusesNamed, description_in}
use Rattle.cc_list.specs.Telling.{task_to_check}
use Rattle.cc_run.proofs.LogsJudged.{prints_judged}
use Rattle.cc_run.proofs.ModelRuns.{verdict_may}
use Rattle.cc_run.proofs.Reading.{names_refuse, prints_fault, read_bare}
use Rattle.cc_run.specs.Modes.Checking.{NamesTask, checking_promise, query_judging}
use Rattle.cc_run.specs.Naming.{named_in}
use Rattle.cc_words.specs.Views.{checking_by}
use Rattle.cc_run.proofs.modes.check.CheckAskedMode.answer.Goals as goal

pub returns-in-Ok : goal.returns-in-Ok
returns-in-Ok g c = λ describes.
    let by = checking_by c.args.self.now in
    let of = read_bare _ by.file c.args.said.now c.requires.read.says describes in
    let is = description_is of.places c.args.said.now.described of.said in
    let named = c.in-Ok.ensures.named (description_in of.places) is in
    prints_judged query_judging (λ files. RefusesNamed files (named_in by)) (NamesTask by) (λ files. AreToOpen heads.Definite files by.file) by.log verdict_may
    (task_to_check (description_in of.places) named.0 c.in-Ok.prepared.key) _ _ c.judge_log.result
    (task_read _ (λ files. files) (named_in by) c.args.said.now.described of named.0 _ named.2 None 0)
    (c.judge_log.ensures (task_to_check (description_in of.places) named.0 c.in-Ok.prepared.key) (named.1, refl))

pub returns : goal.returns
returns g c = λ describes.
    let by = checking_by c.args.self.now in
    let of = read_bare _ by.file c.args.said.now c.requires.read.says describes in
    let refused = c.in-Err.ensures.refused (description_in of.places) (description_is of.places c.args.said.now.described of.said) in
    prints_fault (checking_promise by) _ (c.args.self.now.log.now ∷ []) c.args.said.now.described.files c.in-Err.fault _ _ c.refuse_fault.result tt
    (λ refusal is. known _ _ (λ before. (checking_promise by).Refuses before.files refusal (file_named c.args.said.now.described.files refusal)) (λ before so. inl so)
    (names_refuse _ (λ files. files) (named_in by) c.args.said.now.described of c.in-Err.fault refused refusal is))
    c.refuse_fault.ensures
