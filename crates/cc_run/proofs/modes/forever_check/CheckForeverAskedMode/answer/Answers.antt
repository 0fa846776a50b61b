use Rattle.std.proofs.Common.{[], ◌∷◌, inl}
use Rattle.cc_describe.specs.FirstRefusal.{file_named}
use Rattle.cc_list.proofs.Described.{description_is}
use Rattle.cc_list.proofs.Outcomes.{known}
use Rattle.cc_describe.specs.declared.heads.Heads.TheVariants as heads
use Rattle.cc_describe.specs.Describing.{AreToOpen}
use Rattle.cc_list.specs.Tasks.{RefusesNamed, description_in}
use Rattle.cc_run.proofs.LogsJudged.{prints_judged}
use Rattle.cc_run.proofs.ProvingTold.{forever_verdict_may, names_query, unkeyed}
use Rattle.cc_run.proofs.Reading.{names_refuse, prints_fault, read_bare}
use Rattle.cc_run.specs.Modes.CheckingForever.{NamesForever, forever_checking_promise, forever_judging, named_to_check}
use Rattle.cc_words.specs.Views.{forever_checking_by}
use Rattle.cc_run.proofs.modes.forever_check.CheckForeverAskedMode.answer.Goals as goal

pub judge_log-requires : goal.judge_log-requires
judge_log-requires g c = record { ready = unkeyed _ _ _ _ c.in-Ok.ensures.searchable }

pub returns-in-Ok : goal.returns-in-Ok
returns-in-Ok g c = λ describes.
    let by = forever_checking_by c.args.self.now in
    let of = read_bare _ by.file c.args.said.now c.requires.read.says describes in
    let is = description_is of.places c.args.said.now.described of.said in
    let named = c.in-Ok.ensures.named (description_in of.places) is in
    prints_judged forever_judging (λ files. RefusesNamed files (named_to_check by)) (NamesForever by) (λ files. AreToOpen heads.Definite files by.file) by.log forever_verdict_may
    (description_in of.places, named.0) _ _ c.judge_log.result (names_query _ (named_to_check by) c.args.said.now.described of named.0 _ named.2)
    (c.judge_log.ensures (description_in of.places, named.0) named.1)

pub returns : goal.returns
returns g c = λ describes.
    let by = forever_checking_by c.args.self.now in
    let of = read_bare _ by.file c.args.said.now c.requires.read.says describes in
    let refused = c.in-Err.ensures.refused (description_in of.places) (description_is of.places c.args.said.now.described of.said) in
    prints_fault (forever_checking_promise by) _ (c.args.self.now.log.now ∷ []) c.args.said.now.described.files c.in-Err.fault _ _ c.refuse_fault.result tt
    (λ refusal is. known _ _ (λ before. (forever_checking_promise by).Refuses before.files refusal (file_named c.args.said.now.described.files refusal)) (λ before so. inl so)
    (names_refuse _ (λ files. files) (named_to_check by) c.args.said.now.described of c.in-Err.fault refused refusal is))
    c.refuse_fault.ensures
