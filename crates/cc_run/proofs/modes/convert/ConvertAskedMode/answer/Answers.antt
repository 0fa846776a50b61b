use Rattle.std.proofs.Common.{[], ◌∷◌, None, inl, refl}
use Rattle.cc_describe.specs.FirstRefusal.{file_named}
use Rattle.cc_list.proofs.Described.{description_is, task_read}
use Rattle.cc_list.proofs.Outcomes.{known}
use Rattle.cc_list.specs.Tasks.{description_in}
use Rattle.cc_run.proofs.Reading.{names_refuse, prints_fault, read_bare}
use Rattle.cc_run.specs.Modes.Converting.{converting_promise}
use Rattle.cc_run.specs.Naming.{checked_by, named_in}
use Rattle.cc_words.specs.Views.{converting_by}
use Rattle.cc_run.proofs.modes.convert.ConvertAskedMode.answer.Goals as goal

pub convert_over-requires-clause-of : goal.convert_over-requires-clause-of
convert_over-requires-clause-of g c =
    let says = c.requires.read.says in
    let is = description_is says.0 c.args.said.now.described says.2.described in
    let named = c.in-Ok.ensures.named (description_in says.0) is in
    (description_in says.0, named.0, is, named.1)

pub returns-in-Ok : goal.returns-in-Ok
returns-in-Ok g c = λ describes.
    let by = converting_by c.args.self.now in
    let of = read_bare _ by.file c.args.said.now c.requires.read.says describes in
    let is = description_is of.places c.args.said.now.described of.said in
    let named = c.in-Ok.ensures.named (description_in of.places) is in
    c.convert_over.ensures by (description_in of.places) named.0 refl named.1
    (task_read _ (λ files. files) (named_in (checked_by by)) c.args.said.now.described of named.0 _ named.2 None 0)

pub returns : goal.returns
returns g c = λ describes.
    let by = converting_by c.args.self.now in
    let of = read_bare _ by.file c.args.said.now c.requires.read.says describes in
    let refused = c.in-Err.ensures.refused (description_in of.places) (description_is of.places c.args.said.now.described of.said) in
    prints_fault (converting_promise by) _ (c.args.self.now.log.now ∷ []) c.args.said.now.described.files c.in-Err.fault _ _ c.refuse_fault.result tt
    (λ refusal is. known _ _ (λ before. (converting_promise by).Refuses before.files refusal (file_named c.args.said.now.described.files refusal)) (λ before so. inl so)
    (names_refuse _ (λ files. files) (named_in (checked_by by)) c.args.said.now.described of c.in-Err.fault refused refusal is))
    c.refuse_fault.ensures
