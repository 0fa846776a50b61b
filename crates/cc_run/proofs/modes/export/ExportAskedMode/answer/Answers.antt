use Rattle.std.proofs.Common.{[], map, refl, subst}
use Rattle.cc_defs.specs.Resolved.{plain_query}
use Rattle.cc_describe.specs.FirstRefusal.{file_named}
use Rattle.cc_list.proofs.Described.{description_is}
use Rattle.cc_list.specs.Tasks.{description_in}
use Rattle.cc_run.proofs.Exported.{prints_exported, refuses_export}
use Rattle.cc_run.proofs.Reading.{prints_fault, read_bare}
use Rattle.cc_run.specs.Exported.{IsExportFault}
use Rattle.cc_run.specs.Modes.Exporting.{exporting_promise}
use Rattle.cc_words.specs.Views.{exporting_by}
use Rattle.cc_run.proofs.modes.export.ExportAskedMode.answer.Goals as goal

pub exported_form-requires-clause-of : goal.exported_form-requires-clause-of
exported_form-requires-clause-of g c =
    let says = c.requires.read.says in
    (description_in says.0, description_is says.0 c.args.said.now.described says.2.described)

pub returns-in-Ok : goal.returns-in-Ok
returns-in-Ok g c = λ describes.
    let by = exporting_by c.args.self.now in
    let of = read_bare _ by.file c.args.said.now c.requires.read.says describes in
    prints_exported by c.args.said.now.described c.in-Ok.form _ _ c.tell_form.result of
    (c.in-Ok.ensures.exported (description_in of.places) (description_is of.places c.args.said.now.described of.said)) c.tell_form.ensures.told c.tell_form.ensures.status

pub returns : goal.returns
returns g c = λ describes.
    let by = exporting_by c.args.self.now in
    let of = read_bare _ by.file c.args.said.now c.requires.read.says describes in
    let refused = c.in-Err.ensures.refused (description_in of.places) (description_is of.places c.args.said.now.described of.said) in
    prints_fault (exporting_promise by) _ [] c.args.said.now.described.files c.in-Err.fault _ _ c.refuse_fault.result tt
    (λ refusal is. refuses_export _ by c.args.said.now.described of refusal (file_named c.args.said.now.described.files refusal) refl
    (subst (IsExportFault (description_in of.places) (map plain_query c.args.said.now.described.queries) by.query by.horizon) is refused))
    c.refuse_fault.ensures
