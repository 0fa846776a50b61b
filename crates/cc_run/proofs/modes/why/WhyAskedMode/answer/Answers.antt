use Rattle.std.proofs.Common.{[], refl, subst}
use Rattle.cc_describe.specs.FirstRefusal.{file_named}
use Rattle.cc_list.proofs.Described.{description_is}
use Rattle.cc_list.specs.Tasks.{description_in}
use Rattle.cc_run.proofs.WhyTold.{prints_why, refuses_row}
use Rattle.cc_run.proofs.Reading.{prints_fault, read_bare}
use Rattle.cc_run.specs.WhyTold.{IsWhyFault}
use Rattle.cc_run.specs.Modes.Why.{why_promise}
use Rattle.cc_words.specs.Views.{saying_why_by}
use Rattle.cc_run.proofs.modes.why.WhyAskedMode.answer.Goals as goal

pub tell_row-requires-clause-of : goal.tell_row-requires-clause-of
tell_row-requires-clause-of g c =
    let says = c.requires.read.says in
    let of = description_is says.0 c.args.said.now.described says.2.described in
    (description_in says.0, c.args.self.now.key.now, of, c.in-Ok.ensures.named (description_in says.0) of)

pub returns-in-Ok : goal.returns-in-Ok
returns-in-Ok g c = λ describes.
    let by = saying_why_by c.args.self.now in
    let of = read_bare _ by.file c.args.said.now c.requires.read.says describes in
    let description = description_is of.places c.args.said.now.described of.said in
    let looked = c.in-Ok.ensures.named (description_in of.places) description in
    prints_why by c.args.said.now.described c.args.said.now.described.sig c.in-Ok.row.laws c.in-Ok.row.key c.in-Ok.row.is_path _ _ c.tell_row.result of looked
    (c.tell_row.ensures (description_in of.places) by.key description looked)

pub returns : goal.returns
returns g c = λ describes.
    let by = saying_why_by c.args.self.now in
    let of = read_bare _ by.file c.args.said.now c.requires.read.says describes in
    let refused = c.in-Err.ensures.refused (description_in of.places) (description_is of.places c.args.said.now.described of.said) in
    prints_fault (why_promise by) _ [] c.args.said.now.described.files c.in-Err.fault _ _ c.refuse_fault.result tt
    (λ refusal is. refuses_row _ by c.args.said.now.described of refusal (file_named c.args.said.now.described.files refusal) refl
    (subst (IsWhyFault (description_in of.places) by.key) is refused))
    c.refuse_fault.ensures
