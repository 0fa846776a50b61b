use Rattle.std.proofs.Common.{[], ◌∷◌, inl, refl}
use Rattle.cc_describe.specs.declared.heads.Heads.TheVariants as heads
use Rattle.cc_describe.specs.Describing.{IsDescribedWide}
use Rattle.cc_describe.specs.FirstRefusal.{file_named}
use Rattle.cc_list.proofs.Described.{is_read_by}
use Rattle.cc_list.proofs.Outcomes.{known}
use Rattle.cc_run.proofs.Reading.{prints_fault, wide_description_is}
use Rattle.cc_run.proofs.WideClaims.{names_wide, wide_claim_refuses}
use Rattle.cc_run.specs.Modes.Generally.{general_promise, named_generally, wide_in}
use Rattle.cc_words.specs.Views.{generally_by}
use Rattle.cc_run.proofs.modes.general.GeneralAskedMode.answer.Goals as goal

pub prepare_wide-requires-clause-of : goal.prepare_wide-requires-clause-of
prepare_wide-requires-clause-of g c =
    let says = c.requires.read.says in
    (wide_in says.0, wide_description_is says.0 c.args.said.now says.2)

pub list_generally-requires-clause-of : goal.list_generally-requires-clause-of
list_generally-requires-clause-of g c =
    let says = c.requires.read.says in
    let is = wide_description_is says.0 c.args.said.now says.2 in
    let named = c.in-Ok.ensures.named (wide_in says.0) is in
    (wide_in says.0, named.0, is, named.1)

pub returns-in-Ok : goal.returns-in-Ok
returns-in-Ok g c = λ describes.
    let by = generally_by c.args.self.now in
    let of = is_read_by heads.Any (IsDescribedWide heads.Any) _ (λ files. files) by.file c.args.said.now c.requires.read.says describes in
    let is = wide_description_is of.places c.args.said.now of.said in
    let named = c.in-Ok.ensures.named (wide_in of.places) is in
    c.list_generally.ensures by (wide_in of.places) named.0 refl is named.1 (names_wide _ (named_generally by) c.args.said.now of named.0 named.2)

pub returns : goal.returns
returns g c = λ describes.
    let by = generally_by c.args.self.now in
    let of = is_read_by heads.Any (IsDescribedWide heads.Any) _ (λ files. files) by.file c.args.said.now c.requires.read.says describes in
    prints_fault (general_promise by) _ [] c.args.said.now.described.files c.in-Err.fault _ _ c.refuse_fault.result tt
    (wide_claim_refuses _ (named_generally by) c.args.said.now of c.in-Err.fault (c.in-Err.ensures.refused (wide_in of.places) (wide_description_is of.places c.args.said.now of.said)))
    c.refuse_fault.ensures
