use Rattle.std.proofs.Common.{[], ◌∷◌, inl, refl}
use Rattle.cc_describe.specs.FirstRefusal.{file_named}
use Rattle.cc_list.proofs.Described.{description_is}
use Rattle.cc_list.proofs.Outcomes.{known}
use Rattle.cc_list.specs.Tasks.{description_in}
use Rattle.cc_run.proofs.Claims.{claim_refuses, names_unclaimed}
use Rattle.cc_run.proofs.Reading.{prints_fault, read_bare}
use Rattle.cc_run.specs.Modes.Surely.{named_surely, sure_promise}
use Rattle.cc_words.specs.Views.{surely_by}
use Rattle.cc_run.proofs.modes.sure.SureAskedMode.answer.Goals as goal

pub prepare_unclaimed-requires-clause-of : goal.prepare_unclaimed-requires-clause-of
prepare_unclaimed-requires-clause-of g c =
    let says = c.requires.read.says in
    (description_in says.0, description_is says.0 c.args.said.now.described says.2.described)

pub be_sure-requires-clause-of : goal.be_sure-requires-clause-of
be_sure-requires-clause-of g c =
    let says = c.requires.read.says in
    let is = description_is says.0 c.args.said.now.described says.2.described in
    let named = c.in-Ok.ensures.named (description_in says.0) is in
    (description_in says.0, named.0, is, named.1)

pub returns-in-Ok : goal.returns-in-Ok
returns-in-Ok g c = λ describes.
    let by = surely_by c.args.self.now in
    let of = read_bare _ by.file c.args.said.now c.requires.read.says describes in
    let is = description_is of.places c.args.said.now.described of.said in
    let named = c.in-Ok.ensures.named (description_in of.places) is in
    c.be_sure.ensures by (description_in of.places) named.0 refl is named.1 (names_unclaimed _ (named_surely by) c.args.said.now.described of named.0 named.2)

pub returns : goal.returns
returns g c = λ describes.
    let by = surely_by c.args.self.now in
    let of = read_bare _ by.file c.args.said.now c.requires.read.says describes in
    prints_fault (sure_promise by) _ [] c.args.said.now.described.files c.in-Err.fault _ _ c.refuse_fault.result tt
    (claim_refuses _ (named_surely by) c.args.said.now.described of c.in-Err.fault (c.in-Err.ensures.refused (description_in of.places) (description_is of.places c.args.said.now.described of.said)))
    c.refuse_fault.ensures
