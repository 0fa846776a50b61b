use Rattle.std.proofs.Common.{[], refl}
use Rattle.cc_list.proofs.Described.{description_is}
use Rattle.cc_list.specs.Tasks.{description_in}
use Rattle.cc_run.proofs.ProvingTold.{names_query, unkeyed}
use Rattle.cc_run.proofs.Reading.{names_refuse, prints_fault, read_bare}
use Rattle.cc_run.specs.Modes.Proving.{named_to_prove, proving_promise}
use Rattle.cc_words.specs.Views.{proving_by}
use Rattle.cc_run.proofs.modes.forever.ForeverAskedMode.answer.Goals as goal

pub prove-requires-clause-searchable : goal.prove-requires-clause-searchable
prove-requires-clause-searchable g c = unkeyed _ _ _ _ c.in-Ok.ensures.searchable

pub prove-requires-clause-of : goal.prove-requires-clause-of
prove-requires-clause-of g c =
    let says = c.requires.read.says in
    let is = description_is says.0 c.args.said.now.described says.2.described in
    let named = c.in-Ok.ensures.named (description_in says.0) is in
    (description_in says.0, named.0, is, named.1)

pub returns-in-Ok : goal.returns-in-Ok
returns-in-Ok g c = λ describes.
    let by = proving_by c.args.self.now in
    let of = read_bare _ by.file c.args.said.now c.requires.read.says describes in
    let is = description_is of.places c.args.said.now.described of.said in
    let named = c.in-Ok.ensures.named (description_in of.places) is in
    c.prove.ensures by (description_in of.places) named.0 refl is named.1 (names_query _ (named_to_prove by) c.args.said.now.described of named.0 _ named.2)

pub returns : goal.returns
returns g c = λ describes.
    let by = proving_by c.args.self.now in
    let of = read_bare _ by.file c.args.said.now c.requires.read.says describes in
    let refused = c.in-Err.ensures.refused (description_in of.places) (description_is of.places c.args.said.now.described of.said) in
    prints_fault (proving_promise by) _ [] c.args.said.now.described.files c.in-Err.fault _ _ c.refuse_fault.result tt
    (names_refuse _ (λ files. files) (named_to_prove by) c.args.said.now.described of c.in-Err.fault refused) c.refuse_fault.ensures
