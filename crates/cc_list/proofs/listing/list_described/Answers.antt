use Rattle.std.proofs.Common.{[], ◌∙◌, ap, refl}
use Rattle.cc_describe.specs.declared.heads.Heads.TheVariants as heads
use Rattle.cc_describe.specs.FirstRefusal.{file_named}
use Rattle.cc_list.specs.Listing.{listing_promise}
use Rattle.cc_words.specs.Views.{listing_by}
use Rattle.cc_list.specs.Tasks.{AreRead, description_in, named_by}
use Rattle.cc_list.proofs.Described.{description_is, is_read, named_refused, task_read}
use Rattle.cc_list.proofs.Outcomes.{known, prints_lacking, prints_refusal}
use Rattle.cc_list.proofs.listing.list_described.Goals as goal

pub list_prepared-requires-clause-of : goal.list_prepared-requires-clause-of
list_prepared-requires-clause-of g c =
    let says = c.requires.says in
    let of = description_is says.0 c.args.described.now says.2 in
    let named = c.in-Ok.ensures.named (description_in says.0) of in
    (description_in says.0, named.0, of, named.1)

pub returns-in-Ok : goal.returns-in-Ok
returns-in-Ok g c = λ describes.
    let listing = listing_by c.args.asked.now in
    let of = is_read heads.Definite _ (λ files. files) listing.file c.args.described.now c.requires.says describes in
    let is = description_is of.places c.args.described.now of.said in
    let named = c.in-Ok.ensures.named (description_in of.places) is in
    c.list_prepared.ensures (description_in of.places) named.0 is named.1
    (task_read _ (λ files. files) (named_by listing) c.args.described.now of named.0 _ named.2 _ _)

pub returns-in-Err-Refused : goal.returns-in-Err-Refused
returns-in-Err-Refused g c = λ describes.
    let listing = listing_by c.args.asked.now in
    let of = is_read heads.Definite _ (λ files. files) listing.file c.args.described.now c.requires.says describes in
    let refused = rw c.in-Err-Refused.field-0-is at (c.in-Err-Refused.ensures.refused (description_in of.places) (description_is of.places c.args.described.now of.said)) in
    let name = c.file_named-file.ensures ∙ ap (λ names. file_named names c.in-Err-Refused.refusal) c.items.ensures in
    prints_refusal (listing_promise listing) _ [] c.in-Err-Refused.refusal c.file_named-file.result.now _ _ c.refuse.result tt
    (known _ (λ before. AreRead before.files listing.file of.places)
    (λ before. (listing_promise listing).Refuses before.files c.in-Err-Refused.refusal c.file_named-file.result.now)
    (λ before read. named_refused before.files (named_by listing) of.places c.args.described.now c.in-Err-Refused.refusal c.file_named-file.result.now of.said read name refused) of.read)
    c.refuse.ensures.told c.refuse.ensures.status

pub returns : goal.returns
returns g c = λ describes. prints_lacking (listing_promise (listing_by c.args.asked.now)) _ [] _ _ refl
