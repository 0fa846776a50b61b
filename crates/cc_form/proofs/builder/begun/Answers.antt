use Rattle.std.proofs.Common.{◌++◌, [], refl, subst, sym}
use Rattle.cc_defs.specs.ClauseForms.{true_variable}
use Rattle.cc_defs.specs.ClauseLists.{Asserted}
use Rattle.cc_form.specs.declared.writer.Writer.{Writer}
use Rattle.cc_form.specs.Drafts.{IsDraft, axioms_refusal}
use Rattle.cc_form.specs.Parts.{axioms_behind, first_clauses}
use Rattle.cc_form.proofs.Whole.{built_is, draft_whole, first_refused}
use Rattle.cc_form.proofs.Leaving.{few_within}
use Rattle.cc_form.proofs.Rooms.{errs_as}
use Rattle.cc_form.proofs.builder.begun.Goals as goal

pub invariant_of-result : goal.invariant_of-result
invariant_of-result c =
    let sizes = c.args.sizes.now in
    let made : Asserted = record { last = true_variable sizes; clauses = [] } in
    let is : IsDraft sizes c.into_writer-writer.result made = subst (λ (w : Writer). IsDraft sizes w made) (sym c.into_writer-writer.ensures) c.requires in
    draft_whole sizes c.into_writer-writer.result made is (λ clauses holds. (c.in_ok-fits.ensures.kept clauses holds, c.in_ok-fits.ensures.few clauses holds))

pub returns-clause-built : goal.returns-clause-built
returns-clause-built c =
    let sizes = c.args.sizes.now in
    let made : Asserted = record { last = true_variable sizes; clauses = [] } in
    let writer = c.into_writer-writer.result in
    let is : IsDraft sizes writer made = subst (λ (w : Writer). IsDraft sizes w made) (sym c.into_writer-writer.ensures) c.requires in
    built_is sizes sizes writer.places writer.last writer.store.kept.arena refl is.places is.ends (c.in_ok-fits.ensures.kept (first_clauses sizes ++ []) is.holds)

pub returns-clause-within : goal.returns-clause-within
returns-clause-within c =
    let sizes = c.args.sizes.now in
    let made : Asserted = record { last = true_variable sizes; clauses = [] } in
    let is : IsDraft sizes c.into_writer-writer.result made = subst (λ (w : Writer). IsDraft sizes w made) (sym c.into_writer-writer.ensures) c.requires in
    few_within (axioms_behind sizes made) is.within (c.in_ok-fits.ensures.few (first_clauses sizes ++ []) is.holds)

pub returns-in_err-fits-clause-refused : goal.returns-in_err-fits-clause-refused
returns-in_err-fits-clause-refused c =
    let sizes = c.args.sizes.now in
    let made : Asserted = record { last = true_variable sizes; clauses = [] } in
    let is : IsDraft sizes c.into_writer-writer.result made = subst (λ (w : Writer). IsDraft sizes w made) (sym c.into_writer-writer.ensures) c.requires in
    errs_as c.from_residual.result c.in_err-fits.field-0.0 (axioms_refusal (axioms_behind sizes made)) c.from_residual.ensures.1
    (first_refused c.in_err-fits.field-0.0 sizes is.within (c.in_err-fits.ensures.refused (first_clauses sizes ++ []) is.holds))
