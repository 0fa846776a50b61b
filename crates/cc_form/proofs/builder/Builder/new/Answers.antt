use Rattle.std.proofs.Common.{List, [], ℕ, subst}
use Rattle.cc_defs.specs.ClauseForms.{true_variable}
use Rattle.cc_defs.specs.declared.refusal.Fault.TheVariants as faults
use Rattle.cc_form.specs.Drafts.{IsDraft}
use Rattle.cc_form.specs.Machine.{IsPast}
use Rattle.cc_form.specs.Parts.{axioms_behind}
use Rattle.cc_form.proofs.Leaving.{past_if}
use Rattle.cc_form.proofs.Running.{err_past}
use Rattle.cc_form.proofs.builder.Builder.new.Goals as goal

pub begun-requires : goal.begun-requires
begun-requires c = subst (λ (p : List ℕ). IsDraft p c.in_ok-draft.draft (record { last = true_variable p; clauses = [] })) c.in_ok-own.ensures.items c.in_ok-draft.ensures.draft

pub returns-in_err-own-clause-refused : goal.returns-in_err-own-clause-refused
returns-in_err-own-clause-refused c = past_if c.from_residual.result (axioms_behind c.args.sizes.now (record { last = true_variable c.args.sizes.now; clauses = [] })) (err_past c.from_residual.result _ faults.OutOfMemory c.from_residual.ensures.1 tt)

pub returns-in_err-draft-clause-refused : goal.returns-in_err-draft-clause-refused
returns-in_err-draft-clause-refused c =
    let fault = c.in_err-draft.field-0.0 in
    let from = c.from_residual-in_err-draft in
    past_if from.result (axioms_behind c.args.sizes.now (record { last = true_variable c.args.sizes.now; clauses = [] }))
    (err_past from.result _ fault from.ensures.1 (subst (λ (p : List ℕ). IsPast (true_variable p) fault) c.in_ok-own.ensures.items c.in_err-draft.ensures.refused))
