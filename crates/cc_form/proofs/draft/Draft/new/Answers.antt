use Rattle.std.proofs.Common.{◌≡◌, ◌∙◌, ◌≤◌, ℕ, List, [], sym, ap, subst}
use Rattle.cc_defs.specs.ClauseForms.{true_variable}
use Rattle.cc_form.specs.Drafts.{IsDraft}
use Rattle.cc_form.proofs.Drafting.{begun_form, draft_is_form}
use Rattle.cc_form.proofs.draft.Draft.new.Goals as goal

pub invariant_of-result : goal.invariant_of-result
invariant_of-result c =
    let old = c.in_ok-writer.writer in
    let same : old.places ≡ c.args.sizes.items = c.in_ok-writer.ensures.places in
    draft_is_form old.places c.write_first.new.writer (record { last = true_variable old.places; clauses = [] })
    (begun_form old c.write_first.new.writer (c.in_ok-writer.ensures.last ∙ ap true_variable (sym same)) (subst (λ (p : List ℕ). true_variable p ≤ 4000000) (sym same) c.in_ok-writer.ensures.within)
    c.in_ok-writer.ensures.clauses c.write_first.ensures.places c.write_first.ensures.last c.in_ok-write_first.ensures.clauses)

pub returns-clause-draft : goal.returns-clause-draft
returns-clause-draft c =
    let old = c.in_ok-writer.writer in
    let same : old.places ≡ c.args.sizes.items = c.in_ok-writer.ensures.places in
    subst (λ (p : List ℕ). IsDraft p c.write_first.new.writer (record { last = true_variable p; clauses = [] })) same
    (begun_form old c.write_first.new.writer (c.in_ok-writer.ensures.last ∙ ap true_variable (sym same)) (subst (λ (p : List ℕ). true_variable p ≤ 4000000) (sym same) c.in_ok-writer.ensures.within)
    c.in_ok-writer.ensures.clauses c.write_first.ensures.places c.write_first.ensures.last c.in_ok-write_first.ensures.clauses)
