use Rattle.std.proofs.Common.{[], ◌∷◌}
use Rattle.cc_defs.specs.ClauseForms.{made_of}
use Rattle.cc_defs.specs.Clauses.{opposite}
use Rattle.cc_form.specs.Drafts.{with_clause}
use Rattle.cc_rivals.specs.Making.{term_at}
use Rattle.cc_rivals.specs.Putting.{with_term}
use Rattle.cc_rivals.proofs.Calls.{literal_fails, puts_behind}
use Rattle.cc_rivals.proofs.Folding.{made_rises}
use Rattle.cc_rivals.proofs.putting.imply_after.Goals as goal

pub returns-in_err-before : goal.returns-in_err-before
returns-in_err-before c =
    let after = term_at c.args.after in
    let head = term_at c.args.head in
    literal_fails c.args.draft.now c.literal.new.draft c.from_residual.result after c.in_err-before.field-0.0
    (λ sizes made. with_clause (with_term sizes (with_term sizes made after) head) (opposite c.args.body ∷ opposite (made_of sizes made.last after).literal ∷ (made_of sizes (made_of sizes made.last after).last head).literal ∷ []))
    c.from_residual.ensures.1 c.in_err-before.ensures.refused (λ sizes made. made_rises sizes (made_of sizes made.last after).last head)

pub returns : goal.returns
returns c =
    let head = term_at c.args.head in
    puts_behind c.args.draft.now c.literal.new.draft c.imply_by_both.new.draft c.imply_by_both.result (term_at c.args.after) c.in_ok-before.before
    (λ l sizes made. with_clause (with_term sizes made head) (opposite c.args.body ∷ opposite l ∷ (made_of sizes made.last head).literal ∷ []))
    c.in_ok-before.ensures.literal c.in_ok-before.ensures.draft c.in_ok-before.ensures.places c.imply_by_both.ensures
