use Rattle.std.proofs.Common.{[], ◌∷◌, ◌∙◌, ap}
use Rattle.cc_defs.specs.Clauses.{Literal, opposite}
use Rattle.cc_rivals.specs.Making.{term_at}
use Rattle.cc_rivals.proofs.Calls.{term_clause}
use Rattle.cc_rivals.proofs.putting.imply_by_both.Goals as goal

pub returns : goal.returns
returns c =
    term_clause c.args.draft.now c.literal.new.draft c.clause.new.self (term_at c.args.head) c.in_ok-told.told (λ l. opposite c.args.body ∷ opposite c.args.before ∷ l ∷ []) _ c.in_ok-told.ensures.literal c.in_ok-told.ensures.draft
    c.in_ok-told.ensures.places c.in_ok-clause.ensures.draft c.in_ok-clause.ensures.places
    (ap (λ (o : Literal). o ∷ c.opposite-2.result ∷ c.in_ok-told.told ∷ []) c.opposite.ensures ∙ ap (λ (o : Literal). opposite c.args.body ∷ o ∷ c.in_ok-told.told ∷ []) c.opposite-2.ensures)
