use Rattle.std.proofs.Common.{[], ◌∷◌, ap}
use Rattle.cc_defs.specs.Clauses.{Literal}
use Rattle.cc_rivals.specs.Making.{term_at}
use Rattle.cc_rivals.proofs.Calls.{puts_denied}
use Rattle.cc_rivals.proofs.putting.put_opposite.Goals as goal

pub returns : goal.returns
returns c =
    puts_denied c.args.draft.now c.literal.new.draft c.clause.new.self (term_at c.args.term) c.in_ok-literal.literal _ c.in_ok-literal.ensures.literal c.in_ok-literal.ensures.draft c.in_ok-literal.ensures.places
    c.in_ok-clause.ensures.draft c.in_ok-clause.ensures.places (ap (λ (o : Literal). o ∷ []) c.opposite.ensures)
