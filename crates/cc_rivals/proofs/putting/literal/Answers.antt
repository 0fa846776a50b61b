use Rattle.std.proofs.Common.{◌≡◌, ◌++◌, IfErr, IfOk, OnOk, subst}
use Rattle.cc_defs.specs.ClauseForms.{Made}
use Rattle.cc_form.specs.Drafts.{IsDraft}
use Rattle.cc_form.specs.Machine.{IsPast}
use Rattle.cc_rivals.proofs.Placing.{placed_made, placed_over}
use Rattle.cc_rivals.proofs.putting.literal.Goals as goal

pub literal-requires-clause-term : goal.literal-requires-clause-term
literal-requires-clause-term c = placed_over c.args.draft.now.places c.args.term c.requires

pub returns-clause-literal : goal.returns-clause-literal
returns-clause-literal c = λ sizes made is.
    subst (λ (m : Made). IfOk c.literal.result (λ literal. literal ≡ m.literal)) (placed_made c.args.draft.now.places c.args.term c.requires sizes made.last) (c.literal.ensures.literal sizes made is)

pub returns-clause-draft : goal.returns-clause-draft
returns-clause-draft c = λ sizes made is.
    subst (λ (m : Made). OnOk c.literal.result (IsDraft sizes c.literal.new.self (record { last = m.last; clauses = made.clauses ++ m.clauses }))) (placed_made c.args.draft.now.places c.args.term c.requires sizes made.last)
    (c.literal.ensures.draft sizes made is)

pub returns-clause-refused : goal.returns-clause-refused
returns-clause-refused c = λ sizes made is.
    subst (λ (m : Made). IfErr c.literal.result (IsPast m.last)) (placed_made c.args.draft.now.places c.args.term c.requires sizes made.last) (c.literal.ensures.refused sizes made is)
