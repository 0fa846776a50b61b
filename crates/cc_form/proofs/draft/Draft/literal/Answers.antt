use Rattle.std.proofs.Common.{◌≡◌, ◌∙◌, ◌≤◌, IfErr, IfOk, Result, sym, ap, subst}
use Rattle.cc_defs.specs.declared.refusal.Fault.{Fault}
use Rattle.cc_defs.specs.ClauseForms.{Made}
use Rattle.cc_defs.specs.Clauses.{IsLiteralOver, Literal}
use Rattle.cc_defs.specs.Terms.{IsTermOver}
use Rattle.cc_form.specs.declared.writer.Writer.{Writer}
use Rattle.cc_form.specs.Building.{IsBuiltForm}
use Rattle.cc_form.specs.Drafts.{IsDraft, with_nodes}
use Rattle.cc_form.specs.Machine.{IsPast, made_nodes, moved_nodes}
use Rattle.cc_form.proofs.Drafting.{literal_draft, literal_form, literal_over, made_at}
use Rattle.cc_form.proofs.Leaving.{both_then, emptied_if, emptied_is, on_then}
use Rattle.cc_form.proofs.draft.Draft.literal.Goals as goal

pub invariant_of-self : goal.invariant_of-self
invariant_of-self c =
    let w = c.self.inside.writer in
    let made = c.literal-made in
    emptied_is IsBuiltForm made.result made.new.self c.emptied.new.writer c.emptied.ensures.kept c.emptied.ensures.form
    (on_then made.result made.ensures.built (literal_form w made.new.self (moved_nodes c.args.first c.args.nodes.now) c.self.invariant
    (subst (λ (w : Writer). IsTermOver w.places (moved_nodes c.args.first c.args.nodes.now)) (sym c.self.view_is) c.requires.term)))

pub returns-clause-literal : goal.returns-clause-literal
returns-clause-literal c = λ sizes made is.
    let term = moved_nodes c.args.first c.args.nodes.now in
    subst (λ (r : Result Literal Fault). IfOk r (λ literal. literal ≡ (made_nodes sizes made.last term).literal)) (sym c.emptied.ensures.made)
    (subst (λ (m : Made). IfOk c.literal-made.result (λ literal. literal ≡ m.literal))
    (made_at sizes made c.self.inside.writer term (subst (λ (w : Writer). IsDraft sizes w made) (sym c.self.view_is) is)) c.literal-made.ensures.literal)

pub returns-clause-draft : goal.returns-clause-draft
returns-clause-draft c = λ sizes made is.
    let w = c.self.inside.writer in
    let term = moved_nodes c.args.first c.args.nodes.now in
    let r = c.literal-made in
    emptied_if (λ (literal : Literal) (w : Writer). IsDraft sizes w (with_nodes sizes made term)) r.result c.emptied.result r.new.self c.emptied.new.writer c.emptied.ensures.made c.emptied.ensures.kept
    (on_then r.result r.ensures.built (literal_draft sizes made w r.new.self term (subst (λ (w : Writer). IsDraft sizes w made) (sym c.self.view_is) is)
    (subst (λ (w : Writer). IsTermOver w.places term) (sym c.self.view_is) c.requires.term)))

pub returns-clause-over : goal.returns-clause-over
returns-clause-over c =
    let w = c.self.inside.writer in
    let term = moved_nodes c.args.first c.args.nodes.now in
    let r = c.literal-made in
    emptied_if (λ (literal : Literal) (w : Writer). IsLiteralOver w.last literal) r.result c.emptied.result r.new.self c.emptied.new.writer c.emptied.ensures.made c.emptied.ensures.kept
    (both_then r.result r.ensures.literal r.ensures.built (λ literal is built.
    (literal_over w r.new.self literal term c.self.invariant.axioms.least (subst (λ (w : Writer). IsTermOver w.places term) (sym c.self.view_is) c.requires.term) is built.ends).0))

pub returns-clause-rises : goal.returns-clause-rises
returns-clause-rises c =
    let w = c.self.inside.writer in
    let term = moved_nodes c.args.first c.args.nodes.now in
    let r = c.literal-made in
    emptied_if (λ (literal : Literal) (w : Writer). c.args.self.now.last ≤ w.last) r.result c.emptied.result r.new.self c.emptied.new.writer c.emptied.ensures.made c.emptied.ensures.kept
    (both_then r.result r.ensures.literal r.ensures.built (λ literal is built. subst (λ (w : Writer). w.last ≤ r.new.self.last) c.self.view_is
    (literal_over w r.new.self literal term c.self.invariant.axioms.least (subst (λ (w : Writer). IsTermOver w.places term) (sym c.self.view_is) c.requires.term) is built.ends).1))

pub returns-clause-places : goal.returns-clause-places
returns-clause-places c =
    let r = c.literal-made in
    emptied_if (λ (literal : Literal) (w : Writer). w.places ≡ c.args.self.now.places) r.result c.emptied.result r.new.self c.emptied.new.writer c.emptied.ensures.made c.emptied.ensures.kept
    (on_then r.result r.ensures.built (λ built. built.places ∙ ap (λ (w : Writer). w.places) c.self.view_is))

pub returns-clause-refused : goal.returns-clause-refused
returns-clause-refused c = λ sizes made is.
    let term = moved_nodes c.args.first c.args.nodes.now in
    subst (λ (r : Result Literal Fault). IfErr r (IsPast (made_nodes sizes made.last term).last)) (sym c.emptied.ensures.made)
    (subst (λ (m : Made). IfErr c.literal-made.result (IsPast m.last))
    (made_at sizes made c.self.inside.writer term (subst (λ (w : Writer). IsDraft sizes w made) (sym c.self.view_is) is)) c.literal-made.ensures.refused)
