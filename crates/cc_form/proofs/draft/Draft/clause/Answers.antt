use Rattle.std.proofs.Common.{◌≡◌, refl, sym, ap, subst}
use Rattle.std.specs.List.{AllByRecursion}
use Rattle.cc_defs.specs.Clauses.{IsLiteralOver}
use Rattle.cc_form.specs.declared.writer.Writer.{Writer}
use Rattle.cc_form.specs.Building.{IsBuiltForm}
use Rattle.cc_form.specs.Drafts.{IsDraft, with_clause}
use Rattle.cc_form.proofs.Drafting.{clause_draft, clause_form}
use Rattle.cc_form.proofs.Leaving.{emptied_if, emptied_is, on_then}
use Rattle.cc_form.proofs.draft.Draft.clause.Goals as goal

pub invariant_of-self : goal.invariant_of-self
invariant_of-self c =
    let old = c.self.inside.writer in
    let r = c.write_all-written in
    let new : Writer = record { places = old.places; last = old.last; stack = old.stack; store = r.new.store } in
    emptied_is IsBuiltForm r.result new c.emptied.new.writer c.emptied.ensures.kept c.emptied.ensures.form
    (on_then r.result r.ensures (clause_form old new c.args.literals.now c.self.invariant
    (subst (λ (w : Writer). AllByRecursion (IsLiteralOver w.last) c.args.literals.now) (sym c.self.view_is) c.requires) refl refl))

pub returns-clause-draft : goal.returns-clause-draft
returns-clause-draft c = λ sizes made is.
    let old = c.self.inside.writer in
    let r = c.write_all-written in
    let new : Writer = record { places = old.places; last = old.last; stack = old.stack; store = r.new.store } in
    emptied_if (λ (done : Unit {0}) (w : Writer). IsDraft sizes w (with_clause made c.args.literals.now)) r.result c.emptied.result new c.emptied.new.writer c.emptied.ensures.made c.emptied.ensures.kept
    (on_then r.result r.ensures (clause_draft sizes made old new c.args.literals.now (subst (λ (w : Writer). IsDraft sizes w made) (sym c.self.view_is) is)
    (subst (λ (w : Writer). AllByRecursion (IsLiteralOver w.last) c.args.literals.now) (sym c.self.view_is) c.requires) refl refl))

pub returns-clause-last : goal.returns-clause-last
returns-clause-last c =
    let old = c.self.inside.writer in
    let r = c.write_all-written in
    let new : Writer = record { places = old.places; last = old.last; stack = old.stack; store = r.new.store } in
    emptied_if (λ (done : Unit {0}) (w : Writer). w.last ≡ c.args.self.now.last) r.result c.emptied.result new c.emptied.new.writer c.emptied.ensures.made c.emptied.ensures.kept
    (on_then r.result r.ensures (λ given. ap (λ (w : Writer). w.last) c.self.view_is))

pub returns-clause-places : goal.returns-clause-places
returns-clause-places c =
    let old = c.self.inside.writer in
    let r = c.write_all-written in
    let new : Writer = record { places = old.places; last = old.last; stack = old.stack; store = r.new.store } in
    emptied_if (λ (done : Unit {0}) (w : Writer). w.places ≡ c.args.self.now.places) r.result c.emptied.result new c.emptied.new.writer c.emptied.ensures.made c.emptied.ensures.kept
    (on_then r.result r.ensures (λ given. ap (λ (w : Writer). w.places) c.self.view_is))
