use Rattle.std.proofs.Common.{◌≡◌, ◌∙◌, ◌++◌, IfErr, List, None, refl, sym, ap, subst}
use Rattle.std.specs.List.{AllByRecursion}
use Rattle.cc_defs.specs.ClauseForms.{written}
use Rattle.cc_defs.specs.Clauses.{IsLiteralOver, Literal}
use Rattle.cc_defs.specs.Refusals.{IsRefusedBy}
use Rattle.cc_defs.specs.Sections.{Axioms}
use Rattle.cc_form.specs.declared.writer.Writer.{Writer}
use Rattle.cc_form.specs.Drafts.{IsWhole, axioms_refusal, clause_behind}
use Rattle.cc_form.proofs.Leaving.{emptied_if, emptied_is, few_within, memory_if, on_both, on_then, within_refused, within_then}
use Rattle.cc_form.proofs.Whole.{axioms_of, clause_whole}
use Rattle.cc_form.proofs.builder.Builder.clause.Goals as goal

pub invariant_of-self : goal.invariant_of-self
invariant_of-self c =
    let w = c.self.inside.writer in
    let literals = c.args.lits.now in
    let made = c.fault_of-written in
    let new : Writer = record { places = w.places; last = w.last; stack = w.stack; store = c.write_all.new.store } in
    let fits = c.within-fits in
    let given = on_both _ made.result c.write_all.result made.ensures.written c.write_all.ensures in
    emptied_is IsWhole fits.result new c.emptied.new.writer c.emptied.ensures.kept c.emptied.ensures.whole
    (within_then made.result fits.result new fits.ensures.made made.ensures.written given fits.ensures.kept fits.ensures.few
    (λ done ok gives keeps. clause_whole w new literals c.self.invariant (subst (λ (s : Axioms). AllByRecursion (IsLiteralOver s.variables) literals) (sym c.self.view_is) c.requires) refl refl gives keeps))

pub returns-clause-built : goal.returns-clause-built
returns-clause-built c =
    let w = c.self.inside.writer in
    let literals = c.args.lits.now in
    let made = c.fault_of-written in
    let new : Writer = record { places = w.places; last = w.last; stack = w.stack; store = c.write_all.new.store } in
    let fits = c.within-fits in
    let given = on_both _ made.result c.write_all.result made.ensures.written c.write_all.ensures in
    emptied_if (λ (done : Unit {0}) (w : Writer). axioms_of w ≡ clause_behind c.args.self.now literals) fits.result c.emptied.result new c.emptied.new.writer c.emptied.ensures.made c.emptied.ensures.kept
    (within_then made.result fits.result new fits.ensures.made made.ensures.written given fits.ensures.kept fits.ensures.few
    (λ done ok gives keeps.
    ap (λ (l : List (List Literal)). let x : Axioms = record { sizes = w.places; variables = w.last; clauses = l } in x)
    (keeps (w.store.kept.arena ++ written literals) (gives.each w.store.kept.arena c.self.invariant.holds)).0
    ∙ ap (λ (s : Axioms). clause_behind s literals) c.self.view_is))

pub returns-clause-within : goal.returns-clause-within
returns-clause-within c =
    let w = c.self.inside.writer in
    let literals = c.args.lits.now in
    let made = c.fault_of-written in
    let new : Writer = record { places = w.places; last = w.last; stack = w.stack; store = c.write_all.new.store } in
    let fits = c.within-fits in
    let given = on_both _ made.result c.write_all.result made.ensures.written c.write_all.ensures in
    let behind = clause_behind (axioms_of w) literals in
    emptied_if (λ (done : Unit {0}) (w : Writer). axioms_refusal (clause_behind c.args.self.now literals) ≡ None) fits.result c.emptied.result new c.emptied.new.writer c.emptied.ensures.made c.emptied.ensures.kept
    (within_then made.result fits.result new fits.ensures.made made.ensures.written given fits.ensures.kept fits.ensures.few
    (λ done ok gives keeps. subst (λ (s : Axioms). axioms_refusal (clause_behind s literals) ≡ None) c.self.view_is
    (few_within behind c.self.invariant.within (keeps behind.clauses (gives.each w.store.kept.arena c.self.invariant.holds)).1)))

pub returns-clause-refused : goal.returns-clause-refused
returns-clause-refused c =
    let w = c.self.inside.writer in
    let literals = c.args.lits.now in
    let made = c.fault_of-written in
    let new : Writer = record { places = w.places; last = w.last; stack = w.stack; store = c.write_all.new.store } in
    let fits = c.within-fits in
    let given = on_both _ made.result c.write_all.result made.ensures.written c.write_all.ensures in
    let behind = clause_behind (axioms_of w) literals in
    subst (λ (s : Axioms). IfErr c.emptied.result (IsRefusedBy (axioms_refusal (clause_behind s literals)))) c.self.view_is
    (within_refused made.result fits.result c.emptied.result new behind c.emptied.ensures.made (memory_if made.result behind made.ensures.fault)
    (on_then made.result given (λ gives. (c.self.invariant.within, gives.each w.store.kept.arena c.self.invariant.holds))) fits.ensures.refused)
