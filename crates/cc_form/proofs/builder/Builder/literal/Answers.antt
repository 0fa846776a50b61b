use Rattle.std.proofs.Common.{◌≡◌, ◌∙◌, ◌≤◌, IfErr, None, sym, ap, subst}
use Rattle.cc_defs.specs.Clauses.{IsLiteralOver, Literal}
use Rattle.cc_defs.specs.Refusals.{IsRefusedBy}
use Rattle.cc_defs.specs.Sections.{Axioms}
use Rattle.cc_defs.specs.Terms.{IsTermOver}
use Rattle.cc_theory.specs.Completion.{holds}
use Rattle.cc_form.specs.declared.writer.Writer.{Writer}
use Rattle.cc_form.specs.Drafts.{Extends, IsWhole, axioms_refusal, nodes_behind}
use Rattle.cc_form.specs.Machine.{made_nodes, moved_nodes}
use Rattle.cc_form.proofs.Drafting.{literal_over}
use Rattle.cc_form.proofs.Leaving.{emptied_if, emptied_is, few_within, on_then, past_if, within_refused, within_then}
use Rattle.cc_form.proofs.Whole.{axioms_of, literal_extends, literal_whole, new_axioms}
use Rattle.cc_form.proofs.builder.Builder.literal.Goals as goal

pub invariant_of-self : goal.invariant_of-self
invariant_of-self c =
    let w = c.self.inside.writer in
    let term = moved_nodes c.args.first c.args.nodes.now in
    let made = c.literal-made in
    let new = made.new.self in
    let fits = c.within-fits in
    emptied_is IsWhole fits.result new c.emptied.new.writer c.emptied.ensures.kept c.emptied.ensures.whole
    (within_then made.result fits.result new fits.ensures.made made.ensures.literal made.ensures.built fits.ensures.kept fits.ensures.few
    (λ literal is built keeps. literal_whole w new term c.self.invariant (subst (λ (s : Axioms). IsTermOver s.sizes term) (sym c.self.view_is) c.requires.term) built keeps))

pub returns-clause-literal : goal.returns-clause-literal
returns-clause-literal c =
    let w = c.self.inside.writer in
    let term = moved_nodes c.args.first c.args.nodes.now in
    let made = c.literal-made in
    let new = made.new.self in
    let fits = c.within-fits in
    emptied_if (λ (literal : Literal) (w : Writer). literal ≡ (made_nodes c.args.self.now.sizes c.args.self.now.variables term).literal) fits.result c.emptied.result new c.emptied.new.writer c.emptied.ensures.made c.emptied.ensures.kept
    (within_then made.result fits.result new fits.ensures.made made.ensures.literal made.ensures.built fits.ensures.kept fits.ensures.few
    (λ literal is built keeps. is ∙ ap (λ (s : Axioms). (made_nodes s.sizes s.variables term).literal) c.self.view_is))

pub returns-clause-built : goal.returns-clause-built
returns-clause-built c =
    let w = c.self.inside.writer in
    let term = moved_nodes c.args.first c.args.nodes.now in
    let made = c.literal-made in
    let new = made.new.self in
    let fits = c.within-fits in
    emptied_if (λ (literal : Literal) (w : Writer). axioms_of w ≡ nodes_behind c.args.self.now term) fits.result c.emptied.result new c.emptied.new.writer c.emptied.ensures.made c.emptied.ensures.kept
    (within_then made.result fits.result new fits.ensures.made made.ensures.literal made.ensures.built fits.ensures.kept fits.ensures.few
    (λ literal is built keeps. new_axioms w new term c.self.invariant built keeps ∙ ap (λ (s : Axioms). nodes_behind s term) c.self.view_is))

pub returns-clause-over : goal.returns-clause-over
returns-clause-over c =
    let w = c.self.inside.writer in
    let term = moved_nodes c.args.first c.args.nodes.now in
    let made = c.literal-made in
    let new = made.new.self in
    let fits = c.within-fits in
    emptied_if (λ (literal : Literal) (w : Writer). IsLiteralOver w.last literal) fits.result c.emptied.result new c.emptied.new.writer c.emptied.ensures.made c.emptied.ensures.kept
    (within_then made.result fits.result new fits.ensures.made made.ensures.literal made.ensures.built fits.ensures.kept fits.ensures.few
    (λ literal is built keeps. (literal_over w new literal term c.self.invariant.axioms.least (subst (λ (s : Axioms). IsTermOver s.sizes term) (sym c.self.view_is) c.requires.term) is built.ends).0))

pub returns-clause-rises : goal.returns-clause-rises
returns-clause-rises c =
    let w = c.self.inside.writer in
    let term = moved_nodes c.args.first c.args.nodes.now in
    let made = c.literal-made in
    let new = made.new.self in
    let fits = c.within-fits in
    emptied_if (λ (literal : Literal) (w : Writer). c.args.self.now.variables ≤ w.last) fits.result c.emptied.result new c.emptied.new.writer c.emptied.ensures.made c.emptied.ensures.kept
    (within_then made.result fits.result new fits.ensures.made made.ensures.literal made.ensures.built fits.ensures.kept fits.ensures.few
    (λ literal is built keeps. subst (λ (s : Axioms). s.variables ≤ new.last) c.self.view_is (literal_over w new literal term c.self.invariant.axioms.least (subst (λ (s : Axioms). IsTermOver s.sizes term) (sym c.self.view_is) c.requires.term) is built.ends).1))

pub returns-clause-extends : goal.returns-clause-extends
returns-clause-extends c = λ f written truth.
    let w = c.self.inside.writer in
    let term = moved_nodes c.args.first c.args.nodes.now in
    let made = c.literal-made in
    let new = made.new.self in
    let fits = c.within-fits in
    emptied_if (λ (literal : Literal) (w : Writer). Extends c.args.self.now (axioms_of w) literal (λ row. holds row f)) fits.result c.emptied.result new c.emptied.new.writer c.emptied.ensures.made c.emptied.ensures.kept
    (within_then made.result fits.result new fits.ensures.made made.ensures.literal made.ensures.built fits.ensures.kept fits.ensures.few
    (λ literal is built keeps. literal_extends w new c.args.self.now literal f term c.self.invariant c.self.view_is written c.requires.term truth is built keeps))

pub returns-clause-within : goal.returns-clause-within
returns-clause-within c =
    let w = c.self.inside.writer in
    let term = moved_nodes c.args.first c.args.nodes.now in
    let made = c.literal-made in
    let new = made.new.self in
    let fits = c.within-fits in
    let behind = nodes_behind (axioms_of w) term in
    emptied_if (λ (literal : Literal) (w : Writer). axioms_refusal (nodes_behind c.args.self.now term) ≡ None) fits.result c.emptied.result new c.emptied.new.writer c.emptied.ensures.made c.emptied.ensures.kept
    (within_then made.result fits.result new fits.ensures.made made.ensures.literal made.ensures.built fits.ensures.kept fits.ensures.few
    (λ literal is built keeps. subst (λ (s : Axioms). axioms_refusal (nodes_behind s term) ≡ None) c.self.view_is
    (few_within behind built.within (keeps behind.clauses (built.gives.each w.store.kept.arena c.self.invariant.holds)).1)))

pub returns-clause-refused : goal.returns-clause-refused
returns-clause-refused c =
    let w = c.self.inside.writer in
    let term = moved_nodes c.args.first c.args.nodes.now in
    let made = c.literal-made in
    let new = made.new.self in
    let fits = c.within-fits in
    let behind = nodes_behind (axioms_of w) term in
    subst (λ (s : Axioms). IfErr c.emptied.result (IsRefusedBy (axioms_refusal (nodes_behind s term)))) c.self.view_is
    (within_refused made.result fits.result c.emptied.result new behind c.emptied.ensures.made (past_if made.result behind made.ensures.refused)
    (on_then made.result made.ensures.built (λ built. (built.within, built.gives.each w.store.kept.arena c.self.invariant.holds))) fits.ensures.refused)
