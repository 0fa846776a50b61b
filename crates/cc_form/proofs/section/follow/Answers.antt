use Rattle.std.proofs.Common.{◌∙◌, List, [], ◌∷◌, refl, ap, subst}
use Rattle.cc_defs.specs.declared.node.Node.{Node}
use Rattle.cc_defs.specs.ClauseLists.{after_key}
use Rattle.cc_defs.specs.Terms.{postfix}
use Rattle.cc_form.specs.Machine.{IsBuilt, IsPast, made_nodes}
use Rattle.cc_form.specs.Making.{asserted_nodes}
use Rattle.cc_form.proofs.Asserting.{assert_ends, assert_step, asserting}
use Rattle.cc_form.proofs.KeySteps.{key_nodes}
use Rattle.cc_form.proofs.Parts.{adds_err}
use Rattle.cc_form.proofs.section.follow.Goals as goal

pub returns-in_err-literal : goal.returns-in_err-literal
returns-in_err-literal c =
    let b = c.args.writer.now in
    let row = c.args.row.now in
    adds_err b c.follow_literal.new.writer c.from_residual.result (asserted_nodes b.places b.last (postfix (after_key 0 b.places row) ∷ [])) c.in_err-literal.field-0.0 c.from_residual.ensures.1
    (subst (λ (t : List Node). IsPast (made_nodes b.places b.last t).last c.in_err-literal.field-0.0) (key_nodes b.places row c.requires.row) c.in_err-literal.ensures)

pub returns : goal.returns
returns c =
    let b = c.args.writer.now in
    let row = c.args.row.now in
    let term = postfix (after_key 0 b.places row) in
    let same = key_nodes b.places row c.requires.row in
    assert_ends b _ (term ∷ [])
    (assert_step b b c.follow_literal.new.writer _ c.in_ok-literal.literal term [] (term ∷ []) (asserting b (term ∷ []) c.requires.last)
    (c.in_ok-literal.ensures.0 ∙ ap (λ (t : List Node). (made_nodes b.places b.last t).literal) same)
    (subst (λ (t : List Node). IsBuilt b c.follow_literal.new.writer (made_nodes b.places b.last t).last (made_nodes b.places b.last t).clauses) same c.in_ok-literal.ensures.1) refl refl c.in_ok-keep_one.ensures)
