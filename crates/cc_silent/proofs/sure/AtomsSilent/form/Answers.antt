use Rattle.std.proofs.Common.{◌≤◌, subst, sym}
use Rattle.cc_defs.specs.Refusals.{IsRefusedBy}
use Rattle.cc_silent.specs.SureParts.{AreAtomsOf, AtomsView}
use Rattle.cc_silent.proofs.SureChecking.{has_atom, made_with, refused_first, refused_with, within_with}
use Rattle.cc_silent.proofs.Errors.{errs_with}
use Rattle.cc_silent.proofs.sure.AtomsSilent.form.Goals as goal

pub form_at-requires-clause-query : goal.form_at-requires-clause-query
form_at-requires-clause-query c =
    let h = c.args.heading.now.horizon in
    c.self.invariant.steps h (subst (λ (s : AtomsView). s.query.lo ≤ h) (sym c.self.view_is) c.requires.can.0) (subst (λ (s : AtomsView). h ≤ s.query.hi) (sym c.self.view_is) c.requires.can.1)

pub returns-in_err-form-clause-refused : goal.returns-in_err-form-clause-refused
returns-in_err-form-clause-refused c = λ of is.
    let at = subst (λ (s : AtomsView). AreAtomsOf s of.0 of.1) (sym c.self.view_is) is in
    errs_with (IsRefusedBy _) c.from_residual.result c.in_err-form.field-0.0 c.from_residual.ensures.1
    (refused_first of.0 of.1 c.args.heading.now c.in_err-form.field-0.0 (c.in_err-form.ensures.refused of.0 of.1 at.laws at.query))

pub returns-clause-made : goal.returns-clause-made
returns-clause-made c = λ of is.
    let at = subst (λ (s : AtomsView). AreAtomsOf s of.0 of.1) (sym c.self.view_is) is in
    let made = c.in_ok-form.ensures.made of.0 of.1 at.laws at.query in
    let right = (c.requires.right of is).1 in
    made_with of.0 of.1 c.args.heading.now c.in_ok-form.form made right c.form_with.result (c.form_with.ensures.made (has_atom of.0 of.1 c.args.heading.now c.in_ok-form.form made right))

pub returns-clause-within : goal.returns-clause-within
returns-clause-within c = λ of is.
    let at = subst (λ (s : AtomsView). AreAtomsOf s of.0 of.1) (sym c.self.view_is) is in
    let made = c.in_ok-form.ensures.made of.0 of.1 at.laws at.query in
    let right = (c.requires.right of is).1 in
    within_with of.0 of.1 c.args.heading.now c.in_ok-form.form made right (c.in_ok-form.ensures.within of.0 of.1 at.laws at.query) c.form_with.result
    (c.form_with.ensures.within (has_atom of.0 of.1 c.args.heading.now c.in_ok-form.form made right))

pub returns-clause-refused : goal.returns-clause-refused
returns-clause-refused c = λ of is.
    let at = subst (λ (s : AtomsView). AreAtomsOf s of.0 of.1) (sym c.self.view_is) is in
    let made = c.in_ok-form.ensures.made of.0 of.1 at.laws at.query in
    let right = (c.requires.right of is).1 in
    refused_with of.0 of.1 c.args.heading.now c.in_ok-form.form made right (c.in_ok-form.ensures.within of.0 of.1 at.laws at.query) c.form_with.result
    (c.form_with.ensures.refused (has_atom of.0 of.1 c.args.heading.now c.in_ok-form.form made right))
