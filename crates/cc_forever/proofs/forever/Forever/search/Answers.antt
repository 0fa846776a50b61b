use Rattle.std.proofs.Common.{None, subst, sym, true}
use Rattle.cc_defs.specs.Refusals.{IsRefusedBy}
use Rattle.cc_form.specs.Forms.{section_refusal}
use Rattle.cc_form.specs.Steps.{TemplateView}
use Rattle.cc_forever.specs.Forevers.{ForeverView}
use Rattle.cc_forever.proofs.Giving.{errs_with}
use Rattle.cc_forever.proofs.forever.Forever.search.Goals as goal
use Rattle.cc_theory.specs.Theories.{AreLawsOf}

pub returns-in_err-form-clause-refused : goal.returns-in_err-form-clause-refused
returns-in_err-form-clause-refused c = λ d q laws query.
    let own = subst (λ (s : ForeverView). AreLawsOf s.signature s.laws d) (sym c.self.view_is) laws in
    errs_with (IsRefusedBy (section_refusal d q c.args.horizon true None)) c.from_residual-in_err-form.result c.in_err-form.field-0.0 c.from_residual-in_err-form.ensures.1
    (c.in_err-form.ensures.refused d q (subst (λ (t : TemplateView). AreLawsOf t.signature t.laws d) (sym c.prepare.ensures) own) query)
