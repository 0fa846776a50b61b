use Rattle.std.proofs.Common.{◌≡◌, subst, sym, None, IfErr, OnOk}
use Rattle.std.proofs.lemmas.Result.{IfOk-weaker}
use Rattle.cc_defs.specs.Refusals.{IsRefusedBy}
use Rattle.cc_wide_ground.specs.WideGrounding.{wide_laws_refusal}
use Rattle.cc_run.proofs.WideGrounded.{wide_laws_are, wide_laws_fit}
use Rattle.cc_run.proofs.wide_laws.wide_laws_of.Goals as goal

pub returns-clause-fit : goal.returns-clause-fit
returns-clause-fit c =
    let declarations = c.requires.signature.0 in
    IfOk-weaker c.ground_wide.result _ _
    (λ laws fit. wide_laws_fit c.args.said.now.described.sig declarations laws c.requires.signature.2 (c.declared_have_own_values.ensures declarations c.requires.signature.2.2) fit)
    (c.ground_wide.ensures.fits declarations c.requires.signature.1 c.requires.signature.2 (c.requires.forms declarations c.requires.signature.1))

pub returns-clause-of : goal.returns-clause-of
returns-clause-of c = λ w is.
    IfOk-weaker c.ground_wide.result _ _
    (λ laws made. wide_laws_are c.args.said.now.described.sig is.declarations _ laws w is.is is.signature made)
    (c.ground_wide.ensures.made is.declarations is.table is.signature)

pub returns-clause-unrefused : goal.returns-clause-unrefused
returns-clause-unrefused c = λ w is.
    subst (λ x. OnOk c.ground_wide.result (wide_laws_refusal x.universe x.laws ≡ None)) (sym is.is) (c.ground_wide.ensures.unrefused is.declarations is.table is.signature)

pub returns-clause-refused : goal.returns-clause-refused
returns-clause-refused c = λ w is.
    subst (λ x. IfErr c.ground_wide.result (IsRefusedBy (wide_laws_refusal x.universe x.laws))) (sym is.is) (c.ground_wide.ensures.refused is.declarations is.table is.signature)
