use Rattle.std.proofs.Common.{◌≡◌, subst, sym, None, IfErr, OnOk}
use Rattle.std.proofs.lemmas.Result.{IfOk-weaker}
use Rattle.cc_defs.specs.Refusals.{IsRefusedBy}
use Rattle.cc_ground.specs.Counting.{laws_refusal}
use Rattle.cc_list.proofs.Grounded.{laws_fit, laws_are}
use Rattle.cc_list.proofs.asked.laws_of.Goals as goal

pub returns-clause-fit : goal.returns-clause-fit
returns-clause-fit c =
    let declarations = c.requires.signature.0 in
    IfOk-weaker c.ground.result _ _
    (λ laws fit. laws_fit c.args.described.now.sig declarations laws c.requires.signature.2 (c.declared_have_own_values.ensures declarations c.requires.signature.2.2) fit)
    (c.ground.ensures.fits declarations c.requires.signature.1 c.requires.signature.2 (c.requires.forms declarations c.requires.signature.1))

pub returns-clause-of : goal.returns-clause-of
returns-clause-of c = λ d is.
    IfOk-weaker c.ground.result _ _
    (λ laws made. laws_are c.args.described.now.sig is.declarations _ laws d is.is is.signature made)
    (c.ground.ensures.made is.declarations is.table is.signature)

pub returns-clause-unrefused : goal.returns-clause-unrefused
returns-clause-unrefused c = λ d is.
    subst (λ x. OnOk c.ground.result (laws_refusal x.universe x.laws ≡ None)) (sym is.is) (c.ground.ensures.unrefused is.declarations is.table is.signature)

pub returns-clause-refused : goal.returns-clause-refused
returns-clause-refused c = λ d is.
    subst (λ x. IfErr c.ground.result (IsRefusedBy (laws_refusal x.universe x.laws))) (sym is.is) (c.ground.ensures.refused is.declarations is.table is.signature)
