use Rattle.std.proofs.lemmas.Result.{IfOk-weaker}
use Rattle.cc_run.proofs.WideGrounded.{wide_laws_fit}
use Rattle.cc_tests_runs.proofs.engines.wide_laws_of.Goals as goal

pub returns : goal.returns
returns c =
    let declarations = c.requires.signature.0 in
    IfOk-weaker c.ground_wide.result _ _
    (λ laws fit. wide_laws_fit c.args.said.now.described.sig declarations laws c.requires.signature.2 (c.declared_have_own_values.ensures declarations c.requires.signature.2.2) fit)
    (c.ground_wide.ensures.fits declarations c.requires.signature.1 c.requires.signature.2 (c.requires.forms declarations c.requires.signature.1))
