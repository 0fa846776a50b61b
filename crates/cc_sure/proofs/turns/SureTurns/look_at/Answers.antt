use Rattle.cc_sure.specs.Sures.{IsRightFault}
use Rattle.cc_silent.proofs.Errors.{errs_with}
use Rattle.cc_sure.proofs.Refusing.{form_fault}
use Rattle.cc_sure.proofs.turns.SureTurns.look_at.Goals as goal

pub returns-in_err-form-clause-fault : goal.returns-in_err-form-clause-fault
returns-in_err-form-clause-fault c =
    errs_with (IsRightFault _) c.from_residual.result c.in_err-form.field-0.0 c.from_residual.ensures.1
    (form_fault c.args.self.now c.requires.low c.in_err-form.field-0.0 c.in_err-form.ensures.refused)
