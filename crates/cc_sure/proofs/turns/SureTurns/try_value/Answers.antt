use Rattle.cc_sure.specs.Sures.{IsRightFault}
use Rattle.cc_silent.proofs.Errors.{errs_with}
use Rattle.cc_sure.proofs.Giving.{value_small}
use Rattle.cc_sure.proofs.Refusing.{atom_fault}
use Rattle.cc_sure.proofs.turns.SureTurns.try_value.Goals as goal

pub atom-position-requires : goal.atom-position-requires
atom-position-requires c = let (size, at, less) = c.requires.next in value_small c.args.self.now c.args.form c.requires.asking size at less

pub returns-in_err-outcome-clause-fault : goal.returns-in_err-outcome-clause-fault
returns-in_err-outcome-clause-fault c =
    let (size, at, less) = c.requires.next in
    errs_with (IsRightFault _) c.from_residual.result c.in_err-outcome.field-0.0 c.from_residual.ensures.1
    (atom_fault c.args.self.now c.args.form c.requires.asking size at less c.requires.new c.atom-position.result.0 c.atom-position.result.1 c.atom-position.ensures.position
    c.atom-position.ensures.value c.in_err-outcome.field-0.0 c.in_err-outcome.ensures.refused)
