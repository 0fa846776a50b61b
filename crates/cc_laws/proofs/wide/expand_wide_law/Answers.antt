use Rattle.cc_laws.proofs.Verdicts.{errs, given_so, given_fault, held}
use Rattle.cc_laws.proofs.wide.expand_wide_law.Goals as goal

pub returns-clause-checked : goal.returns-clause-checked
returns-clause-checked c = held _ c.given.result (c.in_ok-passed.ensures.passed _ c.wide_fault.ensures)

pub returns-clause-expanded : goal.returns-clause-expanded
returns-clause-expanded c = given_so _ c.wide_in.result c.given.result c.given.ensures.given c.wide_in.ensures

pub returns-clause-refused : goal.returns-clause-refused
returns-clause-refused c = given_fault _ c.given.result c.given.ensures.fault

pub returns-in_err-passed-clause-refused : goal.returns-in_err-passed-clause-refused
returns-in_err-passed-clause-refused c = errs _ c.from_residual.result _ c.from_residual.ensures.1 (c.in_err-passed.ensures.refused _ c.wide_fault.ensures)
