use Rattle.std.proofs.Common.{arith, subst, sym}
use Rattle.cc_arena.specs.GroundViews.{plain_ground_query}
use Rattle.cc_check.specs.declared.silent.SilentVerdict.{SilentVerdict}
use Rattle.cc_check.specs.Silent.{IsSilentFault, IsSilentVerdict, IsSilentVerdictWithin}
use Rattle.cc_silent.specs.SureLogs.{RefutesAtoms, sure_subject}
use Rattle.cc_silent.proofs.SureChecking.{range_stands}
use Rattle.cc_silent.proofs.Errors.{errs_with}
use Rattle.cc_silent.proofs.Refuting.{refutes}
use Rattle.cc_silent.proofs.sure.check_sure.Goals as goal

pub returns-in_err-verdict-clause-refused : goal.returns-in_err-verdict-clause-refused
returns-in_err-verdict-clause-refused c = λ d q of stands.
    errs_with (IsSilentFault (sure_subject d q) c.args.bytes.now) c.from_residual.result c.in_err-verdict.field-0.0 c.from_residual.ensures.1
    (c.in_err-verdict.ensures.refused (d, q) (record { laws = of; query = stands }))

pub returns-clause-verdict : goal.returns-clause-verdict
returns-clause-verdict c = λ d q of stands.
    subst (λ (v : SilentVerdict). IsSilentVerdict (sure_subject d q) c.args.bytes.now v) (sym c.from.ensures) (c.in_ok-verdict.ensures.verdict (d, q) (record { laws = of; query = stands }))

pub returns-clause-within : goal.returns-clause-within
returns-clause-within c = λ d q of stands.
    subst (λ (v : SilentVerdict). IsSilentVerdictWithin (sure_subject d q) c.args.bytes.now v) (sym c.from.ensures) (c.in_ok-verdict.ensures.within (d, q) (record { laws = of; query = stands }))

pub returns-clause-refutes : goal.returns-clause-refutes
returns-clause-refutes c = λ d q of stands.
    subst (λ (v : SilentVerdict). RefutesAtoms d q c.args.bytes.now v) (sym c.from.ensures)
    (refutes c.silent_sections_have_no_rows.ensures d q c.args.bytes.now c.in_ok-verdict.verdict (c.in_ok-verdict.ensures.verdict (d, q) (record { laws = of; query = stands }))
    (λ horizon least most.
    let range = range_stands (plain_ground_query c.args.query.now) d q stands in let lo = range.0 in let hi = range.1 in let high = c.requires.most in
    c.lists_tell_histories.ensures c.args.sig.now c.args.laws.now (plain_ground_query c.args.query.now) c.requires.laws d q of stands horizon (omega arith)
    (c.requires.steps horizon (omega arith) (omega arith))))
