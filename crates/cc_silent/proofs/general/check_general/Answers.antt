use Rattle.std.proofs.Common.{subst, sym}
use Rattle.cc_check.specs.declared.silent.SilentVerdict.{SilentVerdict}
use Rattle.cc_check.specs.Silent.{IsSilentFault, IsSilentVerdict, IsSilentVerdictWithin}
use Rattle.cc_silent.specs.GeneralLogs.{ProvesHistories, general_subject}
use Rattle.cc_silent.proofs.GeneralChecking.{proves}
use Rattle.cc_silent.proofs.Errors.{errs_with}
use Rattle.cc_silent.proofs.general.check_general.Goals as goal

pub returns-in_err-verdict-clause-refused : goal.returns-in_err-verdict-clause-refused
returns-in_err-verdict-clause-refused c = λ w q of stands.
    errs_with (IsSilentFault (general_subject w q) c.args.bytes.now) c.from_residual.result c.in_err-verdict.field-0.0 c.from_residual.ensures.1
    (c.in_err-verdict.ensures.refused (w, q) (record { laws = of; query = stands }))

pub returns-clause-verdict : goal.returns-clause-verdict
returns-clause-verdict c = λ w q of stands.
    subst (λ (v : SilentVerdict). IsSilentVerdict (general_subject w q) c.args.bytes.now v) (sym c.from.ensures) (c.in_ok-verdict.ensures.verdict (w, q) (record { laws = of; query = stands }))

pub returns-clause-within : goal.returns-clause-within
returns-clause-within c = λ w q of stands.
    subst (λ (v : SilentVerdict). IsSilentVerdictWithin (general_subject w q) c.args.bytes.now v) (sym c.from.ensures) (c.in_ok-verdict.ensures.within (w, q) (record { laws = of; query = stands }))

pub returns-clause-proves : goal.returns-clause-proves
returns-clause-proves c = λ w q of stands.
    subst (λ (v : SilentVerdict). ProvesHistories w q c.args.bytes.now v) (sym c.from.ensures)
    (proves c.in_ok-verdict.verdict c.args.sig.now c.args.laws.now w q c.args.bytes.now c.silent_sections_have_no_rows.ensures c.histories_have_no_rivals.ensures
    c.rival_lists_tell_rivals.ensures c.requires.laws of (c.in_ok-verdict.ensures.verdict (w, q) (record { laws = of; query = stands })))
