use Rattle.std.proofs.Common.{subst, sym}
use Rattle.cc_arena.specs.GroundViews.{plain_ground_query}
use Rattle.cc_check.specs.declared.silent.SilentVerdict.{SilentVerdict}
use Rattle.cc_check.specs.Silent.{IsSilentFault, IsSilentVerdict, IsSilentVerdictWithin}
use Rattle.cc_silent.specs.ForeverLogs.{ProvesNever, forever_subject}
use Rattle.cc_silent.proofs.Errors.{errs_with}
use Rattle.cc_silent.proofs.ForeverChecking.{has_sections, proves}
use Rattle.cc_silent.proofs.forever.check_forever.Goals as goal

pub returns-in_err-verdict-clause-refused : goal.returns-in_err-verdict-clause-refused
returns-in_err-verdict-clause-refused c = λ d q of stands.
    errs_with (IsSilentFault (forever_subject d q) c.args.bytes.now) c.from_residual-in_err-verdict.result c.in_err-verdict.field-0.0 c.from_residual-in_err-verdict.ensures.1
    (c.in_err-verdict.ensures.refused (d, q) (record { laws = of; query = stands }))

pub returns-clause-verdict : goal.returns-clause-verdict
returns-clause-verdict c = λ d q of stands.
    let is = c.in_ok-verdict.ensures.verdict (d, q) (record { laws = of; query = stands }) in
    let some = has_sections d q c.silent_sections_have_no_rows.ensures c.args.bytes.now c.in_ok-verdict.verdict is in
    subst (λ (v : SilentVerdict). IsSilentVerdict (forever_subject d q) c.args.bytes.now v) (sym (c.from.ensures some)) is

pub returns-clause-within : goal.returns-clause-within
returns-clause-within c = λ d q of stands.
    let is = c.in_ok-verdict.ensures.verdict (d, q) (record { laws = of; query = stands }) in
    let some = has_sections d q c.silent_sections_have_no_rows.ensures c.args.bytes.now c.in_ok-verdict.verdict is in
    subst (λ (v : SilentVerdict). IsSilentVerdictWithin (forever_subject d q) c.args.bytes.now v) (sym (c.from.ensures some))
    (c.in_ok-verdict.ensures.within (d, q) (record { laws = of; query = stands }))

pub returns-clause-proves : goal.returns-clause-proves
returns-clause-proves c = λ d q of stands.
    let is = c.in_ok-verdict.ensures.verdict (d, q) (record { laws = of; query = stands }) in
    let some = has_sections d q c.silent_sections_have_no_rows.ensures c.args.bytes.now c.in_ok-verdict.verdict is in
    subst (λ (v : SilentVerdict). ProvesNever d q v) (sym (c.from.ensures some))
    (proves d q (record {
      silent = c.silent_sections_have_no_rows.ensures;
      tell = c.lists_tell_histories.ensures;
      rules = c.laws_give_rules.ensures;
      later = c.queries_are_asked_later.ensures;
      steps = c.steps_are_asked.ensures;
      holds = c.induction_holds.ensures;
    }) c.args.sig.now c.args.laws.now (plain_ground_query c.args.query.now) c.requires.laws of stands c.requires.asked c.args.bytes.now c.in_ok-verdict.verdict is)
