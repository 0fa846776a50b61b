use Rattle.std.proofs.Common.{◌∙◌, Some, ap, map, refl, subst, sym}
use Rattle.cc_defs.specs.Paths.{IsPath}
use Rattle.cc_defs.specs.Resolved.{plain_base_law}
use Rattle.cc_ports.specs.declared.desk.To.TheVariants as outputs
use Rattle.cc_tell.specs.declared.status.Status.TheVariants as statuses
use Rattle.cc_tell_modes.specs.CauseTexts.{why_text}
use Rattle.cc_tell.specs.Givens.{given_to}
use Rattle.cc_why.specs.declared.cause.Cause.{Cause}
use Rattle.cc_tell_modes.proofs.CauseLines.{cause_each, row_atoms}
use Rattle.cc_tell.proofs.GivenSteps.{one_as, step_again, step_done, step_nothing}
use Rattle.cc_list.proofs.DescribedNames.{laws_of, names_of}
use Rattle.cc_run.proofs.WhyTold.{stopped_so, tells_history}
use Rattle.cc_list.proofs.Named.{signature_of}
use Rattle.cc_run.proofs.modes.why.tell_history.Goals as goal

pub tell_causes-requires-clause-atoms : goal.tell_causes-requires-clause-atoms
tell_causes-requires-clause-atoms g c =
    let path = c.requires.path in
    row_atoms c.positions_have_sizes.ensures path.0 c.args.described.now.sig (signature_of c.args.described.now path.0 path.1) c.args.key.now.horizon c.items-row.result.now
    c.args.key.now.row c.items-row.ensures path.3

pub tell_causes-requires-clause-each : goal.tell_causes-requires-clause-each
tell_causes-requires-clause-each g c =
    let path = c.requires.path in
    cause_each path.0 c.args.key.now.horizon c.items-row.result.now c.items.result.now
    (ap (map (λ (cause : Cause). Some cause)) c.items.ensures ∙ c.in_ok-causes.ensures path.0 path.2)

pub returns-in_err-causes : goal.returns-in_err-causes
returns-in_err-causes g c = λ d of laws path.
    tells_history d c.args.described.now.files c.args.key.now _ _ c.from_residual.result path (step_nothing _ _ c.from_residual.result c.from_residual.ensures.1)
    (stopped_so _ _ c.from_residual.result c.from_residual.ensures.1)

pub returns-in_err-tell_causes : goal.returns-in_err-tell_causes
returns-in_err-tell_causes g c = λ d of laws path.
    let causes = ap (map (λ (cause : Cause). Some cause)) c.items.ensures ∙ c.in_ok-causes.ensures d laws in
    let base = laws_of c.args.described.now d of ∙ ap (map plain_base_law) (sym c.items-base.ensures) in
    let text = ap (λ names. why_text d names c.args.key.now.horizon c.items-row.result.now) c.items-files.ensures
    ∙ ap (λ row. why_text d c.args.described.now.files c.args.key.now.horizon row) c.items-row.ensures in
    tells_history d c.args.described.now.files c.args.key.now _ _ c.from_residual-in_err-tell_causes.result path
    (step_again (given_to outputs.Out (why_text d c.args.described.now.files c.args.key.now.horizon c.args.key.now.row)) _ _ c.tell_causes.result c.in_err-tell_causes.field-0.0
    c.from_residual-in_err-tell_causes.result
    (one_as outputs.Out _ _ _ _ c.tell_causes.result text
    (c.tell_causes.ensures d c.args.key.now.horizon (names_of c.args.described.now d of) base causes)) c.in_err-tell_causes.was c.from_residual-in_err-tell_causes.ensures.1)
    (stopped_so _ _ c.from_residual-in_err-tell_causes.result c.from_residual-in_err-tell_causes.ensures.1)

pub returns : goal.returns
returns g c = λ d of laws path.
    let causes = ap (map (λ (cause : Cause). Some cause)) c.items.ensures ∙ c.in_ok-causes.ensures d laws in
    let base = laws_of c.args.described.now d of ∙ ap (map plain_base_law) (sym c.items-base.ensures) in
    let text = ap (λ names. why_text d names c.args.key.now.horizon c.items-row.result.now) c.items-files.ensures
    ∙ ap (λ row. why_text d c.args.described.now.files c.args.key.now.horizon row) c.items-row.ensures in
    tells_history d c.args.described.now.files c.args.key.now _ _ _ path
    (step_done (given_to outputs.Out (why_text d c.args.described.now.files c.args.key.now.horizon c.args.key.now.row)) _ _ c.tell_causes.result c.in_ok-tell_causes.field-0
    statuses.Right
    (one_as outputs.Out _ _ _ _ c.tell_causes.result text
    (c.tell_causes.ensures d c.args.key.now.horizon (names_of c.args.described.now d of) base causes)) c.in_ok-tell_causes.was)
    refl

pub why-requires-clause-path : goal.why-requires-clause-path
why-requires-clause-path g c =
    let path = c.requires.path in
    (path.0, path.2, subst (IsPath path.0 c.args.key.now.horizon) (sym c.items-row.ensures) path.4)
