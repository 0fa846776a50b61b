use Rattle.std.proofs.Common.{◌∙◌, List, Some, ap, arith, sym}
use Rattle.std.proofs.lemmas.Grind.{common_steps}
use Rattle.cc_defs.specs.Resolved.{BaseLaw}
use Rattle.cc_tell_modes.specs.CauseTexts.{cause_text}
use Rattle.cc_tell_modes.proofs.causes.cause_line.Goals as goal

pub returns : goal.returns
returns c = λ d of laws.
    let atom = c.in_ok-atom.ensures d of.declarations of.table_is of.signature_is of.universe of.objects in
    let cause = c.in_ok-cause.ensures ∙ ap (λ (l : List BaseLaw). cause_text c.args.files.now l (Some c.args.cause)) (sym laws) in
    grind (arith, common_steps)
