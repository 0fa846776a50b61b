use Rattle.std.proofs.Common.{[], ◌∷◌, ◌++◌, codes}
use Rattle.cc_tell_modes.proofs.SureLines.{log_cut, log_then}
use Rattle.cc_tell_modes.proofs.forever.tell_spent.Goals as goal

pub returns-in_err-tell_section : goal.returns-in_err-tell_section
returns-in_err-tell_section g c =
    log_cut (codes "budget spent" ++ 10 ∷ []) _ _ _ c.tell_section.result c.in_err-tell_section.field-0.0 c.from_residual.result c.tell_section.ensures
    c.in_err-tell_section.was c.from_residual.ensures.1

pub returns : goal.returns
returns g c =
    log_then (codes "budget spent" ++ 10 ∷ []) _ _ _ _ c.tell_section.result c.in_ok-tell_section.field-0 c.give.result c.tell_section.ensures
    c.in_ok-tell_section.was c.give.ensures
