use Rattle.std.proofs.Common.{None, [], subst}
use Rattle.cc_defs.specs.Refusals.{IsRefusedBy}
use Rattle.cc_general.specs.Generals.{GeneralView}
use Rattle.cc_general.proofs.Opened.{among_first}
use Rattle.cc_silent.proofs.Errors.{errs_with}
use Rattle.cc_general.proofs.turns.GeneralTurns.begun.Goals as goal
use Rattle.cc_lists.specs.Sections.{open_section}
use Rattle.cc_search.specs.Searches.{Stands}

pub returns-in_err-form-clause-refused : goal.returns-in_err-form-clause-refused
returns-in_err-form-clause-refused c = λ w q of.
    errs_with (IsRefusedBy _) c.from_residual.result c.in_err-form.field-0.0 c.from_residual.ensures.1 (c.in_err-form.ensures.refused w q of)

pub returns-clause-among : goal.returns-clause-among
returns-clause-among c =
    among_first c.args.self.now c.in_ok-form.form c.in_ok-of.field-0
    (subst (λ (s : GeneralView). Stands c.in_ok-form.form None s.budget c.in_ok-of.field-0 (open_section [])) c.self.view_is c.in_ok-of.ensures.stands)
    c.in_ok-form.ensures.made
