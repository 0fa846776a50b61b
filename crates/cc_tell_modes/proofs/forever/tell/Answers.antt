use Rattle.std.proofs.Common.{◌∙◌, ℕ, List, ap, subst, sym}
use Rattle.cc_defs.specs.Description.{sizes_at}
use Rattle.cc_defs.specs.Rows.{IsRow}
use Rattle.cc_forever.specs.Forevers.{IsFitTurn}
use Rattle.cc_forever.specs.declared.turn.ForeverTurn.TheVariants as turns
use Rattle.cc_lists.proofs.Positions.{row_in}
use Rattle.cc_tell.proofs.GivenSteps.{step_as}
use Rattle.cc_tell_modes.specs.ForeverTexts.{given_forever}
use Rattle.cc_tell_modes.proofs.forever.tell.Goals as goal

pub tell_history-requires-clause-row : goal.tell_history-requires-clause-row
tell_history-requires-clause-row g c = λ d of.
    let fit : IsFitTurn c.args.sig.now (turns.Found c.in-Found.horizon c.in-Found.row) = subst (IsFitTurn c.args.sig.now) c.in-Found.is c.requires.fit in
    subst (λ (row : List ℕ). IsRow (sizes_at d c.in-Found.horizon) row) (sym c.items-in-Found.ensures)
    ((row_in d c.args.sig.now of c.in-Found.horizon c.in-Found.row).0 fit.1)

pub tell_open-requires-clause-row : goal.tell_open-requires-clause-row
tell_open-requires-clause-row g c = λ d of.
    let fit : IsFitTurn c.args.sig.now (turns.Unsettled c.in-Unsettled.steps c.in-Unsettled.example) = subst (IsFitTurn c.args.sig.now) c.in-Unsettled.is c.requires.fit in
    subst (λ (row : List ℕ). IsRow (sizes_at d c.in-Unsettled.steps) row) (sym c.items-in-Unsettled.ensures)
    ((row_in d c.args.sig.now of c.in-Unsettled.steps c.in-Unsettled.example).0 fit.1)

pub returns-in-Unsettled : goal.returns-in-Unsettled
returns-in-Unsettled g c = λ d of.
    let given = given_forever d c.args.asked.claim c.args.asked.least in
    step_as _ _ _ _ c.tell_open.result (ap (λ row. given (turns.Unsettled c.in-Unsettled.steps row)) c.items-in-Unsettled.ensures ∙ ap given (sym c.in-Unsettled.is)) (c.tell_open.ensures d of)
