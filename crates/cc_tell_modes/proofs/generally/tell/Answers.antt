use Rattle.std.proofs.Common.{◌∙◌, ap, sym}
use Rattle.cc_general.specs.declared.turn.GeneralTurn.TheVariants as events
use Rattle.cc_tell_modes.specs.GeneralTexts.{given_generally}
use Rattle.cc_tell.proofs.GivenSteps.{step_as}
use Rattle.cc_tell_modes.proofs.generally.tell.Goals as goal

pub returns-in-NoHistory : goal.returns-in-NoHistory
returns-in-NoHistory g c = λ d of. step_as _ _ _ _ c.tell_alone.result (ap (given_generally d) (sym c.in-NoHistory.is)) (c.tell_alone.ensures d)

pub returns-in-Ended : goal.returns-in-Ended
returns-in-Ended g c = λ d of. step_as _ _ _ _ c.tell_alone-in-Ended.result (ap (given_generally d) (sym c.in-Ended.is)) (c.tell_alone-in-Ended.ensures d)

pub returns-in-Spent : goal.returns-in-Spent
returns-in-Spent g c = λ d of.
    step_as _ _ _ _ c.tell_spent.result
    (ap (λ lines. given_generally d (events.Spent c.in-Spent.horizon c.in-Spent.listed c.in-Spent.rivals_of lines)) c.items-in-Spent.ensures
    ∙ ap (given_generally d) (sym c.in-Spent.is)) (c.tell_spent.ensures d)
