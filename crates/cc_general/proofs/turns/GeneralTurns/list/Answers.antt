use Rattle.cc_defs.specs.declared.event.Ending.TheVariants as endings
use Rattle.cc_general.specs.declared.turn.GeneralTurn.TheVariants as events
use Rattle.cc_general.proofs.Telling.{asked_gives, over_told}
use Rattle.cc_general.proofs.turns.GeneralTurns.list.Goals as goal

pub returns-then-is_asked-clause-gives : goal.returns-then-is_asked-clause-gives
returns-then-is_asked-clause-gives c =
    over_told c.args.self.now c.args.search c.args.lines _ _
    (λ i. events.Ended (endings.Asked (c.place-horizon.ensures.horizon i) (c.place-horizon.ensures.listed i)))
    (asked_gives c.args.self.now c.args.search c.args.lines c.requires.ready.1 c.requires.over (c.is_asked.ensures.asked c.if-is_asked.true))
