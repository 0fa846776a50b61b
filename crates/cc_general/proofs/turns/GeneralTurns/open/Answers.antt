use Rattle.std.proofs.Common.{◌<◌, subst}
use Rattle.cc_general.specs.Generals.{GeneralView}
use Rattle.cc_general.proofs.Telling.{none_gives}
use Rattle.cc_general.proofs.turns.GeneralTurns.open.Goals as goal

pub returns-then-self-clause-gives : goal.returns-then-self-clause-gives
returns-then-self-clause-gives c =
    none_gives c.args.self.now c.requires.over (subst (λ (s : GeneralView). s.query.hi < s.horizon) c.self.view_is c.if-self.true) c.requires.ready.1
