use Rattle.std.proofs.Common.{◌<◌, subst}
use Rattle.cc_sure.specs.Sures.{SureView}
use Rattle.cc_sure.proofs.Giving.{none_gives}
use Rattle.cc_sure.proofs.turns.SureTurns.look.Goals as goal

pub returns-then-self-clause-gives : goal.returns-then-self-clause-gives
returns-then-self-clause-gives c =
    let (most, examples, position, never) = c.requires.ready in
    none_gives c.args.self.now c.requires.over (subst (λ (s : SureView). s.query.hi < s.horizon) c.self.view_is c.if-self.true) most examples position never
