use Rattle.std.proofs.Common.{refl}
use Rattle.cc_query.specs.declared.phase.Phase.TheVariants as phases
use Rattle.cc_query.proofs.Joining.{begin_last, low_at}
use Rattle.cc_query.proofs.session.Session.begin.Goals as goal

pub returns-then-self-last_horizon-clause-gives : goal.returns-then-self-last_horizon-clause-gives
returns-then-self-last_horizon-clause-gives c =
    begin_last c.search_laws.ensures _ c.args.self.now c.args.part c.last_horizon.result c.last_ending.result c.self.view_is c.self.invariant c.requires
    c.last_horizon.ensures c.if-self-last_horizon.true c.last_ending.ensures

pub open-requires : goal.open-requires
open-requires c = low_at _ c.args.self.now c.last_horizon.result c.self.view_is c.last_horizon.ensures c.if-self-last_horizon.false

pub returns-else-self-last_horizon-clause-gives : goal.returns-else-self-last_horizon-clause-gives
returns-else-self-last_horizon-clause-gives c = c.open.ensures.gives (phases.Opening c.args.part) refl

pub returns-else-self-last_horizon-clause-fault : goal.returns-else-self-last_horizon-clause-fault
returns-else-self-last_horizon-clause-fault c = c.open.ensures.fault (phases.Opening c.args.part) refl
