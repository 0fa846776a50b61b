use Rattle.std.proofs.Common.{subst, IfErr, IfOk}
use Rattle.cc_general.specs.Generals.{GeneralView, IsRightFault}
use Rattle.cc_general.specs.Walks.{Gives}
use Rattle.cc_general.proofs.Telling.{taken_back}
use Rattle.cc_general.proofs.turns.GeneralTurns.step.Goals as goal

pub returns-in-Opening-clause-gives : goal.returns-in-Opening-clause-gives
returns-in-Opening-clause-gives c =
    subst (λ (g : GeneralView). IfOk c.open.result (Gives g c.open.new.self))
    (taken_back c.args.self.now c.take.new.self c.take.result _ c.take.ensures.taken c.take.ensures.left c.in-Opening.is) c.open.ensures.gives

pub returns-in-Opening-clause-fault : goal.returns-in-Opening-clause-fault
returns-in-Opening-clause-fault c =
    subst (λ (g : GeneralView). IfErr c.open.result (IsRightFault g))
    (taken_back c.args.self.now c.take.new.self c.take.result _ c.take.ensures.taken c.take.ensures.left c.in-Opening.is) c.open.ensures.fault

pub returns-in-Listing-clause-gives : goal.returns-in-Listing-clause-gives
returns-in-Listing-clause-gives c =
    subst (λ (g : GeneralView). IfOk c.list.result (Gives g c.list.new.self))
    (taken_back c.args.self.now c.take.new.self c.take.result _ c.take.ensures.taken c.take.ensures.left c.in-Listing.is) c.list.ensures.gives

pub returns-in-Listing-clause-fault : goal.returns-in-Listing-clause-fault
returns-in-Listing-clause-fault c =
    subst (λ (g : GeneralView). IfErr c.list.result (IsRightFault g))
    (taken_back c.args.self.now c.take.new.self c.take.result _ c.take.ensures.taken c.take.ensures.left c.in-Listing.is) c.list.ensures.fault
