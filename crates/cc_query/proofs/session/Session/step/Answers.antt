use Rattle.std.proofs.Common.{subst}
use Rattle.std.specs.Prelude.{IfErr, IfOk}
use Rattle.cc_query.specs.Events.{Gives}
use Rattle.cc_query.specs.Sessions.{SessionView, IsRightFault}
use Rattle.cc_query.proofs.Joining.{as_before, memory_fault, ready_before, step_failing, step_refuted}
use Rattle.cc_query.proofs.session.Session.step.Goals as goal

pub returns-in-Opening-clause-fault : goal.returns-in-Opening-clause-fault
returns-in-Opening-clause-fault c = subst (λ (s : SessionView). IfErr c.begin.result (IsRightFault s))
    (as_before c.args.self.now c.take.new.self c.take.result _ c.take.ensures.left c.take.ensures.taken c.in-Opening.is) c.begin.ensures.fault

pub returns-in-Searching-clause-fault : goal.returns-in-Searching-clause-fault
returns-in-Searching-clause-fault c = subst (λ (s : SessionView). IfErr c.search.result (IsRightFault s))
    (as_before c.args.self.now c.take.new.self c.take.result _ c.take.ensures.left c.take.ensures.taken c.in-Searching.is) c.search.ensures.fault

pub returns-in-Closed-clause-fault : goal.returns-in-Closed-clause-fault
returns-in-Closed-clause-fault c = subst (λ (s : SessionView). IfErr c.conclude.result (IsRightFault s))
    (as_before c.args.self.now c.take.new.self c.take.result _ c.take.ensures.left c.take.ensures.taken c.in-Closed.is) c.conclude.ensures.fault

pub returns-in-Refuted-clause-gives : goal.returns-in-Refuted-clause-gives
returns-in-Refuted-clause-gives c = step_refuted c.search_laws.ensures _ c.args.self.now c.take.new.self c.close.new.self c.close.result c.take.result
    c.in-Refuted.part c.in-Refuted.listed c.self.view_is c.self.invariant c.take.ensures.left c.take.ensures.taken c.in-Refuted.is c.close.ensures.closed c.close.ensures.event

pub returns-in-Failing-clause-gives : goal.returns-in-Failing-clause-gives
returns-in-Failing-clause-gives c = step_failing c.search_laws.ensures _ c.args.self.now c.take.new.self c.take.result c.self.view_is c.self.invariant c.take.ensures.left c.take.ensures.taken c.in-Failing.is

pub search-requires : goal.search-requires
search-requires c = ready_before c.args.self.now c.take.new.self c.take.result _ c.take.ensures.left c.in-Searching.is c.take.ensures.ready

pub deny-requires : goal.deny-requires
deny-requires c = ready_before c.args.self.now c.take.new.self c.take.result _ c.take.ensures.left c.in-Denying.is c.take.ensures.ready

pub close-requires : goal.close-requires
close-requires c = ready_before c.args.self.now c.take.new.self c.take.result _ c.take.ensures.left c.in-Refuted.is c.take.ensures.ready

pub conclude-requires-clause-low : goal.conclude-requires-clause-low
conclude-requires-clause-low c = ready_before c.args.self.now c.take.new.self c.take.result _ c.take.ensures.left c.in-Closed.is c.take.ensures.ready

pub returns-in-Opening-clause-gives : goal.returns-in-Opening-clause-gives
returns-in-Opening-clause-gives c = subst (λ (s : SessionView). IfOk c.begin.result (Gives s c.begin.new.self))
    (as_before c.args.self.now c.take.new.self c.take.result _ c.take.ensures.left c.take.ensures.taken c.in-Opening.is) c.begin.ensures.gives

pub returns-in-Searching-clause-gives : goal.returns-in-Searching-clause-gives
returns-in-Searching-clause-gives c = subst (λ (s : SessionView). IfOk c.search.result (Gives s c.search.new.self))
    (as_before c.args.self.now c.take.new.self c.take.result _ c.take.ensures.left c.take.ensures.taken c.in-Searching.is) c.search.ensures.gives

pub returns-in-Denying-clause-gives : goal.returns-in-Denying-clause-gives
returns-in-Denying-clause-gives c = subst (λ (s : SessionView). IfOk c.deny.result (Gives s c.deny.new.self))
    (as_before c.args.self.now c.take.new.self c.take.result _ c.take.ensures.left c.take.ensures.taken c.in-Denying.is) c.deny.ensures.gives

pub returns-in-Closed-clause-gives : goal.returns-in-Closed-clause-gives
returns-in-Closed-clause-gives c = subst (λ (s : SessionView). IfOk c.conclude.result (Gives s c.conclude.new.self))
    (as_before c.args.self.now c.take.new.self c.take.result _ c.take.ensures.left c.take.ensures.taken c.in-Closed.is) c.conclude.ensures.gives

pub returns-in-Denying-clause-fault : goal.returns-in-Denying-clause-fault
returns-in-Denying-clause-fault c = memory_fault c.deny.result c.args.self.now c.deny.ensures.fault
