use Rattle.std.proofs.Common.{subst}
use Rattle.std.specs.Prelude.{IfErr, IfOk}
use Rattle.cc_search.specs.Searches.{SearchView, Gives, IsRightFault}
use Rattle.cc_search.proofs.Finding.{as_taken, memory_fault, ready_taken, refuted_ends}
use Rattle.cc_search.proofs.search.Search.step.Goals as goal

pub returns-in-Searching-clause-fault : goal.returns-in-Searching-clause-fault
returns-in-Searching-clause-fault c = subst (λ (s : SearchView). IfErr c.go_on.result (IsRightFault s))
    (as_taken c.args.self.now c.take.new.self c.take.result _ c.take.ensures.left c.take.ensures.taken c.in-Searching.is) c.go_on.ensures.fault

pub returns-in-Refuted-clause-gives : goal.returns-in-Refuted-clause-gives
returns-in-Refuted-clause-gives c = refuted_ends c.search_laws.ensures _ c.args.self.now c.take.new.self c.take.result
    c.self.view_is c.self.invariant c.take.ensures.left c.take.ensures.taken c.in-Refuted.is

pub go_on-requires-clause-ready : goal.go_on-requires-clause-ready
go_on-requires-clause-ready c = ready_taken c.args.self.now c.take.new.self c.take.result _ c.take.ensures.left c.in-Searching.is c.take.ensures.ready

pub deny-requires-clause-ready : goal.deny-requires-clause-ready
deny-requires-clause-ready c = ready_taken c.args.self.now c.take.new.self c.take.result _ c.take.ensures.left c.in-Denying.is c.take.ensures.ready

pub returns-in-Searching-clause-gives : goal.returns-in-Searching-clause-gives
returns-in-Searching-clause-gives c = subst (λ (s : SearchView). IfOk c.go_on.result (Gives s c.go_on.new.self))
    (as_taken c.args.self.now c.take.new.self c.take.result _ c.take.ensures.left c.take.ensures.taken c.in-Searching.is) c.go_on.ensures.gives

pub returns-in-Denying-clause-gives : goal.returns-in-Denying-clause-gives
returns-in-Denying-clause-gives c = subst (λ (s : SearchView). IfOk c.deny.result (Gives s c.deny.new.self))
    (as_taken c.args.self.now c.take.new.self c.take.result _ c.take.ensures.left c.take.ensures.taken c.in-Denying.is) c.deny.ensures.gives

pub returns-in-Denying-clause-fault : goal.returns-in-Denying-clause-fault
returns-in-Denying-clause-fault c = memory_fault c.deny.result c.args.self.now c.deny.ensures.fault
