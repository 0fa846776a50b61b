use Rattle.std.proofs.Common.{◌∙◌, ◌<◌, ◌≤◌, ℕ, Ok, ap, length, sym, subst}
use Rattle.cc_cdcl.specs.declared.solver.Step.TheVariants as answers
use Rattle.cc_defs.specs.declared.event.Event.TheVariants as events
use Rattle.cc_defs.specs.declared.log.LogLine.{LogLine}
use Rattle.cc_kernel.specs.Kernels.{KernelView, derived_count}
use Rattle.cc_query.specs.Sessions.{SessionView}
use Rattle.cc_query.proofs.Within.{few_entries, line_of_kernel}
use Rattle.cc_query.proofs.Joining.{askable_of, empty_gives, found_ready, line_ready, line_gives, refuted_some, search_refuted, search_spent, step_at}
use Rattle.cc_query.proofs.session.Session.search.Goals as goal

pub found-requires-clause-within : goal.found-requires-clause-within
found-requires-clause-within c = (found_ready c.args.self.now.ask c.args.solver c.next.new.self c.args.listed
    (step_at c.budget_of-budget.result _ c.args.self.now c.args.solver c.next.new.self c.in_ok-next.field-0 answers.Found c.budget_of-budget.ensures c.self.view_is
    c.in-Found.is c.in_ok-next.ensures.step)
    c.requires.2).1

pub returns-in_ok-line-in-Line-clause-gives : goal.returns-in_ok-line-in-Line-clause-gives
returns-in_ok-line-in-Line-clause-gives c =
    line_gives c.search_laws.ensures (Ok (events.Log c.in_ok-line-in-Line.line)) c.args.self.now c.stand.new.self c.args.solver c.next.new.self c.args.part c.args.listed
    (askable_of _ c.args.self.now c.self.view_is c.self.invariant)
    (step_at c.budget_of-budget.result _ c.args.self.now c.args.solver c.next.new.self c.in_ok-next.field-0 answers.Line c.budget_of-budget.ensures c.self.view_is
    c.in-Line.is c.in_ok-next.ensures.step)
    (λ clause is. ap (λ (l : LogLine). events.Log l) (line_of_kernel c.in_ok-line-in-Line.line c.kernel.result.now c.next.new.self.kernel clause c.kernel.ensures.kernel c.in_ok-line-in-Line.ensures is))
    c.stand.ensures c.requires.2

pub returns-in-Found-clause-fault : goal.returns-in-Found-clause-fault
returns-in-Found-clause-fault c = c.found.ensures.fault c.args.solver
    (step_at c.budget_of-budget.result _ c.args.self.now c.args.solver c.next.new.self c.in_ok-next.field-0 answers.Found c.budget_of-budget.ensures c.self.view_is
    c.in-Found.is c.in_ok-next.ensures.step)

pub returns-in_ok-line-in-Refuted-clause-gives : goal.returns-in_ok-line-in-Refuted-clause-gives
returns-in_ok-line-in-Refuted-clause-gives c =
    empty_gives c.search_laws.ensures (Ok (events.Log c.in_ok-line-in-Refuted.line)) c.args.self.now c.stand-in-Refuted.new.self c.args.solver c.next.new.self c.args.part c.args.listed
    (askable_of _ c.args.self.now c.self.view_is c.self.invariant) (c.is_refuted.ensures.none c.if-is_refuted.false)
    (step_at c.budget_of-budget.result _ c.args.self.now c.args.solver c.next.new.self c.in_ok-next.field-0 answers.Refuted c.budget_of-budget.ensures c.self.view_is
    c.in-Refuted.is c.in_ok-next.ensures.step)
    (λ clause is. ap (λ (l : LogLine). events.Log l) (line_of_kernel c.in_ok-line-in-Refuted.line c.kernel-in-Refuted.result.now c.next.new.self.kernel clause c.kernel-in-Refuted.ensures.kernel c.in_ok-line-in-Refuted.ensures is))
    c.stand-in-Refuted.ensures c.requires.2

pub returns-in-Spent-clause-gives : goal.returns-in-Spent-clause-gives
returns-in-Spent-clause-gives c =
    search_spent c.search_laws.ensures c.args.self.now c.close-in-Spent.new.self c.close-in-Spent.result c.args.solver c.next.new.self c.args.part c.args.listed
    (askable_of _ c.args.self.now c.self.view_is c.self.invariant)
    (step_at c.budget_of-budget.result _ c.args.self.now c.args.solver c.next.new.self c.in_ok-next.field-0 answers.Spent c.budget_of-budget.ensures c.self.view_is
    c.in-Spent.is c.in_ok-next.ensures.step)
    c.close-in-Spent.ensures.closed c.close-in-Spent.ensures.event

pub found-requires-clause-found : goal.found-requires-clause-found
found-requires-clause-found c = (found_ready c.args.self.now.ask c.args.solver c.next.new.self c.args.listed
    (step_at c.budget_of-budget.result _ c.args.self.now c.args.solver c.next.new.self c.in_ok-next.field-0 answers.Found c.budget_of-budget.ensures c.self.view_is
    c.in-Found.is c.in_ok-next.ensures.step)
    c.requires.2).0

pub returns-in-Found-clause-gives : goal.returns-in-Found-clause-gives
returns-in-Found-clause-gives c = c.found.ensures.gives c.args.solver
    (step_at c.budget_of-budget.result _ c.args.self.now c.args.solver c.next.new.self c.in_ok-next.field-0 answers.Found c.budget_of-budget.ensures c.self.view_is
    c.in-Found.is c.in_ok-next.ensures.step)

pub next-requires-clause-budget : goal.next-requires-clause-budget
next-requires-clause-budget c =
    subst (λ (n : ℕ). derived_count c.args.solver.kernel.entries ≤ n) (sym (c.budget_of-budget.ensures ∙ ap (λ (s : SessionView). s.ask.budget) c.self.view_is)) c.requires.2.derived

pub next-requires-clause-few : goal.next-requires-clause-few
next-requires-clause-few c = few_entries c.args.self.now.ask c.args.solver c.args.listed (askable_of _ c.args.self.now c.self.view_is c.self.invariant).budget c.requires.2

pub found-requires-clause-low : goal.found-requires-clause-low
found-requires-clause-low c = c.requires.0

pub close-requires : goal.close-requires
close-requires c = c.requires.0

pub stand-requires : goal.stand-requires
stand-requires c =
    let askable = askable_of _ c.args.self.now c.self.view_is c.self.invariant in
    let ready = line_ready c.args.self.now.ask c.args.solver c.next.new.self c.args.listed askable.budget
    (step_at c.budget_of-budget.result _ c.args.self.now c.args.solver c.next.new.self c.in_ok-next.field-0 answers.Line c.budget_of-budget.ensures c.self.view_is
    c.in-Line.is c.in_ok-next.ensures.step)
    c.requires.2 in
    (c.requires.0, ready.0, ready.1)

pub derived_line-requires : goal.derived_line-requires
derived_line-requires c =
    let askable = askable_of _ c.args.self.now c.self.view_is c.self.invariant in
    subst (λ (k : KernelView). 0 < length k.entries) (sym c.kernel.ensures.kernel)
    (line_ready c.args.self.now.ask c.args.solver c.next.new.self c.args.listed askable.budget
    (step_at c.budget_of-budget.result _ c.args.self.now c.args.solver c.next.new.self c.in_ok-next.field-0 answers.Line c.budget_of-budget.ensures c.self.view_is
    c.in-Line.is c.in_ok-next.ensures.step)
    c.requires.2).2

pub derived_line-requires-in-Refuted : goal.derived_line-requires-in-Refuted
derived_line-requires-in-Refuted c =
    subst (λ (k : KernelView). 0 < length k.entries) (sym c.kernel-in-Refuted.ensures.kernel)
    (refuted_some c.args.self.now.ask.budget c.args.solver c.next.new.self
    (step_at c.budget_of-budget.result _ c.args.self.now c.args.solver c.next.new.self c.in_ok-next.field-0 answers.Refuted c.budget_of-budget.ensures c.self.view_is
    c.in-Refuted.is c.in_ok-next.ensures.step))

pub stand-requires-in-Refuted : goal.stand-requires-in-Refuted
stand-requires-in-Refuted c = c.requires.0

pub close-requires-in-Spent : goal.close-requires-in-Spent
close-requires-in-Spent c = c.requires.0

pub returns-then-is_refuted-clause-gives : goal.returns-then-is_refuted-clause-gives
returns-then-is_refuted-clause-gives c = search_refuted c.search_laws.ensures _ c.args.self.now c.close.new.self c.close.result c.args.solver c.args.part c.args.listed
    c.self.view_is c.self.invariant (c.is_refuted.ensures.some c.if-is_refuted.true) c.close.ensures.closed c.close.ensures.event
