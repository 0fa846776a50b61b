use Rattle.std.proofs.Common.{◌∙◌, ◌≤◌, ℕ, List, sym, subst, ap}
use Rattle.std.specs.Prelude.{IfOk, IfErr}
use Rattle.cc_cdcl.specs.Solvers.{Found}
use Rattle.cc_defs.specs.declared.log.EndWord.TheVariants as words
use Rattle.cc_lists.specs.Horizons.{last_at}
use Rattle.cc_query.specs.declared.phase.Part.{Part}
use Rattle.cc_query.specs.declared.phase.Phase.TheVariants as phases
use Rattle.cc_query.specs.Events.{Gives}
use Rattle.cc_query.specs.Sessions.{SessionView, IsRightFault}
use Rattle.cc_query.proofs.Joining.{askable_of, history_fault, history_gives, path_gives}
use Rattle.cc_query.proofs.session.Session.found.Goals as goal

pub returns-then-is_listing-clause-gives : goal.returns-then-is_listing-clause-gives
returns-then-is_listing-clause-gives c = λ before step.
    subst (λ (p : Part). IfOk c.history.result (Gives (record c.args.self.now { phase = phases.Searching p before c.args.listed }) c.history.new.self))
    (sym (c.is_listing.ensures.is c.if-is_listing.true))
    (history_gives c.search_laws.ensures c.history.result c.args.self.now c.history.new.self before c.args.solver c.args.listed c.in_ok-row.row.items
    (askable_of _ c.args.self.now c.self.view_is c.self.invariant) step (c.row.ensures ∙ ap (λ (r : List ℕ). Found r) (sym c.in_ok-row.ensures.items))
    c.history.ensures.event c.history.ensures.stands c.history.ensures.few)

pub returns-then-is_listing-clause-fault : goal.returns-then-is_listing-clause-fault
returns-then-is_listing-clause-fault c = λ before step.
    subst (λ (p : Part). IfErr c.history.result (IsRightFault (record c.args.self.now { phase = phases.Searching p before c.args.listed })))
    (sym (c.is_listing.ensures.is c.if-is_listing.true))
    (history_fault c.search_laws.ensures c.history.result c.args.self.now before c.args.solver c.args.listed c.in_ok-row.row.items
    (askable_of _ c.args.self.now c.self.view_is c.self.invariant) step (c.row.ensures ∙ ap (λ (r : List ℕ). Found r) (sym c.in_ok-row.ensures.items))
    c.history.ensures.fault c.history.ensures.many)

pub returns-clause-gives : goal.returns-clause-gives
returns-clause-gives c = λ before step.
    path_gives c.search_laws.ensures c.args.self.now c.close.new.self c.close.result before c.args.solver c.args.part c.args.listed c.in_ok-row.row.items
    (askable_of _ c.args.self.now c.self.view_is c.self.invariant) (c.is_listing.ensures.other c.if-is_listing.false) step
    (c.row.ensures ∙ ap (λ (r : List ℕ). Found r) (sym c.in_ok-row.ensures.items))
    c.close.ensures.event
    (c.close.ensures.closed
    ∙ ap (λ (v : SessionView). let s : SessionView = record v { row = c.in_ok-row.row.items; phase = phases.Closed c.args.part words.Found c.args.listed } in s) c.self.view_is)

pub history-requires-clause-low : goal.history-requires-clause-low
history-requires-clause-low c = c.requires.low

pub history-requires-clause-found : goal.history-requires-clause-found
history-requires-clause-found c = c.requires.found

pub history-requires-clause-within : goal.history-requires-clause-within
history-requires-clause-within c = c.requires.within

pub close-requires : goal.close-requires
close-requires c = subst (λ (v : SessionView). v.horizon ≤ last_at v.query v.ask.after) (sym c.self.view_is) c.requires.low
