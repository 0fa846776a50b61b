use Rattle.std.proofs.Common.{◌∙◌, List, ℕ, sym, ap}
use Rattle.cc_cdcl.specs.Solvers.{Found}
use Rattle.cc_search.proofs.Finding.{budget_low, row_fault, row_gives}
use Rattle.cc_search.proofs.search.Search.found.Goals as goal

pub returns-clause-gives : goal.returns-clause-gives
returns-clause-gives c = λ before step.
    row_gives c.search_laws.ensures c.tell.result c.args.self.now c.tell.new.self before c.args.solver c.args.listed c.in_ok-row.row.items
    (budget_low _ c.args.self.now c.self.view_is c.self.invariant) step (c.row.ensures ∙ ap (λ (r : List ℕ). Found r) (sym c.in_ok-row.ensures.items))
    c.tell.ensures.find c.tell.ensures.stands c.tell.ensures.few

pub returns-clause-fault : goal.returns-clause-fault
returns-clause-fault c = λ before step.
    row_fault c.search_laws.ensures c.tell.result c.args.self.now before c.args.solver c.args.listed c.in_ok-row.row.items
    (budget_low _ c.args.self.now c.self.view_is c.self.invariant) step (c.row.ensures ∙ ap (λ (r : List ℕ). Found r) (sym c.in_ok-row.ensures.items))
    c.tell.ensures.fault c.tell.ensures.many

pub tell-requires-clause-found : goal.tell-requires-clause-found
tell-requires-clause-found c = c.requires.found

pub tell-requires-clause-within : goal.tell-requires-clause-within
tell-requires-clause-within c = c.requires.within

pub tell-requires-clause-over : goal.tell-requires-clause-over
tell-requires-clause-over c = c.requires.over

pub returns-clause-over : goal.returns-clause-over
returns-clause-over c = c.tell.ensures.over
