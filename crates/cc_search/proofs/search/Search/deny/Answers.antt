use Rattle.std.proofs.Common.{◌∙◌, ℕ, List, Ok, ap, sym}
use Rattle.cc_defs.specs.declared.log.LogLine.TheVariants as lines
use Rattle.cc_query.proofs.Joining.{block_ready, blocked_is, found_one}
use Rattle.cc_query.proofs.Within.{few_entries}
use Rattle.cc_search.specs.Searches.{SearchView}
use Rattle.cc_search.proofs.Finding.{asked_ends, block_gives, budget_low}
use Rattle.cc_search.specs.declared.stage.Find.TheVariants as finds
use Rattle.cc_search.proofs.search.Search.deny.Goals as goal

pub returns-then-is_asked-clause-gives : goal.returns-then-is_asked-clause-gives
returns-then-is_asked-clause-gives c =
    asked_ends c.search_laws.ensures c.args.self.now c.args.solver c.args.listed (budget_low _ c.args.self.now c.self.view_is c.self.invariant) c.requires.over
    (ap (λ (v : SearchView). v.ask.count) (sym c.self.view_is) ∙ c.is_asked.ensures.is c.if-is_asked.true)

pub returns-clause-gives : goal.returns-clause-gives
returns-clause-gives c =
    block_gives c.search_laws.ensures (Ok (finds.Line (lines.Block c.of.result))) c.args.self.now c.stand.new.self c.args.solver c.args.listed
    (budget_low _ c.args.self.now c.self.view_is c.self.invariant)
    (λ is. c.is_asked.ensures.other c.if-is_asked.false (ap (λ (v : SearchView). v.ask.count) c.self.view_is ∙ is))
    (λ row there.
    ap (λ (items : List ℕ). finds.Line (lines.Block items)) (c.of.ensures ∙ c.in_ok-row.ensures.items ∙ found_one c.args.solver c.row.result.now row c.row.ensures there))
    (c.block_row.new.self, blocked_is c.args.solver c.block_row.new.self c.requires.ready.0 c.in_ok-block_row.ensures.blocked, c.stand.ensures)
    c.requires.ready.0 c.requires.ready.1

pub stand-requires : goal.stand-requires
stand-requires c = block_ready c.args.self.now.ask c.args.solver c.block_row.new.self c.args.listed c.requires.ready.0 c.requires.ready.1 c.in_ok-block_row.ensures.blocked

pub block_row-requires-clause-few : goal.block_row-requires-clause-few
block_row-requires-clause-few c = few_entries c.args.self.now.ask c.args.solver c.requires.ready.1.0 (budget_low _ c.args.self.now c.self.view_is c.self.invariant) c.requires.ready.1.3

pub block_row-requires-clause-found : goal.block_row-requires-clause-found
block_row-requires-clause-found c = (c.requires.ready.0.0, c.requires.ready.0.1)
