use Rattle.cc_search.proofs.Finding.{begun, search_at_first, searching_more}
use Rattle.cc_search.proofs.search.Search.of.Goals as goal

pub invariant_of-result : goal.invariant_of-result
invariant_of-result c =
    search_at_first c.args.count c.args.budget c.count-axioms.result c.new-row.result.items c.in_ok-solver.solver c.args.form c.requires.budget c.in_ok-solver.ensures.ready
    c.in_ok-solver.ensures.good c.in_ok-solver.ensures.sizes c.in_ok-solver.ensures.variables c.in_ok-solver.ensures.few c.in_ok-solver.ensures.entries
    c.in_ok-solver.ensures.count

pub returns-clause-stands : goal.returns-clause-stands
returns-clause-stands c =
    begun c.search_laws.ensures c.args.form c.args.count c.args.budget c.count-axioms.result c.new-row.result.items c.in_ok-solver.solver c.requires.count
    c.count-axioms.ensures.value c.in_ok-solver.ensures.sizes c.in_ok-solver.ensures.variables c.in_ok-solver.ensures.few c.in_ok-solver.ensures.entries

pub returns-clause-more : goal.returns-clause-more
returns-clause-more c = searching_more c.in_ok-solver.solver 0
