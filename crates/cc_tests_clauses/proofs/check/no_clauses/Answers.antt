use Rattle.cc_arena.specs.GroundViews.{plain_ground_query}
use Rattle.cc_tests_clauses.proofs.Nothing.{laws_for, query_at}
use Rattle.cc_tests_clauses.proofs.check.no_clauses.Goals as goal

pub clauses_at_start-requires-clause-laws : goal.clauses_at_start-requires-clause-laws
clauses_at_start-requires-clause-laws c =
    laws_for c.in_ok-sig.sig c.no_laws-laws.result c.in_ok-sig.ensures c.no_laws-laws.ensures

pub clauses_at_start-requires-clause-query : goal.clauses_at_start-requires-clause-query
clauses_at_start-requires-clause-query c =
    query_at c.in_ok-sig.sig (plain_ground_query c.no_query-query.result) c.no_query-query.ensures.conditions c.no_query-query.ensures.claim
