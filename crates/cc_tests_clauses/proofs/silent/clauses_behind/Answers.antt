use Rattle.cc_arena.specs.GroundViews.{plain_ground_query}
use Rattle.cc_tests_clauses.proofs.Behind.{key_at, laws_of, stands}
use Rattle.cc_tests_clauses.proofs.Nothing.{laws_for, query_at}
use Rattle.cc_tests_clauses.proofs.silent.clauses_behind.Goals as goal

pub clauses_after-requires-clause-for_laws : goal.clauses_after-requires-clause-for_laws
clauses_after-requires-clause-for_laws c =
    laws_for c.in_ok-sig.sig c.no_laws-laws.result c.in_ok-sig.ensures c.no_laws-laws.ensures

pub clauses_after-requires-clause-of_laws : goal.clauses_after-requires-clause-of_laws
clauses_after-requires-clause-of_laws c =
    laws_of c.in_ok-sig.sig c.no_laws-laws.result c.in_ok-sig.ensures c.no_laws-laws.ensures

pub clauses_after-requires-clause-query : goal.clauses_after-requires-clause-query
clauses_after-requires-clause-query c =
    query_at c.in_ok-sig.sig (plain_ground_query c.no_query-query.result) c.no_query-query.ensures.conditions c.no_query-query.ensures.claim

pub clauses_after-requires-clause-stands : goal.clauses_after-requires-clause-stands
clauses_after-requires-clause-stands c =
    stands (plain_ground_query c.no_query-query.result) c.no_query-query.ensures.horizons.0 c.no_query-query.ensures.horizons.1
    c.no_query-query.ensures.conditions c.no_query-query.ensures.claim

pub clauses_after-requires-clause-fits : goal.clauses_after-requires-clause-fits
clauses_after-requires-clause-fits c = key_at c.in_ok-sig.sig c.only_key-key.result c.in_ok-sig.ensures c.only_key-key.ensures
