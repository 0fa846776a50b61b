use Rattle.cc_arena.specs.GroundViews.{plain_ground_query}
use Rattle.cc_tests_clauses.proofs.Nothing.{laws_for, query_there}
use Rattle.cc_tests_clauses.proofs.template.agree.Goals as goal

pub agree_at-requires-clause-laws : goal.agree_at-requires-clause-laws
agree_at-requires-clause-laws c = laws_for c.in_ok-sig.sig c.no_laws-laws.result c.in_ok-sig.ensures c.no_laws-laws.ensures

pub agree_at-requires-clause-query : goal.agree_at-requires-clause-query
agree_at-requires-clause-query c =
    query_there c.in_ok-sig.sig c.args.horizon (plain_ground_query c.no_query-query.result) c.no_query-query.ensures.conditions c.no_query-query.ensures.claim
