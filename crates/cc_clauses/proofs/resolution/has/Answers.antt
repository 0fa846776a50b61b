use Rattle.cc_clauses.proofs.Searches.{found}
use Rattle.cc_clauses.proofs.resolution.has.Goals as goal

pub returns : goal.returns
returns c =
    rw c.is_ok.ensures.value
    (found c.args.clause.now c.args.literal c.binary_search.result c.requires c.binary_search.ensures.bound c.binary_search.ensures.position)
