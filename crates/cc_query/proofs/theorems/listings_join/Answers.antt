use Rattle.cc_query.proofs.JoinedRuns.{joined}
use Rattle.cc_query.proofs.theorems.listings_join.Goals as goal

pub returns : goal.returns
returns c = joined c.listings_resume.ensures
