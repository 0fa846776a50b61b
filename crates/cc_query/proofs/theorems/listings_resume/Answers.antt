use Rattle.cc_query.proofs.Rows.{resumed}
use Rattle.cc_query.proofs.theorems.listings_resume.Goals as goal

pub returns : goal.returns
returns c = resumed
