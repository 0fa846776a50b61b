use Rattle.cc_cdcl.proofs.News.{earned_is_new}
use Rattle.cc_cdcl.proofs.theorems.earned_clauses_are_new.Goals as goal

pub returns : goal.returns
returns c = earned_is_new
