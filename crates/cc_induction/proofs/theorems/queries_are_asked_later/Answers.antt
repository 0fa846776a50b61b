use Rattle.cc_induction.proofs.Later.{asked_later}
use Rattle.cc_induction.proofs.theorems.queries_are_asked_later.Goals as goal

pub returns : goal.returns
returns c = asked_later
