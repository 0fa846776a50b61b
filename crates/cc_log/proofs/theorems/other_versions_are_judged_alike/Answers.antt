use Rattle.cc_log.proofs.Converting.{other_versions_are_judged_alike}
use Rattle.cc_log.proofs.theorems.other_versions_are_judged_alike.Goals as goal

pub returns : goal.returns
returns c = other_versions_are_judged_alike
