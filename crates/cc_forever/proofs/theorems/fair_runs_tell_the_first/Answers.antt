use Rattle.cc_forever.proofs.Proving.{tell_the_first}
use Rattle.cc_forever.proofs.theorems.fair_runs_tell_the_first.Goals as goal

pub returns : goal.returns
returns c = tell_the_first
