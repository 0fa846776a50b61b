use Rattle.cc_query.proofs.SameRuns.{runs_told}
use Rattle.cc_query.proofs.theorems.texts_tell_runs.Goals as goal

pub returns : goal.returns
returns c = runs_told
