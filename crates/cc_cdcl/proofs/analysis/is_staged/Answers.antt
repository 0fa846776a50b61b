use Rattle.cc_cdcl.proofs.Brought.{has_is}
use Rattle.cc_cdcl.proofs.analysis.is_staged.Goals as goal

pub returns : goal.returns
returns c staged staged_is = has_is c.args.kernel.now.staged staged c.args.lit c.stages.result staged_is c.stages.ensures
