use Rattle.cc_cdcl.proofs.Leasts.{choices_kept}
use Rattle.cc_cdcl.proofs.theorems.choices_are_kept.Goals as goal

pub returns : goal.returns
returns c = choices_kept
