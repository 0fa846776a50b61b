use Rattle.cc_forever.proofs.Proving.{prove_never}
use Rattle.cc_forever.proofs.theorems.fair_runs_prove_never.Goals as goal

pub returns : goal.returns
returns c = prove_never c.induction_holds.ensures c.laws_give_rules.ensures
