use Rattle.cc_theory.proofs.Giving.{laws_give}
use Rattle.cc_theory.proofs.theorems.laws_give_rules.Goals as goal

pub returns : goal.returns
returns c = laws_give
