use Rattle.cc_why.proofs.Found.{rules_of_sourced}
use Rattle.cc_why.proofs.theorems.sourced_are_rules.Goals as goal

pub returns : goal.returns
returns c = rules_of_sourced
