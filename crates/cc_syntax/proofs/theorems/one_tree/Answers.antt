use Rattle.cc_syntax.proofs.Parsing.{one-tree}
use Rattle.cc_syntax.proofs.theorems.one_tree.Goals as goal

pub returns : goal.returns
returns c = one-tree
