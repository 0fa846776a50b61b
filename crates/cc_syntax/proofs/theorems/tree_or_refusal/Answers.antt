use Rattle.cc_syntax.proofs.Statements.{tree-or-refusal}
use Rattle.cc_syntax.proofs.theorems.tree_or_refusal.Goals as goal

pub returns : goal.returns
returns c = tree-or-refusal
