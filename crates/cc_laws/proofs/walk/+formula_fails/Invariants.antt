use Rattle.cc_defs.specs.Trees.{plain_tree}
use Rattle.cc_laws.proofs.TreeSizes.{tree_size}
use Rattle.cc_laws.proofs.walk.+formula_fails.Given as goal

abbrev pub decreases-formula_fails : goal.decreases-formula_fails
decreases-formula_fails l = tree_size (plain_tree l.formula.now)
