use Rattle.std.proofs.Common.{◌+◌}
use Rattle.cc_defs.specs.Trees.{plain_tree}
use Rattle.cc_laws.proofs.TreeSizes.{tree_size}
use Rattle.cc_laws.proofs.variables.+brackets.Given as goal

abbrev pub decreases-add_inside : goal.decreases-add_inside
decreases-add_inside l = tree_size (plain_tree l.inner.now) + 1

abbrev pub decreases-add_free : goal.decreases-add_free
decreases-add_free l = tree_size (plain_tree l.formula.now)
