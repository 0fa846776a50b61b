use Rattle.std.proofs.Common.{◌+◌}
use Rattle.cc_defs.specs.Trees.{plain_tree}
use Rattle.cc_laws.proofs.TreeSizes.{tree_size}
use Rattle.cc_laws.proofs.resolving.+resolve.Given as goal

abbrev pub decreases-resolve : goal.decreases-resolve
decreases-resolve l = tree_size (plain_tree l.formula.now)

abbrev pub decreases-resolve_not : goal.decreases-resolve_not
decreases-resolve_not l = tree_size (plain_tree l.inner.now) + 1

abbrev pub decreases-resolve_two : goal.decreases-resolve_two
decreases-resolve_two l = tree_size (plain_tree l.first.now) + tree_size (plain_tree l.second.now) + 1

abbrev pub decreases-resolve_inside : goal.decreases-resolve_inside
decreases-resolve_inside l = tree_size (plain_tree l.inner.now) + 1

abbrev pub decreases-resolve_bracket : goal.decreases-resolve_bracket
decreases-resolve_bracket l = tree_size (plain_tree l.inner.now) + 2
