-- How large a formula is: larger than what is resolved on the way through it.
use Rattle.std.proofs.Common.{ℕ, ◌+◌}
use Rattle.cc_defs.specs.Trees.{PlainTree}
use Rattle.cc_defs.specs.Trees as trees

abbrev pub tree_size : PlainTree → ℕ
tree_size (trees.Bare term) = 1
tree_size (trees.Compared comparison s t) = 1
tree_size (trees.Paren f) = tree_size f + 1
tree_size (trees.Not f) = tree_size f + 2
tree_size (trees.Both f g) = tree_size f + tree_size g + 2
tree_size (trees.Either f g) = tree_size f + tree_size g + 2
tree_size (trees.Implies f g) = tree_size f + tree_size g + 2
tree_size (trees.Same f g) = tree_size f + tree_size g + 2
tree_size (trees.ForAll name f) = tree_size f + 3
tree_size (trees.Exists name f) = tree_size f + 3
