use Rattle.std.proofs.Common.{◌+◌}
use Rattle.cc_defs.specs.Resolved.{plain_term}
use Rattle.cc_ground.proofs.Gathering.{term_size}
use Rattle.cc_ground.proofs.pieces.+gathering.Given as goal

abbrev pub decreases-gather : goal.decreases-gather
decreases-gather l = term_size (plain_term l.term.now)

abbrev pub decreases-gather_both : goal.decreases-gather_both
decreases-gather_both l = term_size (plain_term l.left.now) + term_size (plain_term l.right.now) + 1
