use Rattle.std.proofs.Common.{arith}
use Rattle.cc_rivals.proofs.Counts.{counted_start}
use Rattle.cc_rivals.proofs.counting.rule_count.Goals as goal

pub loop-law-init : goal.loop-law-init
loop-law-init c = (
  omega arith,
  counted_start c.args.sig.now c.args.laws.now c.args.horizon c.all_initial_count-count.result c.all_initial_count-count.ensures,
)
