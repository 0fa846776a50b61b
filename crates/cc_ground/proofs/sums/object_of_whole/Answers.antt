use Rattle.std.proofs.Common.{arith}
use Rattle.cc_ground.proofs.Bare.{no_object}
use Rattle.cc_ground.proofs.sums.object_of_whole.Goals as goal

pub returns-in_default : goal.returns-in_default
returns-in_default c = no_object c.args.plus c.args.minus c.args.table.now.numbers (omega arith)
