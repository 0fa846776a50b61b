use Rattle.std.proofs.Common.{arith}
use Rattle.std.proofs.lemmas.Grind.{common_steps}
use Rattle.cc_print.proofs.Joins.{join_with_byte-cons}
use Rattle.cc_print.proofs.histories.push_arguments.Goals as goal

pub returns-in_ok-push-in-len1-up : goal.returns-in_ok-push-in-len1-up
returns-in_ok-push-in-len1-up c = grind (arith, common_steps, join_with_byte-cons)
