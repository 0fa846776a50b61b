use Rattle.cc_sorts.proofs.Lefts.{left_of_table}
use Rattle.cc_sorts.proofs.left.Left.new.Goals as goal

pub returns : goal.returns
returns c = λ declarations is_table. left_of_table _ declarations is_table c.new.ensures.empty c.new-2.ensures.empty c.new-3.ensures.items c.new-4.ensures.empty c.new-5.ensures.empty c.new-6.ensures.empty c.new-7.ensures.empty
