use Rattle.cc_sorts.proofs.fault.any_in.Goals as goal

pub returns : goal.returns
returns c = λ file line left is_table. c.any_behind.ensures file line left (c.new-left.ensures left is_table)
