use Rattle.cc_laws.proofs.Valued.{shape_framed}
use Rattle.cc_laws.proofs.expansion.shape_frame.Goals as goal

pub returns : goal.returns
returns c = shape_framed c.args.file c.args.line c.args.sorts.now c.new.result.items c.in_ok-ranges.ranges c.new.ensures.items c.in_ok-ranges.ensures
