use Rattle.cc_stage.proofs.Marked.{members}
use Rattle.cc_stage.proofs.marks.has.Goals as goal

pub returns : goal.returns
returns c = members c.args.marks.now c.args.literal c.is_marked.result c.is_marked.ensures
