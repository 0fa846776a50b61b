use Rattle.cc_stage.proofs.Marked.{covered_put}
use Rattle.std.proofs.Common.{is_ok}
use Rattle.cc_stage.proofs.marks.put.Goals as goal

pub returns-clause-covered : goal.returns-clause-covered
returns-clause-covered c =
    covered_put c.args.marks.now.items c.args.touched.now.items c.push.new.self.items c.args.literal c.number-place.result (is_ok c.push.result)
    c.number-place.ensures.number c.requires.covered (c.push.ensures.succeeds c.requires.room) c.push.ensures.items
