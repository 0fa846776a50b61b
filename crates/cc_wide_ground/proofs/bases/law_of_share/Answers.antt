use Rattle.std.proofs.Common.{◌∙◌}
use Rattle.cc_wide_ground.proofs.Shared.{law_made}
use Rattle.cc_wide_ground.proofs.bases.law_of_share.Goals as goal

pub returns : goal.returns
returns c =
    law_made c.args.share c.args.law.now c.of.result c.in_ok-head.head c.in_ok-body.body c.in_ok-after.after c.in_ok-test.test (c.of.ensures ∙ c.in_ok-ranges.ensures.items ∙ c.items.ensures)
    c.in_ok-head.ensures (c.in_ok-body.ensures ∙ c.body_of_share.ensures) c.in_ok-after.ensures c.in_ok-test.ensures
