use Rattle.std.proofs.Common.{sym}
use Rattle.cc_ground.proofs.Listing.{value_behind, value_plain}
use Rattle.cc_ground.proofs.values.Values.at.Goals as goal

pub returns-then-not-self : goal.returns-then-not-self
returns-then-not-self c = value_plain c.self.inside.with_none c.self.inside.objects.now c.args.self.now c.args.index _ c.if-not-self.true c.requires (sym c.self.view_is)

pub returns-else-index-eq0 : goal.returns-else-index-eq0
returns-else-index-eq0 c = value_behind c.self.inside.with_none c.self.inside.objects.now c.args.self.now c.args.index _ c.if-not-self.false c.if-index-eq0.false c.requires (sym c.self.view_is)
