use Rattle.std.proofs.Common.{◌-◌}
use Rattle.cc_syntax.proofs.Lists.{IsListedFrom}
use Rattle.cc_syntax.proofs.items.listed.Given as goal

abbrev pub invariant-loop : goal.invariant-loop
invariant-loop g l = IsListedFrom g.X.Item.plain g.X.Item.item_at l.mark l.tokens l.at (l.end - l.counter) l.items.items l.next
