use Rattle.std.proofs.Common.{length, ap, sym, arith}
use Rattle.cc_syntax.proofs.Stacks.{popped-last}
use Rattle.cc_syntax.proofs.frames.pop_ending.Goals as goal

pub returns-in-len1-up : goal.returns-in-len1-up
returns-in-len1-up c =
    popped-last c.args.bound c.args.frames.now.items c.pop.new.self.items c.pop.result c.frame-item.result c.pop.ensures.items
    (c.pop.ensures.variant.1 (omega (arith, c.in-len1-up.len_at_least, ap length c.as_slice.ensures)))
    (rw c.as_slice.ensures at c.frame-item.is) (sym c.if-ends_before.ensures)
