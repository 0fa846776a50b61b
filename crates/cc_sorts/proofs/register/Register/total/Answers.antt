use Rattle.std.proofs.Common.{arith, ◌∙◌}
use Rattle.cc_sorts.proofs.Listed.{total_more}
use Rattle.cc_sorts.specs.Shown.{shown}
use Rattle.cc_sorts.proofs.register.Register.total.Goals as goal

pub overflow_add-total : goal.overflow_add-total
overflow_add-total c = omega (arith, c.loop-number.invariant, c.count.ensures 0)

pub loop-number-preserved : goal.loop-number-preserved
loop-number-preserved c =
    c.min-total.ensures ∙ total_more (shown c.args.self.now).sorts c.args.actions c.args.self.now.symbols c.loop-number.number c.placed_at.result.now c.loop-number.total c.count.result c.placed_at.ensures
    c.loop-number.invariant (c.count.ensures c.loop-number.number)
