use Rattle.std.proofs.Common.{◌∙◌, sym}
use Rattle.cc_defs.specs.DeclarationFaults.{is_empty}
use Rattle.cc_sorts.proofs.Listed.{first_here, find_more}
use Rattle.cc_sorts.specs.Shown.{shown}
use Rattle.cc_sorts.proofs.register.Register.first_empty.Goals as goal

pub returns-then-has_empty : goal.returns-then-has_empty
returns-then-has_empty c =
    first_here is_empty (shown c.args.self.now).sorts c.args.actions c.args.self.now.symbols c.loop-number.number c.placed_at.result.now c.placed_at.ensures
    c.loop-number.invariant (sym (c.has_empty.ensures c.loop-number.number) ∙ c.if-has_empty.true)

pub loop-number-preserved : goal.loop-number-preserved
loop-number-preserved c =
    find_more is_empty (shown c.args.self.now).sorts c.args.actions c.args.self.now.symbols c.loop-number.number c.placed_at.result.now c.placed_at.ensures
    c.loop-number.invariant (sym (c.has_empty.ensures c.loop-number.number) ∙ c.if-has_empty.false)
