use Rattle.std.proofs.Common.{◌∙◌, sym, nat_lt, length}
use Rattle.cc_defs.specs.declared.signature.Const.{Const}
use Rattle.cc_sorts.proofs.Listed.{any_here, none_more}
use Rattle.cc_sorts.specs.Shown.{shown}
use Rattle.cc_sorts.proofs.register.Register.any_wide.Goals as goal

pub returns-then-has_wide : goal.returns-then-has_wide
returns-then-has_wide c =
    any_here (λ (d : Const). nat_lt 1000 (length d.domain)) (shown c.args.self.now).sorts c.args.actions c.args.self.now.symbols c.loop-number.number c.placed_at.result.now c.placed_at.ensures
    (sym (c.has_wide.ensures c.loop-number.number) ∙ c.if-has_wide.true)

pub loop-number-preserved : goal.loop-number-preserved
loop-number-preserved c =
    none_more (λ (d : Const). nat_lt 1000 (length d.domain)) (shown c.args.self.now).sorts c.args.actions c.args.self.now.symbols c.loop-number.number c.placed_at.result.now c.placed_at.ensures
    c.loop-number.invariant (sym (c.has_wide.ensures c.loop-number.number) ∙ c.if-has_wide.false)
