use Rattle.std.proofs.Common.{◌∙◌, ℕ, nat_lt, length, ap}
use Rattle.cc_sorts.specs.Instances.{values_by}
use Rattle.cc_sorts.proofs.Listed.{wide_by}
use Rattle.cc_sorts.specs.Shown.{shown}
use Rattle.cc_sorts.proofs.register.Register.has_wide.Goals as goal

pub returns-then-count-gt0 : goal.returns-then-count-gt0
returns-then-count-gt0 c = λ number.
    wide_by (shown c.args.self.now).sorts c.args.actions number c.count.result c.args.placed.now c.has_more_values.result
    (c.has_more_values.ensures ∙ ap (λ (n : ℕ). nat_lt n (length (values_by (shown c.args.self.now).sorts c.args.placed.now.symbol))) c.number-most.ensures) c.if-count-gt0.true (c.count.ensures number)
