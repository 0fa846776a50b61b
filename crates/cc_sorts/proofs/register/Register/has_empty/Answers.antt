use Rattle.cc_sorts.proofs.Listed.{empty_by}
use Rattle.cc_sorts.specs.Shown.{shown}
use Rattle.cc_sorts.proofs.register.Register.has_empty.Goals as goal

pub returns-then-count-gt0 : goal.returns-then-count-gt0
returns-then-count-gt0 c = λ number.
    empty_by (shown c.args.self.now).sorts c.args.actions number c.count.result c.args.placed.now c.has_more_values.result c.has_more_values.ensures c.if-count-gt0.true (c.count.ensures number)
