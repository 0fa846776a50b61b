use Rattle.std.proofs.Common.{◌∙◌, ◌*◌, ℕ, List, min, length, ap}
use Rattle.cc_sorts.proofs.Listed.{count_more}
use Rattle.cc_sorts.specs.Shown.{shown}
use Rattle.cc_sorts.proofs.register.Register.row_count.Goals as goal

pub loop-sort-preserved : goal.loop-sort-preserved
loop-sort-preserved c =
    c.product-count.ensures ∙ ap (λ (w : List ℕ). min (c.loop-sort.count * length w) 20001) c.members.ensures
    ∙ count_more (shown c.args.self.now).sorts c.args.sorts.now c.loop-sort.sort-index 0 c.loop-sort.count c.loop-sort-test.true c.loop-sort.invariant
