use Rattle.std.proofs.Common.{◌∙◌, ap}
use Rattle.cc_sorts.proofs.Listed.{rows_step}
use Rattle.cc_sorts.specs.Shown.{shown}
use Rattle.cc_sorts.specs.Instances.{rows_by}
use Rattle.cc_sorts.proofs.Walks.{taken_all}
use Rattle.cc_sorts.proofs.register.Register.rows.Goals as goal

pub loop-sort-preserved : goal.loop-sort-preserved
loop-sort-preserved c =
    rows_step (shown c.args.self.now).sorts c.args.sorts.now c.loop-sort.sort-index c.loop-sort.rows.items c.in_ok-rows.rows.items c.deref.result.now c.members.result.now
    c.loop-sort-test.true c.loop-sort.invariant c.deref.ensures.value c.members.ensures c.in_ok-rows.ensures

pub returns : goal.returns
returns c = c.loop-sort.invariant ∙ ap (rows_by (shown c.args.self.now).sorts) (taken_all c.args.sorts.now c.loop-sort.sort-index c.loop-sort-test.false)
