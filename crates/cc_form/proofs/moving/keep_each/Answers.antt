use Rattle.cc_form.specs.Steps.{moved_clauses, way_at}
use Rattle.cc_form.proofs.Copying.{each_given}
use Rattle.cc_form.proofs.moving.keep_each.Goals as goal

pub loop-steps-preserved : goal.loop-steps-preserved
loop-steps-preserved c =
    each_given c.args.store.now.kept c.loop-steps.store.kept c.keep_later.new.store.kept (λ steps. moved_clauses (way_at c.args.way.now steps) c.args.clauses.now) c.loop-steps.steps c.loop-steps.invariant
    c.in_ok-keep_later.ensures
