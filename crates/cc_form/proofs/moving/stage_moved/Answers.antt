use Rattle.cc_form.proofs.Copying.{literal_over, staged_more}
use Rattle.std.proofs.Common.{◌∙◌}
use Rattle.cc_form.specs.Moving.{renamed}
use Rattle.cc_form.specs.Steps.{moved_variable}
use Rattle.cc_form.proofs.moving.stage_moved.Goals as goal

pub moved-requires : goal.moved-requires
moved-requires c =
    (c.requires.0, literal_over c.requires.0 c.args.clause.now c.loop-literal.literal-index c.literal-item.result c.requires.1 c.loop-literal-test.true c.literal-item.is, c.requires.2)

pub loop-literal-preserved : goal.loop-literal-preserved
loop-literal-preserved c = record {
  kept = c.in_ok-stage.ensures.kept ∙ c.loop-literal.invariant.kept;
  staged = staged_more (renamed (moved_variable c.args.by.now)) c.args.store.now.staged.items _ _ c.args.clause.now c.loop-literal.literal-index c.literal-item.result c.moved.result c.loop-literal-test.true c.literal-item.is c.moved.ensures
      c.in_ok-stage.ensures.staged c.loop-literal.invariant.staged;
}
