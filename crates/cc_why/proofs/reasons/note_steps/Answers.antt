use Rattle.cc_why.proofs.Notes.{step_noted}
use Rattle.cc_why.proofs.reasons.note_steps.Goals as goal

pub loop-step-preserved : goal.loop-step-preserved
loop-step-preserved c = (
  c.note_step.ensures.long,
  λ meant means. step_noted c.args.row.now meant c.loop-step.step c.args.causes.now c.loop-step.causes c.note_step.new.causes (c.loop-step.invariant.1 meant means) (c.note_step.ensures.noted (meant c.loop-step.step) (means c.loop-step.step)),
)
