use Rattle.cc_sure.proofs.Giving.{passes_next}
use Rattle.cc_sure.proofs.turns.SureTurns.skip.Goals as goal

pub loop-self-preserved : goal.loop-self-preserved
loop-self-preserved c =
    let (less, some) = c.is_known.ensures.known c.loop-self-test.true in (
      passes_next c.args.self.now c.loop-self.self c.add_tried.new.self c.args.form.now c.args.size c.requires.size less some c.in_ok-add_tried.ensures.added c.loop-self.invariant.0,
      c.in_ok-add_tried.ensures.over,
    )
