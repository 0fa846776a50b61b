use Rattle.cc_syntax.proofs.Stacks.{fewer-left, closed-on, closed-out}
use Rattle.cc_syntax.proofs.frames.close.Goals as goal

pub loop-frame-smaller : goal.loop-frame-smaller
loop-frame-smaller c = fewer-left c.loop-frame.frames.items c.pop_ending.new.frames.items _ c.in-Some.ensures.0

pub loop-frame-preserved : goal.loop-frame-preserved
loop-frame-preserved c = closed-on c.args.bound _ _ _ _ _ c.loop-frame.invariant c.in-Some.ensures.0 c.in-Some.ensures.1 c.in_ok-whole.ensures

pub returns : goal.returns
returns c = closed-out c.args.bound _ _ _ c.loop-frame.invariant c.in_default.ensures.0 c.in_default.ensures.1
