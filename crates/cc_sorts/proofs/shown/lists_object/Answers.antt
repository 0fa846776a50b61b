use Rattle.cc_sorts.proofs.Walks.{has_found, has_later, has_none}
use Rattle.cc_sorts.proofs.shown.lists_object.Goals as goal

pub loop-other-preserved : goal.loop-other-preserved
loop-other-preserved c = has_later c.args.object c.args.list.now c.loop-other.other-index c.loop-other.invariant c.loop-other-test.true c.if-other-object.false

pub returns-then-other-object : goal.returns-then-other-object
returns-then-other-object c = has_found c.args.object c.args.list.now c.loop-other.other-index c.loop-other.invariant c.loop-other-test.true c.if-other-object.true

pub returns : goal.returns
returns c = has_none c.args.object c.args.list.now c.loop-other.other-index c.loop-other.invariant c.loop-other-test.false
