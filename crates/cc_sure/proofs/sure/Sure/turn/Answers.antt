use Rattle.cc_sure.proofs.HandingOut.{turned_of, turned_queue}
use Rattle.cc_sure.proofs.sure.Sure.turn.Goals as goal

pub invariant_of-self-2 : goal.invariant_of-self-2
invariant_of-self-2 c =
    turned_queue c.next.new.self c.in_ok-turn.turn c.horizon.result c.queue_of-queued.result c.queue_of-queued.ensures c.in_ok-turn.ensures.goes

pub returns-clause-takes : goal.returns-clause-takes
returns-clause-takes c =
    turned_of _ _ c.self.view_is c.requires.told c.next.new.self c.in_ok-turn.turn c.horizon.result c.queue_of-queued.result
    c.horizon.ensures c.queue_of-queued.ensures
    c.in_ok-turn.ensures.tells c.in_ok-turn.ensures.same c.in_ok-turn.ensures.goes c.in_ok-turn.ensures.less
