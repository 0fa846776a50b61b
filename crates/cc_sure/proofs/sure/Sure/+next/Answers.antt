use Rattle.std.proofs.Common.{refl}
use Rattle.cc_sure.proofs.HandingOut.{event_behind, refused_behind, taken}
use Rattle.cc_sure.proofs.sure.Sure.+next.Goals as goal

pub returns-in_ok-turn-in-None-clause-event : goal.returns-in_ok-turn-in-None-clause-event
returns-in_ok-turn-in-None-clause-event t c =
    event_behind _ _ (taken _ _ c.self.view_is c.next.new.self (c.in-None.ensures.none refl) (c.in-None.ensures.rest refl) _ c.in_ok-turn-in-None.ensures.takes)
    _ _ c.next-in-None.ensures.event

pub returns-in_ok-turn-in-None-clause-refused : goal.returns-in_ok-turn-in-None-clause-refused
returns-in_ok-turn-in-None-clause-refused t c =
    refused_behind _ _ (taken _ _ c.self.view_is c.next.new.self (c.in-None.ensures.none refl) (c.in-None.ensures.rest refl) _ c.in_ok-turn-in-None.ensures.takes)
    _ c.next-in-None.ensures.refused
