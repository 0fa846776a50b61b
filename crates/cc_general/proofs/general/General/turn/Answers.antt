use Rattle.std.proofs.Common.{refl}
use Rattle.cc_general.specs.GeneralEvents.{IsRightFaultBehind}
use Rattle.cc_general.proofs.HandingOut.{fault_of, some_event, turned_of, turned_queue}
use Rattle.cc_silent.proofs.Errors.{errs_with}
use Rattle.cc_general.proofs.general.General.turn.Goals as goal

pub returns-in_err-turn-clause-refused : goal.returns-in_err-turn-clause-refused
returns-in_err-turn-clause-refused c =
    errs_with (IsRightFaultBehind _) c.from_residual.result c.in_err-turn.field-0.0 c.from_residual.ensures.1
    (fault_of _ _ c.self.view_is c.requires.told c.in_err-turn.field-0.0 c.in_err-turn.ensures.refused)

pub unreachable-requires : goal.unreachable-requires
unreachable-requires c = some_event c.in_ok-turn.turn _ c.queue_of-row.ensures.queue (c.in-None.ensures.none refl)

pub invariant_of-self-2 : goal.invariant_of-self-2
invariant_of-self-2 c =
    turned_queue _ _ c.self.view_is c.next.new.self c.in_ok-turn.turn c.queue_of-row.result.0 c.queue_of-row.result.1 c.in-Some.event c.next-2.new.self
    c.queue_of-row.ensures.queue c.in-Some.ensures.some c.in_ok-turn.ensures.goes

pub returns-clause-hands : goal.returns-clause-hands
returns-clause-hands c =
    turned_of _ _ c.self.view_is c.requires.told c.next.new.self c.in_ok-turn.turn c.in_ok-turn.ensures.tells
    c.queue_of-row.result.0 c.queue_of-row.result.1 c.in-Some.event c.next-2.new.self
    c.queue_of-row.ensures.row c.queue_of-row.ensures.queue c.in-Some.ensures.some c.in_ok-turn.ensures.same c.in_ok-turn.ensures.less c.in_ok-turn.ensures.goes
