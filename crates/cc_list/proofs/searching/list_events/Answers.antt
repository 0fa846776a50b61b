use Rattle.std.proofs.Common.{Ok, ap, ◌∙◌}
use Rattle.std.specs.Prelude.{is_some}
use Rattle.cc_list.proofs.Listed.{listing_begins, listing_next, listing_ends, listing_stops}
use Rattle.cc_list.proofs.searching.list_events.Goals as goal

pub loop-session-init : goal.loop-session-init
loop-session-init g c = listing_begins c.args.described.now c.args.teller c.args.session _ c.requires.keeps c.requires.more c.requires.of

pub loop-session-preserved : goal.loop-session-preserved
loop-session-preserved g c =
    let next = (rw c.in_ok-status.was at c.list_event.ensures.next) (ap is_some c.in-None.is) in
    listing_next c.args.described.now c.args.teller c.args.session c.loop-session.teller c.list_event.new.teller c.loop-session.session c.list_event.new.session _ _ _
    c.list_event.result c.loop-session.invariant c.list_event.ensures.goes (c.in_ok-status.was ∙ ap Ok c.in-None.is) c.list_event.ensures.manner next.0 next.1

pub returns-in_err-status : goal.returns-in_err-status
returns-in_err-status g c = λ d q is is_of after.
    listing_stops c.args.described.now c.args.teller c.args.session c.loop-session.teller c.list_event.new.teller c.loop-session.session c.list_event.new.session _ _ _
    c.list_event.result c.loop-session.invariant c.list_event.ensures.goes d q is is_of after c.in_err-status.field-0.0 c.from_residual.result c.in_err-status.was c.from_residual.ensures.1

pub returns-in-Some : goal.returns-in-Some
returns-in-Some g c = λ d q is is_of after.
    listing_ends c.args.described.now c.args.teller c.args.session c.loop-session.teller c.list_event.new.teller c.loop-session.session c.list_event.new.session _ _ _
    c.list_event.result c.loop-session.invariant c.list_event.ensures.goes d q is is_of after c.in-Some.status (c.in_ok-status.was ∙ ap Ok c.in-Some.is)
