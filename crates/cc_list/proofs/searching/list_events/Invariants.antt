use Rattle.cc_query.specs.Lefts.{left_of}
use Rattle.cc_list.specs.Telling.{IsListing}
use Rattle.cc_list.proofs.searching.list_events.Given as goal

abbrev pub invariant-loop-session : goal.invariant-loop-session
invariant-loop-session g l =
    let desk = g.D.Desk in
    IsListing l.described l.initial.teller l.initial.session l.teller l.session
    (desk.seen l.initial.desk) (desk.seen l.desk)

abbrev pub decreases-loop-session : goal.decreases-loop-session
decreases-loop-session g l = left_of l.session
