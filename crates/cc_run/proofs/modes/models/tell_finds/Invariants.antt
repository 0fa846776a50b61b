use Rattle.cc_run.proofs.ModelFinds.{IsListing}
use Rattle.cc_run.proofs.modes.models.tell_finds.Given as goal
use Rattle.cc_search.specs.Searches.{left_of}

abbrev pub invariant-loop-search : goal.invariant-loop-search
invariant-loop-search g l =
    let desk = g.D.Desk in
    IsListing l.initial.lister l.lister l.initial.search l.search
    (desk.seen l.initial.desk) (desk.seen l.desk)

abbrev pub decreases-loop-search : goal.decreases-loop-search
decreases-loop-search g l = left_of l.search
