use Rattle.cc_query.specs.Lefts.{left_of}
use Rattle.cc_query.specs.Sessions.{HasMore}
use Rattle.cc_tests_runs.proofs.calls.tell_all.Given as goal

abbrev pub invariant-events : goal.invariant-events
invariant-events l = HasMore l.session

abbrev pub decreases-events : goal.decreases-events
decreases-events l = left_of l.session
