use Rattle.cc_sure.specs.SureEvents.{HasMoreEvents}
use Rattle.cc_tests_runs.proofs.engines.is_told_right.Given as goal

abbrev pub invariant-loop-wanted : goal.invariant-loop-wanted
invariant-loop-wanted l = HasMoreEvents l.sure
