use Rattle.cc_check.proofs.Places.{IsReadTo}
use Rattle.cc_check.proofs.sections.Sections.section.Given as goal

abbrev pub invariant-loop : goal.invariant-loop
invariant-loop l = IsReadTo l.fn.self l.rest l.counter
