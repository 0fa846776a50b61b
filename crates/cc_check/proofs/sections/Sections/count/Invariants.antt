use Rattle.std.proofs.Common.{◌≤◌}
use Rattle.cc_check.specs.SectionTexts.{length_ahead}
use Rattle.cc_check.proofs.Places.{IsReadTo}
use Rattle.cc_check.proofs.sections.Sections.count.Given as goal

abbrev pub invariant-loop-count : goal.invariant-loop-count
invariant-loop-count l = IsReadTo l.fn.self l.rest l.count × (length_ahead l.fn.self ≤ 268435457)

abbrev pub decreases-loop-count : goal.decreases-loop-count
decreases-loop-count l = length_ahead l.rest
