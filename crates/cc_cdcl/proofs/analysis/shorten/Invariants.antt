use Rattle.cc_cdcl.specs.Derivations.{IsShortening}
use Rattle.cc_cdcl.specs.Searches.{KeepsEntries}
use Rattle.cc_cdcl.proofs.analysis.shorten.Given as goal

abbrev pub invariant-loop-next : goal.invariant-loop-next
invariant-loop-next l = record { derivation : IsShortening l.kernel l.trail l.place; kept : KeepsEntries l.initial.kernel l.kernel }

abbrev pub decreases-loop-next : goal.decreases-loop-next
decreases-loop-next l = l.place
