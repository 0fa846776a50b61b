use Rattle.std.proofs.Common.{◌-◌, length}
use Rattle.cc_sorts.specs.Searches.{IsSearched, AreClosed}
use Rattle.cc_sorts.proofs.Upward.{bound, is_within}
use Rattle.cc_sorts.proofs.left.Left.search_above.Given as goal

abbrev pub decreases-search : goal.decreases-search
decreases-search l = length (bound l.self l.lower) - l.done

abbrev pub invariant-search : goal.invariant-search
invariant-search l = (IsSearched l.self l.lower l.found.keys l.done) × is_within l.self l.lower l.found.keys × AreClosed l.self l.closed.keys l.found.keys
