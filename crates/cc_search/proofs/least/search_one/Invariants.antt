use Rattle.cc_search.specs.Searches.{left_of}
use Rattle.cc_search.proofs.Searching.{IsSearching}
use Rattle.cc_search.proofs.least.search_one.Given as goal

abbrev pub invariant-loop-lines : goal.invariant-loop-lines
invariant-loop-lines l = IsSearching l.fn.form l.budget l.search l.lines.items

abbrev pub decreases-loop-lines : goal.decreases-loop-lines
decreases-loop-lines l = left_of l.search
