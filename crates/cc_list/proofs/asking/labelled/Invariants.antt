use Rattle.std.proofs.Common.{◌≡◌, map, drop, find}
use Rattle.cc_defs.specs.Resolved.{plain_query}
use Rattle.cc_list.specs.Tasks.{has_label}
use Rattle.cc_list.proofs.asking.labelled.Given as goal

abbrev pub invariant-loop-query : goal.invariant-loop-query
invariant-loop-query l = find (has_label l.label) (map plain_query (drop l.query-index l.queries)) ≡ find (has_label l.label) (map plain_query l.queries)
