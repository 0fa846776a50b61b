use Rattle.std.proofs.Common.{◌≡◌, Some, drop}
use Rattle.std.specs.List.{list_any}
use Rattle.cc_sorts.specs.Lefts.{is_put_as}
use Rattle.cc_sorts.proofs.shown.is_put_as.Given as goal

abbrev pub invariant-loop-put : goal.invariant-loop-put
invariant-loop-put l = list_any (is_put_as (Some l.object)) (drop l.put-index l.puts) ≡ list_any (is_put_as (Some l.object)) l.puts
