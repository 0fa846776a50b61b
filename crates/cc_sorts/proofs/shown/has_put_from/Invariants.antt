use Rattle.std.proofs.Common.{◌≡◌, Some, drop}
use Rattle.std.specs.List.{list_any}
use Rattle.cc_sorts.specs.Lefts.{is_put_from}
use Rattle.cc_sorts.proofs.shown.has_put_from.Given as goal

abbrev pub invariant-loop-put : goal.invariant-loop-put
invariant-loop-put l = list_any (is_put_from l.low l.high (Some l.sort)) (drop l.put-index l.puts) ≡ list_any (is_put_from l.low l.high (Some l.sort)) l.puts
