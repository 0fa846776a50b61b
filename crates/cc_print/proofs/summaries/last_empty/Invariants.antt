use Rattle.std.proofs.Common.{◌≡◌, None, drop}
use Rattle.std.specs.List.{last_or}
use Rattle.cc_print.specs.Summaries.{empty_horizons}
use Rattle.cc_print.proofs.summaries.last_empty.Given as goal

-- the last so far, or a later one
abbrev pub invariant-loop-one : goal.invariant-loop-one
invariant-loop-one l = last_or l.last (empty_horizons (drop l.one-index l.told)) ≡ last_or None (empty_horizons l.told)
