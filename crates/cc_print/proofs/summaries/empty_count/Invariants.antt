use Rattle.std.proofs.Common.{◌≡◌, ◌+◌, ◌≤◌, length, drop}
use Rattle.cc_print.specs.Summaries.{empty_horizons}
use Rattle.cc_print.proofs.summaries.empty_count.Given as goal

-- the count so far, with what is left to count, is the whole
abbrev pub invariant-loop-one : goal.invariant-loop-one
invariant-loop-one l =
    record {
      whole : l.count + length (empty_horizons (drop l.one-index l.told)) ≡ length (empty_horizons l.told);
      few : l.count ≤ l.one-index;
    }
