use Rattle.std.proofs.Common.{◌≡◌, ◌++◌, None, drop, flat_map, string_bytes, unwrap_or}
use Rattle.std.specs.List.{last_or}
use Rattle.cc_print.specs.Summaries.{empty_horizons, ending_lines, endings_told}
use Rattle.cc_print.proofs.summaries.push_endings.Given as goal

-- what is there, with what is left to write, is the whole
abbrev pub invariant-loop-one : goal.invariant-loop-one
invariant-loop-one l =
    record {
      number : l.tried ≡ unwrap_or (last_or None (empty_horizons l.told)) 0;
      whole : string_bytes l.text ++ flat_map (ending_lines l.tried) (endings_told (drop l.one-index l.told))
          ≡ string_bytes l.fn.text ++ flat_map (ending_lines l.tried) (endings_told l.told);
    }
