use Rattle.std.proofs.Common.{◌≡◌, ◌-◌, ◌*◌, ◌++◌, drop, string_bytes}
use Rattle.cc_defs.specs.Description.{sizes_at, stride}
use Rattle.cc_defs.specs.Rows.{IsRow}
use Rattle.cc_defs.specs.Texts.{history_text}
use Rattle.cc_print.specs.Histories.{described}
use Rattle.cc_print.proofs.histories.push_history.Given as goal

-- the text so far is that of the history so far, and the rest of the row is that of the steps that are left
abbrev pub invariant-loop-step : goal.invariant-loop-step
invariant-loop-step l =
    record {
      at : l.place ≡ l.step * stride (described l.table l.sig);
      written : string_bytes l.text ≡ string_bytes l.fn.text ++ history_text (described l.table l.sig) l.step l.row;
      rest : IsRow (sizes_at (described l.table l.sig) (l.horizon - l.step)) (drop l.place l.row);
    }
