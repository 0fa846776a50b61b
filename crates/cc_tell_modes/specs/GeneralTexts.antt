-- What is told of an event of a run over candidates.
use Rattle.std.specs.Prelude.{ℕ, List, [], ◌∷◌, ◌++◌, false, flat_map, Option, Some, None}
use Rattle.cc_defs.specs.declared.event.Event.TheVariants as said
use Rattle.cc_defs.specs.declared.event.Ending.TheVariants as endings
use Rattle.cc_defs.specs.declared.log.LogLine.{LogLine}
use Rattle.cc_defs.specs.declared.log.LogLine.TheVariants as lines
use Rattle.cc_defs.specs.Description.{Description}
use Rattle.cc_defs.specs.Events.{out_text}
use Rattle.cc_defs.specs.LogTexts.{line_text}
use Rattle.cc_defs.specs.Runs.{told, told_row}
use Rattle.cc_general.specs.declared.turn.GeneralTurn.{GeneralTurn}
use Rattle.cc_general.specs.declared.turn.GeneralTurn.TheVariants as events
use Rattle.cc_silent.specs.GeneralLogs.{rivals_heading}
use Rattle.cc_tell.specs.declared.status.Status.{Status}
use Rattle.cc_tell.specs.declared.status.Status.TheVariants as statuses
use Rattle.cc_tell.specs.Statuses.{status_of}
use Rattle.cc_tell.specs.Givens.{Given}

abbrev pub lines_text : List LogLine → List ℕ
lines_text lines = flat_map line_text lines

-- the heading of a search: that for a rival of a row, or that among the candidates of a horizon
abbrev pub heading_for : (horizon : ℕ) → Option (List ℕ) → List ℕ
heading_for horizon None = line_text (lines.Section false horizon)
heading_for horizon (Some row) = rivals_heading horizon row

-- what is given of an event
abbrev pub given_generally : Description → GeneralTurn → Given
given_generally d (events.NoHistory horizon) = record { out = out_text d (told (said.NoHistory horizon) ∷ []); err = []; log = [] }
given_generally d (events.History horizon number row lines) = record {
  out = out_text d (told_row (said.History horizon number) row ∷ []);
  err = [];
  log = heading_for horizon (Some row) ++ lines_text lines;
}
given_generally d (events.Ended ending) = record { out = out_text d (told (said.Ended ending) ∷ []); err = []; log = [] }
given_generally d (events.Spent horizon listed rivals_of lines) = record {
  out = out_text d (told (said.Ended (endings.Spent horizon listed)) ∷ []);
  err = [];
  log = heading_for horizon rivals_of ++ lines_text lines;
}

-- the status of a run whose last event this is; none where more is to come
abbrev pub general_status_behind : GeneralTurn → Option Status
general_status_behind (events.NoHistory horizon) = None
general_status_behind (events.History horizon number row lines) = None
general_status_behind (events.Ended ending) = Some (status_of ending)
general_status_behind (events.Spent horizon listed rivals_of lines) = Some statuses.Spent
