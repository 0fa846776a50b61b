-- What a run over candidates tells, in order: its events, and the lines of its log.
use Rattle.std.specs.Prelude.{ℕ, zero, suc, ◌+◌, false, List, [], ◌∷◌, ◌++◌, length, flat_map, map}
use Rattle.cc_defs.specs.declared.event.Ending.{Ending}
use Rattle.cc_defs.specs.declared.event.Ending.TheVariants as endings
use Rattle.cc_defs.specs.declared.event.Event.TheVariants as events
use Rattle.cc_defs.specs.declared.event.Told.{Told}
use Rattle.cc_defs.specs.declared.log.LogLine.TheVariants as lines
use Rattle.cc_defs.specs.LogTexts.{line_text}
use Rattle.cc_defs.specs.Resolved.{Query}
use Rattle.cc_defs.specs.Runs.{Section, optional, range_of, told, told_row}
use Rattle.cc_general.specs.GeneralRuns.{GeneralEnding, Complete, Asked, NoneAtAll, SpentAmong, SpentOver, GeneralRun, Shown, general_horizon, rows_shown}
use Rattle.cc_lists.specs.Sections.{section_lines}
use Rattle.cc_silent.specs.GeneralLogs.{general_header, rivals_heading}

-- ---- events, as those of a listing

abbrev pub none_told : (horizon : ℕ) → (count : ℕ) → List Told
none_told horizon zero = []
none_told horizon (suc more) = told (events.NoHistory horizon) ∷ none_told (horizon + 1) more

-- histories, numbered from this number on
abbrev pub shown_told : (horizon number : ℕ) → List (List ℕ) → List Told
shown_told horizon number [] = []
shown_told horizon number (row ∷ rows) = told_row (events.History horizon number) row ∷ shown_told horizon (number + 1) rows

abbrev pub ending_of : (horizon listed : ℕ) → GeneralEnding → Ending
ending_of horizon listed Complete = endings.Complete horizon listed
ending_of horizon listed Asked = endings.Asked horizon listed
ending_of horizon listed NoneAtAll = endings.NoHistory
ending_of horizon listed (SpentAmong section) = endings.Spent horizon listed
ending_of horizon listed (SpentOver row section) = endings.Spent horizon listed

abbrev pub general_told : Query → GeneralRun → List Told
general_told q run =
    none_told (range_of q).0 run.empty
    ++ shown_told (general_horizon q run) 1 (rows_shown run)
    ++ map (λ ending. told (events.Ended (ending_of (general_horizon q run) (length run.shown) ending))) (optional run.ending)

-- ---- the log: a header, and then for each history, and for a search that was spent, a heading and the lines of its section

abbrev pub rivals_text : (horizon : ℕ) → (row : List ℕ) → Section → List ℕ
rivals_text horizon row section = rivals_heading horizon row ++ flat_map line_text (section_lines section)

abbrev pub shown_text : (horizon : ℕ) → Shown → List ℕ
shown_text horizon shown = rivals_text horizon shown.row shown.section

abbrev pub spent_text : (horizon : ℕ) → GeneralEnding → List ℕ
spent_text horizon Complete = []
spent_text horizon Asked = []
spent_text horizon NoneAtAll = []
spent_text horizon (SpentAmong section) = line_text (lines.Section false horizon) ++ flat_map line_text (section_lines section)
spent_text horizon (SpentOver row section) = rivals_text horizon row section

abbrev pub general_log : Query → GeneralRun → List ℕ
general_log q run =
    general_header ++ flat_map (shown_text (general_horizon q run)) run.shown
    ++ flat_map (spent_text (general_horizon q run)) (optional run.ending)
