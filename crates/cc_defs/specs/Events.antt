-- The texts of events: what is printed for them, and the log that they make.
use Rattle.std.specs.Prelude.{ℕ, List, [], ◌∷◌, ◌++◌, flat_map, Option, Some, None, codes, decimal}
use Rattle.cc_defs.specs.declared.event.Ending.{Ending}
use Rattle.cc_defs.specs.declared.event.Ending.TheVariants as endings
use Rattle.cc_defs.specs.declared.event.Event.{Event}
use Rattle.cc_defs.specs.declared.event.Event.TheVariants as events
use Rattle.cc_defs.specs.declared.event.Told.{Told}
use Rattle.cc_defs.specs.declared.log.LogLine.{LogLine}
use Rattle.cc_defs.specs.Description.{Description}
use Rattle.cc_defs.specs.LogTexts.{log_text}
use Rattle.cc_defs.specs.Texts.{history_text, key_line}

-- ---- what is printed

-- a line that speaks of a horizon
abbrev pub of_horizon : ℕ → List ℕ → List ℕ
of_horizon horizon said = codes "horizon " ++ decimal horizon ++ codes ": " ++ said ++ 10 ∷ []

-- the line of an ending
abbrev pub ending_text : Ending → List ℕ
ending_text (endings.Complete horizon listed) = of_horizon horizon (codes "complete, " ++ decimal listed ++ codes " listed")
ending_text (endings.Asked horizon listed) = of_horizon horizon (codes "asked number reached, " ++ decimal listed ++ codes " listed")
ending_text (endings.Spent horizon listed) = of_horizon horizon (codes "budget spent, " ++ decimal listed ++ codes " listed")
ending_text endings.NoHistory = codes "no history" ++ 10 ∷ []
ending_text endings.ClaimHolds = codes "claim holds" ++ 10 ∷ []
ending_text endings.ClaimEmpty = codes "claim holds, no history meets the conditions" ++ 10 ∷ []
ending_text endings.ClaimFails = codes "claim fails" ++ 10 ∷ []

-- the line of an event; a line of the log is not printed
abbrev pub event_text : Event → List ℕ
event_text (events.Log line) = []
event_text (events.NoHistory horizon) = of_horizon horizon (codes "no history")
event_text (events.History horizon number) = of_horizon horizon (codes "history " ++ decimal number)
event_text (events.NoConditions horizon) = of_horizon horizon (codes "no history of the conditions")
event_text (events.Holds horizon) = of_horizon horizon (codes "claim holds")
event_text (events.Counterexample horizon) = of_horizon horizon (codes "counterexample")
event_text (events.Ended ending) = ending_text ending

-- a history and its key, behind the event's own line
abbrev pub row_text : Description → Event → List ℕ → List ℕ
row_text d (events.History horizon number) row = history_text d horizon row ++ key_line horizon row
row_text d (events.Counterexample horizon) row = history_text d horizon row ++ key_line horizon row
row_text d (events.Log line) row = []
row_text d (events.NoHistory horizon) row = []
row_text d (events.NoConditions horizon) row = []
row_text d (events.Holds horizon) row = []
row_text d (events.Ended ending) row = []

abbrev pub optional_row_text : Description → Event → Option (List ℕ) → List ℕ
optional_row_text d event None = []
optional_row_text d event (Some row) = row_text d event row

abbrev pub told_text : Description → Told → List ℕ
told_text d told = event_text told.event ++ optional_row_text d told.event told.row

-- what is printed for events
abbrev pub out_text : Description → List Told → List ℕ
out_text d told = flat_map (told_text d) told

-- ---- the log

abbrev pub line_told : Event → List LogLine
line_told (events.Log line) = line ∷ []
line_told (events.NoHistory horizon) = []
line_told (events.History horizon number) = []
line_told (events.NoConditions horizon) = []
line_told (events.Holds horizon) = []
line_told (events.Counterexample horizon) = []
line_told (events.Ended ending) = []

-- the log of events
abbrev pub log_of : List Told → List ℕ
log_of told = log_text (flat_map (λ one. line_told one.event) told)
