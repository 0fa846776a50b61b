-- A run over candidates, event by event: its events in order, those of its log among them, and which of them were told.
use Rattle.std.specs.Prelude.{◌≡◌, ◌≢◌, ◌⊎◌, ℕ, ◌+◌, ◌<◌, true, false, List, [], ◌∷◌, ◌++◌, length, map, Option, Some, None}
use Rattle.cc_defs.specs.declared.event.Ending.{Ending}
use Rattle.cc_defs.specs.declared.event.Ending.TheVariants as endings
use Rattle.cc_defs.specs.declared.event.Event.{Event}
use Rattle.cc_defs.specs.declared.event.Event.TheVariants as events
use Rattle.cc_defs.specs.declared.event.Told.{Told}
use Rattle.cc_defs.specs.declared.log.LogLine.{LogLine}
use Rattle.cc_defs.specs.declared.log.LogLine.TheVariants as lines
use Rattle.cc_defs.specs.declared.refusal.Fault.{Fault}
use Rattle.cc_defs.specs.declared.refusal.Fault.TheVariants as faults
use Rattle.cc_defs.specs.Resolved.{Query}
use Rattle.cc_defs.specs.Runs.{Section, logged, range_of, told, told_row}
use Rattle.cc_general.specs.declared.turn.GeneralTurn.{GeneralTurn}
use Rattle.cc_general.specs.declared.turn.GeneralTurn.TheVariants as turns
use Rattle.cc_general.specs.GeneralRuns.{GeneralEnding, Complete, Asked, NoneAtAll, SpentAmong, SpentOver, GeneralRun, ReachesGeneralLimit, Shown, general_horizon}
use Rattle.cc_general.specs.Generals.{GeneralView, IsGeneralOf, IsOver, IsSame, Stands, left_of}
use Rattle.cc_general.specs.Generals as turned
use Rattle.cc_general.specs.GeneralTold.{ending_of, none_told}
use Rattle.cc_lists.specs.Sections.{section_lines}
use Rattle.cc_wide.specs.WideLaws.{WideDescription}

-- ---- the events of a run

-- the heading of the rivals of a row, with the row, and the lines of the section behind it
abbrev pub rivals_events : (horizon : ℕ) → (row : List ℕ) → Section → List Told
rivals_events horizon row section = told_row (events.Log (lines.Section true horizon)) row ∷ map logged (section_lines section)

-- histories, numbered from this number on, each behind the section that shows that it has no rival
abbrev pub shown_events : (horizon number : ℕ) → List Shown → List Told
shown_events horizon number [] = []
shown_events horizon number (shown ∷ others) =
    rivals_events horizon shown.row shown.section
    ++ (told_row (events.History horizon number) shown.row ∷ shown_events horizon (number + 1) others)

abbrev pub spent_events : (horizon : ℕ) → GeneralEnding → List Told
spent_events horizon Complete = []
spent_events horizon Asked = []
spent_events horizon NoneAtAll = []
spent_events horizon (SpentAmong section) = logged (lines.Section false horizon) ∷ map logged (section_lines section)
spent_events horizon (SpentOver row section) = rivals_events horizon row section

abbrev pub ended_events : (horizon listed : ℕ) → Option GeneralEnding → List Told
ended_events horizon listed None = []
ended_events horizon listed (Some how) = spent_events horizon how ++ told (events.Ended (ending_of horizon listed how)) ∷ []

abbrev pub general_events : Query → GeneralRun → List Told
general_events q run =
    none_told (range_of q).0 run.empty
    ++ shown_events (general_horizon q run) 1 run.shown
    ++ ended_events (general_horizon q run) (length run.shown) run.ending

-- ---- what is held, and what of it was told

-- The turns of a run; the row of the last history or heading of rivals; and the events of the last turn that were not told yet.
pub record GeneralQueue : Type 0 where
  pub turns : GeneralView
  pub row : List ℕ
  pub queued : List Event

-- an event, with the row where it is a history or the heading of the rivals of a row
abbrev pub with_candidate : Event → List ℕ → Told
with_candidate (events.Log (lines.Section true horizon)) row = told_row (events.Log (lines.Section true horizon)) row
with_candidate (events.Log (lines.Section false horizon)) row = logged (lines.Section false horizon)
with_candidate (events.Log (lines.Derived clause chain)) row = logged (lines.Derived clause chain)
with_candidate (events.Log (lines.Block denied)) row = logged (lines.Block denied)
with_candidate (events.Log (lines.End word)) row = logged (lines.End word)
with_candidate (events.NoHistory horizon) row = told (events.NoHistory horizon)
with_candidate (events.History horizon number) row = told_row (events.History horizon number) row
with_candidate (events.NoConditions horizon) row = told (events.NoConditions horizon)
with_candidate (events.Holds horizon) row = told (events.Holds horizon)
with_candidate (events.Counterexample horizon) row = told (events.Counterexample horizon)
with_candidate (events.Ended ending) row = told (events.Ended ending)

abbrev pub told_with : List ℕ → List Event → List Told
told_with row given = map (λ event. with_candidate event row) given

-- These events were told: behind them and those that are queued, the turns stand at a run whose events they are.
abbrev pub After : WideDescription → Query → GeneralQueue → List Told → Type 0
After w q general given =
    (run : GeneralRun) × Stands w q general.turns run × (general_events q run ≡ given ++ told_with general.row general.queued)

-- neither was the ending told nor did a call fail: there is more to come
abbrev pub HasMoreEvents : GeneralQueue → Type 0
HasMoreEvents general = (general.queued ≢ []) ⊎ turned.HasMore general.turns

abbrev pub IsEnd : Event → Type 0
IsEnd event = (ending : Ending) × (event ≡ events.Ended ending)

-- A refusal is the limit which the run comes to whose events were told; or memory was wanting.
abbrev pub IsRightFaultBehind : GeneralQueue → Fault → Type 0
IsRightFaultBehind general faults.OutOfMemory = Unit {0}
IsRightFaultBehind general (faults.Refused refusal) = (w : WideDescription) (q : Query) (given : List Told) →
    IsGeneralOf general.turns w q → After w q general given →
    (run : GeneralRun) × (general_events q run ≡ given) × ReachesGeneralLimit w q general.turns.count run refusal

-- a turn less is to come, or an event less of the same turn
abbrev pub IsLess : GeneralQueue → GeneralQueue → Type 0
IsLess new old = (left_of new.turns < left_of old.turns) ⊎ ((new.turns ≡ old.turns) × (length new.queued < length old.queued))

-- ---- a turn

abbrev pub log_lines : List LogLine → List Event
log_lines given = map events.Log given

-- the events of a turn, and the row of its history or heading
abbrev pub turn_events : GeneralTurn → List Event
turn_events (turns.NoHistory horizon) = events.NoHistory horizon ∷ []
turn_events (turns.History horizon number row given) =
    events.Log (lines.Section true horizon) ∷ (log_lines given ++ events.History horizon number ∷ [])
turn_events (turns.Ended ending) = events.Ended ending ∷ []
turn_events (turns.Spent horizon listed None given) =
    events.Log (lines.Section false horizon) ∷ (log_lines given ++ events.Ended (endings.Spent horizon listed) ∷ [])
turn_events (turns.Spent horizon listed (Some row) given) =
    events.Log (lines.Section true horizon) ∷ (log_lines given ++ events.Ended (endings.Spent horizon listed) ∷ [])

abbrev pub turn_row : GeneralTurn → List ℕ
turn_row (turns.NoHistory horizon) = []
turn_row (turns.History horizon number row given) = row
turn_row (turns.Ended ending) = []
turn_row (turns.Spent horizon listed None given) = []
turn_row (turns.Spent horizon listed (Some row) given) = row

-- the last event ends the run
abbrev pub Finishes : List Event → Type 0
Finishes [] = Unit {0}
Finishes (event ∷ []) = IsEnd event
Finishes (event ∷ next ∷ others) = Finishes (next ∷ others)

-- where the turns are over, the ending is queued, or was told
abbrev pub IsQueue : GeneralQueue → Type 0
IsQueue general = IsOver general.turns → Finishes general.queued

-- ---- what a call gives

-- the event that comes next; it is about the same, and more is to come but behind the ending
pub record HandsOut (old new : GeneralQueue) (event : Event) : Type 0 where
  pub tells : (w : WideDescription) (q : Query) (given : List Told) → IsGeneralOf old.turns w q → After w q old given →
      After w q new (given ++ with_candidate event new.row ∷ [])
  pub same : IsSame old.turns new.turns
  pub more : (IsEnd event → ⊥) → HasMoreEvents new
  pub less : IsLess new old
