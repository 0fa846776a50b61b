-- A run on certain and possible atoms, event by event: its events in order, those of its log among them, and which of them were told.
use Rattle.std.specs.Prelude.{◌≡◌, ◌≢◌, ◌⊎◌, ℕ, ◌+◌, ◌<◌, false, List, [], ◌∷◌, ◌++◌, flat_map, length, map, Option, Some, None}
use Rattle.cc_defs.specs.declared.log.LogLine.{LogLine}
use Rattle.cc_defs.specs.declared.log.LogLine.TheVariants as lines
use Rattle.cc_defs.specs.declared.refusal.Fault.{Fault}
use Rattle.cc_defs.specs.declared.refusal.Fault.TheVariants as faults
use Rattle.cc_defs.specs.Description.{Description}
use Rattle.cc_defs.specs.Resolved.{Query}
use Rattle.cc_defs.specs.Runs.{Section}
use Rattle.cc_lists.specs.Sections.{section_lines}
use Rattle.cc_sure.specs.declared.answer.Answer.{Answer}
use Rattle.cc_sure.specs.declared.event.SureEvent.{SureEvent}
use Rattle.cc_sure.specs.declared.event.SureEvent.TheVariants as events
use Rattle.cc_sure.specs.declared.turn.SureTurn.{SureTurn}
use Rattle.cc_sure.specs.declared.turn.SureTurn.TheVariants as turns
use Rattle.cc_silent.specs.Sought.{Sought, Any, With}
use Rattle.cc_sure.specs.SureRuns.{SureRun, Complete, NoneAtAll, Spent, ReachesSureLimit, sure_horizon}
use Rattle.cc_sure.specs.SureTold.{SureTold, NoneAt, ExampleIs, NeverSo, AnswersAre, Ends, sure_told}
use Rattle.cc_sure.specs.Sures.{IsOver, IsSame, IsSureOf, Stands, SureView, left_of}
use Rattle.cc_sure.specs.Sures as turned

-- ---- the events of a run

abbrev pub log_lines : List LogLine → List SureEvent
log_lines given = map events.Log given

-- the heading of a search for a history, or for one that has an atom
abbrev pub heading_event : (horizon : ℕ) → Sought → SureEvent
heading_event horizon Any = events.Log (lines.Section false horizon)
heading_event horizon (With position value) = events.Heading horizon position value

abbrev pub section_events : (horizon : ℕ) → Sought → Section → List SureEvent
section_events horizon sought section = heading_event horizon sought ∷ log_lines (section_lines section)

-- an answer for each value of a position, from this value on
abbrev pub answer_events : (position value : ℕ) → List Answer → List SureEvent
answer_events position value [] = []
answer_events position value (answer ∷ others) = events.Answer position value answer ∷ answer_events position (value + 1) others

-- the events of what is told at a horizon
abbrev pub told_events : (horizon : ℕ) → SureTold → List SureEvent
told_events horizon (NoneAt empty) = events.NoHistory empty ∷ []
told_events horizon (ExampleIs number row) = events.Example horizon number row ∷ []
told_events horizon (NeverSo position value section) = section_events horizon (With position value) section
told_events horizon (AnswersAre position answers) = answer_events position 0 answers
told_events horizon (Ends sought Complete) = events.Complete ∷ []
told_events horizon (Ends sought NoneAtAll) = events.NoneAtAll ∷ []
told_events horizon (Ends sought (Spent section)) = section_events horizon sought section ++ events.Spent horizon ∷ []

abbrev pub sure_events : Query → SureRun → List SureEvent
sure_events q run = flat_map (told_events (sure_horizon q run)) (sure_told q run)

-- ---- what is held, and what of it was told

-- The turns of a run, and the events of the last turn that were not told yet.
pub record SureQueue : Type 0 where
  pub turns : SureView
  pub queued : List SureEvent

-- These events were told: behind them and those that are queued, the turns stand at a run whose events they are.
abbrev pub After : Description → Query → SureQueue → List SureEvent → Type 0
After d q sure given = (run : SureRun) × Stands d q sure.turns run × (sure_events q run ≡ given ++ sure.queued)

-- neither was the ending told nor did a call fail: there is more to come
abbrev pub HasMoreEvents : SureQueue → Type 0
HasMoreEvents sure = (sure.queued ≢ []) ⊎ turned.HasMore sure.turns

-- an event behind which nothing is told
abbrev pub IsEnd : SureEvent → Type 0
IsEnd events.Complete = Unit {0}
IsEnd events.NoneAtAll = Unit {0}
IsEnd (events.Spent horizon) = Unit {0}
IsEnd event = ⊥

-- A refusal is the limit which the run comes to whose events were told; or memory was wanting.
abbrev pub IsRightFaultBehind : SureQueue → Fault → Type 0
IsRightFaultBehind sure faults.OutOfMemory = Unit {0}
IsRightFaultBehind sure (faults.Refused refusal) = (d : Description) (q : Query) (given : List SureEvent) →
    IsSureOf sure.turns d q → After d q sure given →
    (run : SureRun) × (sure_events q run ≡ given) × ReachesSureLimit d q sure.turns.budget run refusal

-- a turn less is to come, or an event less of the same turn
abbrev pub IsLess : SureQueue → SureQueue → Type 0
IsLess new old = (left_of new.turns < left_of old.turns) ⊎ ((new.turns ≡ old.turns) × (length new.queued < length old.queued))

-- ---- a turn

-- what the search of a spent turn looked for
abbrev pub sought_of : Option (ℕ × ℕ) → Sought
sought_of None = Any
sought_of (Some atom) = With atom.0 atom.1

-- the events of a turn, where the run is at this horizon
abbrev pub turn_events : (horizon : ℕ) → SureTurn → List SureEvent
turn_events horizon (turns.NoHistory empty) = events.NoHistory empty ∷ []
turn_events horizon (turns.Example number row) = events.Example horizon number row ∷ []
turn_events horizon (turns.Impossible position value given) = events.Heading horizon position value ∷ log_lines given
turn_events horizon (turns.Answers position answers) = answer_events position 0 answers
turn_events horizon turns.Complete = events.Complete ∷ []
turn_events horizon turns.NoneAtAll = events.NoneAtAll ∷ []
turn_events horizon (turns.Spent atom given) = heading_event horizon (sought_of atom) ∷ log_lines given ++ events.Spent horizon ∷ []

-- the last event ends the run
abbrev pub Finishes : List SureEvent → Type 0
Finishes [] = Unit {0}
Finishes (event ∷ []) = IsEnd event
Finishes (event ∷ next ∷ others) = Finishes (next ∷ others)

-- where the turns are over, the ending is queued, or was told
abbrev pub IsQueue : SureQueue → Type 0
IsQueue sure = IsOver sure.turns → Finishes sure.queued

-- ---- what a call gives

-- a turn more is queued: what was told is the same, and there is more to come
pub record TakesTurn (old new : SureQueue) : Type 0 where
  pub tells : (d : Description) (q : Query) (given : List SureEvent) → IsSureOf old.turns d q → After d q old given → After d q new given
  pub same : IsSame old.turns new.turns
  pub more : HasMoreEvents new
  pub less : left_of new.turns < left_of old.turns
