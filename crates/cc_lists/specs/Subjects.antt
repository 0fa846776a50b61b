-- What a log of a query is to be, and what the events that a search tells are: the lines of its log, with short numbers, and the rows of its histories.
use Rattle.std.specs.Prelude.{◌≡◌, ℕ, ◌≤◌, Bool, List, flat_map, sum, Option, Some, None, is_some, Contains}
use Rattle.std.specs.List.{AllByRecursion}
use Rattle.cc_defs.specs.declared.event.Event.{Event}
use Rattle.cc_defs.specs.declared.event.Event.TheVariants as events
use Rattle.cc_defs.specs.declared.event.Told.{Told}
use Rattle.cc_defs.specs.declared.lists.Key.{Key}
use Rattle.cc_defs.specs.declared.log.LogLine.{LogLine}
use Rattle.cc_defs.specs.declared.log.LogLine.TheVariants as lines
use Rattle.cc_defs.specs.Clauses.{IsClause, IsOver}
use Rattle.cc_defs.specs.Description.{Description}
use Rattle.cc_defs.specs.Events.{line_told}
use Rattle.cc_defs.specs.Limits.{most_histories}
use Rattle.cc_defs.specs.LogTexts.{IsFormed}
use Rattle.cc_defs.specs.Logs.{Subject}
use Rattle.cc_defs.specs.Resolved.{Query}
use Rattle.cc_defs.specs.Runs.{axioms_of, first_horizon, last_horizon}
use Rattle.cc_defs.specs.Sections.{Axioms}

-- what a log of a query is to be, after a key
abbrev pub subject_of : Description → Query → Option Key → Subject
subject_of d q key = record { claim = is_some q.claim; first = first_horizon q key; last = last_horizon q key; axioms = axioms_of d q key }

-- the lines of the log that events make
abbrev pub lines_of : List Told → List LogLine
lines_of told = flat_map (λ one. line_told one.event) told

-- axioms are clauses over their variables, the first of which are those of the positions
pub record AreGoodAxioms (axioms : Axioms) : Type 0 where
  pub clauses : AllByRecursion IsClause axioms.clauses
  pub over : AllByRecursion (IsOver axioms.variables) axioms.clauses
  pub positions : sum axioms.sizes ≤ axioms.variables

abbrev pub HaveGoodAxioms : Description → Query → Option Key → List LogLine → Type 0
HaveGoodAxioms d q key all = (conditions : Bool) (horizon : ℕ) → Contains all (lines.Section conditions horizon) → AreGoodAxioms (axioms_of d q key conditions horizon)

-- ---- events

-- an event, with the row where it is a history or a counterexample
abbrev pub with_row : Event → List ℕ → Told
with_row (events.Log line) row = record { event = events.Log line; row = None }
with_row (events.NoHistory horizon) row = record { event = events.NoHistory horizon; row = None }
with_row (events.History horizon number) row = record { event = events.History horizon number; row = Some row }
with_row (events.NoConditions horizon) row = record { event = events.NoConditions horizon; row = None }
with_row (events.Holds horizon) row = record { event = events.Holds horizon; row = None }
with_row (events.Counterexample horizon) row = record { event = events.Counterexample horizon; row = Some row }
with_row (events.Ended ending) row = record { event = events.Ended ending; row = None }

-- a history that is told is not past the number that may be told at a horizon
abbrev pub IsFewEvent : Event → Type 0
IsFewEvent event = (horizon number : ℕ) → event ≡ events.History horizon number → number ≤ most_histories

-- the numbers of a line of the log that is told have at most nine digits, and its chain has a pivot between each two clauses
abbrev pub IsShortEvent : Event → Type 0
IsShortEvent (events.Log line) = IsFormed line
IsShortEvent (events.NoHistory horizon) = Unit {0}
IsShortEvent (events.History horizon number) = Unit {0}
IsShortEvent (events.NoConditions horizon) = Unit {0}
IsShortEvent (events.Holds horizon) = Unit {0}
IsShortEvent (events.Counterexample horizon) = Unit {0}
IsShortEvent (events.Ended ending) = Unit {0}
