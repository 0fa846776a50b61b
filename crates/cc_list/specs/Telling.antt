-- How a search goes on behind what it told before.
use Rattle.std.specs.Prelude.{◌≡◌, ℕ, ◌≤◌, Bool, not, length, List, [], ◌∷◌, ◌++◌, map, Contains, Option, Some, None, Result, Ok, Err}
use Rattle.std.specs.List.{AllByRecursion}
use Rattle.cc_list.specs.Descriptions.{IsDescriptionOf}
use Rattle.cc_defs.specs.declared.event.Event.{Event}
use Rattle.cc_defs.specs.declared.event.Event.TheVariants as events
use Rattle.cc_defs.specs.declared.event.Told.{Told}
use Rattle.cc_defs.specs.declared.lists.Key.{Key}
use Rattle.cc_defs.specs.declared.log.LogLine.TheVariants as lines
use Rattle.cc_defs.specs.Description.{Description}
use Rattle.cc_defs.specs.Limits.{most_clauses, most_histories}
use Rattle.cc_defs.specs.LogTexts.{IsFormed}
use Rattle.cc_defs.specs.LogVersions.{counts_in}
use Rattle.cc_defs.specs.Resolved.{Query}
use Rattle.cc_defs.specs.Runs.{Ask, axioms_of}
use Rattle.cc_describe.specs.declared.description.Described.{Described}
use Rattle.cc_ports.specs.Moments.{Moment}
use Rattle.cc_lists.specs.Horizons.{refusal_at}
use Rattle.cc_lists.specs.Subjects.{HaveGoodAxioms, lines_of, subject_of}
use Rattle.cc_query.specs.Sessions.{After, HasMore, IsSame, IsSessionOf, SessionView}
use Rattle.cc_list.specs.Stops.{Searches}
use Rattle.cc_list.specs.Tasks.{Task}
use Rattle.cc_tell.specs.declared.status.Status.{Status}
use Rattle.cc_tell.specs.declared.status.Stop.{Stop}
use Rattle.cc_tell.specs.declared.telling.Teller.{Teller}
use Rattle.cc_tell.specs.Manners.{Manner, header_told}
use Rattle.cc_tell.specs.Steps.{Moves}
use Rattle.cc_tell.specs.EventTexts.{texts_behind, texts_of}
use Rattle.cc_tell.specs.Givens.{Given, joined, only_log}
use Rattle.cc_tell.specs.Tellers.{manner_of, KeepsUp}

abbrev pub task_of : Description → Query → Ask → Task
task_of d q ask = record { description = d; query = q; ask = ask }

-- what a log is judged for: nothing is searched
abbrev pub task_to_check : Description → Query → Option Key → Task
task_to_check d q key = task_of d q (record { count = None; budget = 0; after = key })

-- The lines of the log that events make are formed, and each section whose heading is among them was opened within the limits and has
-- good axioms; no horizon has more histories told than their limit.
pub record HasGoodLines (d : Description) (q : Query) (key : Option Key) (told : List Told) : Type 0 where
  pub formed : AllByRecursion IsFormed (lines_of told)
  pub good : HaveGoodAxioms d q key (lines_of told)
  pub opened : (conditions : Bool) (horizon : ℕ) → Contains (lines_of told) (lines.Section conditions horizon) →
      refusal_at d q horizon (not conditions) key ≡ None
  pub few : (horizon number : ℕ) → Contains (map (λ one. one.event) told) (events.History horizon number) → number ≤ most_histories

-- ---- the numbers of clauses

-- how many axioms each section of a query has, after a key
abbrev pub counts_of : Description → Query → Option Key → Bool → ℕ → ℕ
counts_of d q key = counts_in (subject_of d q key)

-- they are not more than there may be: this is known of some description and query that the session is of
abbrev pub HasFewAxioms : SessionView → Event → Type 0
HasFewAxioms session event =
    (d : Description) × (q : Query) × (given : List Told) × After d q session given
    × ((conditions : Bool) (horizon : ℕ) → event ≡ events.Log (lines.Section conditions horizon) →
    length ((axioms_of d q session.ask.after conditions horizon).clauses) ≤ most_clauses)

-- ---- how events are told

-- one event more of it was told
pub record TellsOne (manner : Manner) (d : Description) (q : Query) (given : List Told) (teller : Teller) (session : SessionView) (old new : Moment) : Type 0 where
  pub told : Told
  pub is : IsSessionOf session d q
  pub after : After d q session (given ++ told ∷ [])
  pub lines : HasGoodLines d q session.ask.after (given ++ told ∷ [])
  pub keeps : KeepsUp (counts_of d q session.ask.after) teller (given ++ told ∷ [])
  pub moves : Moves {X = Option Status} (texts_behind manner d given told) old new (Ok None)

-- what a search gave that told these events
abbrev pub so_far : Manner → Description → List Told → Given
so_far manner d given = joined (only_log (header_told manner)) (texts_of manner d given)

-- behind these events a session tells the next one, or it is done
abbrev pub GoesOn : Manner → Description → Query → List Told → Teller → SessionView → SessionView → Moment → Moment → Result (Option Status) Stop → Type 0
GoesOn manner d q given teller session next old new (Ok None) = TellsOne manner d q given teller next old new
GoesOn manner d q given teller session next old new (Ok (Some status)) =
    Searches manner (task_of d q session.ask) (so_far manner d given) old new (Ok status)
GoesOn manner d q given teller session next old new (Err stop) =
    Searches manner (task_of d q session.ask) (so_far manner d given) old new (Err stop)

-- the events so far were told, and nothing else was given
pub record ListedSoFar (manner : Manner) (d : Description) (q : Query) (teller : Teller) (session : SessionView) (old new : Moment) : Type 0 where
  pub given : List Told
  pub is : IsSessionOf session d q
  pub after : After d q session given
  pub lines : HasGoodLines d q session.ask.after given
  pub keeps : KeepsUp (counts_of d q session.ask.after) teller given
  pub moves : Moves {X = Unit {0}} (texts_of manner d given) old new (Ok tt)

-- there are a description and a query of which it is a session, and events that it told
abbrev pub IsOfSome : Described → Teller → SessionView → Type 0
IsOfSome described teller session =
    (d : Description) × (q : Query) × (given : List Told) × IsDescriptionOf described d × IsSessionOf session d q × After d q session given
    × HasGoodLines d q session.ask.after given × KeepsUp (counts_of d q session.ask.after) teller given

-- a search that is still on, which this teller began
pub record IsListing (described : Described) (begun : Teller) (entry : SessionView) (teller : Teller) (session : SessionView) (old new : Moment) : Type 0 where
  pub manner_is : (counts : Bool → ℕ → ℕ) → manner_of counts teller ≡ manner_of counts begun
  pub same : IsSame entry session
  pub more : HasMore session
  pub of : IsOfSome described teller session
  pub so_far : (d : Description) (q : Query) → IsDescriptionOf described d → IsSessionOf entry d q → After d q entry [] →
      ListedSoFar (manner_of (counts_of d q entry.ask.after) begun) d q teller session old new
