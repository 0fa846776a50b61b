-- The status behind the last event of a search.
use Rattle.std.specs.Prelude.{Option, Some, None}
use Rattle.cc_defs.specs.declared.event.Ending.{Ending}
use Rattle.cc_defs.specs.declared.event.Ending.TheVariants as endings
use Rattle.cc_defs.specs.declared.event.Event.TheVariants as events
use Rattle.cc_defs.specs.declared.event.Event.{Event}
use Rattle.cc_tell.specs.declared.status.Status.{Status}
use Rattle.cc_tell.specs.declared.status.Status.TheVariants as statuses

abbrev pub status_of : Ending → Status
status_of (endings.Complete horizon listed) = statuses.Right
status_of (endings.Asked horizon listed) = statuses.Asked
status_of (endings.Spent horizon listed) = statuses.Spent
status_of endings.NoHistory = statuses.Not
status_of endings.ClaimHolds = statuses.Right
status_of endings.ClaimEmpty = statuses.Right
status_of endings.ClaimFails = statuses.Not

-- the status of a run whose last event this is; none where more is to come
abbrev pub status_told : Event → Option Status
status_told (events.Log line) = None
status_told (events.NoHistory horizon) = None
status_told (events.History horizon number) = None
status_told (events.NoConditions horizon) = None
status_told (events.Holds horizon) = None
status_told (events.Counterexample horizon) = None
status_told (events.Ended ending) = Some (status_of ending)
