-- What an event says of the session before and after it.
use Rattle.std.specs.Prelude.{◌≢◌, ◌<◌}
use Rattle.cc_defs.specs.declared.event.Ending.{Ending}
use Rattle.cc_defs.specs.declared.event.Event.{Event}
use Rattle.cc_defs.specs.declared.event.Event.TheVariants as events
use Rattle.cc_lists.specs.Subjects.{IsFewEvent, IsShortEvent}
use Rattle.cc_query.specs.Lefts.{left_of}
use Rattle.cc_query.specs.Sessions.{SessionView, HasMore, IsSame, OpensGood, OpensWithin, StandsOpened, Tells}

-- It comes behind those that were told, for the same query; where it is a section's heading, the section is within its limits,
-- its axioms are good, and it is searched from now on; a history is not past their limit; a line has short numbers; less may still come; and unless it is the
-- ending, there is more to come.
pub record Gives (old new : SessionView) (event : Event) : Type 0 where
  pub same : IsSame old new
  pub tells : Tells old new event
  pub within : OpensWithin old event
  pub good : OpensGood old event
  pub opened : StandsOpened new event
  pub few : IsFewEvent event
  pub short : IsShortEvent event
  pub less : left_of new < left_of old
  pub more : ((ending : Ending) → event ≢ events.Ended ending) → HasMore new
