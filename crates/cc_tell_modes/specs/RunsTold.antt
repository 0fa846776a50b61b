-- How a run is told, event by event, up to its end.
use Rattle.std.specs.Prelude.{◌≡◌, ◌⊎◌, ℕ, List, [], IfOk, Option, Some, None, Result}
use Rattle.cc_defs.specs.declared.refusal.Fault.{Fault}
use Rattle.cc_defs.specs.declared.refusal.Fault.TheVariants as faults
use Rattle.cc_defs.specs.declared.refusal.Refusal.{Refusal}
use Rattle.cc_ports.specs.Moments.{Moment}
use Rattle.cc_tell.specs.declared.status.Status.{Status}
use Rattle.cc_tell.specs.declared.status.Status.TheVariants as statuses
use Rattle.cc_tell.specs.declared.status.Stop.{Stop}
use Rattle.cc_tell.specs.ErrLines.{refusal_text}
use Rattle.cc_tell.specs.Givens.{Given, joined, nothing, only_err}
use Rattle.cc_tell.specs.Steps.{Step}

-- What is given of a run grows by the text of each event that leads from one fair run to another; what a voice has counted goes on with it.
pub record GivesBy {Run Event State : Type 0} (Fair : Run → Type 0) (Says : Run → Event → Run → Type 0) (text : State → Event → Given) (next : State → Event → State)
    (state : Run → State) (given : Run → Given) : Type 0 where
  pub grows : (run after : Run) (event : Event) → Fair run → Fair after → Says run event after → given after ≡ joined (given run) (text (state run) event)
  pub moves : (run after : Run) (event : Event) → Fair run → Fair after → Says run event after → state after ≡ next (state run) event

-- How a run ends: with the status of its last event, or with the limit that it comes to; or it has not ended yet.
abbrev pub EndsBy : {Run Event : Type 0} → (Run → Refusal → Type 0) → (Run → Event → Run → Type 0) → (Event → Option Status) → Run → (err : List ℕ) → Option Status → Type 0
EndsBy Limit Says status run err None = err ≡ []
EndsBy {Run = Run} {Event = Event} Limit Says status run err (Some ends) =
    ((before : Run) × (event : Event) × Says before event run × (status event ≡ Some ends) × (err ≡ []))
    ⊎ ((refusal : Refusal) × Limit run refusal × (err ≡ refusal_text refusal []) × (ends ≡ statuses.Refused))

-- Behind what was given before, all is given of a fair run up to its end; of what a stop cuts, fronts.
pub record TellsRun {Run Event : Type 0} (Fair : Run → Type 0) (Limit : Run → Refusal → Type 0) (Says : Run → Event → Run → Type 0) (status : Event → Option Status)
    (given : Run → Given) (before : Given) (old new : Moment) (result : Result Status Stop) : Type 0 where
  pub run : Run
  pub fair : Fair run
  pub err : List ℕ
  pub ends : Option Status
  pub how : EndsBy Limit Says status run err ends
  pub more : Given
  pub grows : joined before more ≡ joined (given run) (only_err err)
  pub step : Step more old new result
  pub ended : IfOk result (λ status. ends ≡ Some status)

-- A run goes no further: a limit is told; or memory was wanting, and nothing is given.
abbrev pub StopsFor : Fault → (old new : Moment) → Result Status Stop → Type 0
StopsFor (faults.Refused refusal) old new result = Step (only_err (refusal_text refusal [])) old new result × IfOk result (λ status. status ≡ statuses.Refused)
StopsFor faults.OutOfMemory old new result = Step nothing old new result × IfOk result (λ status. ⊥)
