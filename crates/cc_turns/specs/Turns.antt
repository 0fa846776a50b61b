-- Runs that are told event by event: what a call tells, by which faults it may fail, and when more is to come.
use Rattle.std.specs.Prelude.{ℕ, ◌<◌, Bool, true, false}
use Rattle.cc_defs.specs.declared.refusal.Fault.{Fault}
use Rattle.cc_defs.specs.declared.refusal.Fault.TheVariants as faults
use Rattle.cc_defs.specs.declared.refusal.Refusal.{Refusal}

-- A refusal is such a limit; or memory was wanting.
abbrev pub IsFaultBy : (Refusal → Type 0) → Fault → Type 0
IsFaultBy Limit faults.OutOfMemory = Unit {0}
IsFaultBy Limit (faults.Refused refusal) = Limit refusal

-- there is more to come, but behind the last event
abbrev pub GoesOnBy : (is_last : Bool) → (more : Type 0) → Type 0
GoesOnBy true more = Unit {0}
GoesOnBy false more = more

-- Behind each run at which the old state stands comes this event: it leads to a run at which the new state stands. Fewer are to come.
pub record Behind {View Of Run Event : Type 0} (Is : View → Of → Type 0) (Stands : View → Of → Run → Type 0)
    (Says : Of → Run → Event → Run → Type 0) (left : View → ℕ) (old new : View) (event : Event) : Type 0 where
  pub less : left new < left old
  pub tells : (of : Of) (run : Run) → Is old of → Stands old of run → (after : Run) × Says of run event after × Stands new of after
