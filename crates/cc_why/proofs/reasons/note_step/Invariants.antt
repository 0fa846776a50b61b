use Rattle.std.proofs.Common.{◌≡◌, List, Option, drop, length}
use Rattle.cc_why.specs.declared.cause.Cause.{Cause}
use Rattle.cc_why.specs.Causes.{Sourced}
use Rattle.cc_why.specs.Noting.{AreNoted, MeanAt, StandIn}
use Rattle.cc_why.proofs.reasons.note_step.Given as goal

abbrev pub invariant-loop-law : goal.invariant-loop-law
invariant-loop-law l =
    StandIn (length l.row) l.stride l.horizon l.step (drop l.law-index l.laws)
    × (length l.causes ≡ length l.row)
    × ((meant : List Sourced) → MeanAt l.stride l.horizon l.step l.laws meant →
    (rest : List Sourced) × MeanAt l.stride l.horizon l.step (drop l.law-index l.laws) rest
    × ((new : List (Option Cause)) → AreNoted l.row rest l.causes new → AreNoted l.row meant l.fn.causes new))
