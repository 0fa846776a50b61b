use Rattle.std.proofs.Common.{◌≡◌, ℕ, List, flat_map, length}
use Rattle.cc_defs.specs.Declarations.{upto}
use Rattle.cc_why.specs.Causes.{Sourced}
use Rattle.cc_why.specs.Noting.{AreNoted, MeanAt}
use Rattle.cc_why.proofs.reasons.note_steps.Given as goal

abbrev pub invariant-loop-step : goal.invariant-loop-step
invariant-loop-step l =
    (length l.causes ≡ length l.row)
    × ((meant : ℕ → List Sourced) → ((step : ℕ) → MeanAt l.stride l.horizon step l.laws (meant step)) →
    AreNoted l.row (flat_map meant (upto l.step)) l.fn.causes l.causes)
