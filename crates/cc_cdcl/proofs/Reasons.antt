-- The reason of a variable's value is a clause that is there.
use Rattle.std.proofs.Common.{◌≡◌, ◌∙◌, ℕ, inl, inr, List, [], ◌∷◌, ◌++◌, Option, Some, None, option_and_then, refl, ap}
use Rattle.cc_defs.specs.Clauses.{Literal, IsIn, IsNumbered}
use Rattle.cc_kernel.specs.Kernels.{KernelView, IsThere, clauses_of}
use Rattle.cc_trail.specs.declared.entries.Step.{Step}
use Rattle.cc_trail.specs.Steps.{step_of}
use Rattle.cc_trail.specs.Trails.{TrailView, Fits, reason_of_step}
use Rattle.cc_trail.specs.Watches.{AreReasonedAfter}
use Rattle.cc_cdcl.proofs.Deriving.{numbered_there}
use Rattle.cc_cdcl.proofs.Levels.{found_in}

reason_numbered : (clauses : List (List Literal)) (before steps : List Step) → AreReasonedAfter clauses before steps → (step : Step) → IsIn steps step → (id : ℕ) →
    step.reason ≡ Some id → (clause : List Literal) × IsNumbered clauses id clause
reason_numbered clauses before [] reasoned step none id at = absurd none
reason_numbered clauses before (first ∷ steps) reasoned step (inl same) id at =
    let (clause, numbered, there, others) = reasoned.0 id (ap (λ (s : Step). s.reason) same ∙ at) in (clause, numbered)
reason_numbered clauses before (first ∷ steps) reasoned step (inr here) id at =
    reason_numbered clauses (before ++ first ∷ []) steps reasoned.1 step here id at

pub reasons_there : (trail : TrailView) (kernel : KernelView) (variable id : ℕ) → Fits trail kernel →
    option_and_then reason_of_step (step_of trail.steps variable) ≡ Some id → IsThere kernel id
reasons_there trail kernel variable id fits at = by (step_of trail.steps variable) refl at
  where
    by : (found : Option Step) → step_of trail.steps variable ≡ found → option_and_then reason_of_step found ≡ Some id → IsThere kernel id
    by None is at = cc
    by (Some step) is at =
        let (clause, numbered) = reason_numbered (clauses_of kernel) [] trail.steps fits.clauses.reasons step (found_in trail.steps variable step is).0 id at in
        numbered_there kernel id clause numbered
