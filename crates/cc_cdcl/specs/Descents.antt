-- How a round of propagation ends.
use Rattle.std.specs.Prelude.{◌<◌, ◌≤◌, length}
use Rattle.cc_defs.specs.Assignments.{IsClosed}
use Rattle.cc_kernel.specs.Kernels.{KernelView, clauses_of}
use Rattle.cc_trail.specs.Steps.{values_of}
use Rattle.cc_trail.specs.Trails.{TrailView, IsFailedClause}
use Rattle.cc_cdcl.specs.declared.search.Round.{Round}
use Rattle.cc_cdcl.specs.declared.search.Round.TheVariants as rounds
use Rattle.cc_cdcl.specs.Sets.{IsFull}

-- a clause is false; every variable has a value, and the trail is closed; or there is an entry more
abbrev pub IsRoundOf : KernelView → TrailView → TrailView → Round → Type 0
IsRoundOf kernel old new (rounds.Conflict id) = IsFailedClause (clauses_of kernel) new.steps id
IsRoundOf kernel old new rounds.Full =
    IsFull kernel.variables (values_of new.steps) × IsClosed (values_of new.steps) (clauses_of kernel)
IsRoundOf kernel old new rounds.Decided = (length old.steps < length new.steps) × (length new.steps ≤ kernel.variables)
