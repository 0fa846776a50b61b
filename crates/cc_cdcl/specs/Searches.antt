-- What is true of the clauses of a search, and of its trail.
use Rattle.std.specs.Prelude.{◌≡◌, ◌≢◌, ℕ, ◌+◌, Bool, true, false, List, ◌++◌, length}
use Rattle.std.specs.List.{AllByRecursion}
use Rattle.cc_kernel.specs.declared.kernel.Origin.TheVariants as origins
use Rattle.cc_kernel.specs.Kernels.{Entry, KernelView, AreAxioms, AreClauses}
use Rattle.cc_trail.specs.Trails.{TrailView, Fits, IsSettled}
use Rattle.cc_cdcl.specs.declared.choice.Cursor.{Cursor}
use Rattle.cc_cdcl.specs.declared.probe.Phase.{Phase}
use Rattle.cc_cdcl.specs.declared.probe.Phase.TheVariants as phases
use Rattle.cc_cdcl.specs.Analysis.{OpenLevels}
use Rattle.cc_cdcl.specs.Choices.{AreChosen}
use Rattle.cc_cdcl.specs.Cursors.{AreCursors}
use Rattle.cc_cdcl.specs.Solvers.{AreEarned, HasPositions}

-- the axioms stand before all other clauses
pub record HasAxiomsFirst (entries : List Entry) : Type 0 where
  pub axioms : List Entry
  pub later : List Entry
  pub split : entries ≡ axioms ++ later
  pub are : AreAxioms axioms
  pub others : AllByRecursion (λ entry. entry.origin ≢ origins.Axiom) later

-- the clauses of a search for rows of these sizes
pub record IsSection (sizes : List ℕ) (kernel : KernelView) : Type 0 where
  pub positions : HasPositions sizes kernel
  pub clauses : AreClauses kernel.variables kernel.entries
  pub first : HasAxiomsFirst kernel.entries
  pub earned : AreEarned kernel

-- The trail of a search over a kernel: it fits and is settled, all clauses are attached to it, and each decision opened its level.
pub record IsTrailOf (kernel : KernelView) (trail : TrailView) : Type 0 where
  pub fits : Fits trail kernel
  pub all : trail.attached ≡ length kernel.entries
  pub settled : IsSettled trail kernel
  pub opened : OpenLevels trail.steps

-- The trail of a search for rows: each decision was also chosen so that the first row that is found is the least one.
pub record IsSearching (sizes : List ℕ) (kernel : KernelView) (trail : TrailView) (by_level : List Cursor) : Type 0 where
  pub fits : Fits trail kernel
  pub all : trail.attached ≡ length kernel.entries
  pub settled : IsSettled trail kernel
  pub opened : OpenLevels trail.steps
  pub chosen : AreChosen sizes trail.steps
  pub cursors : AreCursors sizes trail.variables trail.steps trail.level_count by_level

-- the section is probed
abbrev pub is_probing : Phase → Bool
is_probing phases.New = false
is_probing phases.Probing = true
is_probing phases.Listing = false

-- What is true in each phase of a search: where the section is not probed, the trail is that of a search for rows.
pub record IsInPhase (phase : Phase) (sizes : List ℕ) (kernel : KernelView) (trail : TrailView) (by_level : List Cursor) : Type 0 where
  pub of_kernel : IsTrailOf kernel trail
  pub room : length by_level ≡ trail.variables + 1
  pub searching : is_probing phase ≡ false → IsSearching sizes kernel trail by_level

-- a kernel has the clauses of another one
pub record KeepsEntries (old new : KernelView) : Type 0 where
  pub variables : new.variables ≡ old.variables
  pub entries : new.entries ≡ old.entries
