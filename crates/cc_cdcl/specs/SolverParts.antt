-- How the parts of a solver make what its holder sees, and what is always true of them.
use Rattle.std.specs.Prelude.{◌≡◌, ℕ, List, length}
use Rattle.cc_defs.specs.Rows.{IsRow}
use Rattle.cc_clauses.specs.RowsOf.{HasRow}
use Rattle.cc_kernel.specs.Kernels.{derived_count}
use Rattle.cc_trail.specs.Steps.{values_of}
use Rattle.cc_cdcl.specs.declared.solver.Parts.TheInside.{Inside}
use Rattle.cc_cdcl.specs.declared.solver.State.{State}
use Rattle.cc_cdcl.specs.declared.solver.State.TheVariants as states
use Rattle.cc_cdcl.specs.Searches.{IsInPhase, IsSection}
use Rattle.cc_cdcl.specs.Sets.{assignment_of}
use Rattle.cc_cdcl.specs.Solvers.{SolverView, Standing, Ready, Found, Refuted, Failed}

abbrev pub standing_of : State → List ℕ → Standing
standing_of states.Ready row = Ready
standing_of states.Found row = Found row
standing_of states.Refuted row = Refuted
standing_of states.Failed row = Failed

abbrev pub view_of : Inside → SolverView
view_of solver = record {
  sizes = solver.sizes.items;
  kernel = solver.kernel;
  standing = standing_of solver.state solver.row.items;
}

-- the search may go on from here
pub record IsRunning (solver : Inside) : Type 0 where
  pub derived : solver.derived ≡ derived_count solver.kernel.entries
  pub in_phase : IsInPhase solver.probe.phase solver.sizes.items solver.kernel solver.trail solver.cursors.items

-- the row is that of the trail
pub record IsOfTrail (solver : Inside) : Type 0 where
  pub is_row : IsRow solver.sizes.items solver.row.items
  pub has : HasRow solver.sizes.items (assignment_of (values_of solver.trail.steps)) solver.row.items

abbrev pub Stands : State → Inside → Type 0
Stands states.Ready solver = IsRunning solver
Stands states.Found solver = IsRunning solver × IsOfTrail solver
Stands states.Refuted solver = Unit {0}
Stands states.Failed solver = Unit {0}

pub record IsSolver (solver : Inside) : Type 0 where
  pub section : IsSection solver.sizes.items solver.kernel
  pub room : length solver.row.items ≡ length solver.sizes.items
  pub stands : Stands solver.state solver
