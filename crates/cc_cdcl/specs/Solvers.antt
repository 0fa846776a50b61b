-- What the holder of a solver sees of it, and what its answers say.
use Rattle.std.specs.Prelude.{◌≡◌, ◌≢◌, ℕ, ◌+◌, ◌*◌, ◌<◌, ◌≤◌, ◌⊎◌, Bool, true, false, List, [], ◌∷◌, ◌++◌, length, map, filter, Contains}
use Rattle.cc_defs.specs.Assignments.{IsEarned, IsFailed}
use Rattle.cc_defs.specs.ClauseLists.{positions_from}
use Rattle.cc_defs.specs.Clauses.{Literal, Reaches}
use Rattle.cc_defs.specs.Sections.{HasNoEmpty, row_denial}
use Rattle.cc_clauses.specs.RowsOf.{IsLeastRowOf}
use Rattle.cc_kernel.specs.declared.kernel.Origin.{Origin}
use Rattle.cc_kernel.specs.declared.kernel.Origin.TheVariants as origins
use Rattle.cc_kernel.specs.Kernels.{Entry, KernelView, clauses_of, derived_count}
use Rattle.cc_trail.specs.declared.entries.Step.{Step as TrailStep}
use Rattle.cc_trail.specs.Steps.{AreSteps, values_of}
use Rattle.cc_trail.specs.Trails.{IsSettledOver}
use Rattle.cc_trail.specs.Watches.{AreReasoned}
use Rattle.cc_cdcl.specs.declared.solver.Step.{Step}
use Rattle.cc_cdcl.specs.declared.solver.Step.TheVariants as steps

-- Where a search stands: it may go on; a row was found and is not denied yet; nothing more is to be found; or memory was
-- wanting, and the kernel may only be read.
pub data Standing : Type 0 where
  Ready : Standing
  Found : (row : List ℕ) → Standing
  Refuted : Standing
  Failed : Standing

-- the sizes of the positions, the kernel, and where the search stands
pub record SolverView : Type 0 where
  pub sizes : List ℕ
  pub kernel : KernelView
  pub standing : Standing

-- each derived clause that is not empty is earned by the clauses before it
abbrev pub AreEarnedAfter : List (List Literal) → List Entry → Type 0
AreEarnedAfter before [] = Unit {0}
AreEarnedAfter before (entry ∷ entries) =
    (entry.origin ≡ origins.Derived → entry.clause ≢ [] → IsEarned before entry.clause) × AreEarnedAfter (before ++ entry.clause ∷ []) entries

abbrev pub AreEarned : KernelView → Type 0
AreEarned kernel = AreEarnedAfter [] kernel.entries

abbrev pub is_axiom_origin : Origin → Bool
is_axiom_origin origins.Axiom = true
is_axiom_origin origins.Block = false
is_axiom_origin origins.Derived = false

abbrev pub is_axiom : Entry → Bool
is_axiom entry = is_axiom_origin entry.origin

-- the clauses that the search began with
abbrev pub axiom_clauses : KernelView → List (List Literal)
axiom_clauses kernel = map (λ entry. entry.clause) (filter is_axiom kernel.entries)

-- that each position has exactly one value is among the clauses
abbrev pub HasPositions : List ℕ → KernelView → Type 0
HasPositions sizes kernel = (clause : List Literal) → Contains (positions_from 1 sizes) clause → Contains (clauses_of kernel) clause

-- a kernel with one derived clause more, which its chain reaches
pub record AddsDerived (old new : KernelView) (clause : List Literal) : Type 0 where
  pub variables : new.variables ≡ old.variables
  pub entries : new.entries ≡ old.entries ++ (record { clause = clause; origin = origins.Derived }) ∷ []
  pub reached : Reaches (clauses_of old) new.chain clause
  pub short : length new.chain ≤ 2 * old.variables + 1

-- one with one block more
pub record AddsBlock (old new : KernelView) (clause : List Literal) : Type 0 where
  pub variables : new.variables ≡ old.variables
  pub entries : new.entries ≡ old.entries ++ (record { clause = clause; origin = origins.Block }) ∷ []

-- What was decided, and what propagation gives then, makes one of the clauses false, while each level below is closed: the search
-- goes on only behind a further derived line.
pub record IsStuck (variables : ℕ) (clauses : List (List Literal)) : Type 0 where
  pub steps : List TrailStep
  pub levels : ℕ
  pub are_steps : AreSteps variables steps levels
  pub decided : 0 < levels
  pub reasoned : AreReasoned clauses steps
  pub settled : IsSettledOver steps levels clauses
  pub clause : List Literal
  pub there : Contains clauses clause
  pub failed : IsFailed (values_of steps) clause

-- what an answer of the search says
abbrev pub IsStep : ℕ → SolverView → SolverView → Step → Type 0
IsStep budget old new steps.Line =
    (clause : List Literal) × (clause ≢ []) × AddsDerived old.kernel new.kernel clause × IsEarned (clauses_of old.kernel) clause
    × (derived_count new.kernel.entries ≤ budget) × (new.sizes ≡ old.sizes) × (new.standing ≡ Ready)
IsStep budget old new steps.Found =
    (row : List ℕ) × IsLeastRowOf old.sizes (clauses_of old.kernel) row × (new ≡ record old { standing = Found row })
IsStep budget old new steps.Refuted =
    (new.sizes ≡ old.sizes) × (new.standing ≡ Refuted) × Contains (clauses_of new.kernel) []
    × ((new.kernel ≡ old.kernel) ⊎ AddsDerived old.kernel new.kernel [])
IsStep budget old new steps.Spent =
    (new ≡ old) × (derived_count old.kernel.entries ≡ budget) × HasNoEmpty (clauses_of old.kernel)
    × IsStuck old.kernel.variables (clauses_of old.kernel)

-- memory was wanting
pub record IsStopped (old new : SolverView) : Type 0 where
  pub standing : new.standing ≡ Failed
  pub sizes : new.sizes ≡ old.sizes

-- after want of memory in the search: the clauses are those from before, or one derived clause more
abbrev pub IsLeftByFailure : SolverView → SolverView → Type 0
IsLeftByFailure old new =
    IsStopped old new × (new.kernel.variables ≡ old.kernel.variables)
    × ((new.kernel.entries ≡ old.kernel.entries) ⊎ ((clause : List Literal) × AddsDerived old.kernel new.kernel clause))

-- after want of memory while a row was denied: the clauses are those from before, or its denial more
abbrev pub IsLeftByFailedBlock : SolverView → SolverView → Type 0
IsLeftByFailedBlock old new =
    IsStopped old new × (new.kernel.variables ≡ old.kernel.variables)
    × ((new.kernel.entries ≡ old.kernel.entries)
    ⊎ ((row : List ℕ) × (old.standing ≡ Found row) × AddsBlock old.kernel new.kernel (row_denial old.sizes row)))
