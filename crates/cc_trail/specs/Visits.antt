-- What a visit of watches keeps, and what it looks for.
use Rattle.std.specs.Prelude.{◌≡◌, ℕ, ◌*◌, ◌<◌, ◌≤◌, ◌⊎◌, suc, Bool, true, false, List, [], ◌++◌, length, take, slice_get, All, Contains, Some, None}
use Rattle.std.specs.List.{AllByRecursion}
use Rattle.cc_defs.specs.Clauses.{Literal, opposite, IsNumbered, IsIn}
use Rattle.cc_kernel.specs.Kernels.{KernelView, clauses_of}
use Rattle.cc_trail.specs.declared.entries.Step.{Step}
use Rattle.cc_trail.specs.Links.{LinksView, watched_at}
use Rattle.cc_trail.specs.Pairs.{PairsView, AreFollowed, ArePaired}
use Rattle.cc_trail.specs.Steps.{EntriesView, AreSteps, step_of}
use Rattle.cc_trail.specs.Watches.{IsTrueBy, IsFalseBy, IsWatched, Watches, AreReasoned}
use Rattle.cc_trail.specs.Trails.{IsPropagatedAt, IsSettledOver, number_of}

-- a step of this level makes the literal false
abbrev pub IsFalseAt : List Step → Literal → ℕ → Type 0
IsFalseAt steps literal level = (step : Step) × IsIn steps step × (step.lit ≡ opposite literal) × (step.level ≡ level)

-- a step makes the literal false, at a level not above this one
abbrev pub IsFalseTo : List Step → Literal → ℕ → Type 0
IsFalseTo steps literal level = (step : Step) × IsIn steps step × (step.lit ≡ opposite literal) × (step.level ≤ level)

abbrev pub IsFalseBut : List Step → Literal → ℕ → Literal → Type 0
IsFalseBut steps except level literal = (literal ≡ except) ⊎ IsFalseTo steps literal level

-- A literal of a clause is best to watch beside another one: it is not false, or else it became false at this level, and so
-- did all others of the clause but that one, at levels not above.
abbrev pub IsBest : List Step → List Literal → Literal → Literal → ℕ → Bool → Type 0
IsBest steps clause except literal level false = IsFalseBy steps literal → ⊥
IsBest steps clause except literal level true = IsFalseAt steps literal level × All (IsFalseBut steps except level) clause

-- Of a clause the first of two literals has no value, and all others are false, of which the second became so at this level.
pub record IsLeft (steps : List Step) (level : ℕ) (clause : List Literal) (first second : Literal) : Type 0 where
  pub first_in : Contains clause first
  pub second_in : Contains clause second
  pub open_yet : step_of steps first.variable ≡ None
  pub fallen : IsFalseAt steps second level
  pub others : (literal : Literal) → Contains clause literal → (literal ≡ first) ⊎ IsFalseBy steps literal

-- whether a literal is true, or else false
abbrev pub IsValue : List Step → ℕ → Literal → Bool → Type 0
IsValue steps level literal true = IsTrueBy steps literal level
IsValue steps level literal false = IsFalseBy steps literal

-- what is true of the entries of a trail that fits a kernel and is settled over it
pub record AreSound (kernel : KernelView) (entries : EntriesView) : Type 0 where
  pub variables : entries.variables ≡ kernel.variables
  pub are_steps : AreSteps entries.variables entries.steps entries.level_count
  pub reasons : AreReasoned (clauses_of kernel) entries.steps
  pub settled : IsSettledOver entries.steps entries.level_count (clauses_of kernel)

-- literals became true by propagation
pub record AreGrown (old new : EntriesView) : Type 0 where
  pub more : List Step
  pub steps : new.steps ≡ old.steps ++ more
  pub each : AllByRecursion (IsPropagatedAt old.level_count) more
  pub variables : new.variables ≡ old.variables
  pub level_count : new.level_count ≡ old.level_count

-- the long clauses are watched rightly where so many steps are visited
pub record AreWatched (kernel : KernelView) (longs : List ℕ) (visited : ℕ) (entries : EntriesView) (links : LinksView) : Type 0 where
  pub variables : links.variables ≡ kernel.variables
  pub within : visited ≤ length entries.steps
  pub nodes : length links.watched ≡ 2 * length longs
  pub watching : (node : ℕ) → node < length links.watched → Watches (clauses_of kernel) entries.steps (number_of longs node) links.watched node
  pub watches : (node : ℕ) → node < length links.watched → IsWatched (take visited entries.steps) entries.steps links.watched node

-- So many steps are visited: the long clauses are watched rightly there, what stands beside a literal that one of them made false is
-- true, and no walk goes on.
pub record IsPropagating (kernel : KernelView) (longs : List ℕ) (pairs : PairsView) (visited : ℕ) (entries : EntriesView) (links : LinksView) : Type 0 where
  pub variables : pairs.variables ≡ entries.variables
  pub sound : AreSound kernel entries
  pub watched : AreWatched kernel longs visited entries links
  pub paired : ArePaired (clauses_of kernel) pairs
  pub followed : AreFollowed pairs (take visited entries.steps) entries.steps
  pub none : links.ahead ≡ []

-- The step at a place is being visited: the nodes that are ahead watch the literal that it made false, and the others
-- are watched rightly where this step is visited too.
pub record IsVisiting (kernel : KernelView) (longs : List ℕ) (place : ℕ) (step : Step) (entries : EntriesView) (links : LinksView) : Type 0 where
  pub sound : AreSound kernel entries
  pub watched : AreWatched kernel longs place entries links
  pub here : slice_get entries.steps place ≡ Some step
  pub ahead : (node : ℕ) → IsIn links.ahead node → (node < length links.watched) × (watched_at links.watched node ≡ opposite step.lit)
  pub done : (node : ℕ) → node < length links.watched → IsIn links.ahead node ⊎ IsWatched (take (suc place) entries.steps) entries.steps links.watched node

-- the clause of this number has a true literal
abbrev pub IsMet : List (List Literal) → List Step → ℕ → Type 0
IsMet clauses steps number =
    (clause : List Literal) × IsNumbered clauses number clause × (literal : Literal) × Contains clause literal ×
    (step : Step) × IsIn steps step × (step.lit ≡ literal)
