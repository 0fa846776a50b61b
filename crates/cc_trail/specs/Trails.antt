-- What the holder of a trail sees of it.
use Rattle.std.specs.Prelude.{◌≡◌, ◌≢◌, ℕ, ◌+◌, ◌-◌, ◌*◌, ◌/◌, ◌<◌, ◌≤◌, ◌⊎◌, List, [], ◌∷◌, ◌++◌, length, Contains, take, get_or, min, Option, Some, None, option_map, Bool, not, if◌then◌else◌}
use Rattle.std.specs.List.{AllByRecursion}
use Rattle.cc_defs.specs.Clauses.{Literal, IsNumbered, IsIn}
use Rattle.cc_defs.specs.Assignments.{IsClosed, IsFailed, IsTrueIn, HasNoValue}
use Rattle.cc_kernel.specs.Kernels.{KernelView, clauses_of}
use Rattle.cc_trail.specs.declared.entries.Step.{Step}
use Rattle.cc_trail.specs.Pairs.{PairsView, AddsPair, AreFollowed, AreNone, ArePaired, IsPaired}
use Rattle.cc_trail.specs.Steps.{AreSteps, steps_to, values_of, values_to}
use Rattle.cc_trail.specs.Watches.{IsWatched, Watches, AreReasoned, IsShort, IsMetForGood}

-- The number of variables, the steps in order, how many levels were opened, how many clauses are attached, the numbers of
-- those of fewer than two literals and of the others, how many of the former are known to be met for good, the literal that
-- each node of the watch links watches, what stands beside each literal in clauses of two, and how many steps were visited. The
-- nodes of a long clause are twice its place among them, and the next one.
pub record TrailView : Type 0 where
  pub variables : ℕ
  pub steps : List Step
  pub level_count : ℕ
  pub attached : ℕ
  pub shorts : List ℕ
  pub longs : List ℕ
  pub met : ℕ
  pub watched : List Literal
  pub pairs : PairsView
  pub visited : ℕ

-- the number of the long clause of a node
abbrev pub number_of : List ℕ → ℕ → ℕ
number_of longs node = get_or longs (node / 2) 0

-- What is true of each trail, whatever kernel it fits.
pub record IsTrail (trail : TrailView) : Type 0 where
  pub are_steps : AreSteps trail.variables trail.steps trail.level_count
  pub visited : trail.visited ≤ length trail.steps
  pub nodes : length trail.watched ≡ 2 * length trail.longs

-- a later clause is a part of the clause of this number
abbrev pub IsCovered : List (List Literal) → ℕ → Type 0
IsCovered clauses number =
    (by : ℕ) × (number < by) × (clause : List Literal) × (part : List Literal) × IsNumbered clauses number clause × IsNumbered clauses by part ×
    ((literal : Literal) → Contains part literal → Contains clause literal)

-- the attached clauses are the first ones of these, the reasons hold for them, and they are watched rightly
pub record FitsClauses (trail : TrailView) (clauses : List (List Literal)) : Type 0 where
  pub attached : trail.attached ≤ length clauses
  pub reasons : AreReasoned clauses trail.steps
  pub shorts : (number : ℕ) → IsIn trail.shorts number → IsShort clauses number
  pub met_few : trail.met ≤ length trail.shorts
  pub met : (number : ℕ) → IsIn (take trail.met trail.shorts) number → IsMetForGood clauses trail.steps number
  pub longs : (node : ℕ) → node < length trail.watched → Watches clauses trail.steps (number_of trail.longs node) trail.watched node
  pub pairs : ArePaired clauses trail.pairs
  pub each : (number : ℕ) → 0 < number → number ≤ trail.attached →
      IsIn trail.shorts number ⊎ (IsIn trail.longs number ⊎ (IsPaired trail.pairs number ⊎ IsCovered clauses number))
  pub watches : (node : ℕ) → node < length trail.watched → IsWatched (take trail.visited trail.steps) trail.steps trail.watched node
  pub followed : AreFollowed trail.pairs (take trail.visited trail.steps) trail.steps

-- a trail fits a kernel
pub record Fits (trail : TrailView) (kernel : KernelView) : Type 0 where
  pub variables : trail.variables ≡ kernel.variables
  pub clauses : FitsClauses trail (clauses_of kernel)

-- at each level below the last one, what is true up to it is closed
abbrev pub IsSettledOver : List Step → ℕ → List (List Literal) → Type 0
IsSettledOver steps level_count clauses = (level : ℕ) → level < level_count → IsClosed (values_to level steps) clauses

-- a trail is settled over a kernel
abbrev pub IsSettled : TrailView → KernelView → Type 0
IsSettled trail kernel = IsSettledOver trail.steps trail.level_count (clauses_of kernel)

-- whether a literal is true, where its variable has a value
abbrev pub value_of : List Step → Literal → Option Bool
value_of steps literal = option_map (λ sign. if literal.positive then sign else not sign) (values_of steps literal.variable)

abbrev pub level_of_step : Step → ℕ
level_of_step step = step.level

abbrev pub reason_of_step : Step → Option ℕ
reason_of_step step = step.reason

-- At each level below the last one a clause has a literal that is true up to it, or two that have no value.
abbrev pub KeepsSettled : List Step → ℕ → List Literal → Type 0
KeepsSettled steps level_count clause = (level : ℕ) → level < level_count →
    ((literal : Literal) × Contains clause literal × IsTrueIn (values_to level steps) literal) ⊎
    ((one : Literal) × (two : Literal) × (one ≢ two) × Contains clause one × Contains clause two ×
    HasNoValue (values_to level steps) one × HasNoValue (values_to level steps) two)

-- a level was opened, whose one entry is this literal
abbrev pub decided : TrailView → Literal → TrailView
decided trail literal = record trail {
  steps = trail.steps ++ (record { lit = literal; level = trail.level_count + 1; reason = None }) ∷ [];
  level_count = trail.level_count + 1;
}

-- just the steps of the levels up to this one are left
abbrev pub back_at : TrailView → ℕ → TrailView
back_at trail level = record trail {
  steps = steps_to level trail.steps;
  level_count = level;
  visited = min trail.visited (length (steps_to level trail.steps));
}

-- one clause more is attached, and what became true is as before
pub record IsAttached (old new : TrailView) : Type 0 where
  pub variables : new.variables ≡ old.variables
  pub steps : new.steps ≡ old.steps
  pub level_count : new.level_count ≡ old.level_count
  pub attached : new.attached ≡ old.attached + 1

-- none of these steps is of the literal's variable
abbrev pub HasNoStepOf : List Step → Literal → Type 0
HasNoStepOf steps literal = (step : Step) → IsIn steps step → step.lit.variable ≢ literal.variable

-- a clause of two or more literals is attached, which watches these two, and no visited step is of their variables
pub record IsLong (old new : TrailView) (number : ℕ) (first second : Literal) : Type 0 where
  pub variables : new.variables ≡ old.variables
  pub steps : new.steps ≡ old.steps
  pub level_count : new.level_count ≡ old.level_count
  pub attached : new.attached ≡ number
  pub shorts : new.shorts ≡ old.shorts
  pub longs : new.longs ≡ old.longs ++ number ∷ []
  pub met : new.met ≡ old.met
  pub pairs : new.pairs ≡ old.pairs
  pub watched : new.watched ≡ old.watched ++ first ∷ second ∷ []
  pub fewer : new.visited ≤ old.visited
  pub first_open : HasNoStepOf (take new.visited new.steps) first
  pub second_open : HasNoStepOf (take new.visited new.steps) second

-- a clause of two or more literals is attached, which watches these two, and the first of which is true by it at the last level
pub record IsLongTrue (old new : TrailView) (number : ℕ) (first second : Literal) : Type 0 where
  pub variables : new.variables ≡ old.variables
  pub steps : new.steps ≡ old.steps ++ (record { lit = first; level = old.level_count; reason = Some number }) ∷ []
  pub level_count : new.level_count ≡ old.level_count
  pub attached : new.attached ≡ number
  pub shorts : new.shorts ≡ old.shorts
  pub longs : new.longs ≡ old.longs ++ number ∷ []
  pub met : new.met ≡ old.met
  pub pairs : new.pairs ≡ old.pairs
  pub watched : new.watched ≡ old.watched ++ first ∷ second ∷ []
  pub visited : new.visited ≡ old.visited

-- a clause of two literals is attached, which stand beside one another, and no visited step is of their variables
pub record IsPairLong (old new : TrailView) (number : ℕ) (first second : Literal) : Type 0 where
  pub variables : new.variables ≡ old.variables
  pub steps : new.steps ≡ old.steps
  pub level_count : new.level_count ≡ old.level_count
  pub attached : new.attached ≡ number
  pub shorts : new.shorts ≡ old.shorts
  pub longs : new.longs ≡ old.longs
  pub met : new.met ≡ old.met
  pub watched : new.watched ≡ old.watched
  pub pairs : AddsPair old.pairs new.pairs first second number
  pub fewer : new.visited ≤ old.visited
  pub first_open : HasNoStepOf (take new.visited new.steps) first
  pub second_open : HasNoStepOf (take new.visited new.steps) second

-- a later clause is a part of the last long one
pub record IsLastCovered (clauses : List (List Literal)) (trail : TrailView) : Type 0 where
  pub some : 0 < length trail.longs
  pub covered : IsCovered clauses (get_or trail.longs (length trail.longs - 1) 0)

-- nodes were taken out
pub record IsDropped (old new : TrailView) : Type 0 where
  pub variables : new.variables ≡ old.variables
  pub steps : new.steps ≡ old.steps
  pub level_count : new.level_count ≡ old.level_count
  pub attached : new.attached ≡ old.attached

-- the last long clause has no nodes any more
abbrev pub without_last : TrailView → TrailView
without_last trail = record trail {
  longs = take (length trail.longs - 1) trail.longs;
  watched = take (length trail.watched - 2) trail.watched;
}

-- no clause is attached, and no variable has a value
abbrev pub empty_over : ℕ → PairsView → TrailView
empty_over variables pairs = record {
  variables = variables;
  steps = [];
  level_count = 0;
  attached = 0;
  shorts = [];
  longs = [];
  met = 0;
  watched = [];
  pairs = pairs;
  visited = 0;
}

-- no clause is attached, nothing stands beside a literal, and no variable has a value
pub record IsEmptyOver (variables : ℕ) (trail : TrailView) : Type 0 where
  pub pairs : PairsView
  pub none : AreNone pairs
  pub is : trail ≡ empty_over variables pairs

-- every clause of a kernel is attached, and no variable has a value
pub record IsNew (trail : TrailView) (kernel : KernelView) : Type 0 where
  pub steps : trail.steps ≡ []
  pub level_count : trail.level_count ≡ 0
  pub attached : trail.attached ≡ length kernel.entries

-- a step that propagation made at this level
abbrev pub IsPropagatedAt : ℕ → Step → Type 0
IsPropagatedAt level step = (step.level ≡ level) × (reason : ℕ) × (step.reason ≡ Some reason)

-- The steps before are a front of those after, each new one has a reason and the last level, and the levels and what is
-- attached are as before.
pub record IsPropagated (old new : TrailView) : Type 0 where
  pub more : List Step
  pub steps : new.steps ≡ old.steps ++ more
  pub each : AllByRecursion (IsPropagatedAt old.level_count) more
  pub variables : new.variables ≡ old.variables
  pub level_count : new.level_count ≡ old.level_count
  pub attached : new.attached ≡ old.attached

-- One clause more is attached. The steps before are a front of those after, each new one has a reason and the last level, and the
-- levels are as before.
pub record IsAttachedOver (old new : TrailView) : Type 0 where
  pub more : List Step
  pub steps : new.steps ≡ old.steps ++ more
  pub each : AllByRecursion (IsPropagatedAt old.level_count) more
  pub variables : new.variables ≡ old.variables
  pub level_count : new.level_count ≡ old.level_count
  pub attached : new.attached ≡ old.attached + 1

-- the clause of this number is false
abbrev pub IsFailedClause : List (List Literal) → List Step → ℕ → Type 0
IsFailedClause clauses steps number = (clause : List Literal) × IsNumbered clauses number clause × IsFailed (values_of steps) clause
