-- What the parts of conflict analysis do to a kernel and a trail.
use Rattle.std.specs.Prelude.{◌≡◌, ◌≢◌, ℕ, ◌+◌, ◌*◌, ◌≤◌, List, [], ◌++◌, length, Some}
use Rattle.std.specs.List.{AllByRecursion}
use Rattle.cc_defs.specs.Assignments.{IsEarned, IsFailed}
use Rattle.cc_defs.specs.Clauses.{Literal, IsClause, IsOver}
use Rattle.cc_kernel.specs.Kernels.{KernelView, clauses_of}
use Rattle.cc_trail.specs.declared.entries.Step.{Step}
use Rattle.cc_trail.specs.Steps.{steps_to, values_of}
use Rattle.cc_trail.specs.Trails.{TrailView, Fits, IsPropagatedAt, IsSettled}
use Rattle.cc_cdcl.specs.Analysis.{IsFinal, IsWalking}
use Rattle.cc_cdcl.specs.Solvers.{AddsDerived}

-- the staged clause is false by the steps in front of a place, and its chain has a pair for each step behind it at most
pub record IsDeriving (kernel : KernelView) (trail : TrailView) (place : ℕ) : Type 0 where
  pub clause : List Literal
  pub staged : kernel.staged ≡ Some clause
  pub walking : IsWalking trail.steps trail.level_count place clause
  pub within : place ≤ length trail.steps
  pub short : length kernel.chain + 2 * place ≤ 2 * length trail.steps + 1

-- The staged clause is what analysis derives, and false; its chain has a pair for each step behind a place at most.
pub record IsShortening (kernel : KernelView) (trail : TrailView) (place : ℕ) : Type 0 where
  pub clause : List Literal
  pub staged : kernel.staged ≡ Some clause
  pub failed : IsFailed (values_of trail.steps) clause
  pub final : IsFinal trail.steps trail.level_count clause
  pub within : place ≤ length trail.steps
  pub short : length kernel.chain + 2 * place ≤ 2 * length trail.steps + 1

-- the staged clause is what analysis derives
pub record IsDerived (kernel : KernelView) (trail : TrailView) : Type 0 where
  pub place : ℕ
  pub derivation : IsShortening kernel trail place

-- A trail went back to a level, steps that have a reason may have followed there, and all clauses of a kernel are attached to it.
pub record IsBackOver (old new : TrailView) (kernel : KernelView) : Type 0 where
  pub back : ℕ
  pub low : back ≤ old.level_count
  pub more : List Step
  pub variables : new.variables ≡ old.variables
  pub steps : new.steps ≡ steps_to back old.steps ++ more
  pub each : AllByRecursion (IsPropagatedAt back) more
  pub level_count : new.level_count ≡ back
  pub all : new.attached ≡ length kernel.entries
  pub fits : Fits new kernel
  pub settled : IsSettled new kernel

-- a clause was learned
pub record Learns (old new : KernelView) : Type 0 where
  pub clause : List Literal
  pub adds : AddsDerived old new clause
  pub is_clause : IsClause clause
  pub over : IsOver old.variables clause
  pub some : clause ≢ []
  pub earned : IsEarned (clauses_of old) clause
