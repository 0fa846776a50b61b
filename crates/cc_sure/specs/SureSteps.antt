-- A run on certain and possible atoms as one of those that are told event by event: what it is about, and what a step of it says.
use Rattle.std.proofs.Common.{subst}
use Rattle.std.specs.Prelude.{◌≡◌, ◌++◌, ◌∷◌, [], ℕ, Bool, true, false, IsNone, Some, is_some, length, slice_get}
use Rattle.cc_defs.specs.Description.{Description}
use Rattle.cc_defs.specs.Resolved.{Query}
use Rattle.cc_defs.specs.Rows.{IsRow}
use Rattle.cc_defs.specs.Signatures.{Signature}
use Rattle.cc_form.specs.Places.{position_sizes}
use Rattle.cc_sure.specs.Accepted.{IsWritableRun}
use Rattle.cc_sure.specs.SureRuns.{IsFairSure, SureRun, sure_horizon}
use Rattle.cc_sure.specs.Sures.{IsFewTurn, IsShortTurn, IsSureOf, IsSureTurn, Stands, SureView}
use Rattle.cc_sure.specs.SureTold.{SureTold, sure_told}
use Rattle.cc_sure.specs.declared.turn.SureStep.{SureStep}
use Rattle.cc_sure.specs.declared.turn.SureTurn.{SureTurn}
use Rattle.cc_sure.specs.declared.turn.SureTurn.TheVariants as turns

-- a query of a description, and the budget of each search
pub record SureSubject : Type 0 where
  pub description : Description
  pub query : Query
  pub budget : ℕ

pub record IsAbout (sure : SureView) (of : SureSubject) : Type 0 where
  pub sure_of : IsSureOf sure of.description of.query
  pub budget : sure.budget ≡ of.budget

-- the run is fair, and what it told can be written
pub record IsRightRun (of : SureSubject) (run : SureRun) : Type 0 where
  pub fair : IsFairSure of.description of.query of.budget run
  pub writable : IsWritableRun of.description of.query run

pub record StandsAt (sure : SureView) (of : SureSubject) (run : SureRun) : Type 0 where
  pub stands : Stands of.description of.query sure run
  pub writable : IsWritableRun of.description of.query run

pub right_run : (sure : SureView) (of : SureSubject) (run : SureRun) → IsAbout sure of → StandsAt sure of run → IsRightRun of run
right_run sure of run about at = record {
  fair = subst (λ (budget : ℕ). IsFairSure of.description of.query budget run) about.budget at.stands.fair;
  writable = at.writable;
}

-- a run ends with this turn
abbrev pub is_last : SureTurn → Bool
is_last (turns.NoHistory horizon) = false
is_last (turns.Example number row) = false
is_last (turns.Impossible position value lines) = false
is_last (turns.Answers position answers) = false
is_last turns.Complete = true
is_last turns.NoneAtAll = true
is_last (turns.Spent atom lines) = true

-- with this step a run that has not ended goes on to the other one
pub record Steps (of : SureSubject) (run : SureRun) (step : SureStep) (after : SureRun) : Type 0 where
  pub open_yet : IsNone run.ending
  pub told : SureTold
  pub is : IsSureTurn step.turn told
  pub all : sure_told of.query after ≡ sure_told of.query run ++ told ∷ []
  pub horizon : step.horizon ≡ sure_horizon of.query after
  pub ended : is_some after.ending ≡ is_last step.turn

-- its row is one of the horizon, and a position has as many values as answers
abbrev pub IsOfHorizon : Signature → (horizon : ℕ) → SureTurn → Type 0
IsOfHorizon signature horizon (turns.Example number row) = IsRow (position_sizes signature horizon) row
IsOfHorizon signature horizon (turns.Answers position answers) = slice_get (position_sizes signature horizon) position ≡ Some (length answers)
IsOfHorizon signature horizon turn = Unit {0}

-- it can be printed
pub record IsFitStep (signature : Signature) (step : SureStep) : Type 0 where
  pub short : IsShortTurn step.turn
  pub few : IsFewTurn step.turn
  pub rows : IsOfHorizon signature step.horizon step.turn
