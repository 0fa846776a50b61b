-- A run over candidates as one of those that are told event by event: what it is about, and what a turn of it says.
use Rattle.std.proofs.Common.{subst}
use Rattle.std.specs.Prelude.{◌≡◌, ℕ, Bool, true, false, IsNone, Option}
use Rattle.cc_defs.specs.Resolved.{Query}
use Rattle.cc_general.specs.Accepted.{IsWritableGeneral}
use Rattle.cc_general.specs.declared.turn.GeneralTurn.{GeneralTurn}
use Rattle.cc_general.specs.declared.turn.GeneralTurn.TheVariants as turns
use Rattle.cc_general.specs.GeneralRuns.{GeneralRun, IsFairGeneral}
use Rattle.cc_general.specs.Generals.{GeneralView, GoesOnBy, IsGeneralOf, Stands}
use Rattle.cc_wide.specs.WideLaws.{WideDescription}

-- a query of a description, how many histories are asked for, and the budget of each search
pub record GeneralSubject : Type 0 where
  pub description : WideDescription
  pub query : Query
  pub count : Option ℕ
  pub budget : ℕ

pub record IsAbout (general : GeneralView) (of : GeneralSubject) : Type 0 where
  pub general_of : IsGeneralOf general of.description of.query
  pub count : general.count ≡ of.count
  pub budget : general.budget ≡ of.budget

-- the run is fair, and what it told of its histories can be written
pub record IsRightRun (of : GeneralSubject) (run : GeneralRun) : Type 0 where
  pub fair : IsFairGeneral of.description of.query of.count of.budget run
  pub writable : IsWritableGeneral of.description of.query run

pub record StandsAt (general : GeneralView) (of : GeneralSubject) (run : GeneralRun) : Type 0 where
  pub stands : Stands of.description of.query general run
  pub writable : IsWritableGeneral of.description of.query run

pub fair_as : (general : GeneralView) (of : GeneralSubject) (run : GeneralRun) → IsAbout general of → IsFairGeneral of.description of.query general.count general.budget run →
    IsFairGeneral of.description of.query of.count of.budget run
fair_as general of run about fair =
    subst (λ (budget : ℕ). IsFairGeneral of.description of.query of.count budget run) about.budget
    (subst (λ (count : Option ℕ). IsFairGeneral of.description of.query count general.budget run) about.count fair)

pub right_run : (general : GeneralView) (of : GeneralSubject) (run : GeneralRun) → IsAbout general of → StandsAt general of run → IsRightRun of run
right_run general of run about at = record { fair = fair_as general of run about at.stands.fair; writable = at.writable }

-- a run ends with this turn
abbrev pub is_last : GeneralTurn → Bool
is_last (turns.NoHistory horizon) = false
is_last (turns.History horizon number row lines) = false
is_last (turns.Ended ending) = true
is_last (turns.Spent horizon listed rivals_of lines) = true

-- with this turn a run that has not ended goes on to the other one
pub record Steps (of : GeneralSubject) (run : GeneralRun) (turn : GeneralTurn) (after : GeneralRun) : Type 0 where
  pub open_yet : IsNone run.ending
  pub goes : GoesOnBy of.query run turn after
