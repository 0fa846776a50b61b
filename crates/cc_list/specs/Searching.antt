-- What all modes that search share: a run of the search, its limits, and what its log is worth.
use Rattle.std.specs.Prelude.{◌≡◌, ℕ, ◌<◌, ◌^◌, ◌≤◌, ◌⊎◌, Bool, true, false, List, [], length, map, Contains, Option, Some, None, is_some, IsNone}
use Rattle.std.specs.List.{AllByRecursion}
use Rattle.cc_defs.specs.declared.event.Ending.{Ending}
use Rattle.cc_defs.specs.declared.event.Ending.TheVariants as endings
use Rattle.cc_defs.specs.declared.event.Told.{Told}
use Rattle.cc_defs.specs.declared.event.Event.TheVariants as events
use Rattle.cc_defs.specs.declared.log.EndWord.TheVariants as words
use Rattle.cc_defs.specs.declared.log.LogLine.TheVariants as lines
use Rattle.cc_defs.specs.declared.refusal.LimitAt.TheVariants as limits
use Rattle.cc_defs.specs.declared.refusal.Refusal.{Refusal}
use Rattle.cc_defs.specs.Assignments.{HasOpen}
use Rattle.cc_defs.specs.Limits.{most_histories}
use Rattle.cc_defs.specs.LogTexts.{IsFormed}
use Rattle.cc_defs.specs.Logs.{IsAccepted}
use Rattle.cc_defs.specs.Refusals.{past}
use Rattle.cc_defs.specs.Runs.{Horizon, Histories, Conditions, Claim, Failure, Run, EndsWith, IsFairRun, axioms_of, events_of, first_horizon, horizon_at, last_horizon}
use Rattle.cc_defs.specs.Sections.{Axioms}
use Rattle.cc_lists.specs.Horizons.{opening_refusal}
use Rattle.cc_lists.specs.Subjects.{lines_of, subject_of}
use Rattle.cc_query.specs.Sessions.{TellsTooMany}
use Rattle.cc_list.specs.Tasks.{Task}
use Rattle.cc_list.specs.Wholes.{Whole}
use Rattle.cc_tell.specs.declared.status.Status.{Status}
use Rattle.cc_tell.specs.declared.status.Status.TheVariants as statuses
use Rattle.cc_tell.specs.ErrLines.{refusal_text}
use Rattle.cc_tell.specs.Statuses.{status_of}
use Rattle.cc_tell.specs.Manners.{Manner, out_told, log_told}

-- the events of a run of a task
abbrev pub told_by : Task → Run → List Told
told_by task run = events_of (first_horizon task.query task.ask.after) run

-- ---- limits at a horizon

-- the horizon that a run is at
abbrev pub horizon_of : Task → Run → ℕ
horizon_of task run = horizon_at (first_horizon task.query task.ask.after) run

-- The section that a run is to open next: the first of a horizon of the range, or that of a claim behind its conditions.
abbrev pub OpensNext : Task → Run → (conditions : Bool) → Option Horizon → Type 0
OpensNext task run conditions None =
    (conditions ≡ is_some task.query.claim) × (horizon_of task run ≤ last_horizon task.query task.ask.after)
OpensNext task run conditions (Some (Conditions section)) = (conditions ≡ false) × EndsWith words.Found section
OpensNext task run conditions (Some (Histories section)) = ⊥
OpensNext task run conditions (Some (Claim before claim)) = ⊥
OpensNext task run conditions (Some (Failure before claim row)) = ⊥

-- the limit that the rules, the variables or the clauses of this section pass first
pub record PassesOpening (task : Task) (run : Run) (refusal : Refusal) : Type 0 where
  pub conditions : Bool
  pub opens : OpensNext task run conditions run.next
  pub passed : opening_refusal task.description task.query task.ask (horizon_of task run) conditions ≡ Some refusal

-- so many histories were told at a horizon as its limit says, its section has not ended, and there is one more
abbrev pub PassesHistories : Task → Run → Refusal → Type 0
PassesHistories task run refusal = TellsTooMany task.description task.query task.ask run × (refusal ≡ past limits.Histories)

abbrev pub PassesLimit : Task → Run → Refusal → Type 0
PassesLimit task run refusal = PassesOpening task run refusal ⊎ PassesHistories task run refusal

-- What a search keeps to: each section that it tells was opened within the limits of rules, variables and clauses, and no horizon has
-- more histories told than their limit; the lines of its log have numbers of at most nine digits.
pub record KeepsLimits (task : Task) (told : List Told) : Type 0 where
  pub opened : (conditions : Bool) (horizon : ℕ) → Contains (lines_of told) (lines.Section conditions horizon) →
      opening_refusal task.description task.query task.ask horizon conditions ≡ None
  pub few : (horizon number : ℕ) → Contains (map (λ one. one.event) told) (events.History horizon number) → number ≤ most_histories
  pub formed : AllByRecursion IsFormed (lines_of told)

-- ---- what the log is worth

-- the horizons that a run reported to have no history, and nothing else of it
abbrev pub only_reported : Run → Run
only_reported run = record { done = run.done; next = None; ending = None }

-- the log that is written of a run
abbrev pub IsLogAccepted : Manner → Task → Run → Type 0
IsLogAccepted manner task run = IsAccepted (subject_of task.description task.query task.ask.after) (log_told manner (told_by task run))

-- A checker accepts the log up to the last horizon that was reported to have no history, and that of a complete listing.
pub record AreLogsAccepted (manner : Manner) (task : Task) (run : Run) : Type 0 where
  pub reported : 0 < length run.done → IsLogAccepted manner task (only_reported run)
  pub complete : (horizon listed : ℕ) → run.ending ≡ Some (endings.Complete horizon listed) → IsLogAccepted manner task run

-- the axioms of the last section that is told of a horizon
abbrev pub axioms_in : Task → ℕ → Horizon → Axioms
axioms_in task horizon (Histories section) = axioms_of task.description task.query task.ask.after false horizon
axioms_in task horizon (Conditions section) = axioms_of task.description task.query task.ask.after true horizon
axioms_in task horizon (Claim conditions claim) = axioms_of task.description task.query task.ask.after false horizon
axioms_in task horizon (Failure conditions claim row) = axioms_of task.description task.query task.ask.after false horizon

-- A budget that is spent is less than the power of 3 to the number of variables that the axioms of its section leave open.
abbrev pub IsSpentEarly : Task → Run → Type 0
IsSpentEarly task run = (at listed : ℕ) (next : Horizon) (opens : ℕ) → run.ending ≡ Some (endings.Spent at listed) → run.next ≡ Some next →
    HasOpen (axioms_in task at next).variables (axioms_in task at next).clauses opens → task.ask.budget < 3 ^ opens

-- ---- a run of the search

-- how a search ends: with its ending, or with the refusal of the limit that it passes; or it has not ended yet
abbrev pub EndsSo : Task → Run → (err : List ℕ) → Option Status → Type 0
EndsSo task run err None = err ≡ []
EndsSo task run err (Some status) =
    ((ending : Ending) × (run.ending ≡ Some ending) × (err ≡ []) × (status ≡ status_of ending))
    ⊎ ((refusal : Refusal) × IsNone run.ending × PassesLimit task run refusal × (err ≡ refusal_text refusal []) × (status ≡ statuses.Refused))

-- a run of the search: it tells the truth, and this is what it tells and how it ends
pub record IsTold (manner : Manner) (task : Task) (run : Run) (whole : Whole) : Type 0 where
  pub fair : IsFairRun task.description task.query task.ask run
  pub out : whole.given.out ≡ out_told manner task.description (told_by task run)
  pub log : whole.given.log ≡ log_told manner (told_by task run)
  pub limits : KeepsLimits task (told_by task run)
  pub accepted : AreLogsAccepted manner task run
  pub spent : IsSpentEarly task run
  pub ends : EndsSo task run whole.given.err whole.ends
