-- What it means that a log is accepted, whoever wrote it.
use Rattle.std.specs.Prelude.{◌≡◌, ◌≤◌, ℕ, List, IsNone, IsSome, None, Contains}
use Rattle.cc_corollaries.specs.Corollaries.{AllMeetIt, MeetsThem, NoneMeetsThem}
use Rattle.cc_corollaries.specs.Ran.{AskedToCheck, AskedToCheckForEver, AskedToCheckGenerally, AskedToCheckModels, AskedToCheckSure}
use Rattle.cc_defs.specs.declared.lists.Key.{Key}
use Rattle.cc_defs.specs.declared.log.LogVerdict.TheVariants as verdicts
use Rattle.cc_defs.specs.Description.{Description}
use Rattle.cc_defs.specs.Histories.{IsHistory}
use Rattle.cc_defs.specs.LogTexts.{lines_in}
use Rattle.cc_defs.specs.Resolved.{Query}
use Rattle.cc_defs.specs.Runs.{range_of}
use Rattle.cc_dimacs.specs.Cnfs.{PlainCnf, IsModelOf}
use Rattle.cc_judge.specs.Judging.{IsBlockedIn}
use Rattle.cc_ports.specs.Contents.{Contents}
use Rattle.cc_print.specs.Verdicts.{verdict_line}
use Rattle.cc_silent.specs.declared.sure.AtomHeading.{AtomHeading}
use Rattle.cc_silent.specs.GeneralLogs.{IsRivalsHeading}
use Rattle.cc_silent.specs.Sought.{HasValue}
use Rattle.cc_silent.specs.SureLogs.{IsAtomHeading}
use Rattle.cc_tell.specs.declared.status.Status.TheVariants as statuses
use Rattle.cc_wide.specs.WideLaws.{WideDescription}
use Rattle.cc_wide.specs.WideRules.{IsGeneral}

-- Check mode, code 0: the horizons that are told have no other histories than those which the log blocks, by a line of its own each.
abbrev pub AcceptedMeansNoOthers : Type 0
AcceptedMeansNoOthers = (d : Description) (q : Query) (bytes : List ℕ) (after : Contents) → AskedToCheck d q bytes statuses.Right after →
    (first last blocked : ℕ) × (after.out ≡ verdict_line (verdicts.Accepted first last blocked))
    × ((horizon : ℕ) (row : List ℕ) → first ≤ horizon → horizon ≤ last → IsHistory d q horizon None row → IsBlockedIn bytes horizon row)

-- Forevercheck mode, code 0: from the least horizon of the range on, without an end, each path that meets the conditions meets the claim,
-- or where there is no claim, none meets them.
abbrev pub AcceptedMeansForEver : Type 0
AcceptedMeansForEver = (d : Description) (q : Query) (after : Contents) → AskedToCheckForEver d q statuses.Right after →
    (horizon : ℕ) → (range_of q).0 ≤ horizon → (IsSome q.claim → AllMeetIt d q horizon) × (IsNone q.claim → NoneMeetsThem d q horizon)

-- Surecheck mode, code 0: no path that meets the conditions has a value that a heading of the log names.
abbrev pub AcceptedMeansImpossible : Type 0
AcceptedMeansImpossible = (d : Description) (q : Query) (bytes : List ℕ) (after : Contents) → AskedToCheckSure d q bytes statuses.Right after →
    (line : List ℕ) (named : AtomHeading) → Contains (lines_in bytes) line → IsAtomHeading line named →
    (row : List ℕ) → MeetsThem d q named.horizon row → HasValue named.position named.value row → ⊥

-- Generalcheck mode, code 0: each row that a heading of the log names is a model that meets the query.
abbrev pub AcceptedMeansModels : Type 0
AcceptedMeansModels = (w : WideDescription) (q : Query) (bytes : List ℕ) (after : Contents) → AskedToCheckGenerally w q bytes statuses.Right after →
    (line : List ℕ) (named : Key) → Contains (lines_in bytes) line → IsRivalsHeading line named → IsGeneral w q named.horizon named.row

-- Modelscheck mode, code 0: the CNF has no other models than those which the log blocks.
abbrev pub AcceptedMeansNoOtherModels : Type 0
AcceptedMeansNoOtherModels = (cnf : PlainCnf) (bytes : List ℕ) (after : Contents) → AskedToCheckModels cnf bytes statuses.Right after →
    (model : List ℕ) → IsModelOf cnf model → IsBlockedIn bytes 0 model
