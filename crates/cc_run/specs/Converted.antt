-- What is left of an accepted log that is told in its other version.
use Rattle.std.specs.Prelude.{◌≡◌, ◌≤◌, ℕ, List, [], length, Option}
use Rattle.cc_arena.specs.declared.ground_laws.GroundLaw.{GroundLaw}
use Rattle.cc_convert.specs.Laws.{SaysLines}
use Rattle.cc_convert.specs.Saying.{AreSaid, OpensWithin}
use Rattle.cc_defs.specs.declared.lists.Key.{Key}
use Rattle.cc_defs.specs.declared.log.LogLine.{LogLine}
use Rattle.cc_defs.specs.declared.log.Version.{Version}
use Rattle.cc_defs.specs.declared.log.LogVerdict.{LogVerdict}
use Rattle.cc_defs.specs.Description.{Description}
use Rattle.cc_defs.specs.GroundLaws.{PlainGroundQuery}
use Rattle.cc_defs.specs.Limits.{most_log_bytes}
use Rattle.cc_defs.specs.Logs.{IsVerdict}
use Rattle.cc_defs.specs.LogVersions.{lines_bytes, log_in, other_version}
use Rattle.cc_defs.specs.Resolved.{Query}
use Rattle.cc_defs.specs.Signatures.{Signature}
use Rattle.cc_judge.specs.Judging.{BlocksHistories, IsVerdictWithin}
use Rattle.cc_print.specs.Verdicts.{verdict_line}
use Rattle.cc_lists.specs.Subjects.{subject_of}
use Rattle.cc_list.specs.Asking.{AreOf}
use Rattle.cc_list.specs.Telling.{counts_of}
use Rattle.cc_tell.specs.Givens.{Given}

-- These lines are left, in this version; the own clause of the first has this number.
pub record AreLeft (d : Description) (q : Query) (key : Option Key) (version : Version) (own : ℕ) (bytes : List ℕ) (said : List LogLine) : Type 0 where
  pub spelled : bytes ≡ lines_bytes version (counts_of d q key) own said
  pub few : length bytes ≤ most_log_bytes
  pub each : AreSaid d q key own said

-- there are a description and a query with lines that are left
abbrev pub HasLeft : Signature → List GroundLaw → PlainGroundQuery → Option Key → Version → ℕ → List ℕ → Type 0
HasLeft signature laws query key version own bytes =
    (d : Description) × (q : Query) × (said : List LogLine) × AreOf signature laws query d q × AreLeft d q key version own bytes said

-- there are a description and a query whose section a heading opens
abbrev pub HasOpened : Signature → List GroundLaw → PlainGroundQuery → Option Key → LogLine → Type 0
HasOpened signature laws query key line = (d : Description) × (q : Query) × AreOf signature laws query d q × OpensWithin d q key line

-- ---- a log as a whole

-- the log of the same lines in the other version
abbrev pub other_said : (d : Description) (q : Query) (key : Option Key) (bytes : List ℕ) → SaysLines d q key bytes → List ℕ
other_said d q key bytes says = log_in (other_version says.version) (counts_of d q key) says.said

-- what is given where a log is accepted
abbrev pub converted_by : LogVerdict → List ℕ → Given
converted_by verdict other = record { out = verdict_line verdict; err = []; log = other }

-- This is the verdict on a log, and no section that is judged for it passes a limit; where it is accepted, it blocks each history of its
-- horizons.
pub record IsJudged (d : Description) (q : Query) (key : Option Key) (bytes : List ℕ) (verdict : LogVerdict) : Type 0 where
  pub few : length bytes ≤ most_log_bytes
  pub judged : IsVerdict (subject_of d q key) bytes verdict
  pub within : IsVerdictWithin d q key bytes verdict
  pub blocks : BlocksHistories d q key bytes verdict
