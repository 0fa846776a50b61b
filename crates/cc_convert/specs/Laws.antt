-- What an accepted log says.
use Rattle.std.specs.Prelude.{◌≡◌, ◌≤◌, ℕ, List, length, Option}
use Rattle.cc_log.specs.Versions.{HaveEntries}
use Rattle.cc_defs.specs.declared.lists.Key.{Key}
use Rattle.cc_defs.specs.declared.log.LogLine.{LogLine}
use Rattle.cc_defs.specs.declared.log.LogVerdict.TheVariants as verdicts
use Rattle.cc_defs.specs.declared.log.Version.{Version}
use Rattle.cc_defs.specs.Description.{Description}
use Rattle.cc_defs.specs.Limits.{most_log_bytes}
use Rattle.cc_defs.specs.LogTexts.{IsShort}
use Rattle.cc_defs.specs.LogVersions.{AreSayable, counts_in, log_in}
use Rattle.cc_defs.specs.Resolved.{Query}
use Rattle.cc_defs.specs.Runs.{last_horizon}
use Rattle.cc_judge.specs.Judging.{IsVerdictWithin}
use Rattle.cc_lists.specs.Subjects.{subject_of}
use Rattle.cc_convert.specs.Saying.{AreSaid}

-- The lines of a log in a version: both versions can say them.
pub record SaysLines (d : Description) (q : Query) (key : Option Key) (bytes : List ℕ) : Type 0 where
  pub version : Version
  pub said : List LogLine
  pub lines : bytes ≡ log_in version (counts_in (subject_of d q key)) said
  pub each : AreSaid d q key 1 said
  pub sayable : AreSayable (counts_in (subject_of d q key)) 1 said
  pub entries : HaveEntries (counts_in (subject_of d q key)) 1 said

-- An accepted log has its lines, and both versions can say them, where its horizons have at most nine digits: version 2 may write
-- greater ones.
abbrev pub AcceptedLogsSayLines : Type 0
AcceptedLogsSayLines = (d : Description) (q : Query) (key : Option Key) (bytes : List ℕ) (first last blocked : ℕ) → length bytes ≤ most_log_bytes →
    IsShort (last_horizon q key) → IsVerdictWithin d q key bytes (verdicts.Accepted first last blocked) → SaysLines d q key bytes
