-- The line of a verdict on a log of silent sections, and its status.
use Rattle.std.specs.Prelude.{ℕ, List, [], ◌∷◌, ◌++◌, codes, decimal}
use Rattle.cc_check.specs.declared.silent.SilentVerdict.{SilentVerdict}
use Rattle.cc_check.specs.declared.silent.SilentVerdict.TheVariants as verdicts
use Rattle.cc_defs.specs.LogTexts.{cause_words}
use Rattle.cc_tell.specs.declared.status.Status.{Status}
use Rattle.cc_tell.specs.declared.status.Status.TheVariants as statuses

-- the line of a verdict, which says so of what an accepted log's sections are
abbrev pub silent_verdict_line : (counted : List ℕ) → SilentVerdict → List ℕ
silent_verdict_line counted (verdicts.Accepted sections) = codes "log accepted: " ++ counted ++ codes " " ++ decimal sections ++ 10 ∷ []
silent_verdict_line counted (verdicts.Refused line reason) = codes "log refused: line " ++ decimal line ++ codes ", " ++ cause_words reason ++ 10 ∷ []

abbrev pub silent_verdict_status : SilentVerdict → Status
silent_verdict_status (verdicts.Accepted sections) = statuses.Right
silent_verdict_status (verdicts.Refused line reason) = statuses.Not
