-- One log in two versions: what is said of the one is said of the other.
use Rattle.std.specs.Prelude.{ℕ, Bool, List, [], ◌∷◌}
use Rattle.std.specs.List.{AllByRecursion}
use Rattle.cc_defs.specs.declared.log.LogLine.{LogLine}
use Rattle.cc_defs.specs.declared.log.LogVerdict.{LogVerdict}
use Rattle.cc_defs.specs.declared.log.LogVerdict.TheVariants as verdicts
use Rattle.cc_defs.specs.declared.log.Version.{Version}
use Rattle.cc_defs.specs.LogBytes.{HasNumbers, line_behind}
use Rattle.cc_defs.specs.LogTexts.{IsFormed}
use Rattle.cc_defs.specs.LogVersions.{AreSayable, counts_in, log_in, other_version, own_behind}
use Rattle.cc_defs.specs.Logs.{IsVerdict, Subject}

-- the entries of lines have numbers that can be written, once distances stand in place of the numbers of clauses
abbrev pub HaveEntries : (counts : Bool → ℕ → ℕ) → ℕ → List LogLine → Type 0
HaveEntries counts own [] = Unit {0}
HaveEntries counts own (line ∷ others) = HasNumbers (line_behind own line) × HaveEntries counts (own_behind counts own line) others

-- a verdict on lines that both versions can say is the same in either version
abbrev pub OtherVersionsAreJudgedAlike : Type 0
OtherVersionsAreJudgedAlike = (subject : Subject) (version : Version) (said : List LogLine) (verdict : LogVerdict) →
    AreSayable (counts_in subject) 1 said → HaveEntries (counts_in subject) 1 said →
    IsVerdict subject (log_in version (counts_in subject) said) verdict →
    IsVerdict subject (log_in (other_version version) (counts_in subject) said) verdict

-- an accepted log names earlier clauses alone: both versions can say its lines, where their numbers are within the bounds of both
abbrev pub AcceptedLogsAreSayable : Type 0
AcceptedLogsAreSayable = (subject : Subject) (version : Version) (said : List LogLine) (last blocked : ℕ) →
    AllByRecursion IsFormed said → AllByRecursion HasNumbers said → HaveEntries (counts_in subject) 1 said →
    IsVerdict subject (log_in version (counts_in subject) said) (verdicts.Accepted subject.first last blocked) → AreSayable (counts_in subject) 1 said
