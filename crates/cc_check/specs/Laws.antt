-- What makes the reading of logs trustworthy.
use Rattle.std.specs.Prelude.{ℕ, false, List}
use Rattle.cc_defs.specs.declared.log.Cause.{Cause}
use Rattle.cc_defs.specs.declared.log.EndWord.TheVariants as words
use Rattle.cc_defs.specs.declared.log.LogVerdict.{LogVerdict}
use Rattle.cc_defs.specs.declared.log.LogVerdict.TheVariants as verdicts
use Rattle.cc_defs.specs.declared.log.Version.{Version}
use Rattle.cc_defs.specs.Logs.{SectionText, Subject, AreJudged, IsVerdict, at_first}
use Rattle.cc_clauses.specs.RowsOf.{IsRowOf}
use Rattle.cc_defs.specs.Sections.{Axioms, Right, IsFound}
use Rattle.cc_check.specs.Clauses.{reading_as}
use Rattle.cc_check.specs.Splits.{Parts, Misread, IsSplit}

-- a log that is misread is refused for that
abbrev pub MisreadsAreVerdicts : Type 0
MisreadsAreVerdicts = (subject : Subject) (bytes : List ℕ) (line : ℕ) (cause : Cause) → IsSplit bytes (Misread line cause) →
    IsVerdict subject bytes (verdicts.Refused line cause)

-- the verdict of the sections of a log is its verdict
abbrev pub SectionsGiveVerdicts : Type 0
SectionsGiveVerdicts = (subject : Subject) (bytes : List ℕ) (sections : List SectionText) (verdict : LogVerdict) → IsSplit bytes (Parts sections) →
    AreJudged subject (at_first subject) sections verdict → IsVerdict subject bytes verdict

-- where a section without blocks is right and ends with `empty`, its axioms have no row: resolution is sound
abbrev pub SilentSectionsHaveNoRows : Type 0
SilentSectionsHaveNoRows = (version : Version) (axioms : Axioms) (texts : List (List ℕ)) (line blocks last : ℕ) →
    IsFound (reading_as version false) axioms axioms.clauses 0 line texts (Right words.Empty blocks last) →
    (row : List ℕ) → IsRowOf axioms.sizes axioms.clauses row → ⊥
