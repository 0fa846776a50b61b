-- The clauses of a section: those of its form, and behind them its own.
use Rattle.std.specs.Prelude.{◌≡◌, ℕ, ◌+◌, ◌≤◌, ◌⊎◌, Bool, List, [], ◌++◌, ◌∷◌, length, Contains}
use Rattle.std.specs.Bool.{MatchBool}
use Rattle.std.specs.List.{AllByRecursion}
use Rattle.cc_defs.specs.declared.log.Cause.{Cause}
use Rattle.cc_defs.specs.declared.log.Cause.TheVariants as causes
use Rattle.cc_defs.specs.Clauses.{Literal, IsClause, IsOver, IsNumbered, IsResolvent, Reaches}
use Rattle.cc_defs.specs.declared.log.EndWord.{EndWord}
use Rattle.cc_defs.specs.declared.log.Version.{Version}
use Rattle.cc_defs.specs.declared.log.Version.TheVariants.{First}
use Rattle.cc_defs.specs.Sections.{Axioms, Finding, Reading, Right, Trailed, Wrong, HasNoEmpty, IsWrongly, IsFound, IsEnded}
use Rattle.cc_check.specs.declared.judge.Finding.{Finding as Found}
use Rattle.cc_check.specs.declared.judge.Finding.TheVariants as findings
use Rattle.cc_check.specs.declared.judge.Pass.{Pass}
use Rattle.cc_check.specs.declared.judge.Pass.TheVariants as passes
use Rattle.cc_check.specs.declared.judge.Verdict.{Verdict}
use Rattle.cc_check.specs.declared.judge.Verdict.TheVariants as verdicts
use Rattle.cc_check.specs.Texts.{AreTexts, IsFirstText}

-- a clause over the variables
abbrev pub IsClauseOver : ℕ → List Literal → Type 0
IsClauseOver variables clause = IsClause clause × IsOver variables clause

abbrev pub AreClausesOver : ℕ → List (List Literal) → Type 0
AreClausesOver variables clauses = AllByRecursion (IsClauseOver variables) clauses

-- no clause is the resolvent of two on this variable
abbrev pub HaveNoResolvent : List Literal → List Literal → ℕ → Type 0
HaveNoResolvent a b pivot = (r : List Literal) → IsResolvent a b pivot r → ⊥

-- a chain reaches no clause
abbrev pub ReachesNothing : List (List Literal) → List ℕ → Type 0
ReachesNothing clauses chain = (reached : List Literal) → Reaches clauses chain reached → ⊥

-- What is known of a section's own clauses, and whether one of all clauses is empty.
pub record AreSound (axioms : Axioms) (own : List (List Literal)) (refuted : Bool) : Type 0 where
  pub clauses : AreClausesOver axioms.variables own
  pub empty : MatchBool refuted (Contains (axioms.clauses ++ own) []) (HasNoEmpty (axioms.clauses ++ own))

-- What a line leaves of a section's own clauses and of its blocks: they are sound still, and there is one more of each at most.
pub record IsLeft (axioms : Axioms) (own : List (List Literal)) (blocks : ℕ) (after : List (List Literal)) (count : ℕ) (refuted : Bool) : Type 0 where
  pub sound : AreSound axioms after refuted
  pub counted : count ≤ blocks + 1
  pub grown : length after ≤ length own + 1

-- why a derived line is not right behind these clauses
abbrev pub IsWrongDerived : Axioms → List (List Literal) → List Literal → List ℕ → Cause → Type 0
IsWrongDerived axioms before clause chain cause =
    (Contains before [] × (cause ≡ causes.Section)) ⊎ (HasNoEmpty before × IsWrongly axioms before clause chain cause)

-- a derived line is right behind these clauses
pub record IsRightDerived (axioms : Axioms) (before : List (List Literal)) (clause : List Literal) (chain : List ℕ) : Type 0 where
  pub open_still : HasNoEmpty before
  pub clause_over : IsClauseOver axioms.variables clause
  pub reached : Reaches before chain clause

-- what a step of resolution leaves in the stage: the resolvent with the clause of a number, or there is none
abbrev pub IsStep : List (List Literal) → ℕ → List Literal → ℕ → ℕ → Bool → List Literal → Type 0
IsStep clauses variables from pivot number done next =
    (other : List Literal) × IsNumbered clauses number other
    × MatchBool done (IsResolvent from other pivot next × IsClauseOver variables next) (HaveNoResolvent from other pivot)

-- ---- a line of a section, and the section

-- How the lines of a section are read as text, with blocks or without.
abbrev pub as_text : (blocks : Bool) → Reading
as_text blocks = record { version = First; blocks = blocks }

abbrev pub reading_as : Version → (blocks : Bool) → Reading
reading_as version blocks = record { version = version; blocks = blocks }

-- What a line does behind these clauses and blocks: the next lines go on behind more, or it ends the section, or it is wrong.
abbrev pub IsPassed : Reading → Axioms → List (List Literal) → ℕ → List ℕ → Pass → List (List Literal) → ℕ → Type 0
IsPassed reading axioms own blocks text passes.Goes after count =
    (line : ℕ) (texts : List (List ℕ)) (finding : Finding) → IsFound reading axioms (axioms.clauses ++ after) count (line + 1) texts finding →
    IsFound reading axioms (axioms.clauses ++ own) blocks line (text ∷ texts) finding
IsPassed reading axioms own blocks text (passes.Ends word) after count =
    (line : ℕ) (texts : List (List ℕ)) (finding : Finding) → IsEnded reading.version word count line texts finding →
    IsFound reading axioms (axioms.clauses ++ own) blocks line (text ∷ texts) finding
IsPassed reading axioms own blocks text (passes.Wrong cause) after count =
    (line : ℕ) (texts : List (List ℕ)) → IsFound reading axioms (axioms.clauses ++ own) blocks line (text ∷ texts) (Wrong line cause)

-- A text stands at the front of bytes, and this is behind it; it does so.
pub record IsPassedAt (reading : Reading) (axioms : Axioms) (own : List (List Literal)) (blocks : ℕ) (bytes : List ℕ) (pass : Pass)
    (rest : List ℕ) (after : List (List Literal)) (count : ℕ) : Type 0 where
  pub text : List ℕ
  pub first : IsFirstText reading.version bytes text rest
  pub passed : IsPassed reading axioms own blocks text pass after count

-- what the lines of bytes are found to be, the same of all texts that they are
abbrev pub IsFoundInBytes : Reading → Axioms → (line : ℕ) → List ℕ → Finding → Type 0
IsFoundInBytes reading axioms line bytes finding =
    (texts : List (List ℕ)) → AreTexts reading.version bytes texts → IsFound reading axioms axioms.clauses 0 line texts finding

-- the same of what stands behind the end of a section
abbrev pub IsEndedInBytes : Version → EndWord → ℕ → ℕ → List ℕ → Finding → Type 0
IsEndedInBytes version word blocks line bytes finding =
    (texts : List (List ℕ)) → AreTexts version bytes texts → IsEnded version word blocks line texts finding

-- what a finding says
abbrev pub plain_finding : Found → Finding
plain_finding (findings.Right ending blocks line) = Right ending blocks line
plain_finding (findings.Trailed ending line cause) = Trailed ending line cause
plain_finding (findings.Wrong line cause) = Wrong line cause

-- there is a number for the line behind an end
abbrev pub HasLineBehind : Found → Type 0
HasLineBehind (findings.Right ending blocks line) = Unit {0}
HasLineBehind (findings.Trailed ending line _) = line ≤ 4000000000
HasLineBehind (findings.Wrong line _) = Unit {0}

-- What a section is judged to be by itself, whatever its end word allows: behind its end, the line there is the first wrong one.
abbrev pub IsVerdictOf : Finding → Verdict → Type 0
IsVerdictOf (Right ending blocks line) verdict = verdict ≡ verdicts.Right ending blocks line
IsVerdictOf (Trailed ending line cause) verdict = verdict ≡ verdicts.Refused (line + 1) cause
IsVerdictOf (Wrong line cause) verdict = verdict ≡ verdicts.Refused line cause
