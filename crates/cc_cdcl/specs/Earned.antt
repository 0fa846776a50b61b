-- The lines of a section behind its axioms: clauses that were derived, and clauses that were given.
use Rattle.std.specs.Prelude.{ℕ, suc, List, [], ◌∷◌, ◌++◌}
use Rattle.cc_defs.specs.Assignments.{IsEarned}
use Rattle.cc_defs.specs.Clauses.{Literal, IsOver}

pub data Line : Type 0 where
  Derived : List Literal → Line
  Given : List Literal → Line

abbrev pub clause_of : Line → List Literal
clause_of (Derived clause) = clause
clause_of (Given clause) = clause

-- a derived line that is not empty is earned by the clauses before it
abbrev pub IsEarnedBehind : List (List Literal) → Line → Type 0
IsEarnedBehind before (Derived []) = Unit {0}
IsEarnedBehind before (Derived (literal ∷ literals)) = IsEarned before (literal ∷ literals)
IsEarnedBehind before (Given clause) = Unit {0}

-- so is each of these lines, one after another, and all are over the variables
abbrev pub AreEarnedBehind : ℕ → List (List Literal) → List Line → Type 0
AreEarnedBehind variables before [] = Unit {0}
AreEarnedBehind variables before (line ∷ lines) =
    IsOver variables (clause_of line) × IsEarnedBehind before line × AreEarnedBehind variables (before ++ clause_of line ∷ []) lines

-- how many derived lines are not empty
abbrev pub earned_count : List Line → ℕ
earned_count [] = 0
earned_count (Derived [] ∷ lines) = earned_count lines
earned_count (Derived (literal ∷ literals) ∷ lines) = suc (earned_count lines)
earned_count (Given clause ∷ lines) = earned_count lines
