-- What comes of the search for the least row of clauses.
use Rattle.std.specs.Prelude.{◌≡◌, ℕ, List, [], ◌∷◌, map, Option, Some, None}
use Rattle.std.specs.List.{AllByRecursion}
use Rattle.cc_clauses.specs.RowsOf.{IsRowOf}
use Rattle.cc_defs.specs.declared.log.EndWord.{EndWord}
use Rattle.cc_defs.specs.declared.log.EndWord.TheVariants as words
use Rattle.cc_defs.specs.declared.log.LogLine.{LogLine}
use Rattle.cc_defs.specs.Histories.{AreFirstOf}
use Rattle.cc_defs.specs.LogTexts.{IsFormed}
use Rattle.cc_defs.specs.Runs.{EndsWith, Section, Step, TellsRows, rows_of}
use Rattle.cc_defs.specs.Sections.{Axioms}
use Rattle.cc_lists.specs.Sections.{open_section, section_lines, step_line}
use Rattle.cc_lists.specs.Subjects.{AreGoodAxioms}
use Rattle.cc_search.specs.declared.least.Outcome.{Outcome}
use Rattle.cc_search.specs.declared.least.Outcome.TheVariants as outcomes
use Rattle.cc_search.specs.Searches.{SearchView, Stands}

-- A section that has told no row, ended with this word, whose lines are these; what it is over are clauses over their variables.
pub record IsEnded (axioms : Axioms) (budget : ℕ) (word : EndWord) (lines : List LogLine) : Type 0 where
  pub section : Section
  pub tells : TellsRows (IsRowOf axioms.sizes axioms.clauses) axioms (Some 1) budget section
  pub silent : rows_of section ≡ []
  pub ends : EndsWith word section
  pub lines_are : lines ≡ section_lines section
  pub formed : AllByRecursion IsFormed lines
  pub good : AreGoodAxioms axioms

-- the least row of the clauses was found; there is none; or the budget was spent before
abbrev pub IsOutcome : Axioms → (budget : ℕ) → Outcome → Type 0
IsOutcome axioms budget (outcomes.Found row) = AreFirstOf (IsRowOf axioms.sizes axioms.clauses) (row ∷ [])
IsOutcome axioms budget (outcomes.Empty lines) = IsEnded axioms budget words.Empty lines
IsOutcome axioms budget (outcomes.Spent lines) = IsEnded axioms budget words.Spent lines

-- ---- a search that goes on

-- it has told these lines, and no row
pub record HasTold (axioms : Axioms) (budget : ℕ) (search : SearchView) (lines : List LogLine) : Type 0 where
  pub steps : List Step
  pub stands : Stands axioms (Some 1) budget search (open_section steps)
  pub silent : rows_of (open_section steps) ≡ []
  pub lines_are : lines ≡ map step_line steps
  pub formed : AllByRecursion IsFormed lines
  pub good : AreGoodAxioms axioms

-- it has ended, or has told these lines so far
abbrev pub TellsOutcome : Axioms → (budget : ℕ) → SearchView → List LogLine → Option Outcome → Type 0
TellsOutcome axioms budget search lines None = HasTold axioms budget search lines
TellsOutcome axioms budget search lines (Some outcome) = IsOutcome axioms budget outcome
