-- A fair section that tells no row, and ends with `empty`, is found right.
use Rattle.std.proofs.Common.{◌≡◌, ℕ, ◌+◌, inl, inr, false, List, [], ◌∷◌, ◌++◌, map, flat_map, Option, refl, sym, subst, ap}
use Rattle.std.specs.Prelude.{IfSome}
use Rattle.std.specs.List.{AllByRecursion}
use Rattle.cc_defs.specs.declared.log.EndWord.{EndWord}
use Rattle.cc_defs.specs.declared.log.EndWord.TheVariants as words
use Rattle.cc_defs.specs.declared.log.LogLine.{LogLine}
use Rattle.cc_defs.specs.declared.log.LogLine.TheVariants as lines
use Rattle.cc_defs.specs.declared.log.Version.TheVariants.{First}
use Rattle.cc_defs.specs.Clauses.{Literal}
use Rattle.cc_defs.specs.LogTexts.{IsFormed, line_text}
use Rattle.cc_defs.specs.Runs.{Section, Step, Derive, Tell, AreFairSteps, EndsWith, IsFairSection, optional, row_told, rows_of}
use Rattle.cc_defs.specs.Sections.{Axioms, IsFound, Right, EndsRightly}
use Rattle.cc_lists.specs.Sections.{section_lines, step_line}
use Rattle.cc_lists.specs.Subjects.{AreGoodAxioms}
use Rattle.cc_lists.proofs.AcceptedLines.{IsWithin, read_back}
use Rattle.cc_lists.proofs.AcceptedSections.{IsGoodClause, good_both, good_resolved, reached}
use Rattle.cc_lists.proofs.Members.{all_append}

-- the lines of such a section
abbrev empty_lines : List Step → List LogLine
empty_lines steps = map step_line steps ++ lines.End words.Empty ∷ []

lines_are : (section : Section) → EndsWith words.Empty section → section_lines section ≡ empty_lines section.steps
lines_are section ends = ap (λ (word : Option EndWord). map step_line section.steps ++ map lines.End (optional word)) ends

all_within : (steps : List Step) → AllByRecursion IsWithin (empty_lines steps)
all_within [] = (tt, tt)
all_within (Derive clause chain ∷ steps) = (tt, all_within steps)
all_within (Tell row ∷ steps) = (tt, all_within steps)

-- without blocks, at some line
abbrev pub IsFoundEmpty : Axioms → List (List Literal) → (line : ℕ) → List (List ℕ) → Type 0
IsFoundEmpty axioms before line texts =
    (last : ℕ) × IsFound (record { version = First; blocks = false }) axioms before 0 line texts (Right words.Empty 0 last)

found_empty : (axioms : Axioms) (steps : List Step) (more : List (List ℕ)) (before after : List (List Literal)) (line : ℕ) →
    AllByRecursion (IsGoodClause axioms.variables) before → flat_map row_told steps ++ more ≡ [] → AreFairSteps axioms.sizes before steps after →
    AllByRecursion IsFormed (empty_lines steps) → EndsRightly after words.Empty → IsFoundEmpty axioms before line (map line_text (empty_lines steps))
found_empty axioms [] more before after line good silent fair formed ends = (
  line,
  inr (lines.End words.Empty, read_back (lines.End words.Empty) formed.0, inl (subst (λ (w : List (List Literal)). EndsRightly w words.Empty) fair ends, refl)),
)
found_empty axioms (Derive clause chain ∷ steps) more before after line good silent (none, fair_line, fair) formed ends =
    let is_good = reached (IsGoodClause axioms.variables) (good_resolved axioms.variables) before good chain clause fair_line.reached in
    let (last, found) = found_empty axioms steps more (before ++ clause ∷ []) after (line + 1)
    (all_append (IsGoodClause axioms.variables) before (clause ∷ []) good (is_good, tt)) silent fair formed.1 ends in (
      last,
      inr (lines.Derived clause chain, read_back (lines.Derived clause chain) formed.0, inr (inr (none, is_good.0, is_good.1, fair_line.reached, found))),
    )
found_empty axioms (Tell row ∷ steps) more before after line good silent fair formed ends = absurd cc

module _ (section : Section) (ends : EndsWith words.Empty section) where
  pub lines_within : AllByRecursion IsWithin (section_lines section)
  lines_within = subst (AllByRecursion IsWithin) (sym (lines_are section ends)) (all_within section.steps)

  pub section_found : (axioms : Axioms) (budget line : ℕ) → IsFairSection axioms budget section → rows_of section ≡ [] → AreGoodAxioms axioms →
      AllByRecursion IsFormed (section_lines section) → IsFoundEmpty axioms axioms.clauses line (map line_text (section_lines section))
  section_found axioms budget line fair silent good formed =
      let are = lines_are section ends in
      subst (λ (all : List LogLine). IsFoundEmpty axioms axioms.clauses line (map line_text all)) (sym are)
      (found_empty axioms section.steps (optional section.last) axioms.clauses fair.clauses line
      (good_both axioms.variables axioms.clauses good.clauses good.over) silent fair.steps
      (subst (AllByRecursion IsFormed) are formed) (subst (λ (word : Option EndWord). IfSome word (EndsRightly fair.clauses)) ends fair.ends))
