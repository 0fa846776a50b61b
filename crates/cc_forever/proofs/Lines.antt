-- The text of a log of an induction is read line by line, and no line within a section is a heading.
use Rattle.std.proofs.Common.{◌≡◌, ◌∙◌, ℕ, List, [], ◌∷◌, ◌++◌, map, flat_map, get_or, decimal, codes, refl, sym, ap, arith, append_assoc}
use Rattle.std.specs.List.{AllByRecursion}
use Rattle.cc_defs.specs.declared.log.LogLine.{LogLine}
use Rattle.cc_defs.specs.LogTexts.{IsFormed, IsShort, line_text, lines_in}
use Rattle.cc_defs.specs.Runs.{Section}
use Rattle.cc_forever.specs.ForeverTold.{section_text}
use Rattle.cc_lists.proofs.AcceptedLines.{IsWithin, cut, digits, letter, letter_within, lines_cut}
use Rattle.cc_lists.proofs.Members.{all_map}
use Rattle.cc_lists.specs.Sections.{section_lines}
use Rattle.cc_silent.specs.ForeverLogs.{IsForeverHeading, forever_heading, number_in}
use Rattle.cc_silent.specs.declared.forever.ForeverHeading.{ForeverHeading}
use Rattle.cc_silent.specs.declared.forever.ForeverHeading.TheVariants as headings

heading_cut : (heading : ForeverHeading) (rest : List ℕ) → IsShort (number_in heading) → lines_in (forever_heading heading ++ rest) ≡ forever_heading heading ∷ lines_in rest
heading_cut (headings.Horizon horizon) rest short =
    ap lines_in (append_assoc (codes "h " ++ decimal horizon) (10 ∷ []) rest) ∙ cut (codes "h " ++ decimal horizon) rest (refl, (refl, digits horizon short))
heading_cut (headings.Steps steps) rest short =
    ap lines_in (append_assoc (codes "i " ++ decimal steps) (10 ∷ []) rest) ∙ cut (codes "i " ++ decimal steps) rest (refl, (refl, digits steps short))

-- the text of a section and what is behind it
pub section_cut : (heading : ForeverHeading) (section : Section) (rest : List ℕ) → IsShort (number_in heading) → AllByRecursion IsFormed (section_lines section) →
    lines_in (section_text heading section ++ rest) ≡ forever_heading heading ∷ (map line_text (section_lines section) ++ lines_in rest)
section_cut heading section rest short formed =
    let inside = flat_map line_text (section_lines section) in
    ap lines_in (append_assoc (forever_heading heading) inside rest) ∙ heading_cut heading (inside ++ rest) short
    ∙ ap (λ (texts : List (List ℕ)). forever_heading heading ∷ texts) (lines_cut (section_lines section) rest formed)

-- a text that is no heading
abbrev IsNoHeading : List ℕ → Type 0
IsNoHeading text = (heading : ForeverHeading) → IsForeverHeading text heading → ⊥

-- a line within a section begins with another letter than a heading
unread : (line : LogLine) → IsWithin line → IsNoHeading (line_text line)
unread line within (headings.Horizon horizon) is =
    let first = sym (letter line) ∙ ap (λ (t : List ℕ). get_or t 0 0) is.spelled in let low = letter_within line within in omega arith
unread line within (headings.Steps steps) is =
    let first = sym (letter line) ∙ ap (λ (t : List ℕ). get_or t 0 0) is.spelled in let low = letter_within line within in omega arith

pub all_unread : (all : List LogLine) → AllByRecursion IsWithin all → AllByRecursion IsNoHeading (map line_text all)
all_unread all within = all_map IsNoHeading IsWithin line_text unread all within
