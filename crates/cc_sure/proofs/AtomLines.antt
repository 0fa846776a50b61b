-- The text of a log of impossible atoms is read line by line, and no line within a section is a heading.
use Rattle.std.proofs.Common.{◌≡◌, ◌∙◌, ℕ, List, [], ◌∷◌, ◌++◌, map, get_or, decimal, codes, refl, sym, ap, arith, append_assoc}
use Rattle.std.specs.List.{AllByRecursion}
use Rattle.cc_defs.specs.declared.log.LogLine.{LogLine}
use Rattle.cc_defs.specs.declared.log.LogLine.TheVariants as lines
use Rattle.cc_defs.specs.LogTexts.{IsShort, line_text, lines_in}
use Rattle.cc_lists.proofs.AcceptedLines.{HasNoFeed, IsNoFeed, IsWithin, cut, digits, letter, letter_of}
use Rattle.cc_lists.proofs.Members.{all_append, all_map}
use Rattle.cc_silent.specs.declared.sure.AtomHeading.{AtomHeading}
use Rattle.cc_silent.specs.SureLogs.{IsAtomHeading, atom_heading}

pub heading_cut : (horizon position value : ℕ) (rest : List ℕ) → IsShort horizon → IsShort position → IsShort value →
    lines_in (atom_heading horizon position value ++ rest) ≡ atom_heading horizon position value ∷ lines_in rest
heading_cut horizon position value rest at in_row at_value =
    let first = codes "a " ++ decimal horizon ++ codes " " in
    let second = first ++ decimal position ++ codes " " in
    let first_has : HasNoFeed first = all_append IsNoFeed (codes "a " ++ decimal horizon) (32 ∷ []) (refl, (refl, digits horizon at)) (refl, tt) in
    let front_has : HasNoFeed (first ++ decimal position) = all_append IsNoFeed first (decimal position) first_has (digits position in_row) in
    let second_has : HasNoFeed second = all_append IsNoFeed (first ++ decimal position) (32 ∷ []) front_has (refl, tt) in
    ap lines_in (append_assoc (second ++ decimal value) (10 ∷ []) rest)
    ∙ cut (second ++ decimal value) rest (all_append IsNoFeed second (decimal value) second_has (digits value at_value))

-- a text that is no heading
abbrev pub IsNoHeading : List ℕ → Type 0
IsNoHeading text = (heading : AtomHeading) → IsAtomHeading text heading → ⊥

-- a line within a section begins with another letter than a heading
not_heading : (line : LogLine) → IsWithin line → letter_of line ≡ 97 → ⊥
not_heading (lines.Section conditions horizon) within is = absurd within
not_heading (lines.Derived clause chain) within is = omega arith
not_heading (lines.Block row) within is = omega arith
not_heading (lines.End word) within is = omega arith

unread : (line : LogLine) → IsWithin line → IsNoHeading (line_text line)
unread line within heading is = not_heading line within (sym (letter line) ∙ ap (λ (t : List ℕ). get_or t 0 0) is.spelled)

pub all_unread : (all : List LogLine) → AllByRecursion IsWithin all → AllByRecursion IsNoHeading (map line_text all)
all_unread all within = all_map IsNoHeading IsWithin line_text unread all within
