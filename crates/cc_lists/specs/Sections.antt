-- A section of a log: its steps, the rows that they tell, and its lines.
use Rattle.std.specs.Prelude.{ℕ, List, ◌++◌, map, flat_map, Option, None}
use Rattle.cc_defs.specs.declared.log.EndWord.{EndWord}
use Rattle.cc_defs.specs.declared.log.LogLine.{LogLine}
use Rattle.cc_defs.specs.declared.log.LogLine.TheVariants as lines
use Rattle.cc_defs.specs.Runs.{Step, Derive, Tell, Section, optional, row_told}

abbrev pub section_of : List Step → Option (List ℕ) → Option EndWord → Section
section_of steps last word = record { steps = steps; last = last; word = word }

-- one that has not ended
abbrev pub open_section : List Step → Section
open_section steps = section_of steps None None

-- the rows that steps tell
abbrev pub rows_in : List Step → List (List ℕ)
rows_in steps = flat_map row_told steps

abbrev pub step_line : Step → LogLine
step_line (Derive clause chain) = lines.Derived clause chain
step_line (Tell row) = lines.Block row

-- the lines of a section, its heading aside
abbrev pub section_lines : Section → List LogLine
section_lines section = map step_line section.steps ++ map lines.End (optional section.word)
