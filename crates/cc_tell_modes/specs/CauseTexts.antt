-- The lines that say why the positions of a row have their values.
use Rattle.std.specs.Prelude.{ℕ, List, [], ◌∷◌, ◌++◌, codes, decimal, flat_map, length, slice_get, slice_index, slice_index_or, Option, Some, None}
use Rattle.cc_defs.specs.Description.{Description}
use Rattle.cc_defs.specs.Resolved.{BaseLaw, One, NoConcurrency}
use Rattle.cc_defs.specs.Rules.{upto}
use Rattle.cc_print.specs.Atoms.{atom_text}
use Rattle.cc_why.specs.declared.cause.Cause.{Cause}
use Rattle.cc_why.specs.declared.cause.Cause.TheVariants as causes
use Rattle.cc_why.specs.Causes.{cause_at}

-- the place of a law: its file, by the names of the files that were opened, and its line
abbrev pub place_text : List (List ℕ) → (file line : ℕ) → List ℕ
place_text names file line = slice_index_or names file [] ++ codes ":" ++ decimal line

abbrev pub law_text : List (List ℕ) → Option BaseLaw → List ℕ
law_text names (Some (One law)) = place_text names law.file law.line
law_text names (Some (NoConcurrency file line)) = place_text names file line
law_text names None = []

abbrev pub cause_text : List (List ℕ) → List BaseLaw → Option Cause → List ℕ
cause_text names laws (Some causes.OneValue) = codes "one value"
cause_text names laws (Some causes.Initial) = codes "initial"
cause_text names laws (Some (causes.Law base)) = law_text names (slice_get laws base)
cause_text names laws None = []

-- a line for each position: its atom, and why it holds
abbrev pub why_line : Description → List (List ℕ) → ℕ → List ℕ → ℕ → List ℕ
why_line d names horizon row position =
    atom_text d position (slice_index row position) ++ codes ": " ++ cause_text names d.laws (cause_at d horizon row position) ++ 10 ∷ []

abbrev pub why_text : Description → List (List ℕ) → ℕ → List ℕ → List ℕ
why_text d names horizon row = flat_map (why_line d names horizon row) (upto (length row))

-- the line of a cause
abbrev pub cause_line : Description → List (List ℕ) → (position value : ℕ) → Option Cause → List ℕ
cause_line d names position value cause = atom_text d position value ++ codes ": " ++ cause_text names d.laws cause ++ 10 ∷ []
