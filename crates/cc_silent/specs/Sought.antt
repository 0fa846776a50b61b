-- What a search looks for: a history of a horizon, or one that has an atom.
use Rattle.std.specs.Prelude.{◌≡◌, ℕ, ◌<◌, List, Option, Some, None, false, true, slice_get}
use Rattle.std.specs.Option.{option_or}
use Rattle.cc_defs.specs.declared.refusal.Refusal.{Refusal}
use Rattle.cc_defs.specs.Description.{Description, sizes_at}
use Rattle.cc_defs.specs.Histories.{IsHistory}
use Rattle.cc_defs.specs.Resolved.{Query}
use Rattle.cc_defs.specs.Runs.{axioms_of}
use Rattle.cc_defs.specs.Sections.{Axioms}
use Rattle.cc_form.specs.Building.{count_refusal}
use Rattle.cc_form.specs.Forms.{section_refusal, with_atom}

-- a row has the value of this index at a position
abbrev pub HasValue : (position value : ℕ) → List ℕ → Type 0
HasValue position value row = slice_get row position ≡ Some value

-- a position of a horizon has a value of this index
abbrev pub IsAtomAt : Description → (horizon position value : ℕ) → Type 0
IsAtomAt d horizon position value = (size : ℕ) × (slice_get (sizes_at d horizon) position ≡ Some size) × (value < size)

-- any history, or one that has this atom
pub data Sought : Type 0 where
  Any : Sought
  With : (position value : ℕ) → Sought

abbrev pub IsSought : Description → Query → ℕ → Sought → List ℕ → Type 0
IsSought d q horizon Any row = IsHistory d q horizon None row
IsSought d q horizon (With position value) row = IsHistory d q horizon None row × HasValue position value row

-- The axioms of a search: those of the histories of the horizon, and behind them, for an atom, the clause that it is so.
abbrev pub sought_axioms : Description → Query → ℕ → Sought → Axioms
sought_axioms d q horizon Any = axioms_of d q None false horizon
sought_axioms d q horizon (With position value) = with_atom (axioms_of d q None false horizon) position value

-- the first limit that they pass: that of the horizon, or with the clause of the atom
abbrev pub sought_refusal : Description → Query → ℕ → Sought → Option Refusal
sought_refusal d q horizon Any = section_refusal d q horizon true None
sought_refusal d q horizon (With position value) =
    option_or (section_refusal d q horizon true None) (count_refusal (sought_axioms d q horizon (With position value)).clauses)

abbrev pub PassesNoLimit : Description → Query → ℕ → Sought → Type 0
PassesNoLimit d q horizon sought = sought_refusal d q horizon sought ≡ None
