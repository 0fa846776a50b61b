-- Entries by number, each under a name of its own.
use Rattle.std.specs.Prelude.{ℕ, List, map, position, Option}
use Rattle.cc_defs.specs.Grammar.{same_text}

-- the number of a name
abbrev pub number_of : List (List ℕ) → List ℕ → Option ℕ
number_of names name = position (same_text name) names

abbrev pub names_of : {V : Type 0} → List (List ℕ × V) → List (List ℕ)
names_of entries = map (λ entry. entry.0) entries

abbrev pub values_of : {V : Type 0} → List (List ℕ × V) → List V
values_of entries = map (λ entry. entry.1) entries
