-- The text of a key, as it is read.
use Rattle.std.specs.Prelude.{◌≡◌, ℕ, ◌≤◌, ◌==◌, ◌&&◌, nat_le, if◌then◌else◌, List, [], ◌∷◌, ◌++◌, length, Option, Some, None, IsTrue}
use Rattle.std.specs.List.{AllZip, join_with_byte, slice_split}
use Rattle.cc_defs.specs.declared.lists.Key.{Key}
use Rattle.cc_defs.specs.Grammar.{number_of}
use Rattle.cc_defs.specs.Tokens.{is_number}

-- one to nine decimal digits; leading zeros are allowed
pub record IsNumberText (text : List ℕ) (number : ℕ) : Type 0 where
  pub digits : IsTrue (is_number text)
  pub few : length text ≤ 9
  pub value : number ≡ number_of text

-- the indexes of a row, with a comma between each two; a row without positions has the empty text
abbrev pub IsRowText : List ℕ → List ℕ → Type 0
IsRowText text row = (parts : List (List ℕ)) × (text ≡ join_with_byte 44 parts) × AllZip IsNumberText parts row

-- the horizon, a colon, and the indexes of the row
abbrev pub IsKeyText : List ℕ → Key → Type 0
IsKeyText text key =
    (horizon : List ℕ) × (row : List ℕ) × (text ≡ horizon ++ 58 ∷ row) × IsNumberText horizon key.horizon × IsRowText row key.row

-- nothing is read where no key has the text
abbrev pub IsReadAsKey : List ℕ → Option Key → Type 0
IsReadAsKey text (Some key) = IsKeyText text key
IsReadAsKey text None = (key : Key) → IsKeyText text key → ⊥

-- ---- what is read

abbrev pub number_read : List ℕ → Option ℕ
number_read text = if is_number text && nat_le (length text) 9 then Some (number_of text) else None

abbrev pub with_first : Option ℕ → Option (List ℕ) → Option (List ℕ)
with_first None row = None
with_first (Some index) None = None
with_first (Some index) (Some row) = Some (index ∷ row)

abbrev pub numbers_read : List (List ℕ) → Option (List ℕ)
numbers_read [] = Some []
numbers_read (part ∷ parts) = with_first (number_read part) (numbers_read parts)

-- a row, between the commas of its text
abbrev pub row_read : List ℕ → Option (List ℕ)
row_read [] = Some []
row_read (byte ∷ bytes) = numbers_read (slice_split (λ b. b == 44) (byte ∷ bytes))
