-- The laws of keys.
use Rattle.std.specs.Prelude.{◌≡◌, ℕ, ◌<◌, ◌^◌, List}
use Rattle.std.specs.List.{AllByRecursion}
use Rattle.cc_defs.specs.declared.lists.Key.{Key}
use Rattle.cc_defs.specs.LogTexts.{IsShort}
use Rattle.cc_defs.specs.Texts.{key_text}
use Rattle.cc_print.specs.Keys.{IsKeyText}

-- a text is that of one key at most
abbrev pub OneKey : Type 0
OneKey = (text : List ℕ) (one other : Key) → IsKeyText text one → IsKeyText text other → one ≡ other

-- the horizon and the indexes have at most nine digits
pub record IsShortKey (key : Key) : Type 0 where
  pub horizon : IsShort key.horizon
  pub row : AllByRecursion IsShort key.row

-- the written text of such a key is read as that key
abbrev pub WrittenIsRead : Type 0
WrittenIsRead = (key : Key) → IsShortKey key → IsKeyText (key_text key.horizon key.row) key

-- a number that is written with all its digits, as each number of the program is
abbrev pub IsWhole : ℕ → Type 0
IsWhole number = number < 2 ^ 64

pub record IsWholeKey (key : Key) : Type 0 where
  pub horizon : IsWhole key.horizon
  pub row : AllByRecursion IsWhole key.row

-- two such keys with one written text are equal
abbrev pub WrittenApart : Type 0
WrittenApart = (one other : Key) → IsWholeKey one → IsWholeKey other →
    key_text one.horizon one.row ≡ key_text other.horizon other.row → one ≡ other
