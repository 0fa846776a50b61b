-- What a line is read as, in either version.
use Rattle.std.specs.Prelude.{ℕ, ◌≡◌, ◌⊎◌, Bool, List, [], ◌∷◌, ◌++◌, Option, MatchOption, length}
use Rattle.cc_defs.specs.declared.log.EndWord.{EndWord}
use Rattle.cc_defs.specs.declared.log.LogLine.TheVariants as lines
use Rattle.cc_defs.specs.declared.log.Version.{Version}
use Rattle.cc_defs.specs.declared.log.Version.TheVariants.{First}
use Rattle.cc_defs.specs.Clauses.{Literal}
use Rattle.cc_defs.specs.LogBytes.{BeginsWith, IsSpelled}
use Rattle.cc_defs.specs.LogTexts.{IsLine}
use Rattle.cc_defs.specs.Sections.{HasNoForm}
use Rattle.cc_log.specs.Fronts.{AreNumbers}
use Rattle.cc_check.specs.declared.line.Kind.{Kind}
use Rattle.cc_check.specs.declared.line.Kind.TheVariants as kinds
use Rattle.cc_check.specs.declared.line.LineParts.{LineParts}
use Rattle.cc_check.specs.Readers.{literals_of, numbers_in, numbers_of}
use Rattle.cc_check.specs.Texts.{IsFirstText}

-- ---- what a line is read as, with the literals and the numbers that it has

abbrev pub IsReadIn : Version → List ℕ → List Literal → List ℕ → Kind → Type 0
IsReadIn version text literals numbers kinds.Heading =
    (conditions : Bool) × (horizon : ℕ) × IsSpelled version text (lines.Section conditions horizon)
IsReadIn version text literals numbers kinds.Derived = IsSpelled version text (lines.Derived literals numbers)
IsReadIn version text literals numbers kinds.Block = IsSpelled version text (lines.Block numbers)
IsReadIn version text literals numbers (kinds.End word) = IsSpelled version text (lines.End word)

abbrev pub IsRead : List ℕ → List Literal → List ℕ → Kind → Type 0
IsRead text literals numbers kind = IsReadIn First text literals numbers kind

-- what an entry is read as, with the literals and the numbers that it has, and what is behind it
abbrev pub IsEntryRead : List ℕ → List Literal → List ℕ → Kind → List ℕ → Type 0
IsEntryRead bytes literals numbers kinds.Heading rest = (conditions : Bool) × (horizon : ℕ) × BeginsWith bytes (lines.Section conditions horizon) rest
IsEntryRead bytes literals numbers kinds.Derived rest = BeginsWith bytes (lines.Derived literals numbers) rest
IsEntryRead bytes literals numbers kinds.Block rest = BeginsWith bytes (lines.Block numbers) rest
IsEntryRead bytes literals numbers (kinds.End word) rest = BeginsWith bytes (lines.End word) rest

-- a text is read as that, or is no line
abbrev pub IsLineRead : Version → List ℕ → Option LineParts → Type 0
IsLineRead version text line =
    MatchOption line (HasNoForm version text) (λ line. IsReadIn version text (literals_of line.literals) (numbers_of line.numbers) line.kind)

-- A text stands at the front of bytes, and this is behind it; it is read as that.
pub record IsFirstRead (version : Version) (bytes : List ℕ) (line : Option LineParts) (rest : List ℕ) : Type 0 where
  pub text : List ℕ
  pub first : IsFirstText version bytes text rest
  pub read : IsLineRead version text line

abbrev pub IsNoEnd : List ℕ → Type 0
IsNoEnd text = (word : EndWord) → IsLine text (lines.End word) → ⊥

-- A text is so many numbers and a line feed, and this is the last of them, if there is one.
pub record AreCounted (text : List ℕ) (count last : ℕ) : Type 0 where
  pub numbers : AreNumbers text (numbers_in First count text)
  pub counted : length (numbers_in First count text) ≡ count
  pub ended : (count ≡ 0) ⊎ ((front : List ℕ) × (numbers_in First count text ≡ front ++ last ∷ []))
