-- The longest token at the front of a text, by the number of its bytes.
use Rattle.std.specs.Prelude.{◌≡◌, ℕ, ◌+◌, ◌<◌, ◌≤◌, Bool, true, false, List, [], ◌∷◌, length, take, drop, Option, Some, None}
use Rattle.std.specs.List.{list_all}
use Rattle.std.proofs.Common.{get_or}
use Rattle.cc_defs.specs.declared.token.Mark.{Mark}
use Rattle.cc_defs.specs.declared.token.TokenKind.{TokenKind}
use Rattle.cc_defs.specs.Tokens.{kind_of, mark_of, ends_quoted, is_gap, ends_inside, begins_gap, line_feeds}

-- as many of the first items pass the test as can
pub record IsRun (passes : ℕ → Bool) (items : List ℕ) (count : ℕ) : Type 0 where
  pub within : count ≤ length items
  pub passing : list_all passes (take count items) ≡ true
  pub ends : count < length items → passes (get_or items count 0) ≡ false

-- the first so many bytes are a token, and no more of them are
pub record IsFront (text : List ℕ) (kind : TokenKind) (count : ℕ) : Type 0 where
  pub within : count ≤ length text
  pub kind_is : kind_of (take count text) ≡ Some kind
  pub longest : (more : ℕ) → count < more → more ≤ length text → kind_of (take more text) ≡ None

abbrev pub NoFront : List ℕ → Type 0
NoFront text = (more : ℕ) → more ≤ length text → kind_of (take more text) ≡ None

-- the same of marks
pub record IsMarkFront (text : List ℕ) (mark : Mark) (count : ℕ) : Type 0 where
  pub within : count ≤ length text
  pub mark_is : mark_of (take count text) ≡ Some mark
  pub longest : (more : ℕ) → count < more → more ≤ length text → mark_of (take more text) ≡ None

abbrev pub NoMark : List ℕ → Type 0
NoMark text = (more : ℕ) → more ≤ length text → mark_of (take more text) ≡ None

-- the same of quoted names whose first quote was left out
pub record IsQuotedFront (text : List ℕ) (count : ℕ) : Type 0 where
  pub within : count ≤ length text
  pub closed : ends_quoted (take count text) ≡ true
  pub longest : (more : ℕ) → count < more → more ≤ length text → ends_quoted (take more text) ≡ false

abbrev pub NoQuoted : List ℕ → Type 0
NoQuoted text = (more : ℕ) → more ≤ length text → ends_quoted (take more text) ≡ false

-- Space and comments at the front: how many bytes, and how many lines end in them. They end where the text ends or goes
-- on with something else.
pub record IsGapOf (text : List ℕ) (count lines : ℕ) : Type 0 where
  pub within : count ≤ length text
  pub space : is_gap false (take count text) ≡ true
  pub lines_are : lines ≡ line_feeds (take count text)
  pub outside : count < length text → ends_inside false (take count text) ≡ false
  pub ends : count < length text → begins_gap (drop count text) ≡ false
