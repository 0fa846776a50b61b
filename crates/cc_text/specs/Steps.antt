-- The steps of the reading, from token to token.
use Rattle.std.specs.Prelude.{◌≡◌, ℕ, ◌+◌, ◌<◌, ◌≤◌, Bool, true, false, ◌||◌, ◌==◌, if◌then◌else◌, IsTrue, List, [], ◌∷◌, length, drop, Option, Some}
use Rattle.cc_defs.specs.declared.refusal.LimitAt.{LimitAt}
use Rattle.cc_defs.specs.declared.token.TokenKind.{TokenKind}
use Rattle.cc_defs.specs.Limits.{limit_number}
use Rattle.cc_defs.specs.Tokens.{is_space, is_gap, line_feeds, limit_of, counted, Skips, IsToken, IsShort, StopsAt}
use Rattle.cc_text.specs.declared.scanner.Step.{Step}
use Rattle.cc_text.specs.declared.scanner.Step.TheVariants as steps
use Rattle.cc_text.specs.Views.{token_view}

-- whether the byte goes on with space and comments, from inside a comment or not
abbrev pub goes_in_gap : Bool → ℕ → Bool
goes_in_gap inside b = inside || (is_space b || (b == 37))

-- whether a comment goes on behind the byte
abbrev pub stays_inside : Bool → ℕ → Bool
stays_inside inside b = if b == 10 then false else inside || (b == 37)

-- how many lines end with the byte
abbrev pub feed_of : ℕ → ℕ
feed_of b = if b == 10 then 1 else 0

-- a token of this kind with these bytes passes the limit
abbrev pub Passes : TokenKind → List ℕ → LimitAt → Type 0
Passes kind text limit = (limit_of kind ≡ Some limit) × (limit_number limit < counted kind text)

abbrev pub PassesNone : TokenKind → List ℕ → Type 0
PassesNone kind text = (limit : LimitAt) → Passes kind text limit → ⊥

-- what comes first in a text whose first byte stands in the line
abbrev pub IsStep : ℕ → ℕ → List ℕ → Step → Type 0
IsStep file line text steps.End = IsTrue (is_gap false text)
IsStep file line text (steps.Goes token count) =
    (gap : List ℕ) × (rest : List ℕ) × (0 < count) × (count ≤ length text) × Skips text gap rest × IsToken (token_view token) rest (drop count text)
    × IsShort (token_view token) × (token.line ≡ line + line_feeds gap)
IsStep file line text (steps.Stops refusal) = StopsAt file line text [] refusal
