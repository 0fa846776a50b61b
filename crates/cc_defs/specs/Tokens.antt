-- Tokens: the cut of a text, as a condition on the whole text.
use Rattle.std.specs.Prelude.{◌≡◌, ◌≢◌, ℕ, ◌+◌, ◌-◌, ◌<◌, ◌⊎◌, Bool, true, false, not, ◌&&◌, ◌||◌, ◌==◌, nat_le, nat_eq, if◌then◌else◌, IsTrue, IsFalse, List, [], ◌∷◌, ◌++◌, length, codes, count_by, Option, Some, None}
use Rattle.std.specs.List.{AllByRecursion, list_all, find}
use Rattle.std.specs.Option.{option_map}
use Rattle.std.specs.Cmp.Lexicographic.{pointwise}
use Rattle.cc_defs.specs.declared.refusal.LimitAt.{LimitAt}
use Rattle.cc_defs.specs.declared.refusal.LimitAt.TheVariants.{TokenBytes, NumberDigits}
use Rattle.cc_defs.specs.declared.refusal.Refusal.{Refusal}
use Rattle.cc_defs.specs.declared.token.Mark.{Mark}
use Rattle.cc_defs.specs.declared.token.Mark.TheVariants as marks
use Rattle.cc_defs.specs.declared.token.TokenKind.{TokenKind}
use Rattle.cc_defs.specs.declared.token.TokenKind.TheVariants as kinds
use Rattle.cc_defs.specs.Limits.{limit_number}

abbrev pub is_space : ℕ → Bool
is_space b = (b == 32) || (b == 9) || (b == 13) || (b == 10)

abbrev pub is_letter : ℕ → Bool
is_letter b = (nat_le 97 b && nat_le b 122) || (nat_le 65 b && nat_le b 90)

abbrev pub is_digit : ℕ → Bool
is_digit b = nat_le 48 b && nat_le b 57

-- a letter, a digit or `_`
abbrev pub is_word_byte : ℕ → Bool
is_word_byte b = is_letter b || is_digit b || (b == 95)

-- a printable byte other than the quote
abbrev pub is_quotable : ℕ → Bool
is_quotable b = nat_le 32 b && nat_le b 126 && not (b == 39)

-- a letter, then letters, digits and `_`
abbrev pub is_word : List ℕ → Bool
is_word [] = false
is_word (b ∷ bs) = is_letter b && list_all is_word_byte bs

-- one or more digits
abbrev pub is_number : List ℕ → Bool
is_number [] = false
is_number (b ∷ bs) = is_digit b && list_all is_digit bs

-- one or more quotable bytes, and a quote behind them
abbrev pub ends_quoted : List ℕ → Bool
ends_quoted [] = false
ends_quoted (b ∷ []) = false
ends_quoted (b ∷ c ∷ bs) = is_quotable b && (if c == 39 then pointwise nat_eq bs [] else ends_quoted (c ∷ bs))

-- a quoted name, with its quotes
abbrev pub is_quoted : List ℕ → Bool
is_quoted [] = false
is_quoted (b ∷ bs) = (b == 39) && ends_quoted bs

-- the marks, and how they are spelled
abbrev pub mark_texts : List (List ℕ × Mark)
mark_texts =
    (codes ":-", marks.Turn)
    ∷ (codes "::", marks.DoubleColon)
    ∷ (codes ":", marks.Colon)
    ∷ (codes ";", marks.Semicolon)
    ∷ (codes ",", marks.Comma)
    ∷ (codes "..", marks.DotDot)
    ∷ (codes ".", marks.Dot)
    ∷ (codes "(", marks.LeftParen)
    ∷ (codes ")", marks.RightParen)
    ∷ (codes "[", marks.LeftBracket)
    ∷ (codes "]", marks.RightBracket)
    ∷ (codes "|", marks.Bar)
    ∷ (codes "/\\", marks.AllSign)
    ∷ (codes "\\/", marks.AnySign)
    ∷ (codes "\\=", marks.NotEqual)
    ∷ (codes "&", marks.And)
    ∷ (codes "++", marks.Or)
    ∷ (codes "+", marks.Plus)
    ∷ (codes "->>", marks.Arrow)
    ∷ (codes "-", marks.Minus)
    ∷ (codes "<->", marks.DoubleArrow)
    ∷ (codes "<", marks.Less)
    ∷ (codes "=<", marks.AtMost)
    ∷ (codes "=", marks.Equal)
    ∷ (codes ">>", marks.Above)
    ∷ (codes ">=", marks.AtLeast)
    ∷ (codes ">", marks.More)
    ∷ []

abbrev pub mark_of : List ℕ → Option Mark
mark_of bytes = option_map (λ entry. entry.1) (find (λ entry. pointwise nat_eq entry.0 bytes) mark_texts)

-- what a token with these bytes is; nothing where no token has them
abbrev pub kind_of : List ℕ → Option TokenKind
kind_of bytes =
    if is_word bytes then Some kinds.Word
    else (if is_number bytes then Some kinds.Number
    else (if is_quoted bytes then Some kinds.Quoted else option_map kinds.Mark (mark_of bytes)))

-- no longer token begins where this one does
abbrev pub IsLongest : List ℕ → List ℕ → Type 0
IsLongest piece rest = (more after : List ℕ) → rest ≡ more ++ after → more ≢ [] → kind_of (piece ++ more) ≡ None

-- Space and comments, from inside a comment or not. A comment goes from `%` to before the end of its line.
abbrev pub is_gap : Bool → List ℕ → Bool
is_gap inside [] = true
is_gap inside (b ∷ bs) =
    if b == 10 then is_gap false bs
    else (if inside || (b == 37) then is_gap true bs else is_space b && is_gap false bs)

-- whether the place behind them is inside a comment
abbrev pub ends_inside : Bool → List ℕ → Bool
ends_inside inside [] = inside
ends_inside inside (b ∷ bs) = if b == 10 then ends_inside false bs else (if inside || (b == 37) then ends_inside true bs else ends_inside false bs)

-- a token: what it is, its bytes, and the number of its line
pub record TokenView : Type 0 where
  pub kind : TokenKind
  pub text : List ℕ
  pub line : ℕ

abbrev pub line_feeds : List ℕ → ℕ
line_feeds bytes = count_by (λ b. b == 10) bytes

-- behind space and comments, outside of them, the text goes on with the rest
pub record Skips (text gap rest : List ℕ) : Type 0 where
  pub whole : text ≡ gap ++ rest
  pub space : IsTrue (is_gap false gap)
  pub outside : IsFalse (ends_inside false gap)

-- the token stands at the front of the rest, is the longest there, and this is left behind it
pub record IsToken (token : TokenView) (rest after : List ℕ) : Type 0 where
  pub whole : rest ≡ token.text ++ after
  pub kind : kind_of token.text ≡ Some token.kind
  pub longest : IsLongest token.text after

-- The text, whose first byte stands in this line, is these tokens in order: only space and comments stand between,
-- before and after them, and each is the longest token at its place.
abbrev pub IsCut : ℕ → List ℕ → List TokenView → Type 0
IsCut line text [] = IsTrue (is_gap false text)
IsCut line text (token ∷ tokens) =
    (gap : List ℕ) × (rest : List ℕ) × (after : List ℕ) × Skips text gap rest × IsToken token rest after
    × (token.line ≡ line + line_feeds gap) × IsCut (line + line_feeds gap) after tokens

-- at the end, or at space or a comment
abbrev pub begins_gap : List ℕ → Bool
begins_gap [] = true
begins_gap (b ∷ bs) = is_space b || (b == 37)

-- outside space and comments, and no token begins here
abbrev pub NoneBegins : List ℕ → Type 0
NoneBegins rest = IsFalse (begins_gap rest) × ((front after : List ℕ) → rest ≡ front ++ after → kind_of front ≡ None)

-- the limit that a token passes
abbrev pub limit_of : TokenKind → Option LimitAt
limit_of kinds.Word = Some TokenBytes
limit_of kinds.Number = Some NumberDigits
limit_of kinds.Quoted = Some TokenBytes
limit_of (kinds.Mark mark) = None

-- the bytes that count: those of a quoted name without its quotes
abbrev pub counted : TokenKind → List ℕ → ℕ
counted kinds.Word text = length text
counted kinds.Number text = length text
counted kinds.Quoted text = length text - 2
counted (kinds.Mark mark) text = 0

abbrev pub PassesLimit : TokenView → LimitAt → Type 0
PassesLimit token limit = (limit_of token.kind ≡ Some limit) × (limit_number limit < counted token.kind token.text)

abbrev pub IsShort : TokenView → Type 0
IsShort token = (limit : LimitAt) → PassesLimit token limit → ⊥

-- each is of its kind, and none passes a limit
abbrev pub AreTokens : List TokenView → Type 0
AreTokens tokens = AllByRecursion (λ token. (kind_of token.text ≡ Some token.kind) × IsShort token) tokens

-- the line of the first token
abbrev pub first_line : List TokenView → ℕ
first_line [] = 0
first_line (token ∷ tokens) = token.line

-- What stops the reading: behind these tokens, all of them short, no token begins, or one that passes its limit.
abbrev pub StopsAt : ℕ → ℕ → List ℕ → List TokenView → Refusal → Type 0
StopsAt file line text [] refusal =
    (gap : List ℕ) × (rest : List ℕ) × Skips text gap rest
    × ((NoneBegins rest × (refusal ≡ record { number = 2; file = file; line = line + line_feeds gap; limit = None }))
    ⊎ ((token : TokenView) × (after : List ℕ) × (limit : LimitAt) × IsToken token rest after × PassesLimit token limit
    × (refusal ≡ record { number = 14; file = file; line = line + line_feeds gap; limit = Some limit })))
StopsAt file line text (token ∷ tokens) refusal =
    (gap : List ℕ) × (rest : List ℕ) × (after : List ℕ) × Skips text gap rest × IsToken token rest after × IsShort token
    × (token.line ≡ line + line_feeds gap) × StopsAt file (line + line_feeds gap) after tokens refusal

-- the statements: cut behind each `.` token; what follows the last one is a last statement
abbrev pub is_dot : TokenView → Bool
is_dot token = pointwise nat_eq token.text (codes ".")

abbrev pub last_statement : List TokenView → List (List TokenView)
last_statement [] = []
last_statement (token ∷ tokens) = (token ∷ tokens) ∷ []

abbrev pub statements_from : List TokenView → List TokenView → List (List TokenView)
statements_from held [] = last_statement held
statements_from held (token ∷ tokens) =
    if is_dot token then (held ++ token ∷ []) ∷ statements_from [] tokens else statements_from (held ++ token ∷ []) tokens

abbrev pub statements : List TokenView → List (List TokenView)
statements tokens = statements_from [] tokens
