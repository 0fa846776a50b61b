-- What stands at the front of a text.
use Rattle.std.specs.Prelude.{ℕ, ◌≡◌, ◌+◌, ◌-◌, ◌*◌, ◌<◌, ◌==◌, ◌||◌, nat_lt, if◌then◌else◌, Bool, false, List, [], ◌∷◌, ◌++◌, Option, Some, None, length, flat_map, decimal}
use Rattle.std.specs.List.{AllByRecursion}
use Rattle.cc_defs.specs.Clauses.{Literal}
use Rattle.cc_defs.specs.LogTexts.{IsShort, IsShortLiteral, IsOdd, literal_text}
use Rattle.cc_defs.specs.Tokens.{is_digit}

-- a text that does not go on with a digit
abbrev pub EndsNumber : List ℕ → Type 0
EndsNumber [] = Unit {0}
EndsNumber (byte ∷ bytes) = is_digit byte ≡ false

-- A text begins with a number, and this is behind it.
pub record IsNumberAt (text : List ℕ) (number : ℕ) (rest : List ℕ) : Type 0 where
  pub formed : IsShort number
  pub spelled : text ≡ decimal number ++ rest
  pub ends : EndsNumber rest

abbrev pub HasNoNumber : List ℕ → Type 0
HasNoNumber text = (number : ℕ) (rest : List ℕ) → IsNumberAt text number rest → ⊥

-- A text begins with a literal, or with the number 0, which is seen as a positive literal, and this is behind it.
pub record IsSignedAt (text : List ℕ) (literal : Literal) (rest : List ℕ) : Type 0 where
  pub formed : IsShort literal.variable
  pub some : literal.positive ≡ false → 0 < literal.variable
  pub spelled : text ≡ literal_text literal ++ rest
  pub ends : EndsNumber rest

abbrev pub HasNoSigned : List ℕ → Type 0
HasNoSigned text = (literal : Literal) (rest : List ℕ) → IsSignedAt text literal rest → ⊥

-- A text is this list of numbers, a space before each, and a line feed.
pub record AreNumbers (text numbers : List ℕ) : Type 0 where
  pub short : AllByRecursion IsShort numbers
  pub spelled : text ≡ flat_map (λ number. 32 ∷ decimal number) numbers ++ 10 ∷ []

abbrev pub HasNoNumbers : List ℕ → Type 0
HasNoNumbers text = (numbers : List ℕ) → AreNumbers text numbers → ⊥

-- A text begins with this list of literals and a 0, a space before each, and this is behind them.
pub record AreLiterals (text : List ℕ) (literals : List Literal) (rest : List ℕ) : Type 0 where
  pub formed : AllByRecursion IsShortLiteral literals
  pub spelled : text ≡ flat_map (λ literal. 32 ∷ literal_text literal) literals ++ (32 ∷ 48 ∷ rest)
  pub ends : EndsNumber rest

abbrev pub HasNoLiterals : List ℕ → Type 0
HasNoLiterals text = (literals : List Literal) (rest : List ℕ) → AreLiterals text literals rest → ⊥

-- a text is a chain, the 0 that ends it, and a line feed
abbrev pub IsChainIn : List ℕ → List ℕ → Type 0
IsChainIn text chain = AreNumbers text (chain ++ 0 ∷ []) × IsOdd (length chain)

abbrev pub HasNoChain : List ℕ → Type 0
HasNoChain text = (chain : List ℕ) → IsChainIn text chain → ⊥

-- the number of a heading's horizon, with the line feed
abbrev pub IsLast : List ℕ → ℕ → Type 0
IsLast text number = IsShort number × (text ≡ decimal number ++ 10 ∷ [])

-- the number of at most nine digits behind digits that make this number
abbrev pub number_from : ℕ → List ℕ → Option (ℕ × List ℕ)
number_from number [] = Some (number, [])
number_from number (byte ∷ bytes) =
    if is_digit byte then (if (number == 0) || nat_lt 99999999 number then None else number_from (10 * number + (byte - 48)) bytes)
    else Some (number, byte ∷ bytes)

abbrev pub number_of : List ℕ → Option (ℕ × List ℕ)
number_of [] = None
number_of (byte ∷ bytes) = if is_digit byte then number_from (byte - 48) bytes else None
