-- Readers: plain functions that read a value at the front of a list of tokens, and how larger ones are made of smaller.
use Rattle.std.specs.Prelude.{ℕ, zero, suc, ◌-◌, if◌then◌else◌, List, [], ◌∷◌, ◌++◌, length, take, drop, Option, Some, None}
use Rattle.cc_defs.specs.declared.token.Mark.{Mark}
use Rattle.cc_defs.specs.declared.token.Mark.TheVariants as marks
use Rattle.cc_defs.specs.Grammar.{Terminal, Word, Number, Quoted, Sign, is_name, same_text, number_of}
use Rattle.cc_syntax.specs.Marks.{same_mark}

-- what is read and what is left, or nothing
abbrev pub Reader : Type 0 → Type 0
Reader X = List Terminal → Option (X × List Terminal)

-- what is left behind something without a value, or nothing
abbrev pub Literal : Type 0
Literal = List Terminal → Option (List Terminal)

-- what follows from a value, if there is one
abbrev pub given : {A B : Type 0} → Option A → B → (A → B) → B
given None other f = other
given (Some x) other f = f x

infixl 10 ◌>>=◌
abbrev pub ◌>>=◌ : {A B : Type 0} → Option A → (A → Option B) → Option B
o >>= f = given o None f

-- ---- single tokens

abbrev pub sign_at : Mark → Literal
sign_at mark (Sign other ∷ rest) = if same_mark mark other then Some rest else None
sign_at mark tokens = None

abbrev pub word_at : List ℕ → Literal
word_at text (Word other ∷ rest) = if same_text other text then Some rest else None
word_at text tokens = None

abbrev pub name_at : Reader (List ℕ)
name_at (Word text ∷ rest) = if is_name text then Some (text, rest) else None
name_at tokens = None

abbrev pub numeral_at : Reader ℕ
numeral_at (Number digits ∷ rest) = Some (number_of digits, rest)
numeral_at tokens = None

abbrev pub label_at : Reader (List ℕ)
label_at (Word text ∷ rest) = if is_name text then Some (text, rest) else None
label_at (Number digits ∷ rest) = Some (digits, rest)
label_at tokens = None

-- what stands between the quotes
abbrev pub unquoted : List ℕ → List ℕ
unquoted text = take (length text - 2) (drop 1 text)

abbrev pub quoted_at : Reader (List ℕ)
quoted_at (Quoted text ∷ rest) = Some (unquoted text, rest)
quoted_at tokens = None

-- ---- larger readers

infixr 30 ◌▷◌
infixl 25 ◌◁◌
-- a reader behind something without a value
abbrev pub ◌▷◌ : {X : Type 0} → Literal → Reader X → Reader X
(literal ▷ reader) tokens = literal tokens >>= reader

-- something without a value behind a reader
abbrev pub ◌◁◌ : {X : Type 0} → Reader X → Literal → Reader X
(reader ◁ literal) tokens = reader tokens >>= λ read. literal read.1 >>= λ rest. Some (read.0, rest)

-- two readers, one behind the other, and what is made of their values
abbrev pub paired : {X Y Z : Type 0} → (X → Y → Z) → Reader X → Reader Y → Reader Z
paired make first second tokens = first tokens >>= λ x. second x.1 >>= λ y. Some (make x.0 y.0, y.1)

-- an item behind a word, if the word is there
abbrev pub optional_at : {X : Type 0} → Reader X → List ℕ → Reader (Option X)
optional_at item text tokens =
    given (word_at text tokens) (Some (None, tokens)) (λ rest. item rest >>= λ read. Some (Some read.0, read.1))

-- items behind those found, with the mark between them; at most so many
unfoldable pub listed_from : {X : Type 0} → Reader X → Mark → ℕ → List X → List Terminal → Option (List X × List Terminal)
listed_from item mark zero found tokens = None
listed_from item mark (suc n) found tokens =
    item tokens >>= λ read.
    given (sign_at mark read.1) (Some (found ++ read.0 ∷ [], read.1)) (listed_from item mark n (found ++ read.0 ∷ []))

-- one item or more, with the mark between them
abbrev pub listed_at : {X : Type 0} → Reader X → Mark → Reader (List X)
listed_at item mark tokens = listed_from item mark (length tokens) [] tokens

-- something in parentheses
abbrev pub parenthesized_at : {X : Type 0} → Reader X → Reader X
parenthesized_at item = sign_at marks.LeftParen ▷ item ◁ sign_at marks.RightParen
