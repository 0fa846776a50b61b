-- The token at a place, and what is known of it where the tokens are those of a text.
use Rattle.std.proofs.Common.{◌≡◌, ℕ, zero, suc, ◌+◌, ◌<◌, ◌≤◌, Bool, true, false, cond, IsTrue, List, [], ◌∷◌, length, get_or, drop, Option, Some, None, refl, subst, arith, add-one}
use Rattle.std.specs.Option.{option_map}
use Rattle.cc_defs.specs.declared.token.Mark.{Mark}
use Rattle.cc_defs.specs.declared.token.Token.{Token}
use Rattle.cc_defs.specs.declared.token.TokenKind.{TokenKind}
use Rattle.cc_defs.specs.declared.token.TokenKind.TheVariants as kinds
use Rattle.cc_defs.specs.Grammar.{Terminal, Number, Quoted, terminal, terminals}
use Rattle.cc_defs.specs.Tokens.{TokenView, kind_of, is_word, is_number, is_quoted, mark_of}
use Rattle.cc_text.specs.Views.{token_view}
use Rattle.cc_syntax.specs.Views.{AreReadable, seen}

seen_behind : (tokens : List Token) (at : ℕ) (other : Token) → at < length tokens
    → drop at (seen tokens) ≡ terminal (token_view (get_or tokens at other)) ∷ drop (suc at) (seen tokens)
seen_behind [] at other lt = absurd (omega arith)
seen_behind (token ∷ tokens) zero other lt = refl
seen_behind (token ∷ tokens) (suc at) other lt = seen_behind tokens at other (omega arith)

pub token_seen : (tokens : List Token) (at : ℕ) (other : Token) → at < length tokens
    → drop at (seen tokens) ≡ terminal (token_view (get_or tokens at other)) ∷ drop (at + 1) (seen tokens)
token_seen tokens at other lt = rw add-one (seen_behind tokens at other lt)

pub nothing_seen : (tokens : List Token) (at : ℕ) → length tokens ≤ at → drop at (seen tokens) ≡ []
nothing_seen [] zero le = refl
nothing_seen [] (suc at) le = refl
nothing_seen (token ∷ tokens) zero le = absurd (omega arith)
nothing_seen (token ∷ tokens) (suc at) le = nothing_seen tokens at (omega arith)

-- ---- what is known of a token by its kind

number_text : (word number quoted : Bool) (mark : Option Mark)
    → cond word (Some kinds.Word) (cond number (Some kinds.Number) (cond quoted (Some kinds.Quoted) (option_map kinds.Mark mark))) ≡ Some kinds.Number
    → IsTrue number
number_text true number quoted mark e = absurd cc
number_text false true quoted mark e = refl
number_text false false true mark e = absurd cc
number_text false false false None e = absurd cc
number_text false false false (Some mark) e = absurd cc

quoted_text : (word number quoted : Bool) (mark : Option Mark)
    → cond word (Some kinds.Word) (cond number (Some kinds.Number) (cond quoted (Some kinds.Quoted) (option_map kinds.Mark mark))) ≡ Some kinds.Quoted
    → IsTrue quoted
quoted_text true number quoted mark e = absurd cc
quoted_text false true quoted mark e = absurd cc
quoted_text false false true mark e = refl
quoted_text false false false None e = absurd cc
quoted_text false false false (Some mark) e = absurd cc

-- what is known of a token that the grammar sees so
abbrev KnownSeen : Terminal → Type 0
KnownSeen (Number digits) = IsTrue (is_number digits) × (length digits ≤ 9)
KnownSeen (Quoted text) = IsTrue (is_quoted text)
KnownSeen terminal = Unit {0}

known_of : (kind : TokenKind) (text : List ℕ) (line : ℕ) → kind_of text ≡ Some kind → (kind ≡ kinds.Number → length text ≤ 9)
    → KnownSeen (terminal (record { kind = kind; text = text; line = line }))
known_of kinds.Word text line e short = tt
known_of kinds.Number text line e short = (number_text (is_word text) (is_number text) (is_quoted text) (mark_of text) e, short refl)
known_of kinds.Quoted text line e short = quoted_text (is_word text) (is_number text) (is_quoted text) (mark_of text) e
known_of (kinds.Mark mark) text line e short = tt

known_at : (tokens : List TokenView) (at : ℕ) (one : Terminal) (rest : List Terminal) → AreReadable tokens
    → drop at (terminals tokens) ≡ one ∷ rest → KnownSeen one
known_at [] zero one rest are e = absurd cc
known_at [] (suc at) one rest are e = absurd cc
known_at (token ∷ tokens) zero one rest are e =
    let same : terminal token ≡ one = cc in
    subst KnownSeen same (known_of token.kind token.text token.line are.0.kind are.0.digits)
known_at (token ∷ tokens) (suc at) one rest are e = known_at tokens at one rest are.1 e

pub number-known : (tokens : List TokenView) (at : ℕ) (token : TokenView) (rest : List Terminal) → AreReadable tokens
    → drop at (terminals tokens) ≡ terminal token ∷ rest → token.kind ≡ kinds.Number → IsTrue (is_number token.text) × (length token.text ≤ 9)
number-known tokens at token rest are e kind =
    subst (λ (k : TokenKind). KnownSeen (terminal (record { kind = k; text = token.text; line = token.line }))) kind (known_at tokens at (terminal token) rest are e)

pub quoted-known : (tokens : List TokenView) (at : ℕ) (token : TokenView) (rest : List Terminal) → AreReadable tokens
    → drop at (terminals tokens) ≡ terminal token ∷ rest → token.kind ≡ kinds.Quoted → IsTrue (is_quoted token.text)
quoted-known tokens at token rest are e kind =
    subst (λ (k : TokenKind). KnownSeen (terminal (record { kind = k; text = token.text; line = token.line }))) kind (known_at tokens at (terminal token) rest are e)
