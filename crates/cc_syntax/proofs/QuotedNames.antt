-- Names in quotes.
use Rattle.std.proofs.Common.{◌≡◌, ℕ, ◌-◌, Bool, true, false, cond, eqb, List, [], ◌∷◌, ◌++◌, length, Option, Some, None, refl, sym, ap, subst, ◌∙◌, arith, length-append}
use Rattle.std.specs.Option.{option_map}
use Rattle.std.proofs.lemmas.Bool.{and_parts, eqb-true}
use Rattle.std.proofs.Math.Seq.{take-append_seam}
use Rattle.cc_defs.specs.declared.token.Mark.{Mark}
use Rattle.cc_defs.specs.declared.token.TokenKind.{TokenKind}
use Rattle.cc_defs.specs.declared.token.TokenKind.TheVariants as kinds
use Rattle.cc_defs.specs.Tokens.{TokenView, kind_of, is_word, is_number, is_quoted, ends_quoted, mark_of}
use Rattle.cc_defs.specs.Grammar.{Terminal, Word, Number, Quoted, Sign, Spelling, terminal_of_kind, terminal, terminals}
use Rattle.cc_syntax.specs.Views.{AreReadable}
use Rattle.cc_syntax.specs.Readers.{unquoted, quoted_at}
use Rattle.cc_syntax.proofs.IsReader.{IsReader, anywhere}
use Rattle.cc_syntax.proofs.Quotes.{quoted_shape}
use Rattle.cc_syntax.proofs.Singles.{some-is}

abbrev pub in_quotes : List ℕ → List ℕ
in_quotes file = 39 ∷ file ++ 39 ∷ []

pub unquoted-is : (file : List ℕ) → unquoted (in_quotes file) ≡ file
unquoted-is file =
    let size : length (in_quotes file) - 2 ≡ length file = omega (arith, length-append file (39 ∷ [])) in
    rw size (take-append_seam file (39 ∷ []))

-- a quoted token is its name in quotes
quoted-whole : (text : List ℕ) → is_quoted text ≡ true → text ≡ in_quotes (unquoted text)
quoted-whole [] e = absurd cc
quoted-whole (b ∷ bs) e =
    let p = and_parts (eqb b 39) (ends_quoted bs) e in
    let q = quoted_shape bs p.1 in
    let first = eqb-true b 39 p.0 in
    let whole : b ∷ bs ≡ in_quotes q.0 = ap (λ (c : ℕ). c ∷ bs) first ∙ ap (λ (l : List ℕ). 39 ∷ l) q.1 in
    whole ∙ ap in_quotes (sym (ap unquoted whole ∙ unquoted-is q.0))

by_kind : (word number quoted : Bool) (mark : Option Mark)
    → cond word (Some kinds.Word) (cond number (Some kinds.Number) (cond quoted (Some kinds.Quoted) (option_map kinds.Mark mark))) ≡ Some kinds.Quoted → quoted ≡ true
by_kind true number quoted mark e = absurd cc
by_kind false true quoted mark e = absurd cc
by_kind false false true mark e = refl
by_kind false false false None e = absurd cc
by_kind false false false (Some m) e = absurd cc

is_quoted-of : (kind : TokenKind) (bytes text : List ℕ) → kind_of bytes ≡ Some kind → terminal_of_kind kind bytes ≡ Quoted text → is_quoted text ≡ true
is_quoted-of kinds.Word bytes text e f = absurd cc
is_quoted-of kinds.Number bytes text e f = absurd cc
is_quoted-of (kinds.Mark mark) bytes text e f = absurd cc
is_quoted-of kinds.Quoted bytes text e f =
    let same : bytes ≡ text = cc in
    subst (λ (l : List ℕ). is_quoted l ≡ true) same (by_kind (is_word bytes) (is_number bytes) (is_quoted bytes) (mark_of bytes) e)

-- a quoted token among tokens is its name in quotes
pub quoted-among : (front : List Terminal) (tokens : List TokenView) → AreReadable tokens → (text : List ℕ) (rest : List Terminal) → terminals tokens ≡ front ++ Quoted text ∷ rest
    → text ≡ in_quotes (unquoted text)
quoted-among [] [] all text rest e = absurd cc
quoted-among (first ∷ front) [] all text rest e = absurd cc
quoted-among [] (token ∷ tokens) all text rest e =
    let same : terminal token ≡ Quoted text = cc in
    quoted-whole text (is_quoted-of token.kind token.text text all.0.kind same)
quoted-among (first ∷ front) (token ∷ tokens) all text rest e =
    let same : terminals tokens ≡ front ++ Quoted text ∷ rest = cc in
    quoted-among front tokens all.1 text rest same

-- ---- the reader of quoted names

-- a quoted token with this name between its quotes, whatever these are
abbrev pub quoted_token : List ℕ → Spelling
quoted_token file tokens rest = (text : List ℕ) × (tokens ≡ Quoted text ∷ rest) × (unquoted text ≡ file)

quoted-takes : (tokens : List Terminal) (read : List ℕ × List Terminal) → quoted_at tokens ≡ Some read → quoted_token read.0 tokens read.1
quoted-takes [] read e = absurd cc
quoted-takes (Sign mark ∷ more) read e = absurd cc
quoted-takes (Word other ∷ more) read e = absurd cc
quoted-takes (Number other ∷ more) read e = absurd cc
quoted-takes (Quoted text ∷ more) read e =
    subst (λ (r : List ℕ × List Terminal). quoted_token r.0 (Quoted text ∷ more) r.1) (some-is (unquoted text, more) read e) (text, refl, refl)

pub quoted-reader : IsReader quoted_at quoted_token anywhere
quoted-reader = record {
  takes = quoted-takes;
  again = λ file tokens rest p s. ap quoted_at p.1 ∙ ap (λ (l : List ℕ). Some (l, rest)) p.2;
  shorter = λ file tokens rest p. let e = ap length p.1 in omega arith;
}
