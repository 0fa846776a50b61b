-- The readers of single tokens.
use Rattle.std.proofs.Common.{◌≡◌, ◌⊎◌, ℕ, ◌<◌, Bool, true, false, cond, List, [], ◌∷◌, length, Option, Some, None, refl, sym, ap, subst, arith, inl, inr}
use Rattle.std.specs.Cmp.Lexicographic.{same_text as std_same}
use Rattle.std.proofs.lemmas.Bool.{eq-eqb}
use Rattle.cc_defs.specs.declared.token.Mark.{Mark}
use Rattle.cc_defs.specs.Grammar.{Terminal, Word, Number, Quoted, Sign, is_name, same_text, number_of, sign, word, name, numeral, label}
use Rattle.cc_syntax.specs.Marks.{same_mark}
use Rattle.cc_syntax.specs.Readers.{given, ◌>>=◌, sign_at, word_at, name_at, numeral_at, label_at}
use Rattle.cc_syntax.proofs.IsReader.{IsReader, IsLiteral, anywhere}
use Rattle.cc_syntax.proofs.Marks.{same-mark, mark-same}

-- ---- steps that may give nothing

pub bind_some : {A B : Type 0} (o : Option A) (f : A → Option B) (y : B) → (o >>= f) ≡ Some y → (x : A) × (o ≡ Some x) × (f x ≡ Some y)
bind_some None f y e = absurd cc
bind_some (Some x) f y e = (x, refl, e)

pub given_cases : {A B : Type 0} (o : Option A) (other : B) (f : A → B) (y : B) → given o other f ≡ y → ((x : A) × (o ≡ Some x) × (f x ≡ y)) ⊎ ((o ≡ None) × (other ≡ y))
given_cases None other f y e = inr (refl, e)
given_cases (Some x) other f y e = inl (x, refl, e)

pub if_some : {A : Type 0} (t : Bool) (x y : A) → cond t (Some x) None ≡ Some y → (t ≡ true) × (x ≡ y)
if_some true x y e = (refl, cc)
if_some false x y e = absurd cc

pub some-is : {A : Type 0} (x y : A) → Option.Some x ≡ Some y → x ≡ y
some-is x y e = cc

-- ---- texts

pub same-text : (one other : List ℕ) → same_text one other ≡ true → one ≡ other
same-text one other e = std_same one other (sym e)

pub text-same : (text : List ℕ) → same_text text text ≡ true
text-same [] = refl
text-same (b ∷ bs) = rw (eq-eqb b b refl, text-same bs) refl

-- ---- marks and words

sign-takes : (mark : Mark) (tokens rest : List Terminal) → sign_at mark tokens ≡ Some rest → sign mark tokens rest
sign-takes mark [] rest e = absurd cc
sign-takes mark (Word text ∷ more) rest e = absurd cc
sign-takes mark (Number text ∷ more) rest e = absurd cc
sign-takes mark (Quoted text ∷ more) rest e = absurd cc
sign-takes mark (Sign other ∷ more) rest e =
    let p = if_some (same_mark mark other) more rest e in
    let one = same-mark mark other p.0 in
    let two = p.1 in
    cc

sign-again : (mark : Mark) (tokens rest : List Terminal) → sign mark tokens rest → sign_at mark tokens ≡ Some rest
sign-again mark tokens rest p = subst (λ (l : List Terminal). sign_at mark l ≡ Some rest) (sym p) (rw (mark-same mark) refl)

pub sign-literal : (mark : Mark) → IsLiteral (sign_at mark) (sign mark)
sign-literal mark = record {
  takes = sign-takes mark;
  again = sign-again mark;
  shorter = λ tokens rest p. let e = ap length p in omega arith;
}

word-takes : (text : List ℕ) (tokens rest : List Terminal) → word_at text tokens ≡ Some rest → word text tokens rest
word-takes text [] rest e = absurd cc
word-takes text (Sign mark ∷ more) rest e = absurd cc
word-takes text (Number other ∷ more) rest e = absurd cc
word-takes text (Quoted other ∷ more) rest e = absurd cc
word-takes text (Word other ∷ more) rest e =
    let p = if_some (same_text other text) more rest e in
    let one = same-text other text p.0 in
    let two = p.1 in
    cc

word-again : (text : List ℕ) (tokens rest : List Terminal) → word text tokens rest → word_at text tokens ≡ Some rest
word-again text tokens rest p = subst (λ (l : List Terminal). word_at text l ≡ Some rest) (sym p) (rw (text-same text) refl)

pub word-literal : (text : List ℕ) → IsLiteral (word_at text) (word text)
word-literal text = record {
  takes = word-takes text;
  again = word-again text;
  shorter = λ tokens rest p. let e = ap length p in omega arith;
}

-- ---- names, numbers and labels

name-takes : (tokens : List Terminal) (read : List ℕ × List Terminal) → name_at tokens ≡ Some read → name read.0 tokens read.1
name-takes [] read e = absurd cc
name-takes (Sign mark ∷ more) read e = absurd cc
name-takes (Number other ∷ more) read e = absurd cc
name-takes (Quoted other ∷ more) read e = absurd cc
name-takes (Word text ∷ more) read e =
    let p = if_some (is_name text) (text, more) read e in
    subst (λ (r : List ℕ × List Terminal). name r.0 (Word text ∷ more) r.1) p.1 (p.0, refl)

name-again : (text : List ℕ) (tokens rest : List Terminal) → name text tokens rest → anywhere rest ≡ true → name_at tokens ≡ Some (text, rest)
name-again text tokens rest p stops = subst (λ (l : List Terminal). name_at l ≡ Some (text, rest)) (sym p.1) (rw p.0 refl)

pub name-reader : IsReader name_at name anywhere
name-reader = record {
  takes = name-takes;
  again = name-again;
  shorter = λ text tokens rest p. let e = ap length p.1 in omega arith;
}

numeral-takes : (tokens : List Terminal) (read : ℕ × List Terminal) → numeral_at tokens ≡ Some read → numeral read.0 tokens read.1
numeral-takes [] read e = absurd cc
numeral-takes (Sign mark ∷ more) read e = absurd cc
numeral-takes (Word other ∷ more) read e = absurd cc
numeral-takes (Quoted other ∷ more) read e = absurd cc
numeral-takes (Number digits ∷ more) read e =
    subst (λ (r : ℕ × List Terminal). numeral r.0 (Number digits ∷ more) r.1) (some-is (number_of digits, more) read e) (digits, refl, refl)

numeral-again : (n : ℕ) (tokens rest : List Terminal) → numeral n tokens rest → anywhere rest ≡ true → numeral_at tokens ≡ Some (n, rest)
numeral-again n tokens rest p stops =
    subst (λ (l : List Terminal). numeral_at l ≡ Some (n, rest)) (sym p.1) (ap (λ (m : ℕ). Some (m, rest)) (sym p.2))

pub numeral-reader : IsReader numeral_at numeral anywhere
numeral-reader = record {
  takes = numeral-takes;
  again = numeral-again;
  shorter = λ n tokens rest p. let e = ap length p.1 in omega arith;
}

label-takes : (tokens : List Terminal) (read : List ℕ × List Terminal) → label_at tokens ≡ Some read → label read.0 tokens read.1
label-takes [] read e = absurd cc
label-takes (Sign mark ∷ more) read e = absurd cc
label-takes (Quoted other ∷ more) read e = absurd cc
label-takes (Word text ∷ more) read e =
    let p = if_some (is_name text) (text, more) read e in
    subst (λ (r : List ℕ × List Terminal). label r.0 (Word text ∷ more) r.1) p.1 (inl (p.0, refl))
label-takes (Number digits ∷ more) read e =
    subst (λ (r : List ℕ × List Terminal). label r.0 (Number digits ∷ more) r.1) (some-is (digits, more) read e) (inr refl)

label-again : (text : List ℕ) (tokens rest : List Terminal) → label text tokens rest → anywhere rest ≡ true → label_at tokens ≡ Some (text, rest)
label-again text tokens rest (inl p) stops = subst (λ (l : List Terminal). label_at l ≡ Some (text, rest)) (sym p.1) (rw p.0 refl)
label-again text tokens rest (inr p) stops = subst (λ (l : List Terminal). label_at l ≡ Some (text, rest)) (sym p) refl

label-shorter : (text : List ℕ) (tokens rest : List Terminal) → label text tokens rest → length rest < length tokens
label-shorter text tokens rest (inl p) = let e = ap length p.1 in omega arith
label-shorter text tokens rest (inr p) = let e = ap length p in omega arith

pub label-reader : IsReader label_at label anywhere
label-reader = record { takes = label-takes; again = label-again; shorter = label-shorter }
