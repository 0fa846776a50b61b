-- What larger readers do, of what the smaller ones do.
use Rattle.std.proofs.Common.{◌≡◌, ◌⊎◌, ℕ, zero, suc, ◌<◌, ◌≤◌, Bool, true, ◌&&◌, List, [], ◌∷◌, ◌++◌, length, Option, Some, None, is_none, refl, sym, ap, subst, ◌∙◌, append_assoc, arith, inl, inr}
use Rattle.std.proofs.lemmas.Bool.{and_parts}
use Rattle.cc_defs.specs.declared.token.Mark.{Mark}
use Rattle.cc_defs.specs.declared.token.Mark.TheVariants as marks
use Rattle.cc_defs.specs.Grammar.{Terminal, Sign, Spelling, ◌▸◌, sign, word, in_parentheses, chained, listed, optional}
use Rattle.cc_syntax.specs.Readers.{Reader, Literal, given, ◌>>=◌, sign_at, word_at, ◌▷◌, ◌◁◌, paired, optional_at, listed_from, listed_at, parenthesized_at}
use Rattle.cc_syntax.proofs.IsReader.{IsReader, IsLiteral, anywhere}
use Rattle.cc_syntax.proofs.Singles.{bind_some, given_cases, some-is, sign-literal, word-literal}

-- the same of what may have no token
pub record IsPart {X : Type 0} (reader : Reader X) (spelling : X → Spelling) (stops : List Terminal → Bool) : Type 0 where
  pub takes : (tokens : List Terminal) (read : X × List Terminal) → reader tokens ≡ Some read → spelling read.0 tokens read.1
  pub again : (x : X) (tokens rest : List Terminal) → spelling x tokens rest → stops rest ≡ true → reader tokens ≡ Some (x, rest)
  pub not_longer : (x : X) (tokens rest : List Terminal) → spelling x tokens rest → length rest ≤ length tokens

pub as_part : {X : Type 0} {reader : Reader X} {spelling : X → Spelling} {stops : List Terminal → Bool} → IsReader reader spelling stops → IsPart reader spelling stops
as_part r = record {
  takes = r.takes;
  again = r.again;
  not_longer = λ x tokens rest p. let e = r.shorter x tokens rest p in omega arith;
}

-- ---- another spelling, and other ends

pub respelled : {X : Type 0} {reader : Reader X} {one other : X → Spelling} {stops : List Terminal → Bool} → IsReader reader one stops
    → ((x : X) (tokens rest : List Terminal) → one x tokens rest → other x tokens rest)
    → ((x : X) (tokens rest : List Terminal) → other x tokens rest → one x tokens rest) → IsReader reader other stops
respelled r to from = record {
  takes = λ tokens read e. to read.0 tokens read.1 (r.takes tokens read e);
  again = λ x tokens rest p s. r.again x tokens rest (from x tokens rest p) s;
  shorter = λ x tokens rest p. r.shorter x tokens rest (from x tokens rest p);
}

pub part_respelled : {X : Type 0} {reader : Reader X} {one other : X → Spelling} {stops : List Terminal → Bool} → IsPart reader one stops
    → ((x : X) (tokens rest : List Terminal) → one x tokens rest → other x tokens rest)
    → ((x : X) (tokens rest : List Terminal) → other x tokens rest → one x tokens rest) → IsPart reader other stops
part_respelled r to from = record {
  takes = λ tokens read e. to read.0 tokens read.1 (r.takes tokens read e);
  again = λ x tokens rest p s. r.again x tokens rest (from x tokens rest p) s;
  not_longer = λ x tokens rest p. r.not_longer x tokens rest (from x tokens rest p);
}

pub stopped : {X : Type 0} {reader : Reader X} {spelling : X → Spelling} {one other : List Terminal → Bool} → IsReader reader spelling one
    → ((rest : List Terminal) → other rest ≡ true → one rest ≡ true) → IsReader reader spelling other
stopped r ends = record {
  takes = r.takes;
  again = λ x tokens rest p s. r.again x tokens rest p (ends rest s);
  shorter = r.shorter;
}

pub part_stopped : {X : Type 0} {reader : Reader X} {spelling : X → Spelling} {one other : List Terminal → Bool} → IsPart reader spelling one
    → ((rest : List Terminal) → other rest ≡ true → one rest ≡ true) → IsPart reader spelling other
part_stopped r ends = record {
  takes = r.takes;
  again = λ x tokens rest p s. r.again x tokens rest p (ends rest s);
  not_longer = r.not_longer;
}

-- that something without a value does not stand here
abbrev pub lacks : Literal → List Terminal → Bool
lacks literal rest = is_none (literal rest)

is_none-is : {A : Type 0} (o : Option A) → is_none o ≡ true → o ≡ None
is_none-is None e = refl
is_none-is (Some x) e = absurd cc

pub lacks-none : (literal : Literal) (rest : List Terminal) → lacks literal rest ≡ true → literal rest ≡ None
lacks-none literal rest e = is_none-is (literal rest) e

-- ---- one behind the other

pub regroup : (a b c : Spelling) (tokens rest : List Terminal) → ((a ▸ b) ▸ c) tokens rest → (a ▸ b ▸ c) tokens rest
regroup a b c tokens rest p = (p.1.0, p.1.1, (p.0, p.1.2, p.2))

pub group : (a b c : Spelling) (tokens rest : List Terminal) → (a ▸ b ▸ c) tokens rest → ((a ▸ b) ▸ c) tokens rest
group a b c tokens rest p = (p.2.0, (p.0, p.1, p.2.1), p.2.2)

-- behind something without a value
pub behind : {X : Type 0} {literal : Literal} {mark : Spelling} {reader : Reader X} {spelling : X → Spelling} {stops : List Terminal → Bool}
    → IsLiteral literal mark → IsPart reader spelling stops → IsReader (literal ▷ reader) (λ x. mark ▸ spelling x) stops
behind {X = X} {literal = literal} {reader = reader} l r = record {
  takes = λ tokens read e.
      let first = bind_some (literal tokens) reader read e in
      (first.0, l.takes tokens first.0 first.1, r.takes first.0 read first.2);
  again = λ x tokens rest p s. let first : literal tokens ≡ Some p.0 = l.again tokens p.0 p.1 in rw first (r.again x p.0 rest p.2 s);
  shorter = λ x tokens rest p. let a = l.shorter tokens p.0 p.1 in let b = r.not_longer x p.0 rest p.2 in omega arith;
}

-- before something without a value, which lets it end
pub before : {X : Type 0} {literal : Literal} {mark : Spelling} {reader : Reader X} {spelling : X → Spelling} {stops : List Terminal → Bool}
    → IsPart reader spelling stops → IsLiteral literal mark → ((tokens rest : List Terminal) → mark tokens rest → stops tokens ≡ true)
    → IsReader (reader ◁ literal) (λ x. spelling x ▸ mark) anywhere
before {X = X} {literal = literal} {mark = mark} {reader = reader} {spelling = spelling} r l ends = record {
  takes = λ tokens read e.
      let first = bind_some (reader tokens) (λ found. literal found.1 >>= λ rest. Some (found.0, rest)) read e in
      let second = bind_some (literal first.0.1) (λ rest. Some (first.0.0, rest)) read first.2 in
      subst (λ (z : X × List Terminal). (spelling z.0 ▸ mark) tokens z.1) (some-is (first.0.0, second.0) read second.2)
      (first.0.1, r.takes tokens first.0 first.1, l.takes first.0.1 second.0 second.1);
  again = λ x tokens rest p s.
      let first : reader tokens ≡ Some (x, p.0) = r.again x tokens p.0 p.1 (ends p.0 rest p.2) in
      let second : literal p.0 ≡ Some rest = l.again p.0 rest p.2 in
      rw (first, second) refl;
  shorter = λ x tokens rest p. let a = l.shorter p.0 rest p.2 in let b = r.not_longer x tokens p.0 p.1 in omega arith;
}

-- a value that is made of the one that is spelled
abbrev pub made_by : {X Z : Type 0} → (X → Z) → (X → Spelling) → Z → Spelling
made_by {X = X} make spelling z tokens rest = (x : X) × (make x ≡ z) × spelling x tokens rest

pub made : {X Z : Type 0} {reader : Reader X} {spelling : X → Spelling} {stops : List Terminal → Bool} (make : X → Z) → IsReader reader spelling stops
    → IsReader (λ tokens. reader tokens >>= λ read. Some (make read.0, read.1)) (made_by make spelling) stops
made {X = X} {Z = Z} {reader = reader} {spelling = spelling} make r = record {
  takes = λ tokens read e.
      let first = bind_some (reader tokens) (λ found. Some (make found.0, found.1)) read e in
      subst (λ (z : Z × List Terminal). made_by make spelling z.0 tokens z.1) (some-is (make first.0.0, first.0.1) read first.2)
      (first.0.0, refl, r.takes tokens first.0 first.1);
  again = λ z tokens rest p s.
      let first : reader tokens ≡ Some (p.0, rest) = r.again p.0 tokens rest p.2 s in
      rw first (ap (λ (y : Z). Some (y, rest)) p.1);
  shorter = λ z tokens rest p. r.shorter p.0 tokens rest p.2;
}

pub made_part : {X Z : Type 0} {reader : Reader X} {spelling : X → Spelling} {stops : List Terminal → Bool} (make : X → Z) → IsPart reader spelling stops
    → IsPart (λ tokens. reader tokens >>= λ read. Some (make read.0, read.1)) (made_by make spelling) stops
made_part {X = X} {Z = Z} {reader = reader} {spelling = spelling} make r = record {
  takes = λ tokens read e.
      let first = bind_some (reader tokens) (λ found. Some (make found.0, found.1)) read e in
      subst (λ (z : Z × List Terminal). made_by make spelling z.0 tokens z.1) (some-is (make first.0.0, first.0.1) read first.2)
      (first.0.0, refl, r.takes tokens first.0 first.1);
  again = λ z tokens rest p s.
      let first : reader tokens ≡ Some (p.0, rest) = r.again p.0 tokens rest p.2 s in
      rw first (ap (λ (y : Z). Some (y, rest)) p.1);
  not_longer = λ z tokens rest p. r.not_longer p.0 tokens rest p.2;
}

-- one value, and another that depends on it
abbrev pub led_by : {X Y : Type 0} → (X → Spelling) → (X → Y → Spelling) → Y → Spelling
led_by {X = X} one two y tokens rest = (x : X) × (one x ▸ two x y) tokens rest

-- the first may end before the second
pub leading_part : {X Y : Type 0} {first : Reader X} {second : X → Reader Y} {one : X → Spelling} {two : X → Y → Spelling} {ends stops : List Terminal → Bool}
    → IsPart first one ends → ((x : X) → IsPart (second x) (two x) stops)
    → ((x : X) (y : Y) (tokens rest : List Terminal) → two x y tokens rest → stops rest ≡ true → ends tokens ≡ true)
    → IsPart (λ tokens. first tokens >>= λ x. second x.0 x.1) (led_by one two) stops
leading_part {X = X} {Y = Y} {first = first} {second = second} {one = one} {two = two} r q before = record {
  takes = λ tokens read e.
      let x = bind_some (first tokens) (λ x. second x.0 x.1) read e in
      (x.0.0, (x.0.1, r.takes tokens x.0 x.1, (q x.0.0).takes x.0.1 read x.2));
  again = λ y tokens rest p s.
      let x : first tokens ≡ Some (p.0, p.1.0) = r.again p.0 tokens p.1.0 p.1.1 (before p.0 y p.1.0 rest p.1.2 s) in
      rw x ((q p.0).again y p.1.0 rest p.1.2 s);
  not_longer = λ y tokens rest p. let a = r.not_longer p.0 tokens p.1.0 p.1.1 in let b = (q p.0).not_longer y p.1.0 rest p.1.2 in omega arith;
}

pub leading : {X Y : Type 0} {first : Reader X} {second : X → Reader Y} {one : X → Spelling} {two : X → Y → Spelling} {ends stops : List Terminal → Bool}
    → IsReader first one ends → ((x : X) → IsPart (second x) (two x) stops)
    → ((x : X) (y : Y) (tokens rest : List Terminal) → two x y tokens rest → stops rest ≡ true → ends tokens ≡ true)
    → IsReader (λ tokens. first tokens >>= λ x. second x.0 x.1) (led_by one two) stops
leading {X = X} {Y = Y} {first = first} {second = second} {one = one} {two = two} r q before =
    let whole = leading_part (as_part r) q before in
    record {
      takes = whole.takes;
      again = whole.again;
      shorter = λ y tokens rest p. let a = r.shorter p.0 tokens p.1.0 p.1.1 in let b = (q p.0).not_longer y p.1.0 rest p.1.2 in omega arith;
    }

-- a value that is made of two
abbrev pub paired_by : {X Y Z : Type 0} → (X → Y → Z) → (X → Spelling) → (Y → Spelling) → Z → Spelling
paired_by {X = X} {Y = Y} make one two z tokens rest = (x : X) × (y : Y) × (make x y ≡ z) × (one x ▸ two y) tokens rest

-- the first may end before the second
pub pair : {X Y Z : Type 0} {first : Reader X} {second : Reader Y} {one : X → Spelling} {two : Y → Spelling} {ends stops : List Terminal → Bool} (make : X → Y → Z)
    → IsReader first one ends → IsPart second two stops
    → ((y : Y) (tokens rest : List Terminal) → two y tokens rest → stops rest ≡ true → ends tokens ≡ true)
    → IsReader (paired make first second) (paired_by make one two) stops
pair {X = X} {Y = Y} {Z = Z} {first = first} {second = second} {one = one} {two = two} make r q before = record {
  takes = λ tokens read e.
      let x = bind_some (first tokens) (λ x. second x.1 >>= λ y. Some (make x.0 y.0, y.1)) read e in
      let y = bind_some (second x.0.1) (λ y. Some (make x.0.0 y.0, y.1)) read x.2 in
      subst (λ (z : Z × List Terminal). paired_by make one two z.0 tokens z.1) (some-is (make x.0.0 y.0.0, y.0.1) read y.2)
      (x.0.0, y.0.0, refl, (x.0.1, r.takes tokens x.0 x.1, q.takes x.0.1 y.0 y.1));
  again = λ z tokens rest p s.
      let x : first tokens ≡ Some (p.0, p.3.0) = r.again p.0 tokens p.3.0 p.3.1 (before p.1 p.3.0 rest p.3.2 s) in
      let y : second p.3.0 ≡ Some (p.1, rest) = q.again p.1 p.3.0 rest p.3.2 s in
      rw (x, y) (ap (λ (w : Z). Some (w, rest)) p.2);
  shorter = λ z tokens rest p. let a = r.shorter p.0 tokens p.3.0 p.3.1 in let b = q.not_longer p.1 p.3.0 rest p.3.2 in omega arith;
}

-- ---- a choice by something without a value

-- it stands there and one is behind it, or it does not and the other is here
abbrev pub by_choice : {X : Type 0} → Literal → Spelling → (X → Spelling) → (X → Spelling) → X → Spelling
by_choice literal mark one two x tokens rest = (mark ▸ one x) tokens rest ⊎ ((literal tokens ≡ None) × two x tokens rest)

pub choice_part : {X : Type 0} {literal : Literal} {mark : Spelling} {inner other : Reader X} {one two : X → Spelling} {stops : List Terminal → Bool}
    → IsLiteral literal mark → IsPart inner one stops → IsPart other two stops
    → IsPart (λ tokens. given (literal tokens) (other tokens) inner) (by_choice literal mark one two) stops
choice_part {X = X} {literal = literal} {mark = mark} {inner = inner} {other = other} {one = one} {two = two} {stops = stops} l r q = record {
  takes = λ tokens read e. elim (given_cases (literal tokens) (other tokens) inner (Some read) e) [
    | inl p ↦ inl (p.0, l.takes tokens p.0 p.1, r.takes p.0 read p.2)
    | inr p ↦ inr (p.0, q.takes tokens read p.1)
  ];
  again = choice_again;
  not_longer = choice_longer;
}
  where
    choice_again : (x : X) (tokens rest : List Terminal) → by_choice literal mark one two x tokens rest → stops rest ≡ true → given (literal tokens) (other tokens) inner ≡ Some (x, rest)
    choice_again x tokens rest (inl p) s = let first : literal tokens ≡ Some p.0 = l.again tokens p.0 p.1 in rw first (r.again x p.0 rest p.2 s)
    choice_again x tokens rest (inr p) s = rw p.0 (q.again x tokens rest p.1 s)

    choice_longer : (x : X) (tokens rest : List Terminal) → by_choice literal mark one two x tokens rest → length rest ≤ length tokens
    choice_longer x tokens rest (inl p) = let a = l.shorter tokens p.0 p.1 in let b = r.not_longer x p.0 rest p.2 in omega arith
    choice_longer x tokens rest (inr p) = q.not_longer x tokens rest p.1

pub choice : {X : Type 0} {literal : Literal} {mark : Spelling} {inner other : Reader X} {one two : X → Spelling} {stops : List Terminal → Bool}
    → IsLiteral literal mark → IsPart inner one stops → IsReader other two stops
    → IsReader (λ tokens. given (literal tokens) (other tokens) inner) (by_choice literal mark one two) stops
choice {X = X} {literal = literal} {mark = mark} {inner = inner} {other = other} {one = one} {two = two} {stops = stops} l r q =
    let whole = choice_part l r (as_part q) in
    record { takes = whole.takes; again = whole.again; shorter = choice_shorter }
  where
    choice_shorter : (x : X) (tokens rest : List Terminal) → by_choice literal mark one two x tokens rest → length rest < length tokens
    choice_shorter x tokens rest (inl p) = let a = l.shorter tokens p.0 p.1 in let b = r.not_longer x p.0 rest p.2 in omega arith
    choice_shorter x tokens rest (inr p) = q.shorter x tokens rest p.1

-- nothing is read, and the value is this
abbrev pub nothing_for : {X : Type 0} → X → X → Spelling
nothing_for x y tokens rest = (x ≡ y) × (tokens ≡ rest)

pub nothing : {X : Type 0} (x : X) → IsPart (λ rest. Some (x, rest)) (nothing_for x) anywhere
nothing {X = X} x = record {
  takes = λ tokens read e. subst (λ (z : X × List Terminal). nothing_for x z.0 tokens z.1) (some-is (x, tokens) read e) (refl, refl);
  again = λ y tokens rest p s. ap (λ (w : X). Some (w, tokens)) p.0 ∙ ap (λ (l : List Terminal). Some (y, l)) p.1;
  not_longer = λ y tokens rest p. let e = ap length p.1 in omega arith;
}

-- behind something without a value, or this value where it does not stand
abbrev pub or_nothing : {X : Type 0} → Spelling → X → (X → Spelling) → X → Spelling
or_nothing mark y one x tokens rest = (mark ▸ one x) tokens rest ⊎ nothing_for y x tokens rest

pub or_else : {X : Type 0} {literal : Literal} {mark : Spelling} {inner : Reader X} {one : X → Spelling} {stops : List Terminal → Bool} (y : X)
    → IsLiteral literal mark → IsPart inner one stops
    → IsPart (λ tokens. given (literal tokens) (Some (y, tokens)) inner) (or_nothing mark y one) (λ rest. stops rest && lacks literal rest)
or_else {X = X} {literal = literal} {mark = mark} {inner = inner} {one = one} {stops = stops} y l r = record {
  takes = λ tokens read e. elim (given_cases (literal tokens) (Some (y, tokens)) inner (Some read) e) [
    | inl p ↦ inl (p.0, l.takes tokens p.0 p.1, r.takes p.0 read p.2)
    | inr p ↦ inr ((nothing y).takes tokens read p.1)
  ];
  again = or_again;
  not_longer = or_longer;
}
  where
    or_again : (x : X) (tokens rest : List Terminal) → or_nothing mark y one x tokens rest → (stops rest && lacks literal rest) ≡ true → given (literal tokens) (Some (y, tokens)) inner ≡ Some (x, rest)
    or_again x tokens rest (inl p) s =
        let ends = and_parts (stops rest) (lacks literal rest) s in
        let first : literal tokens ≡ Some p.0 = l.again tokens p.0 p.1 in
        rw first (r.again x p.0 rest p.2 ends.0)
    or_again x tokens rest (inr p) s =
        let ends = and_parts (stops rest) (lacks literal rest) s in
        let none : literal tokens ≡ None = ap literal p.1 ∙ lacks-none literal rest ends.1 in
        rw none ((nothing y).again x tokens rest p refl)

    or_longer : (x : X) (tokens rest : List Terminal) → or_nothing mark y one x tokens rest → length rest ≤ length tokens
    or_longer x tokens rest (inl p) = let a = l.shorter tokens p.0 p.1 in let b = r.not_longer x p.0 rest p.2 in omega arith
    or_longer x tokens rest (inr p) = (nothing y).not_longer x tokens rest p

-- no value is read
abbrev pub none_for : {X : Type 0} → X → Spelling
none_for y tokens rest = ⊥

pub refusing : {X : Type 0} {stops : List Terminal → Bool} → IsReader {X = X} (λ tokens. None) none_for stops
refusing {X = X} = record {
  takes = λ tokens read e. absurd (some_not {A = X × List Terminal} read e);
  again = λ y tokens rest p s. absurd p;
  shorter = λ y tokens rest p. absurd p;
}
  where
    some_not : {A : Type 0} (x : A) → None ≡ Option.Some x → ⊥
    some_not x e = cc

-- ---- an item behind a word, if the word is there

pub option : {X : Type 0} {item : Reader X} {spelling : X → Spelling} {stops : List Terminal → Bool} (text : List ℕ) → IsReader item spelling stops
    → IsPart (optional_at item text) (optional spelling text) (λ rest. stops rest && lacks (word_at text) rest)
option {X = X} {item = item} {spelling = spelling} {stops = stops} text r =
    part_respelled (or_else None (word-literal text) (as_part (made (λ x. Some x) r))) to from
  where
    to : (x : Option X) (tokens rest : List Terminal) → or_nothing (word text) None (made_by (λ y. Some y) spelling) x tokens rest → optional spelling text x tokens rest
    to x tokens rest (inl p) = subst (λ (z : Option X). optional spelling text z tokens rest) p.2.1 (p.0, p.1, p.2.2)
    to x tokens rest (inr p) = subst (λ (z : Option X). optional spelling text z tokens rest) p.0 p.1

    from : (x : Option X) (tokens rest : List Terminal) → optional spelling text x tokens rest → or_nothing (word text) None (made_by (λ y. Some y) spelling) x tokens rest
    from None tokens rest p = inr (refl, p)
    from (Some x) tokens rest p = inl (p.0, p.1, (x, refl, p.2))

-- ---- one item or more, with a mark between them

module _ {X : Type 0} {item : Reader X} {spelling : X → Spelling} {stops : List Terminal → Bool} (mark : Mark) (r : IsReader item spelling stops) where
  listed_takes : (n : ℕ) (found : List X) (tokens : List Terminal) (read : List X × List Terminal) → listed_from item mark n found tokens ≡ Some read
      → (x : X) × (xs : List X) × (found ++ x ∷ xs ≡ read.0) × chained spelling mark x xs tokens read.1
  unfolding listed_from
  listed_takes zero found tokens read e = absurd cc
  listed_takes (suc n) found tokens read e =
      let first = bind_some (item tokens) (λ one. given (sign_at mark one.1) (Some (found ++ one.0 ∷ [], one.1)) (listed_from item mark n (found ++ one.0 ∷ []))) read e in
      let begins = r.takes tokens first.0 first.1 in
      elim (given_cases (sign_at mark first.0.1) (Some (found ++ first.0.0 ∷ [], first.0.1)) (listed_from item mark n (found ++ first.0.0 ∷ [])) (Some read) first.2) [
        | inl p ↦
            let others = listed_takes n (found ++ first.0.0 ∷ []) p.0 read p.2 in (
              first.0.0,
              others.0 ∷ others.1,
              sym (append_assoc found (first.0.0 ∷ []) (others.0 ∷ others.1)) ∙ others.2,
              (first.0.1, begins, (p.0, (sign-literal mark).takes first.0.1 p.0 p.1, others.3)),
            )
        | inr p ↦
            subst (λ (z : List X × List Terminal). (x : X) × (xs : List X) × (found ++ x ∷ xs ≡ z.0) × chained spelling mark x xs tokens z.1)
            (some-is (found ++ first.0.0 ∷ [], first.0.1) read p.1) (first.0.0, [], refl, begins)
      ]

  chained_shorter : (x : X) (xs : List X) (tokens rest : List Terminal) → chained spelling mark x xs tokens rest → length rest < length tokens
  chained_shorter x [] tokens rest p = r.shorter x tokens rest p
  chained_shorter x (y ∷ ys) tokens rest p =
      let a = r.shorter x tokens p.0 p.1 in
      let b = (sign-literal mark).shorter p.0 p.2.0 p.2.1 in
      let c = chained_shorter y ys p.2.0 rest p.2.2 in
      omega arith

  listed_again : ((rest : List Terminal) → stops (Sign mark ∷ rest) ≡ true) → (n : ℕ) (found : List X) (x : X) (xs : List X) (tokens rest : List Terminal)
      → chained spelling mark x xs tokens rest → length tokens ≤ n → stops rest ≡ true → sign_at mark rest ≡ None → listed_from item mark n found tokens ≡ Some (found ++ x ∷ xs, rest)
  unfolding listed_from
  listed_again ends zero found x xs tokens rest p few s none = let a = chained_shorter x xs tokens rest p in absurd (omega arith)
  listed_again ends (suc n) found x [] tokens rest p few s none =
      let first : item tokens ≡ Some (x, rest) = r.again x tokens rest p s in
      rw (first, none) refl
  listed_again ends (suc n) found x (y ∷ ys) tokens rest p few s none =
      let first : item tokens ≡ Some (x, p.0) = r.again x tokens p.0 p.1 (ap stops p.2.1 ∙ ends p.2.0) in
      let second : sign_at mark p.0 ≡ Some p.2.0 = (sign-literal mark).again p.0 p.2.0 p.2.1 in
      let a = r.shorter x tokens p.0 p.1 in
      let b = (sign-literal mark).shorter p.0 p.2.0 p.2.1 in
      let others = listed_again ends n (found ++ x ∷ []) y ys p.2.0 rest p.2.2 (omega arith) s none in
      rw (first, second) (others ∙ ap (λ (l : List X). Some (l, rest)) (append_assoc found (x ∷ []) (y ∷ ys)))

  pub items : ((rest : List Terminal) → stops (Sign mark ∷ rest) ≡ true)
      → IsReader (listed_at item mark) (listed spelling mark) (λ rest. stops rest && lacks (sign_at mark) rest)
  items ends = record { takes = takes; again = again; shorter = shorter }
    where
      takes : (tokens : List Terminal) (read : List X × List Terminal) → listed_at item mark tokens ≡ Some read → listed spelling mark read.0 tokens read.1
      takes tokens read e =
          let p = listed_takes (length tokens) [] tokens read e in
          subst (λ (l : List X). listed spelling mark l tokens read.1) p.2 p.3

      again : (xs : List X) (tokens rest : List Terminal) → listed spelling mark xs tokens rest → (stops rest && lacks (sign_at mark) rest) ≡ true → listed_at item mark tokens ≡ Some (xs, rest)
      again [] tokens rest p s = absurd p
      again (x ∷ xs) tokens rest p s =
          let both = and_parts (stops rest) (lacks (sign_at mark) rest) s in
          listed_again ends (length tokens) [] x xs tokens rest p (omega arith) both.0 (lacks-none (sign_at mark) rest both.1)

      shorter : (xs : List X) (tokens rest : List Terminal) → listed spelling mark xs tokens rest → length rest < length tokens
      shorter [] tokens rest p = absurd p
      shorter (x ∷ xs) tokens rest p = chained_shorter x xs tokens rest p

-- ---- in parentheses

pub parenthesized : {X : Type 0} {item : Reader X} {spelling : X → Spelling} {stops : List Terminal → Bool} → IsReader item spelling stops
    → ((rest : List Terminal) → stops (Sign marks.RightParen ∷ rest) ≡ true) → IsReader (parenthesized_at item) (λ x. in_parentheses (spelling x)) anywhere
parenthesized {X = X} {spelling = spelling} {stops = stops} r ends =
    respelled (before (as_part (behind (sign-literal marks.LeftParen) (as_part r))) (sign-literal marks.RightParen) (λ tokens rest p. ap stops p ∙ ends rest))
    (λ x tokens rest p. regroup (sign marks.LeftParen) (spelling x) (sign marks.RightParen) tokens rest p)
    (λ x tokens rest p. group (sign marks.LeftParen) (spelling x) (sign marks.RightParen) tokens rest p)
