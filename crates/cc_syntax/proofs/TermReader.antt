-- The readers of terms and sums read what the grammar spells.
use Rattle.std.proofs.Common.{◌≡◌, ℕ, zero, suc, ◌<◌, ◌≤◌, Bool, true, false, ◌||◌, List, [], ◌∷◌, ◌++◌, length, Option, Some, None, refl, sym, ap, subst, ◌∙◌, append_assoc, arith, inl, inr}
use Rattle.std.proofs.lemmas.List.{append-nil}
use Rattle.cc_defs.specs.declared.token.Mark.TheVariants as marks
use Rattle.cc_defs.specs.Trees.{PlainTerm, Applied, PlainSums, NoSums, MoreSums, PlainSum, Summed, PlainPiece, Numeral, Called, PlainAddends, NoAddends, MoreAddends}
use Rattle.cc_defs.specs.Grammar.{Terminal, Word, Number, Quoted, Sign, is_name, is_value_word, sign, name, additive, term, other_sums, sum, piece, other_pieces, ◌▸◌}
use Rattle.cc_syntax.specs.Readers.{Reader, name_at, numeral_at, sign_at}
use Rattle.cc_syntax.specs.Terms.{sums_of, PlainAddend, addends_of, call_at, leaf_at, additive_at, piece_by, addends_from, addends_by, sum_by, term_from, args_from, term_at, sum_at}
use Rattle.cc_syntax.proofs.IsReader.{IsReader, ends_term, ends_sum}
use Rattle.cc_syntax.proofs.Singles.{bind_some, given_cases, if_some, some-is, sign-literal, name-reader, numeral-reader}
use Rattle.std.proofs.lemmas.Bool.{false≢true}

-- ---- nothing is read

pub none-of : {A : Type 0} (o : Option A) → ((x : A) → o ≡ Some x → ⊥) → o ≡ None
none-of None no_value = refl
none-of (Some x) no_value = absurd (no_value x refl)

-- ---- the signs of sums

pub additive-takes : (tokens : List Terminal) (read : Bool × List Terminal) → additive_at tokens ≡ Some read → tokens ≡ Sign (additive read.0) ∷ read.1
additive-takes (Sign marks.Plus ∷ rest) read e = ap (λ (r : Bool × List Terminal). Sign (additive r.0) ∷ r.1) (some-is (false, rest) read e)
additive-takes (Sign marks.Minus ∷ rest) read e = ap (λ (r : Bool × List Terminal). Sign (additive r.0) ∷ r.1) (some-is (true, rest) read e)
additive-takes tokens read e = absurd cc

additive-here : (minus : Bool) (rest : List Terminal) → additive_at (Sign (additive minus) ∷ rest) ≡ Some (minus, rest)
additive-here true rest = refl
additive-here false rest = refl

additive-bars : (minus : Bool) (rest : List Terminal) → ends_sum (Sign (additive minus) ∷ rest) ≡ false
additive-bars true rest = refl
additive-bars false rest = refl

additive-ends : (minus : Bool) (rest : List Terminal) → ends_term (Sign (additive minus) ∷ rest) ≡ true
additive-ends true rest = refl
additive-ends false rest = refl

no-additive : (rest : List Terminal) → ends_sum rest ≡ true → additive_at rest ≡ None
no-additive rest e =
    none-of (additive_at rest) (λ read q.
    let same = ap ends_sum (additive-takes rest read q) in
    let bar = additive-bars read.0 read.1 in
    absurd cc)

pub sum-term : (rest : List Terminal) → ends_sum rest ≡ true → ends_term rest ≡ true
sum-term (Sign marks.LeftParen ∷ rest) e = absurd cc
sum-term rest e = refl

-- ---- a term and a sum have a token at least

mutual
  pub term-shorter : (t : PlainTerm) (tokens rest : List Terminal) → term t tokens rest → length rest < length tokens
  term-shorter (Applied text NoSums) tokens rest p = let e = ap length p.1 in omega arith
  term-shorter (Applied text (MoreSums first others)) tokens rest p =
      let one = name-reader.shorter text tokens p.0 p.1 in
      let two = (sign-literal marks.LeftParen).shorter p.0 p.2.0 p.2.1 in
      let three = sum-shorter first p.2.0 p.2.2.0 p.2.2.1 in
      let four = others-shorter others p.2.2.0 rest p.2.2.2 in
      omega arith

  others-shorter : (others : PlainSums) (tokens rest : List Terminal) → other_sums others tokens rest → length rest < length tokens
  others-shorter NoSums tokens rest p = (sign-literal marks.RightParen).shorter tokens rest p
  others-shorter (MoreSums first others) tokens rest p =
      let one = (sign-literal marks.Comma).shorter tokens p.0 p.1 in
      let two = sum-shorter first p.0 p.2.0 p.2.1 in
      let three = others-shorter others p.2.0 rest p.2.2 in
      omega arith

  pub sum-shorter : (s : PlainSum) (tokens rest : List Terminal) → sum s tokens rest → length rest < length tokens
  sum-shorter (Summed first others) tokens rest p =
      let one = piece-shorter first tokens p.0 p.1 in
      let two = pieces-not_longer others p.0 rest p.2 in
      omega arith

  piece-shorter : (x : PlainPiece) (tokens rest : List Terminal) → piece x tokens rest → length rest < length tokens
  piece-shorter (Numeral n) tokens rest p = numeral-reader.shorter n tokens rest p
  piece-shorter (Called t) tokens rest p = term-shorter t tokens rest p

  pieces-not_longer : (others : PlainAddends) (tokens rest : List Terminal) → other_pieces others tokens rest → length rest ≤ length tokens
  pieces-not_longer NoAddends tokens rest p = let e = ap length p in omega arith
  pieces-not_longer (MoreAddends minus first others) tokens rest p =
      let one = (sign-literal (additive minus)).shorter tokens p.0 p.1 in
      let two = piece-shorter first p.0 p.2.0 p.2.1 in
      let three = pieces-not_longer others p.2.0 rest p.2.2 in
      omega arith

-- ---- what is read is spelled: sums, by a reader of terms

abbrev Takes : Reader PlainTerm → Type 0
Takes reader = (tokens : List Terminal) (read : PlainTerm × List Terminal) → reader tokens ≡ Some read → term read.0 tokens read.1

module _ (reader : Reader PlainTerm) (takes : Takes reader) where
  piece-takes : (tokens : List Terminal) (read : PlainPiece × List Terminal) → piece_by reader tokens ≡ Some read → piece read.0 tokens read.1
  piece-takes tokens read e =
      elim (given_cases (numeral_at tokens) _ _ _ e) [
        | inl number ↦
            subst (λ (r : PlainPiece × List Terminal). piece r.0 tokens r.1) (some-is (Numeral number.0.0, number.0.1) read number.2)
            (numeral-reader.takes tokens number.0 number.1)
        | inr named ↦
            let t = bind_some (reader tokens) (λ t. Some (Called t.0, t.1)) read named.1 in
            subst (λ (r : PlainPiece × List Terminal). piece r.0 tokens r.1) (some-is (Called t.0.0, t.0.1) read t.2) (takes tokens t.0 t.1)
      ]

  -- the pieces that were read, behind those found
  abbrev Addends : List PlainAddend → List Terminal → List PlainAddend × List Terminal → Type 0
  Addends found tokens read = (more : List PlainAddend) × (read.0 ≡ found ++ more) × other_pieces (addends_of more) tokens read.1

  none-more : (found : List PlainAddend) (tokens : List Terminal) (read : List PlainAddend × List Terminal) → Option.Some (found, tokens) ≡ Some read → Addends found tokens read
  none-more found tokens read e =
      subst (Addends found tokens) (some-is (found, tokens) read e) ([], sym (append-nil found), refl)

  addends-take : (n : ℕ) (found : List PlainAddend) (tokens : List Terminal) (read : List PlainAddend × List Terminal) → addends_from reader n found tokens ≡ Some read
      → Addends found tokens read
  unfolding addends_from
  addends-take zero found tokens read e = none-more found tokens read e
  addends-take (suc n) found tokens read e =
      elim (given_cases (additive_at tokens) _ _ _ e) [
        | inl p ↦
            let one = bind_some (piece_by reader p.0.1) _ read p.2 in
            let others = addends-take n (found ++ (p.0.0, one.0.0) ∷ []) one.0.1 read one.2 in (
              (p.0.0, one.0.0) ∷ others.0,
              others.1 ∙ append_assoc found ((p.0.0, one.0.0) ∷ []) others.0,
              (p.0.1, additive-takes tokens p.0 p.1, (one.0.1, piece-takes p.0.1 one.0 one.1, others.2)),
            )
        | inr p ↦ none-more found tokens read p.1
      ]

  sum-takes : (tokens : List Terminal) (read : PlainSum × List Terminal) → sum_by reader tokens ≡ Some read → sum read.0 tokens read.1
  sum-takes tokens read e =
      let first = bind_some (piece_by reader tokens) _ read e in
      let others = bind_some (addends_by reader first.0.1) (λ others. Some (Summed first.0.0 (addends_of others.0), others.1)) read first.2 in
      let all = addends-take (length first.0.1) [] first.0.1 others.0 others.1 in
      let same : others.0.0 ≡ all.0 = all.1 in
      let rest : other_pieces (addends_of others.0.0) first.0.1 others.0.1 =
      subst (λ (l : List PlainAddend). other_pieces (addends_of l) first.0.1 others.0.1) (sym same) all.2 in
      subst (λ (r : PlainSum × List Terminal). sum r.0 tokens r.1) (some-is (Summed first.0.0 (addends_of others.0.0), others.0.1) read others.2)
      (first.0.1, piece-takes tokens first.0 first.1, rest)

-- ---- what is read is spelled: terms

call-takes : (tokens : List Terminal) (read : List ℕ × List Terminal) → call_at tokens ≡ Some read → (name read.0 ▸ sign marks.LeftParen) tokens read.1
call-takes tokens read e =
    let named = bind_some (name_at tokens) _ read e in
    let opened = bind_some (sign_at marks.LeftParen named.0.1) (λ rest. Some (named.0.0, rest)) read named.2 in
    subst (λ (r : List ℕ × List Terminal). (name r.0 ▸ sign marks.LeftParen) tokens r.1) (some-is (named.0.0, opened.0) read opened.2)
    (named.0.1, name-reader.takes tokens named.0 named.1, (sign-literal marks.LeftParen).takes named.0.1 opened.0 opened.1)

leaf-takes : (tokens : List Terminal) (read : PlainTerm × List Terminal) → leaf_at tokens ≡ Some read → term read.0 tokens read.1
leaf-takes [] read e = absurd cc
leaf-takes (Sign mark ∷ more) read e = absurd cc
leaf-takes (Number other ∷ more) read e = absurd cc
leaf-takes (Quoted other ∷ more) read e = absurd cc
leaf-takes (Word text ∷ more) read e =
    let p = if_some (is_name text || is_value_word text) (Applied text NoSums, more) read e in
    subst (λ (r : PlainTerm × List Terminal). term r.0 (Word text ∷ more) r.1) p.1 (p.0, refl)

-- the arguments that were read, behind those found
abbrev Args : List PlainSum → List Terminal → List PlainSum × List Terminal → Type 0
Args found tokens read =
    (first : PlainSum) × (others : List PlainSum) × (between : List Terminal) × (read.0 ≡ found ++ first ∷ others) × sum first tokens between
    × other_sums (sums_of others) between read.1

abbrev TermTakes : ℕ → Type 0
TermTakes n = Takes (term_from n)

abbrev ArgsTake : ℕ → Type 0
ArgsTake n = (found : List PlainSum) (tokens : List Terminal) (read : List PlainSum × List Terminal) → args_from n found tokens ≡ Some read → Args found tokens read

applied-takes : (n : ℕ) → ArgsTake n → TermTakes (suc n)
unfolding term_from args_from
applied-takes n args_take tokens read e =
    elim (given_cases (call_at tokens) (leaf_at tokens) _ _ e) [
      | inr leaf ↦ leaf-takes tokens read leaf.1
      | inl call ↦
          let opened = call-takes tokens call.0 call.1 in
          let args = bind_some (args_from n [] call.0.1) (λ args. Some (Applied call.0.0 (sums_of args.0), args.1)) read call.2 in
          let all = args_take [] call.0.1 args.0 args.1 in
          let whole : term (Applied call.0.0 (MoreSums all.0 (sums_of all.1))) tokens args.0.1 =
          (opened.0, opened.1, (call.0.1, opened.2, (all.2, all.4, all.5))) in
          let same : args.0.0 ≡ all.0 ∷ all.1 = all.3 in
          let named : term (Applied call.0.0 (sums_of args.0.0)) tokens args.0.1 =
          subst (λ (l : List PlainSum). term (Applied call.0.0 (sums_of l)) tokens args.0.1) (sym same) whole in
          subst (λ (r : PlainTerm × List Terminal). term r.0 tokens r.1) (some-is (Applied call.0.0 (sums_of args.0.0), args.0.1) read args.2) named
    ]

more-take : (n : ℕ) → TermTakes n → ArgsTake n → ArgsTake (suc n)
unfolding args_from
more-take n term_takes args_take found tokens read e =
    let one = bind_some (sum_by (term_from n) tokens) _ read e in
    let first = sum-takes (term_from n) term_takes tokens one.0 one.1 in
    elim (given_cases (sign_at marks.Comma one.0.1) _ _ _ one.2) [
      | inl comma ↦
          let all = args_take (found ++ one.0.0 ∷ []) comma.0 read comma.2 in (
            one.0.0,
            all.0 ∷ all.1,
            one.0.1,
            all.3 ∙ append_assoc found (one.0.0 ∷ []) (all.0 ∷ all.1),
            first,
            (comma.0, (sign-literal marks.Comma).takes one.0.1 comma.0 comma.1, (all.2, all.4, all.5)),
          )
      | inr last ↦
          let shut = bind_some (sign_at marks.RightParen one.0.1) (λ rest. Some (found ++ one.0.0 ∷ [], rest)) read last.1 in
          let same = some-is (found ++ one.0.0 ∷ [], shut.0) read shut.2 in
          let end : sign marks.RightParen one.0.1 read.1 = (sign-literal marks.RightParen).takes one.0.1 shut.0 shut.1 ∙ ap (λ (r : List PlainSum × List Terminal). Sign marks.RightParen ∷ r.1) same in
          (one.0.0, [], one.0.1, sym (ap (λ (r : List PlainSum × List Terminal). r.0) same), first, end)
    ]

mutual
  unfolding term_from args_from

  term-takes : (n : ℕ) → TermTakes n
  term-takes zero tokens read e = absurd cc
  term-takes (suc n) tokens read e = applied-takes n (args-take n) tokens read e

  args-take : (n : ℕ) → ArgsTake n
  args-take zero found tokens read e = absurd cc
  args-take (suc n) found tokens read e = more-take n (term-takes n) (args-take n) found tokens read e

-- ---- what is spelled is read

abbrev sums_in : PlainSums → List PlainSum
sums_in NoSums = []
sums_in (MoreSums first others) = first ∷ sums_in others

sums-list : (args : PlainSums) → sums_of (sums_in args) ≡ args
sums-list NoSums = refl
sums-list (MoreSums first others) = ap (MoreSums first) (sums-list others)

abbrev addends_in : PlainAddends → List PlainAddend
addends_in NoAddends = []
addends_in (MoreAddends minus first others) = (minus, first) ∷ addends_in others

addends-list : (others : PlainAddends) → addends_of (addends_in others) ≡ others
addends-list NoAddends = refl
addends-list (MoreAddends minus first others) = ap (MoreAddends minus first) (addends-list others)

abbrev TermAgain : PlainTerm → Type 0
TermAgain t = (n : ℕ) (tokens rest : List Terminal) → length tokens ≤ n → term t tokens rest → ends_term rest ≡ true → term_from n tokens ≡ Some (t, rest)

abbrev PieceAgain : PlainPiece → Type 0
PieceAgain x = (n : ℕ) (tokens rest : List Terminal) → length tokens ≤ n → piece x tokens rest → ends_term rest ≡ true → piece_by (term_from n) tokens ≡ Some (x, rest)

abbrev AddendsAgain : PlainAddends → Type 0
AddendsAgain others =
    (n count : ℕ) (found : List PlainAddend) (tokens rest : List Terminal) → length tokens ≤ n → length tokens ≤ count → other_pieces others tokens rest → ends_sum rest ≡ true
    → addends_from (term_from n) count found tokens ≡ Some (found ++ addends_in others, rest)

abbrev SumAgain : PlainSum → Type 0
SumAgain s = (n : ℕ) (tokens rest : List Terminal) → length tokens ≤ n → sum s tokens rest → ends_sum rest ≡ true → sum_by (term_from n) tokens ≡ Some (s, rest)

abbrev ArgsAgain : PlainSums → Type 0
ArgsAgain NoSums = Unit {0}
ArgsAgain (MoreSums first others) =
    (n : ℕ) (found : List PlainSum) (tokens between rest : List Terminal) → length tokens < n → sum first tokens between → other_sums others between rest
    → args_from n found tokens ≡ Some (found ++ first ∷ sums_in others, rest)

-- ---- sums

number-again : (n : ℕ) → PieceAgain (Numeral n)
number-again number n tokens rest le p e = let read = numeral-reader.again number tokens rest p refl in rw read refl

no-numeral : (t : PlainTerm) (tokens rest : List Terminal) → term t tokens rest → numeral_at tokens ≡ None
no-numeral (Applied text NoSums) tokens rest p = ap numeral_at p.1
no-numeral (Applied text (MoreSums first others)) tokens rest p = ap numeral_at p.1.1

called-again : (t : PlainTerm) → TermAgain t → PieceAgain (Called t)
called-again t term_again n tokens rest le p e = rw (no-numeral t tokens rest p, term_again n tokens rest le p e) refl

no-addends : AddendsAgain NoAddends
unfolding addends_from
no-addends n zero found tokens rest le few p e = ap (λ (l : List PlainAddend). Some (l, tokens)) (sym (append-nil found)) ∙ ap (λ (l : List Terminal). Some (found ++ [], l)) p
no-addends n (suc count) found tokens rest le few p e =
    let none : additive_at tokens ≡ None = ap additive_at p ∙ no-additive rest e in
    rw none (ap (λ (l : List PlainAddend). Some (l, tokens)) (sym (append-nil found)) ∙ ap (λ (l : List Terminal). Some (found ++ [], l)) p)

-- a piece may end before the others
pieces-end : (others : PlainAddends) (tokens rest : List Terminal) → other_pieces others tokens rest → ends_sum rest ≡ true → ends_term tokens ≡ true
pieces-end NoAddends tokens rest p e = ap ends_term p ∙ sum-term rest e
pieces-end (MoreAddends minus first others) tokens rest p e = ap ends_term p.1 ∙ additive-ends minus p.0

more-addends : (minus : Bool) (first : PlainPiece) (others : PlainAddends) → PieceAgain first → AddendsAgain others → AddendsAgain (MoreAddends minus first others)
unfolding addends_from
more-addends minus first others piece_again others_again n zero found tokens rest le few p e = let short = ap length p.1 in absurd (omega arith)
more-addends minus first others piece_again others_again n (suc count) found tokens rest le few p e =
    let here : additive_at tokens ≡ Some (minus, p.0) = ap additive_at p.1 ∙ additive-here minus p.0 in
    let one = (sign-literal (additive minus)).shorter tokens p.0 p.1 in
    let two = piece-shorter first p.0 p.2.0 p.2.1 in
    let read = piece_again n p.0 p.2.0 (omega arith) p.2.1 (pieces-end others p.2.0 rest p.2.2 e) in
    let more = others_again n count (found ++ (minus, first) ∷ []) p.2.0 rest (omega arith) (omega arith) p.2.2 e in
    rw (here, read) (more ∙ ap (λ (l : List PlainAddend). Some (l, rest)) (append_assoc found ((minus, first) ∷ []) (addends_in others)))

summed-again : (first : PlainPiece) (others : PlainAddends) → PieceAgain first → AddendsAgain others → SumAgain (Summed first others)
summed-again first others piece_again others_again n tokens rest le p e =
    let one = piece-shorter first tokens p.0 p.1 in
    let read = piece_again n tokens p.0 le p.1 (pieces-end others p.0 rest p.2 e) in
    let more = others_again n (length p.0) [] p.0 rest (omega arith) (omega arith) p.2 e in
    rw (read, more, addends-list others) refl

-- ---- terms

abbrev behind-first : List Terminal → List Terminal
behind-first [] = []
behind-first (one ∷ others) = others

no-call : (text : List ℕ) (rest : List Terminal) → ends_term rest ≡ true → call_at (Word text ∷ rest) ≡ None
no-call text rest e =
    none-of (call_at (Word text ∷ rest)) (λ read q.
    let call = call-takes (Word text ∷ rest) read q in
    absurd (false≢true (sym (ap ends_term (ap behind-first call.1.1 ∙ call.2)) ∙ e)))

leaf-again : (text : List ℕ) → TermAgain (Applied text NoSums)
unfolding term_from
leaf-again text zero tokens rest le p e = let same = ap length p.1 in absurd (omega arith)
leaf-again text (suc n) tokens rest le p e =
    subst (λ (l : List Terminal). term_from (suc n) l ≡ Some (Applied text NoSums, rest)) (sym p.1)
    (rw (no-call text rest e, p.0) refl)

applied-again : (text : List ℕ) (first : PlainSum) (others : PlainSums) → ArgsAgain (MoreSums first others) → TermAgain (Applied text (MoreSums first others))
unfolding term_from
applied-again text first others args_again zero tokens rest le p e =
    let same = ap length p.1.1 in absurd (omega arith)
applied-again text first others args_again (suc n) tokens rest le p e =
    let one = name-reader.shorter text tokens p.0 p.1 in
    let two = (sign-literal marks.LeftParen).shorter p.0 p.2.0 p.2.1 in
    let named = name-reader.again text tokens p.0 p.1 refl in
    let opened = (sign-literal marks.LeftParen).again p.0 p.2.0 p.2.1 in
    let args = args_again n [] p.2.0 p.2.2.0 rest (omega arith) p.2.2.1 p.2.2.2 in
    rw (named, opened, args, sums-list others) refl

args-step : (first : PlainSum) (others : PlainSums) → SumAgain first → ArgsAgain others → ArgsAgain (MoreSums first others)
unfolding args_from
args-step first others sum_again args_again zero found tokens between rest lt p q = absurd (omega arith)
args-step first NoSums sum_again args_again (suc n) found tokens between rest lt p q =
    let ends : ends_sum between ≡ true = rw q refl in
    let one = sum_again n tokens between (omega arith) p ends in
    rw (one, q) refl
args-step first (MoreSums second others) sum_again args_again (suc n) found tokens between rest lt p q =
    let ends : ends_sum between ≡ true = rw q.1 refl in
    let one = sum_again n tokens between (omega arith) p ends in
    let short = sum-shorter first tokens between p in
    let comma = (sign-literal marks.Comma).shorter between q.0 q.1 in
    let others_again = args_again n (found ++ first ∷ []) q.0 q.2.0 rest (omega arith) q.2.1 q.2.2 in
    rw (one, q.1) (others_again ∙ ap (λ (l : List PlainSum). Some (l, rest)) (append_assoc found (first ∷ []) (second ∷ sums_in others)))

mutual
  term-again : (t : PlainTerm) → TermAgain t
  term-again (Applied text NoSums) = leaf-again text
  term-again (Applied text (MoreSums first others)) = applied-again text first others (args-again (MoreSums first others))

  args-again : (args : PlainSums) → ArgsAgain args
  args-again NoSums = tt
  args-again (MoreSums first others) = args-step first others (sum-again first) (args-again others)

  sum-again : (s : PlainSum) → SumAgain s
  sum-again (Summed first others) = summed-again first others (piece-again first) (addends-again others)

  piece-again : (x : PlainPiece) → PieceAgain x
  piece-again (Numeral number) = number-again number
  piece-again (Called t) = called-again t (term-again t)

  addends-again : (others : PlainAddends) → AddendsAgain others
  addends-again NoAddends = no-addends
  addends-again (MoreAddends minus first others) = more-addends minus first others (piece-again first) (addends-again others)

pub term-reader : IsReader term_at term ends_term
term-reader = record {
  takes = λ tokens read e. term-takes (length tokens) tokens read e;
  again = λ t tokens rest p e. term-again t (length tokens) tokens rest (omega arith) p e;
  shorter = term-shorter;
}

pub sum-reader : IsReader sum_at sum ends_sum
sum-reader = record {
  takes = λ tokens read e. sum-takes (term_from (length tokens)) (term-takes (length tokens)) tokens read e;
  again = λ s tokens rest p e. sum-again s (length tokens) tokens rest (omega arith) p e;
  shorter = sum-shorter;
}
