-- The text of a log tells its lines: each is one line of the text, and ends with the first line feed.
use Rattle.std.proofs.Common.{◌≡◌, ℕ, ◌/◌, ◌%◌, ◌+◌, ◌≤◌, ◌<◌, Bool, true, false, eqb, List, [], ◌∷◌, ◌++◌, decimal, codes, flat_map, refl, sym, ap, subst, ◌∙◌, arith, append_assoc}
use Rattle.std.specs.List.{AllByRecursion}
use Rattle.std.proofs.lemmas.Bool.Decides.{nat_tests}
use Rattle.std.proofs.lemmas.Fmt.{decimal_by_steps}
use Rattle.std.proofs.lemmas.List.{append_cancel_left}
use Rattle.cc_defs.specs.declared.log.EndWord.TheVariants as words
use Rattle.cc_defs.specs.declared.log.LogLine.{LogLine}
use Rattle.cc_defs.specs.declared.log.LogLine.TheVariants as lines
use Rattle.cc_defs.specs.Clauses.{Literal}
use Rattle.cc_defs.specs.LogTexts.{IsShort, IsShortLiteral, IsFormed, header, line_text, lines_in, literal_text}
use Rattle.cc_log.specs.Laws.{LogsTellTheirLines}
use Rattle.cc_log.proofs.Lines.{one_line, short_push, whole_block, whole_derived}
use Rattle.cc_log.proofs.Spelled.{numbers_text, literals_text}

abbrev pub HasNoFeed : List ℕ → Type 0
HasNoFeed text = AllByRecursion (λ (byte : ℕ). eqb byte 10 ≡ false) text

no_feed_append : (xs ys : List ℕ) → HasNoFeed xs → HasNoFeed ys → HasNoFeed (xs ++ ys)
no_feed_append [] ys a b = b
no_feed_append (x ∷ xs) ys a b = (a.0, no_feed_append xs ys a.1 b)

-- ---- numbers and literals

abbrev NoFeedBy : ℕ → List ℕ → Type 0
NoFeedBy n digits = n ≤ 999999999 → HasNoFeed digits

no_feed_digit : (n : ℕ) → eqb (48 + n) 10 ≡ false
no_feed_digit n = grind (arith, nat_tests)

no_feed_one : (n : ℕ) → n < 10 → NoFeedBy n ((48 + n) ∷ [])
no_feed_one n below short = (no_feed_digit n, tt)

no_feed_more : (n : ℕ) (digits : List ℕ) → 10 ≤ n → NoFeedBy (n / 10) digits → NoFeedBy n (digits ++ (48 + n % 10) ∷ [])
no_feed_more n digits large front short = no_feed_append digits ((48 + n % 10) ∷ []) (front (omega arith)) (no_feed_digit (n % 10), tt)

no_feed_decimal : (n : ℕ) → IsShort n → HasNoFeed (decimal n)
no_feed_decimal n short = decimal_by_steps NoFeedBy no_feed_one no_feed_more n (omega arith) short

no_feed_numbers : (numbers : List ℕ) → AllByRecursion IsShort numbers → HasNoFeed (numbers_text numbers)
no_feed_numbers [] all = tt
no_feed_numbers (number ∷ numbers) all = (refl, no_feed_append (decimal number) (numbers_text numbers) (no_feed_decimal number all.0) (no_feed_numbers numbers all.1))

no_feed_signed : (variable : ℕ) (positive : Bool) → IsShort variable → HasNoFeed (literal_text (record { variable = variable; positive = positive }))
no_feed_signed variable true short = no_feed_decimal variable short
no_feed_signed variable false short = (refl, no_feed_decimal variable short)

no_feed_literal : (literal : Literal) → IsShortLiteral literal → HasNoFeed (literal_text literal)
no_feed_literal literal short = no_feed_signed literal.variable literal.positive short.1

no_feed_literals : (literals : List Literal) → AllByRecursion IsShortLiteral literals → HasNoFeed (literals_text literals)
no_feed_literals [] all = tt
no_feed_literals (literal ∷ literals) all =
    (refl, no_feed_append (literal_text literal) (literals_text literals) (no_feed_literal literal all.0) (no_feed_literals literals all.1))

-- ---- lines

-- what a line is, without its line feed
abbrev pub EndsOnce : List ℕ → Type 0
EndsOnce text = (body : List ℕ) × (text ≡ body ++ 10 ∷ []) × HasNoFeed body

pub ends_once : (line : LogLine) → IsFormed line → EndsOnce (line_text line)
ends_once (lines.Section true horizon) formed = (119 ∷ 32 ∷ decimal horizon, refl, (refl, (refl, no_feed_decimal horizon formed)))
ends_once (lines.Section false horizon) formed = (104 ∷ 32 ∷ decimal horizon, refl, (refl, (refl, no_feed_decimal horizon formed)))
ends_once (lines.Derived clause chain) formed = (
  100 ∷ (literals_text clause ++ (32 ∷ 48 ∷ numbers_text (chain ++ 0 ∷ []))),
  whole_derived clause chain ∙ ap (λ (t : List ℕ). 100 ∷ t) (sym (append_assoc (literals_text clause) (32 ∷ 48 ∷ numbers_text (chain ++ 0 ∷ [])) (10 ∷ []))),
  (
    refl,
    no_feed_append (literals_text clause) (32 ∷ 48 ∷ numbers_text (chain ++ 0 ∷ [])) (no_feed_literals clause formed.0)
        (refl, (refl, no_feed_numbers (chain ++ 0 ∷ []) (short_push chain 0 formed.1 (omega arith)))),
  ),
)
ends_once (lines.Block row) formed = (98 ∷ numbers_text row, whole_block row, (refl, no_feed_numbers row formed))
ends_once (lines.End words.Empty) formed = (codes "e empty", refl, (refl, (refl, (refl, (refl, (refl, (refl, (refl, tt))))))))
ends_once (lines.End words.Found) formed = (codes "e found", refl, (refl, (refl, (refl, (refl, (refl, (refl, (refl, tt))))))))
ends_once (lines.End words.Spent) formed = (codes "e spent", refl, (refl, (refl, (refl, (refl, (refl, (refl, (refl, tt))))))))

-- ---- a line in front of a text

first_body : (body rest : List ℕ) → HasNoFeed body → lines_in ((body ++ 10 ∷ []) ++ rest) ≡ (body ++ 10 ∷ []) ∷ lines_in rest
first_body [] rest none = refl
first_body (byte ∷ body) rest none = rw (none.0, first_body body rest none.1) refl

pub first_text : (text rest : List ℕ) → EndsOnce text → lines_in (text ++ rest) ≡ text ∷ lines_in rest
first_text text rest (body, is, none) = subst (λ (t : List ℕ). lines_in (t ++ rest) ≡ t ∷ lines_in rest) (sym is) (first_body body rest none)

first_texts : (one other : List ℕ) (rest more : List ℕ) → EndsOnce one → EndsOnce other → one ++ rest ≡ other ++ more → one ≡ other
first_texts one other rest more a b is =
    let same : one ∷ lines_in rest ≡ other ∷ lines_in more = sym (first_text one rest a) ∙ ap lines_in is ∙ first_text other more b in
    cc

not_nothing : (text rest : List ℕ) → EndsOnce text → [] ≡ text ++ rest → ⊥
not_nothing text rest once is =
    let same : [] ≡ text ∷ lines_in rest = ap lines_in is ∙ first_text text rest once in
    cc

abbrev texts_of : List LogLine → List ℕ
texts_of all = flat_map line_text all

same_lines : (one other : List LogLine) → AllByRecursion IsFormed one → AllByRecursion IsFormed other → texts_of one ≡ texts_of other → one ≡ other
same_lines [] [] a b is = refl
same_lines [] (line ∷ other) a b is = absurd (not_nothing (line_text line) (texts_of other) (ends_once line b.0) is)
same_lines (line ∷ one) [] a b is = absurd (not_nothing (line_text line) (texts_of one) (ends_once line a.0) (sym is))
same_lines (x ∷ one) (y ∷ other) a b is =
    let texts = first_texts (line_text x) (line_text y) (texts_of one) (texts_of other) (ends_once x a.0) (ends_once y b.0) is in
    let first : x ≡ y = one_line (line_text x) x y (record { formed = a.0; spelled = refl }) (record { formed = b.0; spelled = texts }) in
    let behind : texts_of one ≡ texts_of other =
    append_cancel_left (line_text y) (texts_of one) (texts_of other) (ap (λ (t : List ℕ). t ++ texts_of one) (sym texts) ∙ is) in
    ap (λ (l : LogLine). l ∷ one) first ∙ ap (λ (ls : List LogLine). y ∷ ls) (same_lines one other a.1 b.1 behind)

pub logs_tell_their_lines : LogsTellTheirLines
logs_tell_their_lines one other a b is = same_lines one other a b (append_cancel_left header (texts_of one) (texts_of other) is)
