-- An export is read back as its clauses.
use Rattle.std.proofs.Common.{◌≡◌, ◌∙◌, ℕ, zero, suc, ◌+◌, ◌/◌, ◌%◌, ◌<◌, ◌≤◌, Bool, true, false, not, eqb, List, [], ◌∷◌, ◌++◌, flat_map, map, length, codes, decimal, refl, sym, ap, subst, arith, append_assoc, append-nil, inl, inr}
use Rattle.std.specs.Prelude.{◌||◌, nat_lt}
use Rattle.std.specs.List.{AllByRecursion, filter, list_all}
use Rattle.std.specs.Fmt.{digit_glyph, digits, digits_onto}
use Rattle.std.proofs.lemmas.Bool.{cases_Bool}
use Rattle.std.proofs.lemmas.Bool.Decides.{nat_tests}
use Rattle.std.proofs.lemmas.Fmt.{decimal_by_steps}
use Rattle.cc_defs.specs.Clauses.{Literal, IsLiteralOver}
use Rattle.cc_defs.specs.LogTexts.{IsShort, before_lines, lines_in, literal_text}
use Rattle.cc_dimacs.specs.Cnfs.{AreOver}
use Rattle.cc_dimacs.specs.CnfTexts.{Line, before_pieces, begins_with, clause_line, clause_words, heading_text, is_some_piece, is_space, pieces_in, texts_of, told_lines, words_in, words_of}
use Rattle.cc_dimacs.specs.Laws.{ExportsAreCnf}
use Rattle.cc_dimacs.specs.Reading.{told_from}
use Rattle.cc_dimacs.proofs.Faults.{on_lines, texts_both, texts_on}
use Rattle.cc_dimacs.proofs.FirstLines.{comment_told, line_told}

-- ---- bytes of words: no spaces, which tells that they are no line feeds

abbrev IsBare : ℕ → Type 0
IsBare byte = is_space byte ≡ false

abbrev AreBare : List ℕ → Type 0
AreBare bytes = AllByRecursion IsBare bytes

bare_from : (byte : ℕ) → 45 ≤ byte → IsBare byte
bare_from byte large = grind (arith, nat_tests)

no_feed : (byte : ℕ) → IsBare byte → eqb byte 10 ≡ false
no_feed byte bare = elim (cases_Bool (eqb byte 10)) [
  | inl feed ↦ let wrong : is_space byte ≡ true = rw feed (ends (eqb byte 32) (eqb byte 9) (eqb byte 13)) in absurd cc
  | inr other ↦ other
]
  where
    ends : (a b c : Bool) → (a || (b || (c || true))) ≡ true
    ends true b c = refl
    ends false true c = refl
    ends false false true = refl
    ends false false false = refl

glyph_bare : (d : ℕ) → IsBare (digit_glyph false d)
glyph_bare d = elim (cases_Bool (nat_lt d 10)) [
  | inl small ↦ rw small (bare_from (48 + d) (omega arith))
  | inr large ↦ rw large (bare_from (87 + d) (omega arith))
]

onto_bare : (k n : ℕ) (bytes : List ℕ) → AreBare bytes → AreBare (digits_onto k 10 false n bytes)
onto_bare zero n bytes bare = bare
onto_bare (suc k) n bytes bare = elim (cases_Bool (eqb (n / 10) 0)) [
  | inl last ↦ rw last (glyph_bare (n % 10), bare)
  | inr more ↦ rw more (onto_bare k (n / 10) (digit_glyph false (n % 10) ∷ bytes) (glyph_bare (n % 10), bare))
]

decimal_bare : (n : ℕ) → AreBare (decimal n)
unfolding digits
decimal_bare n = onto_bare 64 n [] tt

-- ---- lines

fed : (text behind : List ℕ) → AllByRecursion (λ byte. eqb byte 10 ≡ false) text → lines_in (text ++ 10 ∷ behind) ≡ (text ++ 10 ∷ []) ∷ lines_in behind
fed [] behind none = refl
fed (byte ∷ text) behind none = rw none.0 (ap (before_lines byte) (fed text behind none.1))

feedless : (text : List ℕ) → AreBare text → AllByRecursion (λ byte. eqb byte 10 ≡ false) text
feedless [] bare = tt
feedless (byte ∷ text) bare = (no_feed byte bare.0, feedless text bare.1)

feedless_both : (one other : List ℕ) → AllByRecursion (λ byte. eqb byte 10 ≡ false) one → AllByRecursion (λ byte. eqb byte 10 ≡ false) other → AllByRecursion (λ byte. eqb byte 10 ≡ false) (one ++ other)
feedless_both [] other a b = b
feedless_both (byte ∷ one) other a b = (a.0, feedless_both one other a.1 b)

-- of literal texts by a test
tested : (text : List ℕ) → list_all (λ byte. not (eqb byte 10)) text ≡ true → AllByRecursion (λ byte. eqb byte 10 ≡ false) text
tested [] is = tt
tested (byte ∷ text) is = elim (cases_Bool (eqb byte 10)) [
  | inl feed ↦ let wrong : false ≡ true = rw feed at is in absurd cc
  | inr other ↦ (other, tested text (rw other at is))
]

-- ---- words

spaced_piece : (word behind : List ℕ) (space : ℕ) → AreBare word → is_space space ≡ true → pieces_in (word ++ space ∷ behind) ≡ word ∷ pieces_in behind
spaced_piece [] behind space bare is = rw is refl
spaced_piece (byte ∷ word) behind space bare is = rw bare.0 (ap (before_pieces byte) (spaced_piece word behind space bare.1 is))

-- a word, a space and what stands behind them
spaced : (word behind : List ℕ) (space : ℕ) → 0 < length word → AreBare word → is_space space ≡ true → words_in (word ++ space ∷ behind) ≡ word ∷ words_in behind
spaced [] behind space some bare is = absurd (omega arith)
spaced (byte ∷ word) behind space some bare is = ap (filter is_some_piece) (spaced_piece (byte ∷ word) behind space bare is)

-- ---- numbers and literals

-- a word that begins with no `c` and no `%`
record IsWord (text : List ℕ) : Type 0 where
  bare : AreBare text
  some : 0 < length text
  own : begins_with 37 text ≡ false
  told : begins_with 99 text ≡ false

abbrev IsDigitWord : ℕ → List ℕ → Type 0
IsDigitWord n text = (0 < length text) × (begins_with 37 text ≡ false) × (begins_with 99 text ≡ false)

digit_word : (n : ℕ) → IsShort n → IsDigitWord n (decimal n)
digit_word n short = decimal_by_steps IsDigitWord one more n (omega arith)
  where
    one : (n : ℕ) → n < 10 → IsDigitWord n ((48 + n) ∷ [])
    one n below = ((let e : 0 < 1 = omega arith in e), grind (arith, nat_tests), grind (arith, nat_tests))

    longer : (digits : List ℕ) (last n m : ℕ) → IsDigitWord m digits → IsDigitWord n (digits ++ last ∷ [])
    longer [] last n m is = absurd (let some = is.0 in omega arith)
    longer (digit ∷ digits) last n m is = ((let e : 0 < suc (length (digits ++ last ∷ [])) = omega arith in e), is.1, is.2)

    more : (n : ℕ) (digits : List ℕ) → 10 ≤ n → IsDigitWord (n / 10) digits → IsDigitWord n (digits ++ (48 + n % 10) ∷ [])
    more n digits large is = longer digits (48 + n % 10) n (n / 10) is

number_word : (n : ℕ) → IsShort n → IsWord (decimal n)
number_word n short = let h = digit_word n short in record { bare = decimal_bare n; some = h.0; own = h.1; told = h.2 }

literal_word : (literal : Literal) → IsShort literal.variable → IsWord (literal_text literal)
literal_word literal short = go literal.variable literal.positive short
  where
    go : (variable : ℕ) (sign : Bool) → IsShort variable → IsWord (literal_text (record { variable = variable; positive = sign }))
    go variable true short = number_word variable short
    go variable false short = record { bare = (refl, decimal_bare variable); some = (let e : 0 < suc (length (decimal variable)) = omega arith in e); own = refl; told = refl }

-- ---- the line of a clause

abbrev spaced_text : Literal → List ℕ
spaced_text literal = literal_text literal ++ codes " "

abbrev AreShort : List Literal → Type 0
AreShort clause = AllByRecursion (λ literal. IsShort literal.variable) clause

spaced_words : (clause : List Literal) (behind : List ℕ) → AreShort clause → words_in (flat_map spaced_text clause ++ behind) ≡ map literal_text clause ++ words_in behind
spaced_words [] behind short = refl
spaced_words (literal ∷ clause) behind short =
    let word = literal_word literal short.0 in
    ap words_in (append_assoc (spaced_text literal) (flat_map spaced_text clause) behind ∙ append_assoc (literal_text literal) (codes " ") (flat_map spaced_text clause ++ behind))
    ∙ spaced (literal_text literal) (flat_map spaced_text clause ++ behind) 32 word.some word.bare refl
    ∙ ap (λ (ws : List (List ℕ)). literal_text literal ∷ ws) (spaced_words clause behind short.1)

line_words : (clause : List Literal) → AreShort clause → words_in (clause_line clause) ≡ clause_words clause
line_words clause short = ap words_in (append_assoc (flat_map spaced_text clause) (codes "0") (10 ∷ [])) ∙ spaced_words clause (48 ∷ 10 ∷ []) short

spaced_feedless : (clause : List Literal) → AreShort clause → AllByRecursion (λ byte. eqb byte 10 ≡ false) (flat_map spaced_text clause)
spaced_feedless [] short = tt
spaced_feedless (literal ∷ clause) short =
    feedless_both (spaced_text literal) (flat_map spaced_text clause)
    (feedless_both (literal_text literal) (codes " ") (feedless (literal_text literal) (literal_word literal short.0).bare) (refl, tt)) (spaced_feedless clause short.1)

line_first : (clause : List Literal) (behind : List ℕ) → AreShort clause → lines_in (clause_line clause ++ behind) ≡ clause_line clause ∷ lines_in behind
line_first clause behind short =
    ap lines_in (append_assoc (flat_map spaced_text clause ++ codes "0") (10 ∷ []) behind)
    ∙ fed (flat_map spaced_text clause ++ codes "0") behind (feedless_both (flat_map spaced_text clause) (codes "0") (spaced_feedless clause short) (refl, tt))

begins_front : (byte : ℕ) (front behind : List ℕ) → 0 < length front → begins_with byte front ≡ false → begins_with byte (front ++ behind) ≡ false
begins_front byte [] behind some is = absurd (omega arith)
begins_front byte (first ∷ front) behind some is = is

line_begins : (byte : ℕ) (clause : List Literal) → AreShort clause → ((literal : Literal) → IsShort literal.variable → begins_with byte (literal_text literal) ≡ false) → eqb 48 byte ≡ false → begins_with byte (clause_line clause) ≡ false
line_begins byte [] short none zero_not = zero_not
line_begins byte (literal ∷ clause) short none zero_not =
    let word = literal_word literal short.0 in
    subst (λ (t : List ℕ). begins_with byte t ≡ false)
    (sym (append_assoc (flat_map spaced_text (literal ∷ clause)) (codes "0") (10 ∷ []) ∙ append_assoc (spaced_text literal) (flat_map spaced_text clause) (48 ∷ 10 ∷ [])
    ∙ append_assoc (literal_text literal) (codes " ") (flat_map spaced_text clause ++ 48 ∷ 10 ∷ [])))
    (begins_front byte (literal_text literal) (codes " " ++ (flat_map spaced_text clause ++ 48 ∷ 10 ∷ [])) word.some (none literal short.0))

-- ---- the lines of all clauses

lines_words : (clauses : List (List Literal)) (number : ℕ) → 0 < number → AllByRecursion AreShort clauses → texts_of (flat_map words_of (told_from number (flat_map clause_line clauses))) ≡ flat_map clause_words clauses
lines_words [] number some short = refl
lines_words (clause ∷ clauses) number some short =
    ap (λ (ls : List Line). texts_of (flat_map words_of ls))
    (line_told number (flat_map clause_line (clause ∷ clauses)) (clause_line clause) (flat_map clause_line clauses) some (line_first clause (flat_map clause_line clauses) short.0)
    (line_begins 37 clause short.0 (λ literal few. (literal_word literal few).own) refl) (line_begins 99 clause short.0 (λ literal few. (literal_word literal few).told) refl))
    ∙ texts_both (on_lines number (words_in (clause_line clause))) (flat_map words_of (told_from (number + 1) (flat_map clause_line clauses)))
    ∙ ap (λ (ts : List (List ℕ)). ts ++ texts_of (flat_map words_of (told_from (number + 1) (flat_map clause_line clauses)))) (texts_on number (words_in (clause_line clause)) ∙ line_words clause short.0)
    ∙ ap (λ (ts : List (List ℕ)). clause_words clause ++ ts) (lines_words clauses (number + 1) (omega arith) short.1)

short_all : (variables : ℕ) (clauses : List (List Literal)) → IsShort variables → AreOver variables clauses → AllByRecursion AreShort clauses
short_all variables [] short over = tt
short_all variables (clause ∷ clauses) short over = (each clause over.0, short_all variables clauses short over.1)
  where
    each : (clause : List Literal) → AllByRecursion (IsLiteralOver variables) clause → AreShort clause
    each [] over = tt
    each (literal ∷ clause) over = ((let most = over.0.1 in omega arith), each clause over.1)

-- ---- the heading

module _ (horizon variables count : ℕ) (variables_short : IsShort variables) (count_short : IsShort count) where
  abbrev pub heading_line : List ℕ
  heading_line = codes "p cnf " ++ (decimal variables ++ 32 ∷ (decimal count ++ 10 ∷ []))

  heading_parts : (behind : List ℕ) → heading_text horizon variables count ++ behind ≡ (codes "c ccalc horizon " ++ decimal horizon) ++ 10 ∷ (heading_line ++ behind)
  heading_parts behind = simp append_assoc

  pub heading_words : words_in heading_line ≡ codes "p" ∷ codes "cnf" ∷ decimal variables ∷ decimal count ∷ []
  heading_words =
      let one = number_word variables variables_short in
      let other = number_word count count_short in
      ap (λ (ws : List (List ℕ)). codes "p" ∷ codes "cnf" ∷ ws)
      (spaced (decimal variables) (decimal count ++ 10 ∷ []) 32 one.some one.bare refl
      ∙ ap (λ (ws : List (List ℕ)). decimal variables ∷ ws) (spaced (decimal count) [] 10 other.some other.bare refl))

  heading_feedless : AllByRecursion (λ byte. eqb byte 10 ≡ false) (codes "p cnf " ++ (decimal variables ++ 32 ∷ decimal count))
  heading_feedless =
      feedless_both (codes "p cnf ") (decimal variables ++ 32 ∷ decimal count) (tested (codes "p cnf ") refl)
      (feedless_both (decimal variables) (32 ∷ decimal count) (feedless (decimal variables) (decimal_bare variables)) (refl, feedless (decimal count) (decimal_bare count)))

  heading_same : (behind : List ℕ) → heading_line ++ behind ≡ (codes "p cnf " ++ (decimal variables ++ 32 ∷ decimal count)) ++ 10 ∷ behind
  heading_same behind = simp append_assoc

  heading_first : (behind : List ℕ) → lines_in (heading_line ++ behind) ≡ heading_line ∷ lines_in behind
  heading_first behind =
      ap lines_in (heading_same behind) ∙ fed (codes "p cnf " ++ (decimal variables ++ 32 ∷ decimal count)) behind heading_feedless
      ∙ ap (λ (l : List ℕ). l ∷ lines_in behind) (sym (heading_same []) ∙ append-nil heading_line)

  comment_feedless : AllByRecursion (λ byte. eqb byte 10 ≡ false) (codes "c ccalc horizon " ++ decimal horizon)
  comment_feedless = feedless_both (codes "c ccalc horizon ") (decimal horizon) (tested (codes "c ccalc horizon ") refl) (feedless (decimal horizon) (decimal_bare horizon))

  pub all_told : (behind : List ℕ) → told_lines (heading_text horizon variables count ++ behind) ≡ (record { number = 2; text = heading_line }) ∷ told_from 3 behind
  all_told behind =
      comment_told 1 (heading_text horizon variables count ++ behind) ((codes "c ccalc horizon " ++ decimal horizon) ++ 10 ∷ []) (heading_line ++ behind) (omega arith)
      (ap lines_in (heading_parts behind) ∙ fed (codes "c ccalc horizon " ++ decimal horizon) (heading_line ++ behind) comment_feedless) refl refl
      ∙ line_told 2 (heading_line ++ behind) heading_line behind (omega arith) (heading_first behind) refl refl

pub exports_are_cnf : ExportsAreCnf
exports_are_cnf horizon variables clauses variables_short count_short over = record {
  first = record { number = 2; text = heading_line horizon variables (length clauses) variables_short count_short };
  others = told_from 3 (flat_map clause_line clauses);
  lines = all_told horizon variables (length clauses) variables_short count_short (flat_map clause_line clauses);
  heading = record { variables_short = variables_short; count_short = count_short; spelled = heading_words horizon variables (length clauses) variables_short count_short };
  spelled = lines_words clauses 3 (omega arith) (short_all variables clauses variables_short over);
  over = over;
}
