-- What is read as a key is the key of the text, and the laws of keys.
use Rattle.std.proofs.Common.{◌≡◌, ℕ, ◌+◌, ◌-◌, ◌*◌, ◌^◌, ◌<◌, ◌≢◌, ◌&&◌, nat_le, if◌then◌else◌, Bool, true, false, IsTrue, List, [], ◌∷◌, ◌++◌, length, map, fold, get_or, drop, Option, Some, None, All, MatchOption, codes, decimal, eqb, refl, sym, ap, ◌∙◌, subst, arith, rules, append_assoc, append-nil, lit<}
use Rattle.std.proofs.lemmas.Bool.{and_parts, and_from, le-leb, leb-true, ne_eqb, eqb-false}
use Rattle.std.proofs.lemmas.Fmt.{digits_decimal, digits_value-decimal, decimal_injective, length-decimal-le, decimal_nonempty}
use Rattle.std.proofs.lemmas.List.{at_drop_more, at_drop_all, append_cancel_left}
use Rattle.std.proofs.lemmas.List.Elements.{All-nil, All-cons}
use Rattle.std.proofs.lemmas.List.Splits.{slice_split_none, slice_split_at, join_with_byte-slice_split}
use Rattle.std.proofs.lemmas.Str.Parse.{IsNumeralModel, numerals_by_fold}
use Rattle.std.proofs.lemmas.Str.Pattern.{IsSplitOnceResult, split_after, split_parts}
use Rattle.std.specs.List.{AllByRecursion, AllZip, join_with_byte, list_all, slice_split}
use denote.Ref.{Bor}
use Rattle.cc_defs.specs.declared.lists.Key.{Key}
use Rattle.cc_defs.specs.Grammar.{number_of}
use Rattle.cc_defs.specs.LogTexts.{IsShort}
use Rattle.cc_defs.specs.Tokens.{is_digit, is_number}
use Rattle.cc_print.specs.Keys.{IsNumberText, IsRowText, IsKeyText, IsReadAsKey, number_read, with_first, numbers_read, row_read}
use Rattle.cc_print.specs.Laws.{OneKey, WrittenIsRead, IsWhole, WrittenApart}

-- ---- numbers

abbrev AreDigits : List ℕ → Type 0
AreDigits digits = list_all is_digit digits ≡ true

abbrev number_behind : ℕ → List ℕ → ℕ
number_behind n digits = fold (λ n digit. n * 10 + (digit - 48)) n digits

numerals : IsNumeralModel AreDigits (number_behind 0)
numerals = numerals_by_fold _ (search rules) number_behind (search rules)

are_digits : (digits : List ℕ) → IsTrue (is_number digits) → AreDigits digits × (0 < length digits)
are_digits [] is = absurd cc
are_digits (b ∷ bs) is = (is, omega arith)

is_number-from_digits : (digits : List ℕ) → AreDigits digits → 0 < length digits → IsTrue (is_number digits)
is_number-from_digits [] are some = absurd (omega arith)
is_number-from_digits (b ∷ bs) are some = are

number_gives : (text : List ℕ) (number : ℕ) → IsNumberText text number → number_read text ≡ Some number
number_gives text number is = rw (and_from (is_number text) (nat_le (length text) 9) is.digits (le-leb (length text) 9 is.few)) (ap Some (sym is.value))

told_if : (b : Bool) (n number : ℕ) → (if b then Some n else None) ≡ Some number → (b ≡ true) × (number ≡ n)
told_if true n number e = (refl, cc)
told_if false n number e = absurd cc

number_told : (text : List ℕ) (number : ℕ) → number_read text ≡ Some number → IsNumberText text number
number_told text number read =
    let p = told_if (is_number text && nat_le (length text) 9) (number_of text) number read in
    let q = and_parts (is_number text) (nat_le (length text) 9) p.0 in
    record { digits = q.0; few = leb-true (length text) 9 q.1; value = p.1 }

written : (number : ℕ) → IsShort number → IsNumberText (decimal number) number
written number short =
    let small : number < 2 ^ 64 = omega arith in
    record {
      digits = is_number-from_digits (decimal number) (digits_decimal numerals number small) (decimal_nonempty number small);
      few = length-decimal-le 9 number (omega arith) (omega arith) small;
      value = sym (digits_value-decimal numerals number small);
    }

-- no digit is this byte
lacks : (c : ℕ) → is_digit c ≡ false → (text : List ℕ) → AreDigits text → All (λ b. eqb b c ≡ false) text
lacks c other [] are = All-nil (λ b. eqb b c ≡ false)
lacks c other (b ∷ bs) are =
    let p = and_parts (is_digit b) (list_all is_digit bs) are in
    All-cons (λ b. eqb b c ≡ false) b bs (ne_eqb b c (λ e. absurd (let q : is_digit b ≡ false = subst (λ d. is_digit d ≡ false) (sym e) other in cc))) (lacks c other bs p.1)

number_lacks : (c : ℕ) → is_digit c ≡ false → (text : List ℕ) (number : ℕ) → IsNumberText text number → All (λ b. eqb b c ≡ false) text
number_lacks c other text number is = lacks c other text (are_digits text is.digits).0

-- ---- rows

numbers_give : (parts : List (List ℕ)) (row : List ℕ) → AllZip IsNumberText parts row → numbers_read parts ≡ Some row
numbers_give [] [] are = refl
numbers_give [] (index ∷ row) are = absurd are
numbers_give (part ∷ parts) [] are = absurd are
numbers_give (part ∷ parts) (index ∷ row) are = rw (number_gives part index are.0, numbers_give parts row are.1) refl

first_told : (first : Option ℕ) (others : Option (List ℕ)) (row : List ℕ) → with_first first others ≡ Some row →
    (index : ℕ) × (more : List ℕ) × (first ≡ Some index) × (others ≡ Some more) × (row ≡ index ∷ more)
first_told None others row e = absurd cc
first_told (Some index) None row e = absurd cc
first_told (Some index) (Some more) row e = (index, more, refl, refl, cc)

numbers_told : (parts : List (List ℕ)) (row : List ℕ) → numbers_read parts ≡ Some row → AllZip IsNumberText parts row
numbers_told [] [] read = tt
numbers_told [] (index ∷ row) read = absurd cc
numbers_told (part ∷ parts) row read =
    let p = first_told (number_read part) (numbers_read parts) row read in
    subst (AllZip IsNumberText (part ∷ parts)) (sym p.4) (number_told part p.0 p.2, numbers_told parts p.1 p.3)

parts_are_digits : (parts : List (List ℕ)) (row : List ℕ) → AllZip IsNumberText parts row → AllByRecursion AreDigits parts
parts_are_digits [] row are = tt
parts_are_digits (part ∷ parts) [] are = absurd are
parts_are_digits (part ∷ parts) (index ∷ row) are = ((are_digits part are.0.digits).0, parts_are_digits parts row are.1)

split_join : (first : List ℕ) (others : List (List ℕ)) → AllByRecursion AreDigits (first ∷ others) →
    slice_split (λ b. eqb b 44) (join_with_byte 44 (first ∷ others)) ≡ first ∷ others
split_join first [] are = slice_split_none (λ b. eqb b 44) first (lacks 44 refl first are.0)
split_join first (second ∷ others) are =
    slice_split_at (λ b. eqb b 44) first 44 (join_with_byte 44 (second ∷ others)) (lacks 44 refl first are.0) refl
    ∙ ap (λ rest. first ∷ rest) (split_join second others are.1)

pub row_read-some : (text : List ℕ) → 0 < length text → row_read text ≡ numbers_read (slice_split (λ b. eqb b 44) text)
row_read-some [] some = absurd (omega arith)
row_read-some (b ∷ bs) some = refl

joined_some : (first : List ℕ) (others : List (List ℕ)) → 0 < length first → 0 < length (join_with_byte 44 (first ∷ others))
joined_some [] others some = absurd (omega arith)
joined_some (b ∷ bs) [] some = omega arith
joined_some (b ∷ bs) (second ∷ others) some = omega arith

parts_give : (parts : List (List ℕ)) (row : List ℕ) → AllZip IsNumberText parts row → row_read (join_with_byte 44 parts) ≡ Some row
parts_give [] [] are = refl
parts_give [] (index ∷ row) are = absurd are
parts_give (part ∷ parts) [] are = absurd are
parts_give (part ∷ parts) (index ∷ row) are =
    row_read-some (join_with_byte 44 (part ∷ parts)) (joined_some part parts (are_digits part are.0.digits).1)
    ∙ ap numbers_read (split_join part parts (parts_are_digits (part ∷ parts) (index ∷ row) are)) ∙ numbers_give (part ∷ parts) (index ∷ row) are

row_gives : (text row : List ℕ) → IsRowText text row → row_read text ≡ Some row
row_gives text row is = ap row_read is.1 ∙ parts_give is.0 row is.2

row_told : (text row : List ℕ) → row_read text ≡ Some row → IsRowText text row
row_told [] [] read = ([], refl, tt)
row_told [] (index ∷ row) read = absurd cc
row_told (b ∷ bs) row read = (slice_split (λ c. eqb c 44) (b ∷ bs), sym (join_with_byte-slice_split 44 (b ∷ bs)), numbers_told (slice_split (λ c. eqb c 44) (b ∷ bs)) row read)

-- the indexes that were read, before what is left to read
abbrev pub behind : List ℕ → Option (List ℕ) → Option (List ℕ)
behind row None = None
behind row (Some more) = Some (row ++ more)

pub behind-nothing : (read : Option (List ℕ)) → read ≡ behind [] read
behind-nothing None = refl
behind-nothing (Some row) = refl

behind-first : (row : List ℕ) (index : ℕ) (read : Option (List ℕ)) → behind row (with_first (Some index) read) ≡ behind (row ++ index ∷ []) read
behind-first row index None = refl
behind-first row index (Some more) = ap Some (sym (append_assoc row (index ∷ []) more))

abbrev next_read : List ℕ → List (List ℕ) → Option (List ℕ)
next_read row parts = behind row (numbers_read parts)

pub read_more : (parts : List (List ℕ)) (row : List ℕ) (i index : ℕ) (part : List ℕ) → (i < length parts) × (part ≡ get_or parts i part) → number_read part ≡ Some index →
    behind row (numbers_read (drop i parts)) ≡ behind (row ++ index ∷ []) (numbers_read (drop (i + 1) parts))
read_more parts row i index part is read =
    at_drop_more (next_read row) parts i part is.0
    ∙ ap (λ first. behind row (with_first first (numbers_read (drop (i + 1) parts)))) (ap number_read (sym is.1) ∙ read)
    ∙ behind-first row index (numbers_read (drop (i + 1) parts))

pub read_stops : (parts : List (List ℕ)) (row : List ℕ) (i : ℕ) (part : List ℕ) → (i < length parts) × (part ≡ get_or parts i part) → number_read part ≡ None →
    behind row (numbers_read (drop i parts)) ≡ None
read_stops parts row i part is read =
    at_drop_more (next_read row) parts i part is.0
    ∙ ap (λ first. behind row (with_first first (numbers_read (drop (i + 1) parts)))) (ap number_read (sym is.1) ∙ read)

pub read_ends : (parts : List (List ℕ)) (row : List ℕ) (i : ℕ) → i ≡ length parts → behind row (numbers_read (drop i parts)) ≡ Some row
read_ends parts row i end = at_drop_all (next_read row) parts i (omega arith) ∙ ap Some (append-nil row)

-- ---- keys

abbrev Split : Type 0
Split = Option (Bor (List ℕ) × Bor (List ℕ))

-- what stands before the first colon, and behind it
abbrev HasParts : Key → Split → Type 0
HasParts key split = MatchOption split ⊥ (λ parts. (number_read parts.0.now ≡ Some key.horizon) × (row_read parts.1.now ≡ Some key.row))

has_parts : (text : List ℕ) (key : Key) (split : Split) → IsSplitOnceResult 58 text split → IsKeyText text key → HasParts key split
has_parts text key split is of =
    let apart = number_lacks 58 refl of.0 key.horizon of.3 in
    parts_are split (split_after 58 text of.0 of.1 split is (lit< tt) of.2 (λ i within. eqb-false (get_or of.0 i 0) 58 (apart i 0 within)))
  where
    parts_are : (split : Split) → MatchOption split ⊥ (λ parts. (parts.0.now ≡ of.0) × (parts.1.now ≡ of.1)) → HasParts key split
    parts_are None are = are
    parts_are (Some parts) are = (ap number_read are.0 ∙ number_gives of.0 key.horizon of.3, ap row_read are.1 ∙ row_gives of.1 key.row of.4)

pub no_colon : (text : List ℕ) (split : Split) → IsSplitOnceResult 58 text split → split ≡ None → IsReadAsKey text None
no_colon text split is none key of = subst (HasParts key) none (has_parts text key split is of)

pub no_horizon : (text : List ℕ) (split : Split) (parts : Bor (List ℕ) × Bor (List ℕ)) → IsSplitOnceResult 58 text split → split ≡ Some parts →
    number_read parts.0.now ≡ None → IsReadAsKey text None
no_horizon text split parts is some none key of =
    let p = subst (HasParts key) some (has_parts text key split is of) in
    let q = p.0 in absurd cc

pub no_row : (text : List ℕ) (split : Split) (parts : Bor (List ℕ) × Bor (List ℕ)) → IsSplitOnceResult 58 text split → split ≡ Some parts →
    row_read parts.1.now ≡ None → IsReadAsKey text None
no_row text split parts is some none key of =
    let p = subst (HasParts key) some (has_parts text key split is of) in
    let q = p.1 in absurd cc

pub key_is : (text : List ℕ) (split : Split) (parts : Bor (List ℕ) × Bor (List ℕ)) → IsSplitOnceResult 58 text split → split ≡ Some parts →
    (key : Key) → number_read parts.0.now ≡ Some key.horizon → row_read parts.1.now ≡ Some key.row → IsKeyText text key
key_is text split parts is some key horizon row =
    let p = subst (λ s. MatchOption s ((i : ℕ) → i < length text → get_or text i 0 ≢ 58) (λ x. (text ≡ x.0.now ++ (58 ∷ x.1.now)) × ((i : ℕ) → i < length x.0.now → get_or x.0.now i 0 ≢ 58))) some (split_parts 58 text split is (lit< tt)) in
    (parts.0.now, parts.1.now, p.0, number_told parts.0.now key.horizon horizon, row_told parts.1.now key.row row)

-- ---- the laws

same_key : (one other : Key) → one.horizon ≡ other.horizon → one.row ≡ other.row → one ≡ other
same_key one other horizon row =
    subst (λ h. one ≡ record { horizon = h; row = other.row }) horizon (ap (λ r. record { horizon = one.horizon; row = r }) row)

-- two parts with a colon between them, the first without one, are told from their text
parted : (a b c d : List ℕ) → All (λ x. eqb x 58 ≡ false) a → All (λ x. eqb x 58 ≡ false) c → a ++ 58 ∷ b ≡ c ++ 58 ∷ d → (a ≡ c) × (b ≡ d)
parted a b c d one other same =
    let p : ℕ → Bool = λ x. eqb x 58 in
    let heads = sym (slice_split_at p a 58 b one refl) ∙ ap (slice_split p) same ∙ slice_split_at p c 58 d other refl in
    let firsts : a ≡ c = cc in
    let rests = append_cancel_left a (58 ∷ b) (58 ∷ d) (same ∙ ap (λ h. h ++ 58 ∷ d) (sym firsts)) in
    let seconds : b ≡ d = cc in (firsts, seconds)

pub one_key : OneKey
one_key text one other a b =
    let p = parted a.0 a.1 b.0 b.1 (number_lacks 58 refl a.0 one.horizon a.3) (number_lacks 58 refl b.0 other.horizon b.3) (sym a.2 ∙ b.2) in
    let reads = sym (row_gives a.1 one.row a.4) ∙ ap row_read p.1 ∙ row_gives b.1 other.row b.4 in
    same_key one other (a.3.value ∙ ap number_of p.0 ∙ sym b.3.value) cc

written_row : (row : List ℕ) → AllByRecursion IsShort row → AllZip IsNumberText (map decimal row) row
written_row [] short = tt
written_row (index ∷ row) short = (written index short.0, written_row row short.1)

pub written_is_read : WrittenIsRead
written_is_read key short =
    (decimal key.horizon, join_with_byte 44 (map decimal key.row), append_assoc (decimal key.horizon) (codes ":") (join_with_byte 44 (map decimal key.row)), written key.horizon short.horizon, (map decimal key.row, refl, written_row key.row short.row))

-- ---- keys of any numbers that are written whole

row_digits : (row : List ℕ) → AllByRecursion IsWhole row → AllByRecursion AreDigits (map decimal row)
row_digits [] whole = tt
row_digits (index ∷ row) whole = (digits_decimal numerals index whole.0, row_digits row whole.1)

same_indexes : (one other : List ℕ) → AllByRecursion IsWhole one → AllByRecursion IsWhole other → map decimal one ≡ map decimal other → one ≡ other
same_indexes [] [] a b same = refl
same_indexes [] (y ∷ ys) a b same = absurd cc
same_indexes (x ∷ xs) [] a b same = absurd cc
same_indexes (x ∷ xs) (y ∷ ys) a b same =
    let first : x ≡ y = decimal_injective x y a.0 b.0 (ap (λ texts. get_or texts 0 []) same) in
    let others : xs ≡ ys = same_indexes xs ys a.1 b.1 (ap (λ texts. drop 1 texts) same) in
    ap (λ n. n ∷ xs) first ∙ ap (λ ns. y ∷ ns) others

same_rows : (one other : List ℕ) → AllByRecursion IsWhole one → AllByRecursion IsWhole other →
    join_with_byte 44 (map decimal one) ≡ join_with_byte 44 (map decimal other) → one ≡ other
same_rows [] [] a b same = refl
same_rows [] (y ∷ ys) a b same =
    let some = joined_some (decimal y) (map decimal ys) (decimal_nonempty y b.0) in
    let none : length (join_with_byte 44 (map decimal (y ∷ ys))) ≡ 0 = ap length (sym same) in absurd (omega arith)
same_rows (x ∷ xs) [] a b same =
    let some = joined_some (decimal x) (map decimal xs) (decimal_nonempty x a.0) in
    let none : length (join_with_byte 44 (map decimal (x ∷ xs))) ≡ 0 = ap length same in absurd (omega arith)
same_rows (x ∷ xs) (y ∷ ys) a b same =
    same_indexes (x ∷ xs) (y ∷ ys) a b
    (sym (split_join (decimal x) (map decimal xs) (row_digits (x ∷ xs) a)) ∙ ap (slice_split (λ b. eqb b 44)) same
    ∙ split_join (decimal y) (map decimal ys) (row_digits (y ∷ ys) b))

pub written_apart : WrittenApart
written_apart one other a b same =
    let parts = parted (decimal one.horizon) (join_with_byte 44 (map decimal one.row)) (decimal other.horizon) (join_with_byte 44 (map decimal other.row))
    (lacks 58 refl (decimal one.horizon) (digits_decimal numerals one.horizon a.horizon))
    (lacks 58 refl (decimal other.horizon) (digits_decimal numerals other.horizon b.horizon))
    (sym (append_assoc (decimal one.horizon) (codes ":") (join_with_byte 44 (map decimal one.row))) ∙ same
    ∙ append_assoc (decimal other.horizon) (codes ":") (join_with_byte 44 (map decimal other.row))) in
    same_key one other (decimal_injective one.horizon other.horizon a.horizon b.horizon parts.0) (same_rows one.row other.row a.row b.row parts.1)
