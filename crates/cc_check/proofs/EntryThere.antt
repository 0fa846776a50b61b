-- Whether bytes begin with an entry can be told, and so all bytes have texts, in each version.
use Rattle.std.proofs.Common.{◌≡◌, ℕ, zero, suc, ◌+◌, ◌-◌, ◌*◌, ◌/◌, ◌%◌, ◌<◌, ◌≤◌, ◌⊎◌, inl, inr, Bool, true, false, List, [], ◌∷◌, ◌++◌, get_or, flat_map, length, refl, sym, ap, subst, ◌∙◌, arith, append_assoc, length-append}
use Rattle.std.proofs.lemmas.Bool.{cases_lt}
use Rattle.cc_defs.specs.declared.log.EndWord.TheVariants as words
use Rattle.cc_defs.specs.declared.log.LogLine.{LogLine}
use Rattle.cc_defs.specs.declared.log.LogLine.TheVariants as lines
use Rattle.cc_defs.specs.declared.log.Version.{Version}
use Rattle.cc_defs.specs.declared.log.Version.TheVariants.{First, Second}
use Rattle.cc_defs.specs.LogBytes.{AreEntries, BeginsWith, HasNoEntry, IsNumber, bytes_within, entry_bytes, literal_bytes, literal_number, number_bytes}
use Rattle.cc_defs.specs.LogTexts.{IsShortLiteral, lines_in}
use Rattle.cc_log.specs.Entries.{AreIn, AreLiteralsIn, AreNumbersIn, HasNoNumberWithin, IsNumberIn, IsNumberWithin}
use Rattle.cc_check.specs.Texts.{AreTexts}
use Rattle.cc_log.proofs.EntryBytes.{begins, class_by, class_read, row_parts, same_number_in, whole}
use Rattle.cc_log.proofs.EntryBytes.{heading_byte}
use Rattle.cc_check.proofs.EntryRead.{derived_read, no_chain, no_pairs, only_derived}
use Rattle.cc_check.proofs.FirstTexts.{entry_some}
use Rattle.cc_log.proofs.NumberBytes.{cases_within, cells, large_bytes, large_parts, literal_formed, none_behind, one_literal_in, one_number_in, out_behind, small_bytes}

-- ---- numbers

abbrev NumberThere : ℕ → List ℕ → Type 0
NumberThere more bytes = ((number : ℕ) × (rest : List ℕ) × IsNumberWithin more bytes number rest) ⊎ HasNoNumberWithin more bytes

none_in : (more : ℕ) → HasNoNumberWithin more []
none_in zero number rest h = let e : 0 ≡ suc (length rest) = ap length h.spelled in omega arith
none_in (suc more) number rest h = elim (cases_within more number [] rest h) [
  | inl (small, is) ↦ let e : 0 ≡ suc (length rest) = ap length is in omega arith
  | inr (large, is) ↦ let e : 0 ≡ suc (length (bytes_within more (number / 128) ++ rest)) = ap length is in omega arith
]

module _ (less byte : ℕ) (bytes : List ℕ) (large : 128 ≤ byte) where
  made : (high : ℕ) (rest : List ℕ) → IsNumberWithin less bytes high rest → byte < 256 → 0 < high → high < 15625000 →
      IsNumberWithin (suc less) (byte ∷ bytes) (128 * high + (byte - 128)) rest
  made high rest h fits some few =
      let n = 128 * high + (byte - 128) in
      let most = h.few in
      let low : byte ≡ 128 + n % 128 = omega arith in
      let part : high ≡ n / 128 = omega arith in
      record {
        formed = omega arith;
        few = omega arith;
        spelled = ap (λ (t : List ℕ). byte ∷ t) h.spelled ∙ ap (λ (b : ℕ). b ∷ (bytes_within less high ++ rest)) low
            ∙ ap (λ (k : ℕ). (128 + n % 128) ∷ (bytes_within less k ++ rest)) part ∙ ap (λ (t : List ℕ). t ++ rest) (sym (large_bytes less n (omega arith)));
      }

  out : (high : ℕ) (rest : List ℕ) → IsNumberWithin less bytes high rest → ((0 < high) × (high ≤ 15624999) → ⊥) → HasNoNumberWithin (suc less) (byte ∷ bytes)
  out high rest h never = out_behind less byte (byte ∷ bytes) bytes refl large high rest h never

  large_there : NumberThere less bytes → NumberThere (suc less) (byte ∷ bytes)
  large_there (inr none) = inr (none_behind less byte (byte ∷ bytes) bytes refl large none)
  large_there (inl (high, rest, h)) = elim (cases_lt byte 256) [
    | inl fits ↦ elim (cases_lt 0 high) [
      | inl some ↦ elim (cases_lt high 15625000) [
        | inl few ↦ inl (128 * high + (byte - 128), rest, made high rest h fits some few)
        | inr many ↦ inr (out high rest h (λ both. let b = both.1 in omega arith))
      ]
      | inr nothing ↦ inr (out high rest h (λ both. let b = both.0 in omega arith))
    ]
    | inr past ↦ inr (λ number other g. let e = (large_parts less byte number (byte ∷ bytes) bytes other refl large g).1 in omega arith)
  ]

number_there : (more : ℕ) (bytes : List ℕ) → NumberThere more bytes
number_there more [] = inr (none_in more)
number_there zero (byte ∷ bytes) = elim (cases_lt byte 128) [
  | inl small ↦ inl (byte, bytes, record { formed = omega arith; few = omega arith; spelled = refl })
  | inr large ↦ inr (λ number rest h. let e = (cells byte number bytes rest h.spelled).0 in let f = h.few in omega arith)
]
number_there (suc less) (byte ∷ bytes) = elim (cases_lt byte 128) [
  | inl small ↦
      inl (byte, bytes, record { formed = omega arith; few = omega arith; spelled = ap (λ (t : List ℕ). t ++ bytes) (sym (small_bytes (suc less) byte small)) })
  | inr large ↦ large_there less byte bytes large (number_there less bytes)
]

-- ---- lists, of what can be told at their front

module _ {X : Type 0} (Is : X → Type 0) (written : X → List ℕ) where
  abbrev pub ItemThere : List ℕ → Type 0
  ItemThere bytes =
      ((item : X) × (next : List ℕ) × Is item × (bytes ≡ written item ++ next)) ⊎ ((item : X) (next : List ℕ) → Is item → bytes ≡ written item ++ next → ⊥)

  abbrev pub ListThere : ℕ → List ℕ → Type 0
  ListThere count bytes =
      ((items : List X) × (rest : List ℕ) × AreIn Is written count bytes items rest)
      ⊎ ((items : List X) (rest : List ℕ) → AreIn Is written count bytes items rest → ⊥)

  no_first : (count : ℕ) (bytes : List ℕ) → ((item : X) (next : List ℕ) → Is item → bytes ≡ written item ++ next → ⊥) →
      (items : List X) (rest : List ℕ) → AreIn Is written (suc count) bytes items rest → ⊥
  no_first count bytes none [] rest h = let e = h.counted in omega arith
  no_first count bytes none (item ∷ items) rest h =
      none item (flat_map written items ++ rest) h.formed.0 (h.spelled ∙ append_assoc (written item) (flat_map written items) rest)

  module _ (unique : (a b : X) (rest other : List ℕ) → Is a → Is b → written a ++ rest ≡ written b ++ other → (a ≡ b) × (rest ≡ other)) where
    no_others : (count : ℕ) (bytes : List ℕ) (item : X) (next : List ℕ) → Is item → bytes ≡ written item ++ next →
        ((items : List X) (rest : List ℕ) → AreIn Is written count next items rest → ⊥) →
        (items : List X) (rest : List ℕ) → AreIn Is written (suc count) bytes items rest → ⊥
    no_others count bytes item next is parts none [] rest h = let e = h.counted in omega arith
    no_others count bytes item next is parts none (other ∷ items) rest h =
        let e = h.counted in
        let same =
        unique item other next (flat_map written items ++ rest) is h.formed.0
        (sym parts ∙ h.spelled ∙ append_assoc (written other) (flat_map written items) rest) in
        none items rest (record { counted = omega arith; formed = h.formed.1; spelled = same.1 })

    behind_there : (count : ℕ) (bytes : List ℕ) → ((next : List ℕ) → ListThere count next) → ItemThere bytes → ListThere (suc count) bytes
    behind_there count bytes more (inr none) = inr (no_first count bytes none)
    behind_there count bytes more (inl (item, next, is, parts)) = elim (more next) [
      | inl (items, rest, h) ↦
          inl (
            item ∷ items,
            rest,
            record {
              counted = ap suc h.counted;
              formed = (is, h.formed);
              spelled = parts ∙ ap (λ (t : List ℕ). written item ++ t) h.spelled ∙ sym (append_assoc (written item) (flat_map written items) rest);
            },
          )
      | inr none ↦ inr (no_others count bytes item next is parts none)
    ]

    list_there : ((bytes : List ℕ) → ItemThere bytes) → (count : ℕ) (bytes : List ℕ) → ListThere count bytes
    list_there there zero bytes = inl ([], bytes, record { counted = refl; formed = tt; spelled = refl })
    list_there there (suc count) bytes = behind_there count bytes (list_there there count) (there bytes)

number_item : (bytes : List ℕ) → ItemThere IsNumber number_bytes bytes
number_item bytes = elim (number_there 4 bytes) [
  | inl (number, rest, h) ↦ inl (number, rest, h.formed, h.spelled)
  | inr none ↦ inr (λ number rest is spelled. none number rest (record { formed = is; few = omega arith; spelled = spelled }))
]

numbers_there : (count : ℕ) (bytes : List ℕ) → ListThere IsNumber number_bytes count bytes
numbers_there count bytes = list_there IsNumber number_bytes one_number_in number_item count bytes

two_at_least : (variable : ℕ) (positive : Bool) → 0 < variable → 2 ≤ literal_number (record { variable = variable; positive = positive })
two_at_least variable true some = omega arith
two_at_least variable false some = omega arith

literal_item : (bytes : List ℕ) → ItemThere IsShortLiteral literal_bytes bytes
literal_item bytes = elim (number_there 4 bytes) [
  | inl (number, rest, h) ↦
      let formed = h.formed in
      elim (cases_lt number 2) [
        | inl low ↦ inr (λ literal next is spelled.
            let same = (one_number_in number (literal_number literal) rest next h.formed (literal_formed literal.variable literal.positive is) (sym h.spelled ∙ spelled)).0 in
            let least = two_at_least literal.variable literal.positive is.0 in
            omega arith)
        | inr high ↦ elim (cases_lt (number % 2) 1) [
          | inl even ↦
              let same : number ≡ 2 * (number / 2) = omega arith in
              inl (record { variable = number / 2; positive = true }, rest, (omega arith, omega arith), h.spelled ∙ ap (λ (n : ℕ). number_bytes n ++ rest) same)
          | inr odd ↦
              let same : number ≡ 2 * (number / 2) + 1 = omega arith in
              inl (record { variable = number / 2; positive = false }, rest, (omega arith, omega arith), h.spelled ∙ ap (λ (n : ℕ). number_bytes n ++ rest) same)
        ]
      ]
  | inr none ↦ inr (λ literal next is spelled.
      let formed = literal_formed literal.variable literal.positive is in
      none (literal_number literal) next (record { formed = formed; few = omega arith; spelled = spelled }))
]

literals_there : (count : ℕ) (bytes : List ℕ) → ListThere IsShortLiteral literal_bytes count bytes
literals_there count bytes = list_there IsShortLiteral literal_bytes one_literal_in literal_item count bytes

-- ---- entries, by their kind

abbrev EntryThere : List ℕ → Type 0
EntryThere bytes = ((line : LogLine) × (rest : List ℕ) × BeginsWith bytes line rest) ⊎ HasNoEntry bytes

derived_there : (body : List ℕ) → EntryThere (3 ∷ body)
derived_there body = elim (number_there 4 body) [
  | inl (count, after, first) ↦ elim (literals_there count after) [
    | inl (made, behind, literals) ↦ elim (number_there 4 behind) [
      | inl (pairs, links, second) ↦ elim (numbers_there (2 * pairs + 1) links) [
        | inl (chain, rest, numbers) ↦
            inl (lines.Derived made chain, rest, derived_read body count after made behind first literals pairs links second chain rest numbers)
        | inr none ↦ inr (no_chain body count after made behind first literals pairs links second none)
      ]
      | inr none ↦ inr (no_pairs body count after made behind first literals none)
    ]
    | inr none ↦ inr (only_derived body (λ clause chain rest h.
        let same = same_number_in body (length clause) count h.behind_count after h.count first in
        none clause h.behind_clause
        (subst (λ (t : List ℕ). AreLiteralsIn count t clause h.behind_clause) same.1
        (subst (λ (k : ℕ). AreLiteralsIn k h.behind_count clause h.behind_clause) same.0 h.literals))))
  ]
  | inr none ↦ inr (only_derived body (λ clause chain rest h. none (length clause) h.behind_count h.count))
]

only_block : (body : List ℕ) → ((row rest : List ℕ) → IsNumberIn body (length row) (flat_map number_bytes row ++ rest) → AreNumbersIn (length row) (flat_map number_bytes row ++ rest) row rest → ⊥) →
    HasNoEntry (4 ∷ body)
only_block body none (lines.Section conditions horizon) rest h = let e = class_read (4 ∷ body) (lines.Section conditions horizon) rest h in omega arith
only_block body none (lines.Derived clause chain) rest h = let e = class_read (4 ∷ body) (lines.Derived clause chain) rest h in omega arith
only_block body none (lines.Block row) rest h = let (first, numbers) = row_parts (4 ∷ body) body row rest refl h in none row rest first numbers
only_block body none (lines.End word) rest h = let e = class_read (4 ∷ body) (lines.End word) rest h in omega arith

block_there : (body : List ℕ) → EntryThere (4 ∷ body)
block_there body = elim (number_there 4 body) [
  | inl (count, after, first) ↦ elim (numbers_there count after) [
    | inl (row, rest, numbers) ↦
        let counted = numbers.counted in
        let formed = first.formed in
        inl (
          lines.Block row,
          rest,
          begins (4 ∷ body) (lines.Block row) rest (omega arith, numbers.formed)
              (ap (λ (t : List ℕ). 4 ∷ t)
              (first.spelled ∙ ap (λ (n : ℕ). number_bytes n ++ after) (sym counted) ∙ ap (λ (t : List ℕ). number_bytes (length row) ++ t) numbers.spelled
              ∙ sym (append_assoc (number_bytes (length row)) (flat_map number_bytes row) rest))),
        )
    | inr none ↦ inr (only_block body (λ row rest counted numbers.
        let same = same_number_in body (length row) count (flat_map number_bytes row ++ rest) after counted first in
        none row rest
        (subst (λ (t : List ℕ). AreNumbersIn count t row rest) same.1
        (subst (λ (k : ℕ). AreNumbersIn k (flat_map number_bytes row ++ rest) row rest) same.0 numbers))))
  ]
  | inr none ↦ inr (only_block body (λ row rest counted numbers. none (length row) (flat_map number_bytes row ++ rest) counted))
]

heading_class : (conditions : Bool) → class_by (heading_byte conditions) ≡ 1
heading_class true = refl
heading_class false = refl

only_heading : (conditions : Bool) (body : List ℕ) → HasNoNumberWithin 4 body → HasNoEntry (heading_byte conditions ∷ body)
only_heading conditions body none (lines.Section others horizon) rest h =
    let formed = h.read.formed in
    none horizon rest (record {
      formed = formed;
      few = omega arith;
      spelled = (cells (heading_byte conditions) (heading_byte others) body (number_bytes horizon ++ rest)
          (whole (heading_byte conditions ∷ body) (lines.Section others horizon) rest h)).1;
    })
only_heading conditions body none (lines.Derived clause chain) rest h =
    let e = sym (heading_class conditions) ∙ class_read (heading_byte conditions ∷ body) (lines.Derived clause chain) rest h in omega arith
only_heading conditions body none (lines.Block row) rest h =
    let e = sym (heading_class conditions) ∙ class_read (heading_byte conditions ∷ body) (lines.Block row) rest h in omega arith
only_heading conditions body none (lines.End word) rest h =
    let e = sym (heading_class conditions) ∙ class_read (heading_byte conditions ∷ body) (lines.End word) rest h in omega arith

heading_there : (conditions : Bool) (body : List ℕ) → EntryThere (heading_byte conditions ∷ body)
heading_there conditions body = elim (number_there 4 body) [
  | inl (horizon, rest, h) ↦
      inl (
        lines.Section conditions horizon,
        rest,
        begins (heading_byte conditions ∷ body) (lines.Section conditions horizon) rest h.formed (ap (λ (t : List ℕ). heading_byte conditions ∷ t) h.spelled),
      )
  | inr none ↦ inr (only_heading conditions body none)
]

first_byte : (line : LogLine) (rest : List ℕ) → (0 < get_or (entry_bytes line ++ rest) 0 0) × (get_or (entry_bytes line ++ rest) 0 0 < 8)
first_byte (lines.Section true horizon) rest = (omega arith, omega arith)
first_byte (lines.Section false horizon) rest = (omega arith, omega arith)
first_byte (lines.Derived clause chain) rest = (omega arith, omega arith)
first_byte (lines.Block row) rest = (omega arith, omega arith)
first_byte (lines.End words.Empty) rest = (omega arith, omega arith)
first_byte (lines.End words.Found) rest = (omega arith, omega arith)
first_byte (lines.End words.Spent) rest = (omega arith, omega arith)

no_kind : (byte : ℕ) (body : List ℕ) → ((0 < byte) × (byte < 8) → ⊥) → HasNoEntry (byte ∷ body)
no_kind byte body none line rest h =
    let same : byte ≡ get_or (entry_bytes line ++ rest) 0 0 = ap (λ (t : List ℕ). get_or t 0 0) (whole (byte ∷ body) line rest h) in
    none (subst (λ (b : ℕ). (0 < b) × (b < 8)) (sym same) (first_byte line rest))

entry_there : (bytes : List ℕ) → EntryThere bytes
entry_there [] = inr (λ line rest h.
    let e : 0 ≡ length (entry_bytes line) + length rest = ap length (whole [] line rest h) ∙ length-append (entry_bytes line) rest in
    let some = entry_some (entry_bytes line) line (record { formed = h.read.formed; spelled = refl }) in
    omega arith)
entry_there (zero ∷ body) = inr (no_kind 0 body (λ h. let a = h.0 in omega arith))
entry_there (suc zero ∷ body) = heading_there false body
entry_there (suc (suc zero) ∷ body) = heading_there true body
entry_there (suc (suc (suc zero)) ∷ body) = derived_there body
entry_there (suc (suc (suc (suc zero))) ∷ body) = block_there body
entry_there (suc (suc (suc (suc (suc zero)))) ∷ body) = inl (lines.End words.Empty, body, begins (5 ∷ body) (lines.End words.Empty) body tt refl)
entry_there (suc (suc (suc (suc (suc (suc zero))))) ∷ body) = inl (lines.End words.Found, body, begins (6 ∷ body) (lines.End words.Found) body tt refl)
entry_there (suc (suc (suc (suc (suc (suc (suc zero)))))) ∷ body) = inl (lines.End words.Spent, body, begins (7 ∷ body) (lines.End words.Spent) body tt refl)
entry_there (suc (suc (suc (suc (suc (suc (suc (suc more))))))) ∷ body) = inr (no_kind _ body (λ h. let a = h.1 in omega arith))

-- ---- texts

abbrev TextsThere : List ℕ → Type 0
TextsThere bytes = (texts : List (List ℕ)) × AreEntries bytes texts

step_there : (byte : ℕ) (bytes : List ℕ) → EntryThere (byte ∷ bytes) → ((rest : List ℕ) → length rest ≤ length bytes → TextsThere rest) → TextsThere (byte ∷ bytes)
step_there byte bytes (inr none) more = ((byte ∷ bytes) ∷ [], inr (none, (λ nil. let e : suc (length bytes) ≡ 0 = ap length nil in omega arith), refl, refl))
step_there byte bytes (inl (line, rest, h)) more =
    let some = entry_some h.entry line h.read in
    let e : suc (length bytes) ≡ length h.entry + length rest = ap length h.spelled ∙ length-append h.entry rest in
    let (texts, are) = more rest (omega arith) in
    (h.entry ∷ texts, inl (line, h.read, (rest, h.spelled, are)))

texts_within : (most : ℕ) (bytes : List ℕ) → length bytes ≤ most → TextsThere bytes
texts_within most [] few = ([], refl)
texts_within zero (byte ∷ bytes) few = absurd (omega arith)
texts_within (suc most) (byte ∷ bytes) few = step_there byte bytes (entry_there (byte ∷ bytes)) (λ rest fewer. texts_within most rest (omega arith))

pub texts_there : (version : Version) (bytes : List ℕ) → (texts : List (List ℕ)) × AreTexts version bytes texts
texts_there First bytes = (lines_in bytes, refl)
texts_there Second bytes = texts_within (length bytes) bytes (omega arith)
