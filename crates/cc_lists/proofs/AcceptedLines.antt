-- The text of a log is read line by line, and no line within a section is a heading.
use Rattle.std.proofs.Common.{◌≡◌, ◌∙◌, ℕ, ◌+◌, ◌<◌, ◌≤◌, ◌%◌, Bool, true, false, eqb, List, [], ◌∷◌, ◌++◌, map, flat_map, get_or, decimal, codes, refl, sym, ap, arith, append_assoc, append-nil}
use Rattle.std.specs.List.{AllByRecursion, join_with_byte}
use Rattle.std.proofs.lemmas.Bool.Decides.{nat_tests}
use Rattle.std.proofs.lemmas.Fmt.{decimal_by_steps}
use Rattle.cc_defs.specs.declared.log.EndWord.TheVariants as words
use Rattle.cc_defs.specs.declared.log.LogLine.{LogLine}
use Rattle.cc_defs.specs.declared.log.LogLine.TheVariants as lines
use Rattle.cc_defs.specs.Clauses.{Literal}
use Rattle.cc_defs.specs.declared.log.Version.TheVariants.{First}
use Rattle.cc_defs.specs.LogTexts.{IsFormed, IsLine, IsShort, IsShortLiteral, header, line_parts, line_text, lines_in, literal_text, log_text}
use Rattle.cc_defs.specs.Logs.{IsNoHeading, IsNotBinary}
use Rattle.cc_lists.proofs.Members.{all_append, all_map}

-- ---- texts with no line feed

abbrev pub IsNoFeed : ℕ → Type 0
IsNoFeed byte = eqb byte 10 ≡ false

abbrev pub HasNoFeed : List ℕ → Type 0
HasNoFeed text = AllByRecursion IsNoFeed text

digit_is_no_feed : (n : ℕ) → n < 10 → IsNoFeed (48 + n)
digit_is_no_feed n below = grind (arith, nat_tests)

pub digits : (n : ℕ) → IsShort n → HasNoFeed (decimal n)
digits n short =
    decimal_by_steps (λ (m : ℕ) (text : List ℕ). HasNoFeed text) (λ m below. (digit_is_no_feed m below, tt))
    (λ m text large front. all_append IsNoFeed text ((48 + m % 10) ∷ []) front (digit_is_no_feed (m % 10) (omega arith), tt)) n (omega arith)

literal_digits : (literal : Literal) → IsShortLiteral literal → HasNoFeed (literal_text literal)
literal_digits literal short = of_sign literal.positive
  where
    of_sign : (positive : Bool) → HasNoFeed (literal_text (record literal { positive = positive }))
    of_sign true = digits literal.variable short.1
    of_sign false = (refl, digits literal.variable short.1)

pub joined : (byte : ℕ) → IsNoFeed byte → (parts : List (List ℕ)) → AllByRecursion HasNoFeed parts → HasNoFeed (join_with_byte byte parts)
joined byte is [] all = tt
joined byte is (part ∷ []) all = all.0
joined byte is (part ∷ next ∷ parts) all = all_append IsNoFeed part (byte ∷ join_with_byte byte (next ∷ parts)) all.0 (is, joined byte is (next ∷ parts) all.1)

parts_have_none : (line : LogLine) → IsFormed line → AllByRecursion HasNoFeed (line_parts line)
parts_have_none (lines.Section true horizon) formed = ((refl, tt), (digits horizon formed, tt))
parts_have_none (lines.Section false horizon) formed = ((refl, tt), (digits horizon formed, tt))
parts_have_none (lines.Derived clause chain) formed = (
  (refl, tt),
  all_append HasNoFeed (map literal_text clause) (codes "0" ∷ (map decimal chain ++ codes "0" ∷ []))
      (all_map HasNoFeed IsShortLiteral literal_text literal_digits clause formed.0)
      ((refl, tt), all_append HasNoFeed (map decimal chain) (codes "0" ∷ []) (all_map HasNoFeed IsShort decimal digits chain formed.1) ((refl, tt), tt)),
)
parts_have_none (lines.Block row) formed = ((refl, tt), all_map HasNoFeed IsShort decimal digits row formed)
parts_have_none (lines.End words.Empty) formed = ((refl, tt), ((refl, (refl, (refl, (refl, (refl, tt))))), tt))
parts_have_none (lines.End words.Found) formed = ((refl, tt), ((refl, (refl, (refl, (refl, (refl, tt))))), tt))
parts_have_none (lines.End words.Spent) formed = ((refl, tt), ((refl, (refl, (refl, (refl, (refl, tt))))), tt))

-- ---- the lines of a text

pub cut : (text rest : List ℕ) → HasNoFeed text → lines_in (text ++ (10 ∷ rest)) ≡ (text ++ 10 ∷ []) ∷ lines_in rest
cut [] rest none = refl
cut (byte ∷ text) rest none = let other : eqb byte 10 ≡ false = none.0 in rw (other, cut text rest none.1) refl

pub line_cut : (line : LogLine) (rest : List ℕ) → IsFormed line → lines_in (line_text line ++ rest) ≡ line_text line ∷ lines_in rest
line_cut line rest formed =
    ap lines_in (append_assoc (join_with_byte 32 (line_parts line)) (10 ∷ []) rest)
    ∙ cut (join_with_byte 32 (line_parts line)) rest (joined 32 refl (line_parts line) (parts_have_none line formed))

pub lines_cut : (all : List LogLine) (rest : List ℕ) → AllByRecursion IsFormed all → lines_in (flat_map line_text all ++ rest) ≡ map line_text all ++ lines_in rest
lines_cut [] rest formed = refl
lines_cut (line ∷ all) rest formed =
    ap lines_in (append_assoc (line_text line) (flat_map line_text all) rest) ∙ line_cut line (flat_map line_text all ++ rest) formed.0
    ∙ ap (λ (texts : List (List ℕ)). line_text line ∷ texts) (lines_cut all rest formed.1)

header_cut : (rest : List ℕ) → lines_in (header ++ rest) ≡ header ∷ lines_in rest
header_cut rest = refl

pub log_cut : (all : List LogLine) → AllByRecursion IsFormed all → lines_in (log_text all) ≡ header ∷ map line_text all
log_cut all formed =
    header_cut (flat_map line_text all)
    ∙ ap (λ (texts : List (List ℕ)). header ∷ texts) (ap lines_in (sym (append-nil (flat_map line_text all))) ∙ lines_cut all [] formed ∙ append-nil (map line_text all))

differ : (m n : ℕ) → m ≡ n → m < n → ⊥
differ m n is below = omega arith

-- the sixth byte of the two headers is another
pub not_binary : (all : List LogLine) → IsNotBinary (log_text all)
not_binary all behind is = differ 32 108 (ap (λ (t : List ℕ). get_or t 5 0) is) (omega arith)

-- ---- first bytes

abbrev pub letter_of : LogLine → ℕ
letter_of (lines.Section true horizon) = 119
letter_of (lines.Section false horizon) = 104
letter_of (lines.Derived clause chain) = 100
letter_of (lines.Block row) = 98
letter_of (lines.End word) = 101

begins : (byte : ℕ) (parts : List (List ℕ)) → get_or (join_with_byte 32 ((byte ∷ []) ∷ parts) ++ 10 ∷ []) 0 0 ≡ byte
begins byte [] = refl
begins byte (part ∷ parts) = refl

pub letter : (line : LogLine) → get_or (line_text line) 0 0 ≡ letter_of line
letter (lines.Section true horizon) = refl
letter (lines.Section false horizon) = refl
letter (lines.Derived clause chain) = begins 100 (map literal_text clause ++ codes "0" ∷ (map decimal chain ++ codes "0" ∷ []))
letter (lines.Block row) = begins 98 (map decimal row)
letter (lines.End word) = refl

first_letter : (text : List ℕ) (line : LogLine) → IsLine text line → get_or text 0 0 ≡ letter_of line
first_letter text line is = ap (λ (t : List ℕ). get_or t 0 0) is.spelled ∙ letter line

-- a line within a section
abbrev pub IsWithin : LogLine → Type 0
IsWithin (lines.Section conditions horizon) = ⊥
IsWithin (lines.Derived clause chain) = Unit {0}
IsWithin (lines.Block row) = Unit {0}
IsWithin (lines.End word) = Unit {0}

pub read_back : (line : LogLine) → IsFormed line → IsLine (line_text line) line
read_back line formed = record { formed = formed; spelled = refl }

pub letter_within : (line : LogLine) → IsWithin line → letter_of line ≤ 101
letter_within (lines.Section conditions horizon) within = absurd within
letter_within (lines.Derived clause chain) within = omega arith
letter_within (lines.Block row) within = omega arith
letter_within (lines.End word) within = omega arith

no_heading : (line : LogLine) → IsWithin line → IsNoHeading First (line_text line)
no_heading line within true horizon is = let e = sym (letter line) ∙ first_letter _ _ is in let low = letter_within line within in omega arith
no_heading line within false horizon is = let e = sym (letter line) ∙ first_letter _ _ is in let low = letter_within line within in omega arith

pub no_headings : (inside : List LogLine) → AllByRecursion IsWithin inside → AllByRecursion (IsNoHeading First) (map line_text inside)
no_headings inside within = all_map (IsNoHeading First) IsWithin line_text no_heading inside within
