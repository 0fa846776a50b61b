-- What bytes tell of the line that they say, in either version.
use Rattle.std.proofs.Common.{◌≡◌, ◌∙◌, ℕ, ◌+◌, ◌-◌, ◌/◌, ◌≤◌, List, [], ◌∷◌, ◌++◌, decimal, length, length-append, refl, sym, subst, ap, ap₂, arith}
use Rattle.std.specs.List.{AllByRecursion}
use Rattle.cc_defs.specs.declared.log.LogLine.{LogLine}
use Rattle.cc_defs.specs.declared.log.LogLine.TheVariants as lines
use Rattle.cc_defs.specs.declared.log.Version.{Version}
use Rattle.cc_defs.specs.declared.log.Version.TheVariants.{First, Second}
use Rattle.cc_defs.specs.Clauses.{IsOver, Literal}
use Rattle.cc_defs.specs.Limits.{most_log_bytes, most_variables}
use Rattle.cc_defs.specs.LogBytes.{IsNumber, IsSpelled, chain_behind, entry_bytes, line_meant}
use Rattle.cc_defs.specs.LogTexts.{IsOdd, IsShort, IsShortLiteral, line_text, literal_text}
use Rattle.cc_defs.specs.LogVersions.{AreEarlier, line_bytes}
use Rattle.cc_log.proofs.Lines.{whole_block, whole_derived}
use Rattle.cc_log.proofs.Spelled.{literals_text, numbers_text}
use Rattle.cc_convert.specs.Saying.{IsSayableAt}
use Rattle.cc_convert.proofs.Bounds.{IsLowChain}

-- ---- chains with distances

pub chain_long : (own : ℕ) (chain : List ℕ) → length (chain_behind own chain) ≡ length chain
chain_long own [] = refl
chain_long own (number ∷ []) = refl
chain_long own (number ∷ pivot ∷ chain) = let more = chain_long own chain in omega arith

chain_low : (own most : ℕ) (chain : List ℕ) → own ≤ most → AllByRecursion (λ (number : ℕ). number ≤ most) chain →
    AllByRecursion (λ (number : ℕ). number ≤ most) (chain_behind own chain)
chain_low own most [] few low = tt
chain_low own most (number ∷ []) few low = (omega arith, tt)
chain_low own most (number ∷ pivot ∷ chain) few low = (omega arith, (low.1.0, chain_low own most chain few low.1.1))

twice_back : (own : ℕ) (chain : List ℕ) → AreEarlier own (chain_behind own chain) → chain_behind own (chain_behind own chain) ≡ chain
twice_back own [] is = refl
twice_back own (number ∷ []) is =
    let some = is.0 in
    let back : own - (own - number) ≡ number = omega arith in
    ap (λ (n : ℕ). n ∷ []) back
twice_back own (number ∷ pivot ∷ chain) is =
    let some = is.0 in
    let back : own - (own - number) ≡ number = omega arith in
    ap₂ (λ (n : ℕ) (ns : List ℕ). n ∷ pivot ∷ ns) back (twice_back own chain is.2)

-- ---- lists are not longer than their texts

numbers_long : (numbers : List ℕ) → length numbers ≤ length (numbers_text numbers)
numbers_long [] = omega arith
numbers_long (number ∷ numbers) =
    let more = numbers_long numbers in
    let both = length-append (32 ∷ decimal number) (numbers_text numbers) in
    omega arith

literals_long : (literals : List Literal) → length literals ≤ length (literals_text literals)
literals_long [] = omega arith
literals_long (literal ∷ literals) =
    let more = literals_long literals in
    let both = length-append (32 ∷ literal_text literal) (literals_text literals) in
    omega arith

block_long : (row : List ℕ) → length row ≤ length (line_text (lines.Block row))
block_long row =
    let whole = ap length (whole_block row) in
    let both = length-append (numbers_text row) (10 ∷ []) in
    let more = numbers_long row in
    omega arith

derived_long : (clause : List Literal) (chain : List ℕ) → length clause + length chain ≤ length (line_text (lines.Derived clause chain))
derived_long clause chain =
    let ended : List ℕ = chain ++ 0 ∷ [] in
    let whole = ap length (whole_derived clause chain) in
    let front = length-append (literals_text clause) (32 ∷ 48 ∷ (numbers_text ended ++ 10 ∷ [])) in
    let behind = length-append (numbers_text ended) (10 ∷ []) in
    let pushed = length-append chain (0 ∷ []) in
    let some = literals_long clause in
    let more = numbers_long ended in
    omega arith

-- ---- what is told

-- what is known of the line that a text says
abbrev pub IsSpoken : Version → ℕ → List ℕ → LogLine → Type 0
IsSpoken version own text (lines.Section conditions horizon) = text ≡ line_bytes version own (lines.Section conditions horizon)
IsSpoken version own text (lines.Derived clause chain) =
    IsNumber (length clause) × IsNumber (length chain / 2) × IsOdd (length chain)
    × (AreEarlier own chain → text ≡ line_bytes version own (lines.Derived clause chain))
IsSpoken version own text (lines.Block row) = IsNumber (length row) × (text ≡ line_bytes version own (lines.Block row))
IsSpoken version own text (lines.End word) = text ≡ line_bytes version own (lines.End word)

pub spoken : (version : Version) (own : ℕ) (text : List ℕ) (read : LogLine) → length text ≤ most_log_bytes → IsSpelled version text read →
    IsSpoken version own text (line_meant version own read)
spoken First own text (lines.Section conditions horizon) few is = is.spelled
spoken First own text (lines.Derived clause chain) few is =
    let long = derived_long clause chain in
    let same = ap length is.spelled in
    (omega arith, omega arith, is.formed.2, (λ names. is.spelled))
spoken First own text (lines.Block row) few is =
    let long = block_long row in
    let same = ap length is.spelled in
    (omega arith, is.spelled)
spoken First own text (lines.End word) few is = is.spelled
spoken Second own text (lines.Section conditions horizon) few is = is.spelled
spoken Second own text (lines.Derived clause chain) few is =
    let same = sym (chain_long own chain) in (
      is.formed.0,
      subst (λ (n : ℕ). IsNumber (n / 2)) same is.formed.2,
      subst IsOdd same is.formed.4,
      (λ names. is.spelled ∙ ap (λ (c : List ℕ). entry_bytes (lines.Derived clause c)) (sym (twice_back own chain names))),
    )
spoken Second own text (lines.Block row) few is = (is.formed.0, is.spelled)
spoken Second own text (lines.End word) few is = is.spelled

-- ---- lines that can be said

all_most : (few many : ℕ) (numbers : List ℕ) → few ≤ many → AllByRecursion (λ (number : ℕ). number ≤ few) numbers → AllByRecursion (λ (number : ℕ). number ≤ many) numbers
all_most few many [] less all = tt
all_most few many (number ∷ numbers) less all = let low = all.0 in (omega arith, all_most few many numbers less all.1)

short_literals : (clause : List Literal) → IsOver most_variables clause → AllByRecursion IsShortLiteral clause
short_literals [] over = tt
short_literals (literal ∷ clause) over = let low = over.1 in ((over.0, omega arith), short_literals clause over.2)

pub section_sayable : (own : ℕ) (conditions : _) (horizon : ℕ) → own ≤ 999999999 → IsShort horizon → IsSayableAt own (lines.Section conditions horizon)
section_sayable own conditions horizon few short =
    record { own_short = few; formed = short; numbers = omega arith; entry = omega arith; earlier = tt; over = tt }

pub end_sayable : (own : ℕ) (word : _) → own ≤ 999999999 → IsSayableAt own (lines.End word)
end_sayable own word few = record { own_short = few; formed = tt; numbers = tt; entry = tt; earlier = tt; over = tt }

pub block_sayable : (own : ℕ) (row : List ℕ) → own ≤ 999999999 → IsNumber (length row) → AllByRecursion (λ (index : ℕ). index ≤ 999999999) row → IsSayableAt own (lines.Block row)
block_sayable own row few counted short =
    let numbers = all_most 999999999 1999999999 row (omega arith) short in
    record { own_short = few; formed = short; numbers = (counted, numbers); entry = (counted, numbers); earlier = tt; over = tt }

pub derived_sayable : (own : ℕ) (clause : List Literal) (chain : List ℕ) → own ≤ 999999999 → IsOver most_variables clause → IsLowChain own 999999999 chain →
    IsNumber (length clause) → IsNumber (length chain / 2) → IsOdd (length chain) → IsSayableAt own (lines.Derived clause chain)
derived_sayable own clause chain few over low counted paired odd =
    let literals = short_literals clause over in
    let same = sym (chain_long own chain) in
    record {
      own_short = few;
      formed = (literals, low.low, odd);
      numbers = (counted, literals, paired, all_most 999999999 1999999999 chain (omega arith) low.low, odd);
      entry = (
        counted,
        literals,
        subst (λ (n : ℕ). IsNumber (n / 2)) same paired,
        all_most 999999999 1999999999 (chain_behind own chain) (omega arith) (chain_low own 999999999 chain few low.low),
        subst IsOdd same odd,
      );
      earlier = low.earlier;
      over = over;
    }
