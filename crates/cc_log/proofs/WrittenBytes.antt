-- The bytes of lines as they are written, part by part.
use Rattle.std.proofs.Common.{◌≡◌, ℕ, zero, suc, ◌+◌, ◌-◌, ◌/◌, ◌%◌, ◌<◌, ◌≤◌, Bool, true, not, cond, List, [], ◌∷◌, ◌++◌, flat_map, length, drop, get_or, refl, sym, ap, subst, ◌∙◌, arith, append_assoc}
use Rattle.std.specs.List.{AllByRecursion}
use Rattle.std.proofs.lemmas.List.{drop_more}
use Rattle.cc_defs.specs.declared.log.LogLine.{LogLine}
use Rattle.cc_defs.specs.declared.log.LogLine.TheVariants as lines
use Rattle.cc_defs.specs.Clauses.{Literal}
use Rattle.cc_defs.specs.LogBytes.{HasNumbers, IsNumber, bytes_within, chain_behind, entry_bytes, line_behind, literal_bytes, number_bytes}
use Rattle.cc_defs.specs.LogTexts.{IsFormed, IsShort}
use Rattle.cc_log.specs.Entries.{AreBefore, HasShortLists, NamesBefore, most_within}
use Rattle.cc_log.specs.Laws.{WrittenLinesAreEntries}
use Rattle.cc_log.proofs.NumberBytes.{large_bytes}

-- ---- a number

-- What is left of a number that is written, and how many bytes may come behind the next.
pub record IsLeft (number left : ℕ) (old new : List ℕ) : Type 0 where
  pub more : ℕ
  pub few : left ≤ most_within more
  pub whole : new ++ bytes_within more left ≡ old ++ number_bytes number

pub all_left : (number : ℕ) (old : List ℕ) → number < 4294967296 → IsLeft number number old old
all_left number old below = record { more = 4; few = omega arith; whole = refl }

module _ (number left : ℕ) (old new : List ℕ) where
  pub one_byte : IsLeft number left old new → 128 ≤ left → IsLeft number (left / 128) old (new ++ (128 + left % 128) ∷ [])
  one_byte h large = byte_of h.more h.few h.whole where
    byte_of : (more : ℕ) → left ≤ most_within more → new ++ bytes_within more left ≡ old ++ number_bytes number → IsLeft number (left / 128) old (new ++ (128 + left % 128) ∷ [])
    byte_of zero few whole = absurd (omega arith)
    byte_of (suc more) few whole = record {
      more = more;
      few = omega arith;
      whole = append_assoc new ((128 + left % 128) ∷ []) (bytes_within more (left / 128)) ∙ ap (λ (t : List ℕ). new ++ t) (sym (large_bytes more left large)) ∙ whole;
    }

-- ---- a chain

-- a chain of which the next number names a clause, or is a pivot
abbrev pub links : Bool → ℕ → List ℕ → List ℕ
links names own [] = []
links names own (number ∷ chain) = cond names (own - number) number ∷ links (not names) own chain

abbrev pub AreLinks : Bool → ℕ → List ℕ → Type 0
AreLinks names own [] = Unit {0}
AreLinks names own (number ∷ chain) = (names ≡ true → number < own) × AreLinks (not names) own chain

pub links_behind : (own : ℕ) (chain : List ℕ) → links true own chain ≡ chain_behind own chain
links_behind own [] = refl
links_behind own (number ∷ []) = refl
links_behind own (number ∷ pivot ∷ chain) = ap (λ (t : List ℕ). (own - number) ∷ pivot ∷ t) (links_behind own chain)

pub links_before : (own : ℕ) (chain : List ℕ) → AreBefore own chain → AreLinks true own chain
links_before own [] h = tt
links_before own (number ∷ []) h = (λ _. h, tt)
links_before own (number ∷ pivot ∷ chain) h = (λ _. h.0, (λ e. absurd cc, links_before own chain h.1))

pub links_split : (names : Bool) (own : ℕ) (chain : List ℕ) (i d : ℕ) → i < length chain → AreLinks names own (drop i chain) →
    (names ≡ true → get_or chain i d < own) × AreLinks (not names) own (drop (i + 1) chain)
links_split names own chain i d less all = subst (AreLinks names own) (drop_more chain i d less) all

pub link_next : (names : Bool) (own : ℕ) (chain : List ℕ) (i d link : ℕ) (front new whole : List ℕ) → i < length chain →
    link ≡ cond names (own - get_or chain i d) (get_or chain i d) → new ≡ front ++ number_bytes link →
    front ++ flat_map number_bytes (links names own (drop i chain)) ≡ whole → new ++ flat_map number_bytes (links (not names) own (drop (i + 1) chain)) ≡ whole
link_next names own chain i d link front new whole less is made so_far =
    let rest = flat_map number_bytes (links (not names) own (drop (i + 1) chain)) in
    ap (λ (w : List ℕ). w ++ rest) made ∙ append_assoc front (number_bytes link) rest ∙ ap (λ (n : ℕ). front ++ (number_bytes n ++ rest)) is
    ∙ ap (λ (w : List ℕ). front ++ flat_map number_bytes (links names own w)) (sym (drop_more chain i d less)) ∙ so_far

length-chain_behind : (own : ℕ) (chain : List ℕ) → length (chain_behind own chain) ≡ length chain
length-chain_behind own [] = refl
length-chain_behind own (number ∷ []) = refl
length-chain_behind own (number ∷ pivot ∷ chain) = ap (λ (n : ℕ). suc (suc n)) (length-chain_behind own chain)

-- ---- lines

pub derived_bytes : (own : ℕ) (clause : List Literal) (chain : List ℕ) →
    entry_bytes (lines.Derived clause (chain_behind own chain))
    ≡ 3 ∷ (number_bytes (length clause) ++ (flat_map literal_bytes clause ++ (number_bytes (length chain / 2) ++ flat_map number_bytes (chain_behind own chain))))
derived_bytes own clause chain =
    ap (λ (n : ℕ). 3 ∷ (number_bytes (length clause) ++ flat_map literal_bytes clause ++ number_bytes (n / 2) ++ flat_map number_bytes (chain_behind own chain))) (length-chain_behind own chain)
    ∙ ap (λ (t : List ℕ). 3 ∷ t)
    (append_assoc (number_bytes (length clause) ++ flat_map literal_bytes clause) (number_bytes (length chain / 2)) (flat_map number_bytes (chain_behind own chain))
    ∙ append_assoc (number_bytes (length clause)) (flat_map literal_bytes clause) (number_bytes (length chain / 2) ++ flat_map number_bytes (chain_behind own chain)))

-- ---- what is written can be read, and says what was written

numbers_behind : (own : ℕ) (chain : List ℕ) → own ≤ 999999999 → AllByRecursion IsShort chain → AllByRecursion IsNumber (chain_behind own chain)
numbers_behind own [] most all = tt
numbers_behind own (number ∷ []) most all = (omega arith, tt)
numbers_behind own (number ∷ pivot ∷ chain) most all = let short = all.1.0 in (omega arith, (omega arith, numbers_behind own chain most all.1.1))

numbers_of_row : (row : List ℕ) → AllByRecursion IsShort row → AllByRecursion IsNumber row
numbers_of_row [] all = tt
numbers_of_row (index ∷ row) all = let short = all.0 in (omega arith, numbers_of_row row all.1)

behind_twice : (own : ℕ) (chain : List ℕ) → AreBefore own chain → chain_behind own (chain_behind own chain) ≡ chain
behind_twice own [] before = refl
behind_twice own (number ∷ []) before = let same : own - (own - number) ≡ number = omega arith in ap (λ (n : ℕ). n ∷ []) same
behind_twice own (number ∷ pivot ∷ chain) before =
    let below = before.0 in
    let same : own - (own - number) ≡ number = omega arith in
    ap (λ (n : ℕ). n ∷ pivot ∷ chain_behind own (chain_behind own chain)) same ∙ ap (λ (t : List ℕ). number ∷ pivot ∷ t) (behind_twice own chain before.1)

formed_behind : (own : ℕ) (line : LogLine) → IsFormed line → HasShortLists line → own ≤ 999999999 → HasNumbers (line_behind own line)
formed_behind own (lines.Section conditions horizon) formed few most = omega arith
formed_behind own (lines.Derived clause chain) formed few most =
    let same = length-chain_behind own chain in
    let short = few.0 in
    let links_few = few.1 in
    let (half, odd) = formed.2 in
    (omega arith, formed.0, omega arith, numbers_behind own chain most formed.1, (half, same ∙ odd))
formed_behind own (lines.Block row) formed few most = (omega arith, numbers_of_row row formed)
formed_behind own (lines.End word) formed few most = tt

pub line_twice : (own : ℕ) (line : LogLine) → NamesBefore own line → line_behind own (line_behind own line) ≡ line
line_twice own (lines.Section conditions horizon) before = refl
line_twice own (lines.Derived clause chain) before = ap (lines.Derived clause) (behind_twice own chain before)
line_twice own (lines.Block row) before = refl
line_twice own (lines.End word) before = refl

pub written_lines_are_entries : WrittenLinesAreEntries
written_lines_are_entries own line formed few most before =
    (record { formed = formed_behind own line formed few most; spelled = refl }, line_twice own line before)
