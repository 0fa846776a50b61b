-- Headings of rivals: how one is spelled, and that a text says no two.
use Rattle.std.proofs.Common.{◌≡◌, ◌≢◌, ◌∙◌, ℕ, List, [], ◌∷◌, ◌++◌, refl, sym, subst, ap, append_assoc, get_or}
use Rattle.std.specs.Prelude.{decimal}
use Rattle.std.proofs.lemmas.Bool.{eq-eqb, false≢true}
use Rattle.cc_log.specs.Fronts.{IsNumberAt}
use Rattle.cc_log.proofs.Numbers.{one_number}
use Rattle.cc_defs.specs.declared.lists.Key.{Key}
use Rattle.cc_silent.specs.GeneralLogs.{IsRivalsHeading, general_header, rivals_heading}
use Rattle.cc_silent.specs.RivalParts.{IsHorizonAt, IsRowText}
use Rattle.cc_silent.proofs.RowTexts.{joined, one_row, row_spelled, row_there}

-- what stands behind the letter and a space
abbrev numbers_of : (horizon : ℕ) → List ℕ → List ℕ
numbers_of horizon row = decimal horizon ++ 58 ∷ (joined row ++ 10 ∷ [])

heading_is : (horizon : ℕ) (row : List ℕ) → rivals_heading horizon row ≡ 117 ∷ 32 ∷ numbers_of horizon row
heading_is horizon row =
    ap (λ (l : List ℕ). 117 ∷ 32 ∷ l)
    (append_assoc (decimal horizon ++ 58 ∷ []) (joined row) (10 ∷ []) ∙ append_assoc (decimal horizon) (58 ∷ []) (joined row ++ 10 ∷ []))

-- the parts of a heading
pub record HasParts (numbers : List ℕ) (key : Key) : Type 0 where
  pub behind : List ℕ
  pub horizon : IsHorizonAt numbers key.horizon behind
  pub row : IsRowText behind key.row

pub parts_of : (text : List ℕ) (key : Key) → IsRivalsHeading text key → (numbers : List ℕ) × (text ≡ 117 ∷ 32 ∷ numbers) × HasParts numbers key
parts_of text key is = (
  numbers_of key.horizon key.row,
  is.spelled ∙ heading_is key.horizon key.row,
  record {
    behind = joined key.row ++ 10 ∷ [];
    horizon = record { formed = is.horizon; spelled = refl; ends = refl };
    row = row_there key.row is.row;
  },
)

-- of a text that begins so
pub parts_at : (text numbers : List ℕ) (key : Key) → text ≡ 117 ∷ 32 ∷ numbers → IsRivalsHeading text key → HasParts numbers key
parts_at text numbers key same is =
    let (other, spelled, parts) = parts_of text key is in
    subst (λ (n : List ℕ). HasParts n key) (let e : other ≡ numbers = cc in e) parts

-- what is read is a heading
pub reads_heading : (text numbers behind : List ℕ) (horizon : ℕ) (row : List ℕ) → text ≡ 117 ∷ 32 ∷ numbers → IsHorizonAt numbers horizon behind → IsRowText behind row →
    IsRivalsHeading text (record { horizon = horizon; row = row })
reads_heading text numbers behind horizon row same first second =
    let (short, spelled) = row_spelled row behind second in
    record {
      horizon = first.formed;
      row = short;
      spelled = same ∙ ap (λ (l : List ℕ). 117 ∷ 32 ∷ l) (first.spelled ∙ ap (λ (l : List ℕ). decimal horizon ++ 58 ∷ l) spelled) ∙ sym (heading_is horizon row);
    }

one_horizon : (numbers behind other : List ℕ) (n m : ℕ) → IsHorizonAt numbers n behind → IsHorizonAt numbers m other → (n ≡ m) × (behind ≡ other)
one_horizon numbers behind other n m is so =
    let (same, rest) = one_number numbers n m (58 ∷ behind) (58 ∷ other) is so in (same, (let e : behind ≡ other = cc in e))

-- ---- where a part is missing, there is no heading

pub no_row : (text numbers behind : List ℕ) (horizon : ℕ) → text ≡ 117 ∷ 32 ∷ numbers → IsHorizonAt numbers horizon behind → ((row : List ℕ) → IsRowText behind row → ⊥) → (key : Key) → IsRivalsHeading text key → ⊥
no_row text numbers behind horizon same first none key is =
    let parts = parts_at text numbers key same is in
    let rest = (one_horizon numbers parts.behind behind key.horizon horizon parts.horizon first).1 in
    none key.row (subst (λ (t : List ℕ). IsRowText t key.row) rest parts.row)

pub no_colon : (text rest : List ℕ) (number : ℕ) → IsNumberAt text number rest → ((behind : List ℕ) → rest ≡ 58 ∷ behind → ⊥) → (other : ℕ) (behind : List ℕ) → IsHorizonAt text other behind → ⊥
no_colon text rest number is none other behind part = none behind (one_number text number other rest (58 ∷ behind) is part).1

-- ---- a text says no two headings, and the first line of a log is none

pub one_heading : (text : List ℕ) (one other : Key) → IsRivalsHeading text one → IsRivalsHeading text other → one ≡ other
one_heading text one other is so =
    let (numbers, same, parts) = parts_of text one is in
    let others = parts_at text numbers other same so in
    let (horizon, rest) = one_horizon numbers parts.behind others.behind one.horizon other.horizon parts.horizon others.horizon in
    let row = one_row one.row other.row others.behind (subst (λ (t : List ℕ). IsRowText t one.row) rest parts.row) others.row in
    λ i. record { horizon = horizon i; row = row i }

pub no_header : (text : List ℕ) (key : Key) → IsRivalsHeading text key → text ≢ general_header
no_header text key is same =
    let (numbers, begins, parts) = parts_of text key is in
    false≢true (eq-eqb 117 99 (ap (λ (l : List ℕ). get_or l 0 0) (sym begins ∙ same)))
