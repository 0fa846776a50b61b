-- Entries at the front of bytes: what stands behind their kinds, and that bytes begin with one at most.
use Rattle.std.proofs.Common.{ℕ, ◌≡◌, ◌+◌, ◌*◌, ◌/◌, Bool, true, false, cond, eqb, ltb, List, ◌∷◌, ◌++◌, length, get_or, flat_map, refl, sym, ap, subst, ◌∙◌, arith, append_assoc}
use Rattle.cc_defs.specs.declared.log.EndWord.{EndWord}
use Rattle.cc_defs.specs.declared.log.EndWord.TheVariants as words
use Rattle.cc_defs.specs.declared.log.LogLine.{LogLine}
use Rattle.cc_defs.specs.declared.log.LogLine.TheVariants as lines
use Rattle.cc_defs.specs.Clauses.{Literal}
use Rattle.cc_defs.specs.LogBytes.{IsNumber, HasNumbers, end_word_bytes, entry_bytes, number_bytes, literal_bytes}
use Rattle.cc_defs.specs.LogTexts.{IsShortLiteral}
use Rattle.cc_defs.specs.LogBytes.{BeginsWith}
use Rattle.cc_log.specs.Entries.{IsNumberIn, AreNumbersIn, AreLiteralsIn}
use Rattle.cc_log.specs.Laws.{OneEntry}
use Rattle.cc_log.proofs.NumberBytes.{one_within, one_number_in, one_literal_in, cells}
use Rattle.cc_log.proofs.ListBytes.{one_list_in}

-- ---- numbers and lists, one of each at most

pub same_number_in : (bytes : List ℕ) (n m : ℕ) (rest other : List ℕ) → IsNumberIn bytes n rest → IsNumberIn bytes m other → (n ≡ m) × (rest ≡ other)
same_number_in bytes n m rest other a b = one_within 4 bytes n m rest other a b

same_numbers_in : (count : ℕ) (bytes xs ys rest other : List ℕ) → AreNumbersIn count bytes xs rest → AreNumbersIn count bytes ys other → (xs ≡ ys) × (rest ≡ other)
same_numbers_in count bytes xs ys rest other a b = one_list_in IsNumber number_bytes one_number_in count bytes xs ys rest other a b

same_literals_in : (count : ℕ) (bytes : List ℕ) (xs ys : List Literal) (rest other : List ℕ) → AreLiteralsIn count bytes xs rest → AreLiteralsIn count bytes ys other →
    (xs ≡ ys) × (rest ≡ other)
same_literals_in count bytes xs ys rest other a b = one_list_in IsShortLiteral literal_bytes one_literal_in count bytes xs ys rest other a b

-- ---- what stands behind the kind

abbrev pub class_of : LogLine → ℕ
class_of (lines.Section conditions horizon) = 1
class_of (lines.Derived clause chain) = 2
class_of (lines.Block row) = 3
class_of (lines.End word) = 4

-- by the first byte
abbrev pub class_by : ℕ → ℕ
class_by byte = cond (ltb byte 3) 1 (cond (eqb byte 3) 2 (cond (eqb byte 4) 3 4))

class_is : (line : LogLine) (rest : List ℕ) → class_by (get_or (entry_bytes line ++ rest) 0 0) ≡ class_of line
class_is (lines.Section true horizon) rest = refl
class_is (lines.Section false horizon) rest = refl
class_is (lines.Derived clause chain) rest = refl
class_is (lines.Block row) rest = refl
class_is (lines.End words.Empty) rest = refl
class_is (lines.End words.Found) rest = refl
class_is (lines.End words.Spent) rest = refl

pub whole : (bytes : List ℕ) (line : LogLine) (rest : List ℕ) → BeginsWith bytes line rest → bytes ≡ entry_bytes line ++ rest
whole bytes line rest h = h.spelled ∙ ap (λ (e : List ℕ). e ++ rest) h.read.spelled

pub begins : (bytes : List ℕ) (line : LogLine) (rest : List ℕ) → HasNumbers line → bytes ≡ entry_bytes line ++ rest → BeginsWith bytes line rest
begins bytes line rest formed is = record { entry = entry_bytes line; read = record { formed = formed; spelled = refl }; spelled = is }

pub class_read : (bytes : List ℕ) (line : LogLine) (rest : List ℕ) → BeginsWith bytes line rest → class_by (get_or bytes 0 0) ≡ class_of line
class_read bytes line rest h = ap (λ (t : List ℕ). class_by (get_or t 0 0)) (whole bytes line rest h) ∙ class_is line rest

same_class : (bytes : List ℕ) (line other : LogLine) (rest others : List ℕ) → BeginsWith bytes line rest → BeginsWith bytes other others → class_of line ≡ class_of other
same_class bytes line other rest others a b = sym (class_read bytes line rest a) ∙ class_read bytes other others b

-- ---- blocks

same_row : (body : List ℕ) (n m : ℕ) (b c x y rest other : List ℕ) → IsNumberIn body n b → AreNumbersIn n b x rest → IsNumberIn body m c → AreNumbersIn m c y other →
    (x ≡ y) × (rest ≡ other)
same_row body n m b c x y rest other first row first_too row_too =
    let counts = same_number_in body n m b c first first_too in
    same_numbers_in m c x y rest other (subst (λ (t : List ℕ). AreNumbersIn m t x rest) counts.1 (subst (λ (k : ℕ). AreNumbersIn k b x rest) counts.0 row)) row_too

pub row_parts : (bytes body row rest : List ℕ) → bytes ≡ 4 ∷ body → BeginsWith bytes (lines.Block row) rest →
    IsNumberIn body (length row) (flat_map number_bytes row ++ rest) × AreNumbersIn (length row) (flat_map number_bytes row ++ rest) row rest
row_parts bytes body row rest is h =
    let all = sym is ∙ whole bytes (lines.Block row) rest h in
    let most = h.read.formed.0 in (
      record { formed = most; few = omega arith; spelled = (cells 4 4 body _ all).1 ∙ append_assoc (number_bytes (length row)) (flat_map number_bytes row) rest },
      record { counted = refl; formed = h.read.formed.1; spelled = refl },
    )

-- ---- derived lines

pub derived_spelled : (clause : List Literal) (chain rest : List ℕ) →
    entry_bytes (lines.Derived clause chain) ++ rest
    ≡ 3 ∷ (number_bytes (length clause) ++ (flat_map literal_bytes clause ++ (number_bytes (length chain / 2) ++ (flat_map number_bytes chain ++ rest))))
derived_spelled clause chain rest =
    ap (λ (t : List ℕ). 3 ∷ t)
    (append_assoc (number_bytes (length clause) ++ flat_map literal_bytes clause ++ number_bytes (length chain / 2)) (flat_map number_bytes chain) rest
    ∙ append_assoc (number_bytes (length clause) ++ flat_map literal_bytes clause) (number_bytes (length chain / 2)) (flat_map number_bytes chain ++ rest)
    ∙ append_assoc (number_bytes (length clause)) (flat_map literal_bytes clause) (number_bytes (length chain / 2) ++ (flat_map number_bytes chain ++ rest)))

-- The parts of a derived line, and what stands behind each.
pub record DerivedParts (body : List ℕ) (clause : List Literal) (chain rest : List ℕ) : Type 0 where
  pub behind_count : List ℕ
  pub behind_clause : List ℕ
  pub behind_pairs : List ℕ
  pub count : IsNumberIn body (length clause) behind_count
  pub literals : AreLiteralsIn (length clause) behind_count clause behind_clause
  pub pairs : IsNumberIn behind_clause (length chain / 2) behind_pairs
  pub numbers : AreNumbersIn (2 * (length chain / 2) + 1) behind_pairs chain rest

pub derived_parts : (bytes body : List ℕ) (clause : List Literal) (chain rest : List ℕ) → bytes ≡ 3 ∷ body → BeginsWith bytes (lines.Derived clause chain) rest →
    DerivedParts body clause chain rest
derived_parts bytes body clause chain rest is h =
    let all = sym is ∙ whole bytes (lines.Derived clause chain) rest h ∙ derived_spelled clause chain rest in
    let most = h.read.formed.0 in
    let pairs_most = h.read.formed.2 in
    let odd = h.read.formed.4.1 in
    record {
      behind_count = flat_map literal_bytes clause ++ (number_bytes (length chain / 2) ++ (flat_map number_bytes chain ++ rest));
      behind_clause = number_bytes (length chain / 2) ++ (flat_map number_bytes chain ++ rest);
      behind_pairs = flat_map number_bytes chain ++ rest;
      count = record { formed = most; few = omega arith; spelled = (cells 3 3 body _ all).1 };
      literals = record { counted = refl; formed = h.read.formed.1; spelled = refl };
      pairs = record { formed = pairs_most; few = omega arith; spelled = refl };
      numbers = record { counted = omega arith; formed = h.read.formed.3; spelled = refl };
    }

pub same_clause : (body : List ℕ) (n m : ℕ) (b c : List ℕ) (x y : List Literal) (rest other : List ℕ) → IsNumberIn body n b → AreLiteralsIn n b x rest →
    IsNumberIn body m c → AreLiteralsIn m c y other → (x ≡ y) × (rest ≡ other)
same_clause body n m b c x y rest other first clause first_too clause_too =
    let counts = same_number_in body n m b c first first_too in
    same_literals_in m c x y rest other (subst (λ (t : List ℕ). AreLiteralsIn m t x rest) counts.1 (subst (λ (k : ℕ). AreLiteralsIn k b x rest) counts.0 clause)) clause_too

same_chain : (body : List ℕ) (n m : ℕ) (b c x y rest other : List ℕ) → IsNumberIn body n b → AreNumbersIn (2 * n + 1) b x rest →
    IsNumberIn body m c → AreNumbersIn (2 * m + 1) c y other → (x ≡ y) × (rest ≡ other)
same_chain body n m b c x y rest other first chain first_too chain_too =
    let counts = same_number_in body n m b c first first_too in
    same_numbers_in (2 * m + 1) c x y rest other
    (subst (λ (t : List ℕ). AreNumbersIn (2 * m + 1) t x rest) counts.1 (subst (λ (k : ℕ). AreNumbersIn (2 * k + 1) b x rest) counts.0 chain)) chain_too

same_parts : (body : List ℕ) (a b : List Literal) (x y rest other : List ℕ) → DerivedParts body a x rest → DerivedParts body b y other → (a ≡ b) × (x ≡ y) × (rest ≡ other)
same_parts body a b x y rest other one two =
    let clauses = same_clause body (length a) (length b) one.behind_count two.behind_count a b one.behind_clause two.behind_clause one.count one.literals two.count two.literals in
    let chains =
    same_chain two.behind_clause (length x / 2) (length y / 2) one.behind_pairs two.behind_pairs x y rest other
    (subst (λ (t : List ℕ). IsNumberIn t (length x / 2) one.behind_pairs) clauses.1 one.pairs) one.numbers two.pairs two.numbers in
    (clauses.0, chains.0, chains.1)

-- ---- bytes begin with one entry at most

abbrev pub heading_byte : Bool → ℕ
heading_byte conditions = cond conditions 2 1

same_conditions : (c d : Bool) → heading_byte c ≡ heading_byte d → c ≡ d
same_conditions true true is = refl
same_conditions true false is = absurd (omega arith)
same_conditions false true is = absurd (omega arith)
same_conditions false false is = refl

one_heading : (bytes : List ℕ) (c d : Bool) (h k : ℕ) (rest others : List ℕ) → BeginsWith bytes (lines.Section c h) rest → BeginsWith bytes (lines.Section d k) others →
    (lines.Section c h ≡ lines.Section d k) × (rest ≡ others)
one_heading bytes c d h k rest others a b =
    let both =
    cells (heading_byte c) (heading_byte d) (number_bytes h ++ rest) (number_bytes k ++ others)
    (sym (whole bytes (lines.Section c h) rest a) ∙ whole bytes (lines.Section d k) others b) in
    let numbers = one_number_in h k rest others a.read.formed b.read.formed both.1 in
    (ap (λ (x : Bool). lines.Section x h) (same_conditions c d both.0) ∙ ap (lines.Section d) numbers.0, numbers.1)

one_word : (v w : EndWord) (rest others : List ℕ) → end_word_bytes v ++ rest ≡ end_word_bytes w ++ others → (v ≡ w) × (rest ≡ others)
one_word words.Empty words.Empty rest others is = (refl, (cells 5 5 rest others is).1)
one_word words.Empty words.Found rest others is = let e = (cells 5 6 rest others is).0 in absurd (omega arith)
one_word words.Empty words.Spent rest others is = let e = (cells 5 7 rest others is).0 in absurd (omega arith)
one_word words.Found words.Empty rest others is = let e = (cells 6 5 rest others is).0 in absurd (omega arith)
one_word words.Found words.Found rest others is = (refl, (cells 6 6 rest others is).1)
one_word words.Found words.Spent rest others is = let e = (cells 6 7 rest others is).0 in absurd (omega arith)
one_word words.Spent words.Empty rest others is = let e = (cells 7 5 rest others is).0 in absurd (omega arith)
one_word words.Spent words.Found rest others is = let e = (cells 7 6 rest others is).0 in absurd (omega arith)
one_word words.Spent words.Spent rest others is = (refl, (cells 7 7 rest others is).1)

one_derived : (bytes : List ℕ) (a b : List Literal) (x y rest others : List ℕ) → BeginsWith bytes (lines.Derived a x) rest → BeginsWith bytes (lines.Derived b y) others →
    (lines.Derived a x ≡ lines.Derived b y) × (rest ≡ others)
one_derived bytes a b x y rest others one two =
    let is = whole bytes (lines.Derived a x) rest one ∙ derived_spelled a x rest in
    let same = same_parts _ a b x y rest others (derived_parts bytes _ a x rest is one) (derived_parts bytes _ b y others is two) in
    (ap (λ (c : List Literal). lines.Derived c x) same.0 ∙ ap (lines.Derived b) same.1, same.2)

one_block : (bytes x y rest others : List ℕ) → BeginsWith bytes (lines.Block x) rest → BeginsWith bytes (lines.Block y) others → (lines.Block x ≡ lines.Block y) × (rest ≡ others)
one_block bytes x y rest others one two =
    let is = whole bytes (lines.Block x) rest one in
    let (first, row) = row_parts bytes _ x rest is one in
    let (first_too, row_too) = row_parts bytes _ y others is two in
    let same = same_row _ (length x) (length y) _ _ x y rest others first row first_too row_too in
    (ap lines.Block same.0, same.1)

pub one_entry : OneEntry
one_entry bytes (lines.Section c h) (lines.Section d k) rest others a b = one_heading bytes c d h k rest others a b
one_entry bytes (lines.Section c h) (lines.Derived d y) rest others a b = let e = same_class bytes _ _ rest others a b in absurd (omega arith)
one_entry bytes (lines.Section c h) (lines.Block y) rest others a b = let e = same_class bytes _ _ rest others a b in absurd (omega arith)
one_entry bytes (lines.Section c h) (lines.End w) rest others a b = let e = same_class bytes _ _ rest others a b in absurd (omega arith)
one_entry bytes (lines.Derived c x) (lines.Section d k) rest others a b = let e = same_class bytes _ _ rest others a b in absurd (omega arith)
one_entry bytes (lines.Derived c x) (lines.Derived d y) rest others a b = one_derived bytes c d x y rest others a b
one_entry bytes (lines.Derived c x) (lines.Block y) rest others a b = let e = same_class bytes _ _ rest others a b in absurd (omega arith)
one_entry bytes (lines.Derived c x) (lines.End w) rest others a b = let e = same_class bytes _ _ rest others a b in absurd (omega arith)
one_entry bytes (lines.Block x) (lines.Section d k) rest others a b = let e = same_class bytes _ _ rest others a b in absurd (omega arith)
one_entry bytes (lines.Block x) (lines.Derived d y) rest others a b = let e = same_class bytes _ _ rest others a b in absurd (omega arith)
one_entry bytes (lines.Block x) (lines.Block y) rest others a b = one_block bytes x y rest others a b
one_entry bytes (lines.Block x) (lines.End w) rest others a b = let e = same_class bytes _ _ rest others a b in absurd (omega arith)
one_entry bytes (lines.End v) (lines.Section d k) rest others a b = let e = same_class bytes _ _ rest others a b in absurd (omega arith)
one_entry bytes (lines.End v) (lines.Derived d y) rest others a b = let e = same_class bytes _ _ rest others a b in absurd (omega arith)
one_entry bytes (lines.End v) (lines.Block y) rest others a b = let e = same_class bytes _ _ rest others a b in absurd (omega arith)
one_entry bytes (lines.End v) (lines.End w) rest others a b =
    let same = one_word v w rest others (sym (whole bytes (lines.End v) rest a) ∙ whole bytes (lines.End w) others b) in
    (ap lines.End same.0, same.1)
