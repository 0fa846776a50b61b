-- Entries at the front of bytes, by what was read there.
use Rattle.std.proofs.Common.{ℕ, ◌≡◌, ◌≢◌, ◌+◌, ◌*◌, ◌/◌, eqb, List, ◌∷◌, ◌++◌, Option, length, get_or, flat_map, refl, sym, ap, subst, ◌∙◌, arith, ◌-◌, ◌≤◌, ◌⊎◌, inl, inr, drop, take}
use Rattle.std.specs.Prelude.{MatchOption}
use Rattle.std.proofs.lemmas.List.{take_rest}
use Rattle.std.specs.Borrow.{Bor}
use Rattle.cc_defs.specs.declared.log.LogLine.TheVariants as lines
use Rattle.cc_defs.specs.Clauses.{Literal}
use Rattle.cc_defs.specs.LogBytes.{number_bytes, literal_bytes}
use Rattle.cc_defs.specs.LogBytes.{BeginsWith, HasNoEntry}
use Rattle.cc_log.specs.Entries.{IsNumberIn, HasNoNumberIn, AreNumbersIn, HasNoNumbersIn, AreLiteralsIn, HasNoLiteralsIn, HasNoHeading, HasNoEnd}
use Rattle.cc_check.specs.Reading.{IsEntryRead}
use Rattle.cc_check.specs.declared.line.LineParts.{LineParts}
use Rattle.cc_check.specs.Readers.{literals_of, numbers_of}
use Rattle.cc_log.proofs.EntryBytes.{DerivedParts, begins, class_read, derived_parts, derived_spelled, heading_byte, same_clause, same_number_in, whole}
use Rattle.cc_log.proofs.Signed.{front}

-- what begins with its kind is a derived line
pub only_derived : (body : List ℕ) → ((clause : List Literal) (chain rest : List ℕ) → DerivedParts body clause chain rest → ⊥) → HasNoEntry (3 ∷ body)
only_derived body none (lines.Section conditions horizon) rest h = let e = class_read (3 ∷ body) (lines.Section conditions horizon) rest h in omega arith
only_derived body none (lines.Derived clause chain) rest h = none clause chain rest (derived_parts (3 ∷ body) body clause chain rest refl h)
only_derived body none (lines.Block row) rest h = let e = class_read (3 ∷ body) (lines.Block row) rest h in omega arith
only_derived body none (lines.End word) rest h = let e = class_read (3 ∷ body) (lines.End word) rest h in omega arith

pub no_clause : (body : List ℕ) (count : ℕ) (after : List ℕ) → IsNumberIn body count after → HasNoLiteralsIn count after → HasNoEntry (3 ∷ body)
no_clause body count after first none = only_derived body (λ clause chain rest h.
    let counts = same_number_in body (length clause) count h.behind_count after h.count first in
    none clause h.behind_clause
    (subst (λ (t : List ℕ). AreLiteralsIn count t clause h.behind_clause) counts.1 (subst (λ (k : ℕ). AreLiteralsIn k h.behind_count clause h.behind_clause) counts.0 h.literals)))

module _ (body : List ℕ) (count : ℕ) (after : List ℕ) (made : List Literal) (behind : List ℕ) (first : IsNumberIn body count after)
    (literals : AreLiteralsIn count after made behind) where
  pub no_pairs : HasNoNumberIn behind → HasNoEntry (3 ∷ body)
  no_pairs none = only_derived body (λ clause chain rest h.
      let same = same_clause body count (length clause) after h.behind_count made clause behind h.behind_clause first literals h.count h.literals in
      none (length chain / 2) h.behind_pairs (subst (λ (t : List ℕ). IsNumberIn t (length chain / 2) h.behind_pairs) (sym same.1) h.pairs))

  module _ (pairs : ℕ) (links : List ℕ) (second : IsNumberIn behind pairs links) where
    pub no_chain : HasNoNumbersIn (2 * pairs + 1) links → HasNoEntry (3 ∷ body)
    no_chain none = only_derived body (λ clause chain rest h.
        let same = same_clause body count (length clause) after h.behind_count made clause behind h.behind_clause first literals h.count h.literals in
        let there = subst (λ (t : List ℕ). IsNumberIn t (length chain / 2) h.behind_pairs) (sym same.1) h.pairs in
        let counts = same_number_in behind (length chain / 2) pairs h.behind_pairs links there second in
        none chain rest
        (subst (λ (t : List ℕ). AreNumbersIn (2 * pairs + 1) t chain rest) counts.1 (subst (λ (k : ℕ). AreNumbersIn (2 * k + 1) h.behind_pairs chain rest) counts.0 h.numbers)))

    pub derived_read : (chain rest : List ℕ) → AreNumbersIn (2 * pairs + 1) links chain rest → BeginsWith (3 ∷ body) (lines.Derived made chain) rest
    derived_read chain rest numbers =
        let counted = literals.counted in
        let chained = numbers.counted in
        let most = first.formed in
        let pairs_most = second.formed in
        let half : length chain / 2 ≡ pairs = omega arith in
        begins (3 ∷ body) (lines.Derived made chain) rest (omega arith, literals.formed, omega arith, numbers.formed, (pairs, chained))
        (ap (λ (t : List ℕ). 3 ∷ t)
        (first.spelled ∙ ap (λ (n : ℕ). number_bytes n ++ after) (sym counted) ∙ ap (λ (t : List ℕ). number_bytes (length made) ++ t)
        (literals.spelled ∙ ap (λ (t : List ℕ). flat_map literal_bytes made ++ t)
        (second.spelled ∙ ap (λ (n : ℕ). number_bytes n ++ links) (sym half) ∙ ap (λ (t : List ℕ). number_bytes (length chain / 2) ++ t) numbers.spelled)))
        ∙ sym (derived_spelled made chain rest))

-- ---- headings

module _ (bytes : List ℕ) where
  pub heading_read : 1 ≤ length bytes → (get_or bytes 0 0 ≡ 2) ⊎ (get_or bytes 0 0 ≡ 1) → (horizon : ℕ) (rest : List ℕ) →
      IsNumberIn (take (length bytes - 1) (drop 1 bytes)) horizon rest → BeginsWith bytes (lines.Section (eqb (get_or bytes 0 0) 2) horizon) rest
  heading_read some is horizon rest h =
      begins bytes (lines.Section (eqb (get_or bytes 0 0) 2) horizon) rest h.formed
      (front bytes (heading_byte (eqb (get_or bytes 0 0) 2)) some (byte_is (get_or bytes 0 0) is) ∙ ap (λ (t : List ℕ). heading_byte (eqb (get_or bytes 0 0) 2) ∷ t) h.spelled)
    where
      byte_is : (byte : ℕ) → (byte ≡ 2) ⊎ (byte ≡ 1) → byte ≡ heading_byte (eqb byte 2)
      byte_is byte (inl two) = two ∙ ap (λ (n : ℕ). heading_byte (eqb n 2)) (sym two)
      byte_is byte (inr one) = one ∙ ap (λ (n : ℕ). heading_byte (eqb n 2)) (sym one)

  pub no_heading : HasNoNumberIn (take (length bytes - 1) (drop 1 bytes)) → HasNoHeading bytes
  no_heading none conditions horizon rest h =
      let most = h.read.formed in
      none horizon rest
      (record { formed = most; few = omega arith; spelled = take_rest bytes 1 ∙ ap (λ (t : List ℕ). drop 1 t) (whole bytes (lines.Section conditions horizon) rest h) })

-- ---- by what was read

pub read_behind : (kind : ℕ) (bytes body : List ℕ) (r : Option (LineParts × Bor (List ℕ))) → bytes ≡ kind ∷ body →
    MatchOption r (HasNoEntry (kind ∷ body)) (λ read. IsEntryRead (kind ∷ body) (literals_of read.0.literals) (numbers_of read.0.numbers) read.0.kind read.1.now) →
    MatchOption r (HasNoEntry bytes) (λ read. IsEntryRead bytes (literals_of read.0.literals) (numbers_of read.0.numbers) read.0.kind read.1.now)
read_behind kind bytes body r is h =
    subst (λ (t : List ℕ). MatchOption r (HasNoEntry t) (λ read. IsEntryRead t (literals_of read.0.literals) (numbers_of read.0.numbers) read.0.kind read.1.now)) (sym is) h

pub no_other : (bytes : List ℕ) → get_or bytes 0 0 ≢ 3 → get_or bytes 0 0 ≢ 4 → HasNoHeading bytes → HasNoEnd bytes → HasNoEntry bytes
no_other bytes not_derived not_block heading end (lines.Section conditions horizon) rest h = heading conditions horizon rest h
no_other bytes not_derived not_block heading end (lines.Derived clause chain) rest h =
    not_derived (ap (λ (t : List ℕ). get_or t 0 0) (whole bytes (lines.Derived clause chain) rest h))
no_other bytes not_derived not_block heading end (lines.Block row) rest h = not_block (ap (λ (t : List ℕ). get_or t 0 0) (whole bytes (lines.Block row) rest h))
no_other bytes not_derived not_block heading end (lines.End word) rest h = end word rest h
