-- What comparing two numbers gives, and what it says of them.
use Rattle.std.proofs.Common.{◌≡◌, ℕ, ◌<◌, inl, inr, refl, arith}
use Rattle.std.specs.Ordering.{nat_cmp}
use Rattle.std.specs.declared.cmp.Ordering.TheVariants.{Less, Equal, Greater}
use Rattle.std.proofs.lemmas.Bool.{cases_order, lt-ltb, le-ltb, eq-eqb, ne_eqb}

pub less : (m n : ℕ) → m < n → nat_cmp m n ≡ Less
less m n below = rw (lt-ltb m n below) refl

pub equal : (m : ℕ) → nat_cmp m m ≡ Equal
equal m = rw (le-ltb m m (omega arith), eq-eqb m m refl) refl

pub greater : (m n : ℕ) → n < m → nat_cmp m n ≡ Greater
greater m n above = rw (le-ltb m n (omega arith), ne_eqb m n (λ same. omega arith)) refl

pub from_less : (m n : ℕ) → nat_cmp m n ≡ Less → m < n
from_less m n h = elim (cases_order m n) [
  | inl same ↦ let tie : nat_cmp m n ≡ Equal = rw same (equal n) in absurd (cc)
  | inr (inl below) ↦ below
  | inr (inr above) ↦ let more = greater m n above in absurd (cc)
]

pub from_equal : (m n : ℕ) → nat_cmp m n ≡ Equal → m ≡ n
from_equal m n h = elim (cases_order m n) [
  | inl same ↦ same
  | inr (inl below) ↦ let fewer = less m n below in absurd (cc)
  | inr (inr above) ↦ let more = greater m n above in absurd (cc)
]

pub from_greater : (m n : ℕ) → nat_cmp m n ≡ Greater → n < m
from_greater m n h = elim (cases_order m n) [
  | inl same ↦ let tie : nat_cmp m n ≡ Equal = rw same (equal n) in absurd (cc)
  | inr (inl below) ↦ let fewer = less m n below in absurd (cc)
  | inr (inr above) ↦ above
]
