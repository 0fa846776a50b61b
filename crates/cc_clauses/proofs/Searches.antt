-- What a binary search finds in a clause, and when two clauses clash.
use Rattle.std.proofs.Common.{◌≡◌, ℕ, ◌+◌, ◌-◌, ◌<◌, ◌↔◌, inl, inr, zero, suc, Bool, true, false, not, List, [], ◌∷◌, ◌++◌, length, take, drop, get_or, Result, Ok, Err, refl, sym, ◌∙◌, arith, add-one}
use Rattle.std.specs.Prelude.{is_ok, IsTrue}
use Rattle.std.specs.List.{Contains}
use Rattle.std.specs.List.Sorted.{IsBinarySearchResult, IsSearchInRange, IsSortedBy, IsPartitionPoint}
use Rattle.std.specs.Ordering.{nat_cmp, is_lt}
use Rattle.std.specs.declared.cmp.Ordering.TheVariants.{Less, Equal, Greater}
use Rattle.std.proofs.lemmas.Bool.{cases_lt, le-ltb, ne_eqb, false≢true}
use Rattle.std.proofs.lemmas.Cmp.{nat_cmp_total}
use Rattle.std.proofs.lemmas.List.{take_rest}
use Rattle.std.proofs.lemmas.List.Sorted.{searchable_from_sorted}
use Rattle.cc_defs.specs.Clauses.{Literal, IsClause, HasAlone, Clash}
use Rattle.cc_clauses.specs.Merging.{code, merge}
use Rattle.cc_clauses.proofs.Literals.{less_code, same_from_code}
use Rattle.cc_clauses.proofs.Orders.{equal, from_equal, from_less, from_greater}
use Rattle.cc_clauses.proofs.Runs.{merge_found, merge_missed, clause_drop}

steps_rise : (xs : List Literal) → IsClause xs → (k : ℕ) (d : Literal) → suc k < length xs → code (get_or xs k d) < code (get_or xs (suc k) d)
steps_rise [] h k d below = absurd (omega arith)
steps_rise (x ∷ []) h k d below = absurd (omega arith)
steps_rise (x ∷ y ∷ ys) h zero d below = less_code x y h.0
steps_rise (x ∷ y ∷ ys) h (suc k) d below = steps_rise (y ∷ ys) h.1 k d (omega arith)

not_less : (m n : ℕ) → m < n → is_lt (nat_cmp n m) ≡ false
not_less m n h = rw (le-ltb n m (omega arith), ne_eqb n m (λ same. omega arith)) refl

clause_sorted : (xs : List Literal) → IsClause xs → IsSortedBy (λ a b. is_lt (nat_cmp (code a) (code b))) xs
clause_sorted xs h k d low below =
    let rise : code (get_or xs k d) < code (get_or xs (suc k) d) = steps_rise xs h k d (omega arith) in
    rw add-one (not_less _ _ rise)

nowhere : (xs : List Literal) (literal : Literal) (i : ℕ) →
    IsPartitionPoint (λ y. nat_cmp (code y) (code literal) ≡ Less) (λ y. nat_cmp (code y) (code literal) ≡ Greater) xs i → Contains xs literal → ⊥
nowhere xs literal i point (k, below, is) =
    let same : nat_cmp (code (get_or xs k literal)) (code literal) ≡ Equal = rw is (equal (code literal)) in
    elim (cases_lt k i) [
      | inl before ↦ let less = point.0 k literal (omega arith) before in absurd (cc)
      | inr after ↦ let more = point.1 k literal after below in absurd (cc)
    ]

pub found : (xs : List Literal) (literal : Literal) (r : Result ℕ ℕ) → IsClause xs → IsSearchInRange r (length xs) →
    IsBinarySearchResult (λ y. nat_cmp (code y) (code literal)) xs r → IsTrue (is_ok r) ↔ Contains xs literal
found xs literal (Ok i) h range result =
    ((λ _. (i, range, same_from_code _ _ (from_equal _ _ (result literal)))), (λ _. refl))
found xs literal (Err i) h range result =
    let point = result (searchable_from_sorted nat_cmp_total code xs (code literal) (clause_sorted xs h)) in
    ((λ e. absurd (false≢true e)), (λ c. absurd (nowhere xs literal i point c)))

-- what a search by halves gives splits a merge
pub merged_around_found : (xs : List Literal) (literal : Literal) (i : ℕ) → IsClause xs → IsSearchInRange (Ok i) (length xs) →
    IsBinarySearchResult (λ y. nat_cmp (code y) (code literal)) xs (Ok i) →
    (others : List Literal) → merge (literal ∷ others) xs ≡ take i xs ++ literal ∷ merge others (take (length xs - (i + 1)) (drop (i + 1) xs))
merged_around_found xs literal i h range result others = rw (take_rest xs (i + 1), add-one) (merge_found literal xs i h range (same_from_code _ _ (from_equal _ _ (result literal))) others)

pub merged_around_missed : (xs : List Literal) (literal : Literal) (i : ℕ) → IsClause xs →
    IsBinarySearchResult (λ y. nat_cmp (code y) (code literal)) xs (Err i) →
    (others : List Literal) → merge (literal ∷ others) xs ≡ take i xs ++ literal ∷ merge others (take (length xs - i) (drop i xs))
merged_around_missed xs literal i h result others =
    let point = result (searchable_from_sorted nat_cmp_total code xs (code literal) (clause_sorted xs h)) in
    rw (take_rest xs i)
    (merge_missed literal xs i (λ k b. from_less _ _ (point.0 k literal (omega arith) b)) (λ k b e. from_greater _ _ (point.1 k literal b e)) others)

-- a test, and behind it another one
module _ (P Q : Type 0) (first : Bool) (h : IsTrue first ↔ P) where
  pub both_then : (second : Bool) → first ≡ true → (IsTrue second ↔ Q) → IsTrue second ↔ (P × Q)
  both_then second is k = ((λ e. (h.0 is, k.0 e)), (λ p. k.1 p.1))

  pub both_else : first ≡ false → IsTrue first ↔ (P × Q)
  both_else is = ((λ e. absurd (false≢true (sym is ∙ e))), (λ p. h.1 p.0))

  pub alone_then : (second : Bool) → first ≡ true → (IsTrue second ↔ Q) → IsTrue (not second) ↔ (P × (Q → ⊥))
  alone_then true is k = ((λ e. absurd (false≢true e)), (λ p. absurd (p.1 (k.0 refl))))
  alone_then false is k = ((λ e. (h.0 is, (λ q. false≢true (k.1 q)))), (λ p. refl))

module _ (a b : List Literal) (pivot : ℕ) where
  abbrev ClashesBy : Bool → Type 0
  ClashesBy sign = HasAlone a (record { variable = pivot; positive = sign }) × HasAlone b (record { variable = pivot; positive = not sign })

  pub clash_first : ClashesBy true → Clash a b pivot
  clash_first h = (true, h.0, h.1)

  sign_second : (r : Bool) → (ClashesBy true → ⊥) → (IsTrue r ↔ ClashesBy false) → (sign : Bool) → ClashesBy sign → IsTrue r
  sign_second r none h true by = absurd (none by)
  sign_second r none h false by = h.1 by

  pub clash_second : (r : Bool) → (ClashesBy true → ⊥) → (IsTrue r ↔ ClashesBy false) → IsTrue r ↔ Clash a b pivot
  clash_second r none h = (
    (λ is. (false, (h.0 is).0, (h.0 is).1)),
    (λ clash. sign_second r none h (clash.0) (clash.1, clash.2)),
  )

pub clause_behind : (xs : List Literal) (i : ℕ) → IsClause xs → IsClause (take (length xs - i) (drop i xs))
clause_behind xs i h = rw (take_rest xs i) (clause_drop i xs h)
