-- Lists of value indexes, one for each of some constants, and the different constants among some.
use Rattle.std.proofs.Common.{◌≡◌, ◌∙◌, ℕ, zero, suc, ◌<◌, ◌≤◌, Bool, true, false, not, ◌&&◌, ◌||◌, List, [], ◌∷◌, map, flat_map, filter, inl, inr, refl, sym, ap, subst, arith}
use Rattle.std.specs.Prelude.{◌==◌, if◌then◌else◌}
use Rattle.std.specs.List.{AllByRecursion, AllZip, list_any}
use Rattle.std.proofs.lemmas.Bool.{cases_eq, eq-eqb, eqb-true, ne_eqb}
use Rattle.std.proofs.lemmas.List.Folds.{list_any-append}
use Rattle.cc_defs.specs.Declarations.{firsts, upto}
use Rattle.cc_defs.specs.Judged.{chosen, index_lists, size_of}
use Rattle.cc_defs.specs.Universe.{Universe}
use Rattle.cc_arena.proofs.Each.{all_append, all_flat, all_kept, all_made, all_since, both_hold}

-- ---- the different ones

pub all_firsts : (P : ℕ → Type 0) (numbers : List ℕ) → AllByRecursion P numbers → AllByRecursion P (firsts numbers)
all_firsts P [] all = tt
all_firsts P (number ∷ numbers) all = (all.0, all_kept P (λ other. not (other == number)) (firsts numbers) (all_firsts P numbers all.1))

-- what holds of one number holds of it again
unkept : (P : ℕ → Type 0) (number : ℕ) (numbers : List ℕ) → P number → AllByRecursion P (filter (λ other. not (other == number)) numbers) → AllByRecursion P numbers
unkept P number [] p all = tt
unkept P number (other ∷ numbers) p all = elim (cases_eq other number) [
  | inl same ↦ let rest = rw (eq-eqb other number same) at all in (subst P (sym same) p, unkept P number numbers p rest)
  | inr differ ↦ let rest = rw (ne_eqb other number differ) at all in (rest.0, unkept P number numbers p rest.1)
]

pub all_again : (P : ℕ → Type 0) (numbers : List ℕ) → AllByRecursion P (firsts numbers) → AllByRecursion P numbers
all_again P [] all = tt
all_again P (number ∷ numbers) all = (all.0, all_again P numbers (unkept P number (firsts numbers) all.0 all.1))

-- ---- lists of indexes

all_upto : (n most : ℕ) → n ≤ most → AllByRecursion (λ i. i < most) (upto n)
all_upto zero most within = tt
all_upto (suc n) most within = all_append (λ i. i < most) (upto n) (n ∷ []) (all_upto n most (omega arith)) (omega arith, tt)

module _ (u : Universe) where
  -- an index is one of the constant's values
  abbrev pub IsIndex : ℕ → ℕ → Type 0
  IsIndex number index = index < size_of u number

  abbrev pub AreIndexes : List ℕ → List ℕ → Type 0
  AreIndexes numbers indexes = AllZip IsIndex numbers indexes

  pub lists_are : (numbers : List ℕ) → AllByRecursion (AreIndexes numbers) (index_lists u numbers)
  lists_are [] = (tt, tt)
  lists_are (number ∷ numbers) =
      all_flat (AreIndexes (number ∷ numbers)) (λ index. map (λ more. index ∷ more) (index_lists u numbers)) (upto (size_of u number))
      (all_since (λ i. i < size_of u number) (λ index. AllByRecursion (AreIndexes (number ∷ numbers)) (map (λ more. index ∷ more) (index_lists u numbers))) (upto (size_of u number))
      (λ index less. all_made (AreIndexes (number ∷ numbers)) (AreIndexes numbers) (λ more. index ∷ more) (index_lists u numbers) (λ more are. (less, are)) (lists_are numbers))
      (all_upto (size_of u number) (size_of u number) (omega arith)))

-- ---- the list that a valuation gives

any_map : {X Y : Type 0} (test : X → Bool) (f : Y → X) (ys : List Y) → list_any test (map f ys) ≡ list_any (λ y. test (f y)) ys
any_map test f [] = refl
any_map test f (y ∷ ys) = ap (λ (b : Bool). test (f y) || b) (any_map test f ys)

any_flat : {X Y : Type 0} (test : X → Bool) (f : Y → List X) (ys : List Y) → list_any test (flat_map f ys) ≡ list_any (λ y. list_any test (f y)) ys
any_flat test f [] = refl
any_flat test f (y ∷ ys) = list_any-append test (f y) (flat_map f ys) ∙ ap (λ (b : Bool). list_any test (f y) || b) (any_flat test f ys)

any_upto : (test : ℕ → Bool) (i n : ℕ) → i < n → test i ≡ true → list_any test (upto n) ≡ true
any_upto test i zero below e = absurd (omega arith)
any_upto test i (suc n) below e = list_any-append test (upto n) (n ∷ []) ∙ elim (cases_eq i n) [
  | inl same ↦ rw (sym (ap test same) ∙ e) (or_true (list_any test (upto n)))
  | inr differ ↦ ap (λ (b : Bool). b || (test n || false)) (any_upto test i n (omega arith) e)
]
  where
    or_true : (b : Bool) → (b || true) ≡ true
    or_true true = refl
    or_true false = refl

module _ (valuation : ℕ → ℕ) where
  -- the constants have these values
  abbrev pub have : List ℕ → List ℕ → Bool
  have [] indexes = true
  have (number ∷ numbers) [] = true
  have (number ∷ numbers) (index ∷ indexes) = (valuation number == index) && have numbers indexes

  -- those that are chosen are those that they have
  pub chosen_are : (u : Universe) (numbers indexes : List ℕ) → AreIndexes u numbers indexes → have numbers indexes ≡ true →
      AllByRecursion (λ number. valuation number ≡ chosen numbers indexes number) numbers
  chosen_are u [] indexes are e = tt
  chosen_are u (number ∷ numbers) [] are e = absurd are
  chosen_are u (number ∷ numbers) (index ∷ indexes) are e =
      let both = both_hold (valuation number == index) (have numbers indexes) e in
      let value : valuation number ≡ index = eqb-true (valuation number) index both.0 in
      let first : valuation number ≡ (if number == number then index else chosen numbers indexes number) = value ∙ rw (eq-eqb number number refl) refl in (
        first,
        all_since (λ other. valuation other ≡ chosen numbers indexes other) (λ other. valuation other ≡ (if other == number then index else chosen numbers indexes other)) numbers
            (λ other same. elim (cases_eq other number) [
              | inl one ↦ rw (eq-eqb other number one) (ap valuation one ∙ value)
              | inr differ ↦ rw (ne_eqb other number differ) same
            ])
            (chosen_are u numbers indexes are.1 both.1),
      )

  -- where all of them have one of their values, it is there
  pub has_list : (u : Universe) (numbers : List ℕ) → AllByRecursion (λ number. valuation number < size_of u number) numbers → list_any (have numbers) (index_lists u numbers) ≡ true
  has_list u [] within = refl
  has_list u (number ∷ numbers) within =
      let lists = index_lists u numbers in
      any_flat (have (number ∷ numbers)) (λ index. map (λ more. index ∷ more) lists) (upto (size_of u number))
      ∙ any_upto (λ index. list_any (have (number ∷ numbers)) (map (λ more. index ∷ more) lists)) (valuation number) (size_of u number) within.0 (
      any_map (have (number ∷ numbers)) (λ more. valuation number ∷ more) lists
      ∙ ap (λ (b : Bool). list_any (λ more. b && have numbers more) lists) (eq-eqb (valuation number) (valuation number) refl)
      ∙ has_list u numbers within.1
      )
