-- Objects and what they mean: where values are own, two objects are one exactly where they mean the same.
use Rattle.std.proofs.Common.{◌≡◌, ◌∙◌, ℕ, ◌+◌, Bool, true, false, eqb, List, get_or, slice_get, Option, Some, None, inl, inr, refl, sym, ap, arith}
use Rattle.std.specs.Option.{option_map}
use Rattle.std.specs.Prelude.{◌==◌, option_and_then}
use Rattle.std.proofs.lemmas.Bool.{cases_eq, eq-eqb, eqb-true, ne_eqb}
use Rattle.std.proofs.lemmas.List.Quantifiers.{position-Some}
use Rattle.std.proofs.lemmas.Option.{slice_get-get_or, slice_get_past}
use Rattle.cc_defs.specs.Satisfaction.{Value, Thing, Whole, added, taken, is_number, meant, meant_as, object_of_value, same_value}
use Rattle.cc_defs.specs.Signatures.{none_value, number_at}
use Rattle.cc_defs.specs.Universe.{Universe, AreOwnNumbers, HaveOwnValues}

-- both are objects, and the same
abbrev pub same_object : Option ℕ → Option ℕ → Bool
same_object (Some object) (Some other) = object == other
same_object (Some object) None = false
same_object None other = false

-- ---- two objects

module _ (numbers : List (Option ℕ)) (own : AreOwnNumbers numbers) (a b : ℕ) where
  abbrev number_of : Option (Option ℕ) → Option ℕ
  number_of o = option_and_then (λ number. number) o

  apart : (o p : Option (Option ℕ)) → slice_get numbers a ≡ o → slice_get numbers b ≡ p → (o ≡ p → ⊥) → false ≡ eqb a b
  apart o p at other differ = sym (ne_eqb a b (λ same. differ (sym at ∙ ap (slice_get numbers) same ∙ other)))

  both_numbers : (n m : ℕ) → slice_get numbers a ≡ Some (Some n) → slice_get numbers b ≡ Some (Some m) → eqb (n + 0) (m + 0) ≡ eqb a b
  both_numbers n m at other = elim (cases_eq n m) [
    | inl same ↦
        let one : a ≡ b = own a b n at (other ∙ ap (λ (k : ℕ). Some (Some k)) (sym same)) in
        eq-eqb (n + 0) (m + 0) (omega arith) ∙ sym (eq-eqb a b one)
    | inr differ ↦
        ne_eqb (n + 0) (m + 0) (λ same. differ (omega arith))
        ∙ apart (Some (Some n)) (Some (Some m)) at other (λ same. differ cc)
  ]

  objects_tell : (o p : Option (Option ℕ)) → slice_get numbers a ≡ o → slice_get numbers b ≡ p →
      same_value (Some (meant_as a (number_of o))) (Some (meant_as b (number_of p))) ≡ eqb a b
  objects_tell (Some (Some n)) (Some (Some m)) at other = both_numbers n m at other
  objects_tell (Some (Some n)) (Some None) at other = apart (Some (Some n)) (Some None) at other (λ same. absurd cc)
  objects_tell (Some (Some n)) None at other = apart (Some (Some n)) None at other (λ same. absurd cc)
  objects_tell (Some None) (Some (Some m)) at other = apart (Some None) (Some (Some m)) at other (λ same. absurd cc)
  objects_tell None (Some (Some m)) at other = apart None (Some (Some m)) at other (λ same. absurd cc)
  objects_tell (Some None) (Some None) at other = refl
  objects_tell (Some None) None at other = refl
  objects_tell None (Some None) at other = refl
  objects_tell None None at other = refl

module _ (u : Universe) (own : HaveOwnValues u) where
  pub same_meant : (o p : Option ℕ) → same_value (option_map (meant u) o) (option_map (meant u) p) ≡ same_object o p
  same_meant (Some a) (Some b) = objects_tell u.numbers own.numbers a b (slice_get u.numbers a) (slice_get u.numbers b) refl refl
  same_meant (Some a) None = none (number_at u.numbers a)
    where
      none : (o : Option ℕ) → same_value (Some (meant_as a o)) None ≡ false
      none (Some number) = refl
      none None = refl
  same_meant None p = refl

  -- `none` is a thing
  pub none_meant : meant u none_value ≡ Thing none_value
  none_meant = ap (λ (o : Option (Option ℕ)). meant_as none_value (option_and_then (λ number. number) o)) (slice_get_past u.numbers none_value own.few)

-- ---- whole numbers

-- a number, where it is anything
abbrev pub IsWhole : Option Value → Type 0
IsWhole (Some (Thing object)) = ⊥
IsWhole (Some (Whole plus minus)) = Unit {0}
IsWhole None = Unit {0}

pub added_whole : (v w : Option Value) → IsWhole (added v w)
added_whole (Some (Whole p m)) (Some (Whole q n)) = tt
added_whole (Some (Whole p m)) (Some (Thing object)) = tt
added_whole (Some (Whole p m)) None = tt
added_whole (Some (Thing object)) w = tt
added_whole None w = tt

pub taken_whole : (v w : Option Value) → IsWhole (taken v w)
taken_whole (Some (Whole p m)) (Some (Whole q n)) = tt
taken_whole (Some (Whole p m)) (Some (Thing object)) = tt
taken_whole (Some (Whole p m)) None = tt
taken_whole (Some (Thing object)) w = tt
taken_whole None w = tt

-- a number that an object is means the same as it
module _ (u : Universe) where
  number_there : (p m : ℕ) (object : ℕ) (o : Option ℕ) → is_number p m o ≡ true → (w : Option Value) → same_value w (Some (Whole p m)) ≡ same_value w (Some (meant_as object o))
  number_there p m object (Some number) is (Some (Whole q n)) =
      let same : p ≡ number + m = eqb-true p (number + m) is in
      elim (cases_eq (q + m) (p + n)) [
        | inl e ↦ eq-eqb (q + m) (p + n) e ∙ sym (eq-eqb (q + 0) (number + n) (omega arith))
        | inr e ↦ ne_eqb (q + m) (p + n) e ∙ sym (ne_eqb (q + 0) (number + n) (λ f. e (omega arith)))
      ]
  number_there p m object (Some number) is (Some (Thing other)) = refl
  number_there p m object (Some number) is None = refl
  number_there p m object None is w = absurd cc

  pub object_means : (v : Option Value) → IsWhole v → (object : ℕ) → option_and_then (object_of_value u) v ≡ Some object → (w : Option Value) →
      same_value w v ≡ same_value w (Some (meant u object))
  object_means (Some (Whole p m)) whole object e w =
      let found = position-Some (is_number p m) u.numbers object None e in
      let there = slice_get-get_or u.numbers object None found.0 in
      number_there p m object (get_or u.numbers object None) found.1 w
      ∙ ap (λ (o : Option (Option ℕ)). same_value w (Some (meant_as object (option_and_then (λ number. number) o)))) (sym there)
  object_means (Some (Thing other)) whole object e w = absurd whole
  object_means None whole object e w = absurd cc
