-- Rows of the positions of a horizon, by their indexes.
use Rattle.std.proofs.Common.{◌≡◌, ◌∙◌, ℕ, zero, suc, ◌+◌, ◌<◌, ◌≤◌, ◌%◌, ◌↔◌, IsTrue, false, List, [], ◌∷◌, length, drop, Some, refl, sym, subst, ap, arith}
use Rattle.std.specs.Prelude.{slice_get, slice_index, option_map}
use Rattle.std.proofs.lemmas.List.{drop_all}
use Rattle.cc_defs.specs.declared.signature.Const.{Const}
use Rattle.cc_defs.specs.Conditions.{IsSignatureOfDescription}
use Rattle.cc_defs.specs.Description.{Description}
use Rattle.cc_defs.specs.Laws.{PositionsHaveSizes}
use Rattle.cc_defs.specs.Rows.{IsRow}
use Rattle.cc_defs.specs.Signatures.{Signature, ground_constants, position_count}
use Rattle.cc_form.specs.Places.{position_sizes}
use Rattle.cc_rivals.proofs.Matching.{sizes_are}
use Rattle.cc_rivals.proofs.Placing.{row_long}

-- what is left of a row is one of the sizes that are left exactly where all of it is one
abbrev pub IsRowFrom : List ℕ → List ℕ → ℕ → Type 0
IsRowFrom sizes row position = IsRow (drop position sizes) (drop position row) ↔ IsRow sizes row

pub never : {A : Type 0} → (A → ⊥) → IsTrue false ↔ A
never not_so = ((λ h. absurd cc), (λ a. absurd (not_so a)))

at_first : (sizes row : List ℕ) (position size : ℕ) → slice_get sizes position ≡ Some size → position < length row →
    IsRow (drop position sizes) (drop position row) ↔ ((slice_index row position < size) × IsRow (drop (suc position) sizes) (drop (suc position) row))
at_first [] row position size at less = absurd cc
at_first (own ∷ sizes) [] position size at less = absurd (omega arith)
at_first (own ∷ sizes) (index ∷ row) zero size at less =
    let same : own ≡ size = cc in subst (λ (n : ℕ). ((index < own) × IsRow sizes row) ↔ ((index < n) × IsRow sizes row)) same ((λ h. h), (λ h. h))
at_first (own ∷ sizes) (index ∷ row) (suc position) size at less = at_first sizes row position size at (omega arith)

module _ (law : PositionsHaveSizes) (signature : Signature) (horizon : ℕ) (row : List ℕ) where
  abbrev sizes : List ℕ
  sizes = position_sizes signature horizon

  abbrev alone : Description
  alone = record {
    objects = [];
    universe = record { sorts = []; numbers = signature.numbers; symbols = []; fluents = signature.fluents; actions = signature.actions };
    laws = [];
  }

  own : IsSignatureOfDescription alone signature
  own = record { fluents = refl; actions = refl; numbers = refl }

  count_is : length sizes ≡ position_count signature horizon
  count_is = ap (λ (l : List ℕ). length l) (sizes_are signature alone horizon own) ∙ (law alone signature own horizon).0

  pub too_long : (length row ≡ position_count signature horizon → ⊥) → IsRow sizes row → ⊥
  too_long other is = other (sym (row_long sizes row is) ∙ count_is)

  module _ (long : length row ≡ position_count signature horizon) (position size : ℕ) (less : position < length row)
      (is : option_map (λ (constant : Const). length constant.domain) (slice_get (ground_constants signature) (position % length (ground_constants signature))) ≡ Some size) (so_far : IsRowFrom sizes row position) where
    first : IsRow (drop position sizes) (drop position row) ↔ ((slice_index row position < size) × IsRow (drop (suc position) sizes) (drop (suc position) row))
    first =
        at_first sizes row position size
        (ap (λ (l : List ℕ). slice_get l position) (sizes_are signature alone horizon own) ∙ (law alone signature own horizon).1 position (subst (λ (n : ℕ). position < n) long less) ∙ is) less

    pub too_great : size ≤ slice_index row position → IsRow sizes row → ⊥
    too_great most is_row = let low = (first.0 (so_far.1 is_row)).0 in omega arith

    pub one_more : slice_index row position < size → IsRowFrom sizes row (position + 1)
    one_more low =
        subst (IsRowFrom sizes row) (let e : suc position ≡ position + 1 = omega arith in e)
        ((λ rest. so_far.0 (first.1 (low, rest))), (λ is_row. (first.0 (so_far.1 is_row)).1))

  pub all_there : length row ≡ position_count signature horizon → (position : ℕ) → length row ≤ position → IsRowFrom sizes row position → IsRow sizes row
  all_there long position most so_far = so_far.0 (
      subst (λ (l : List ℕ). IsRow l (drop position row)) (sym (drop_all position sizes (let count = count_is in omega arith)))
      (subst (λ (l : List ℕ). IsRow [] l) (sym (drop_all position row most)) tt))
