-- The sizes of positions, by the signature and by the description; rows by their indexes.
use Rattle.std.proofs.Common.{◌≡◌, ◌∙◌, ℕ, ◌+◌, ◌*◌, ◌<◌, ◌≤◌, ◌%◌, ◌↔◌, inl, inr, zero, suc, List, [], ◌∷◌, ◌++◌, length, Some, refl, sym, subst, ap, ap₂, arith}
use Rattle.std.specs.Prelude.{slice_get, slice_index, option_map}
use Rattle.std.proofs.lemmas.List.{map-append}
use Rattle.std.proofs.lemmas.Bool.{cases_lt}
use Rattle.cc_defs.specs.declared.lists.Key.{Key}
use Rattle.cc_defs.specs.declared.signature.Const.{Const}
use Rattle.cc_defs.specs.Conditions.{IsSignatureOfDescription}
use Rattle.cc_defs.specs.Description.{Description, domain_sizes, sizes_at}
use Rattle.cc_defs.specs.GroundLaws.{PlainGroundQuery}
use Rattle.cc_defs.specs.Laws.{PositionsHaveSizes}
use Rattle.cc_defs.specs.Rows.{IsRow}
use Rattle.cc_defs.specs.Signatures.{Signature, ground_constants, position_count}
use Rattle.cc_form.specs.Places.{position_sizes}
use Rattle.cc_lists.specs.Horizons.{Fits, FitsIn}

pub sizes_are : (d : Description) (signature : Signature) → IsSignatureOfDescription d signature → (horizon : ℕ) → position_sizes signature horizon ≡ sizes_at d horizon
sizes_are d signature is zero = ap (λ (c : List Const). domain_sizes c) is.fluents
sizes_are d signature is (suc horizon) =
    ap (λ (l : List ℕ). l ++ position_sizes signature horizon)
    (map-append (λ (c : Const). length c.domain) signature.fluents signature.actions
    ∙ ap₂ (λ (f a : List Const). domain_sizes f ++ domain_sizes a) is.fluents is.actions)
    ∙ ap (λ (l : List ℕ). (domain_sizes d.universe.fluents ++ domain_sizes d.universe.actions) ++ l) (sizes_are d signature is horizon)

-- a description with a signature
abbrev with_signature : Signature → Description
with_signature signature = record {
  objects = [];
  universe = record { sorts = []; numbers = signature.numbers; symbols = []; fluents = signature.fluents; actions = signature.actions };
  laws = [];
}

pub size_count : PositionsHaveSizes → (signature : Signature) (horizon : ℕ) → length (position_sizes signature horizon) ≡ position_count signature horizon
size_count law signature horizon =
    ap (λ (l : List ℕ). length l) (sizes_are (with_signature signature) signature (record { fluents = refl; actions = refl; numbers = refl }) horizon)
    ∙ (law (with_signature signature) signature (record { fluents = refl; actions = refl; numbers = refl }) horizon).0

pub size_at : PositionsHaveSizes → (signature : Signature) (horizon position size : ℕ) → position < position_count signature horizon →
    option_map (λ (constant : Const). length constant.domain) (slice_get (ground_constants signature) (position % length (ground_constants signature))) ≡ Some size →
    slice_get (position_sizes signature horizon) position ≡ Some size
size_at law signature horizon position size low is =
    ap (λ (l : List ℕ). slice_get l position) (sizes_are (with_signature signature) signature (record { fluents = refl; actions = refl; numbers = refl }) horizon)
    ∙ (law (with_signature signature) signature (record { fluents = refl; actions = refl; numbers = refl }) horizon).1 position low ∙ is

pub some_constants : (signature : Signature) (horizon position : ℕ) → position < position_count signature horizon → 0 < length (ground_constants signature)
some_constants signature horizon position low = some_of signature.fluents signature.actions low
  where
    some_of : (fluents actions : List Const) → position < length fluents * (horizon + 1) + length actions * horizon → 0 < length (fluents ++ actions)
    some_of (first ∷ fluents) actions low = omega arith
    some_of [] (first ∷ actions) low = omega arith
    some_of [] [] low = absurd (omega arith)

-- ---- rows by their indexes

-- the indexes before a place are below their sizes
abbrev pub AreWithin : List ℕ → List ℕ → ℕ → Type 0
AreWithin sizes row count = (position : ℕ) → position < count → (size : ℕ) → slice_get sizes position ≡ Some size → slice_index row position < size

pub row_from_within : (sizes row : List ℕ) → length row ≡ length sizes → AreWithin sizes row (length row) → IsRow sizes row
row_from_within [] [] long within = tt
row_from_within [] (index ∷ row) long within = absurd (omega arith)
row_from_within (size ∷ sizes) [] long within = absurd (omega arith)
row_from_within (size ∷ sizes) (index ∷ row) long within =
    (within 0 (omega arith) size refl, row_from_within sizes row (omega arith) (λ position low. within (suc position) (omega arith)))

pub row_long : (sizes row : List ℕ) → IsRow sizes row → length row ≡ length sizes
row_long [] [] is = refl
row_long [] (index ∷ row) is = absurd is
row_long (size ∷ sizes) [] is = absurd is
row_long (size ∷ sizes) (index ∷ row) is = ap suc (row_long sizes row is.1)

pub row_within : (sizes row : List ℕ) → IsRow sizes row → (position size : ℕ) → slice_get sizes position ≡ Some size → slice_index row position < size
row_within [] row is position size there = absurd cc
row_within (first ∷ sizes) [] is position size there = absurd is
row_within (first ∷ sizes) (index ∷ row) is zero size there = let same : first ≡ size = cc in subst (λ (n : ℕ). index < n) same is.0
row_within (first ∷ sizes) (index ∷ row) is (suc position) size there = row_within sizes row is.1 position size there

pub row_in : (d : Description) (signature : Signature) → IsSignatureOfDescription d signature → (horizon : ℕ) (row : List ℕ) →
    IsRow (position_sizes signature horizon) row ↔ IsRow (sizes_at d horizon) row
row_in d signature of horizon row = (
  (λ is. subst (λ (l : List ℕ). IsRow l row) (sizes_are d signature of horizon) is),
  (λ is. subst (λ (l : List ℕ). IsRow l row) (sym (sizes_are d signature of horizon)) is),
)

pub fits_in : (d : Description) (signature : Signature) (query : PlainGroundQuery) (key : Key) → IsSignatureOfDescription d signature →
    Fits signature query key ↔ FitsIn d query key
fits_in d signature query key of = (
  (λ fits. record {
    least = fits.least;
    most = fits.most;
    claim = fits.claim;
    row = (row_in d signature of key.horizon key.row).0 fits.row;
  }),
  (λ fits. record {
    least = fits.least;
    most = fits.most;
    claim = fits.claim;
    row = (row_in d signature of key.horizon key.row).1 fits.row;
  }),
)

pub too_long : PositionsHaveSizes → (signature : Signature) (horizon : ℕ) (row : List ℕ) → (length row ≡ position_count signature horizon → ⊥) →
    IsRow (position_sizes signature horizon) row → ⊥
too_long law signature horizon row other is = other (row_long (position_sizes signature horizon) row is ∙ size_count law signature horizon)

pub too_great : PositionsHaveSizes → (signature : Signature) (horizon : ℕ) (row : List ℕ) (position size : ℕ) → position < position_count signature horizon →
    option_map (λ (constant : Const). length constant.domain) (slice_get (ground_constants signature) (position % length (ground_constants signature))) ≡ Some size →
    size ≤ slice_index row position → IsRow (position_sizes signature horizon) row → ⊥
too_great law signature horizon row position size low size_is most is =
    let less = row_within (position_sizes signature horizon) row is position size (size_at law signature horizon position size low size_is) in omega arith

pub one_within : PositionsHaveSizes → (signature : Signature) (horizon : ℕ) (row : List ℕ) (position size : ℕ) → position < position_count signature horizon →
    option_map (λ (constant : Const). length constant.domain) (slice_get (ground_constants signature) (position % length (ground_constants signature))) ≡ Some size →
    slice_index row position < size → AreWithin (position_sizes signature horizon) row position → AreWithin (position_sizes signature horizon) row (position + 1)
one_within law signature horizon row position size low size_is less within other other_low other_size there = elim (cases_lt other position) [
  | inl before ↦ within other before other_size there
  | inr behind ↦
      let same : position ≡ other = omega arith in
      let here : slice_get (position_sizes signature horizon) position ≡ Some other_size =
      subst (λ (n : ℕ). slice_get (position_sizes signature horizon) n ≡ Some other_size) (sym same) there in
      let sizes : size ≡ other_size = let mine = size_at law signature horizon position size low size_is in cc in
      subst (λ (n : ℕ). slice_index row n < other_size) same (subst (λ (n : ℕ). slice_index row position < n) sizes less)
]

pub all_within : PositionsHaveSizes → (signature : Signature) (horizon : ℕ) (row : List ℕ) (count : ℕ) → length row ≡ position_count signature horizon →
    length row ≤ count → AreWithin (position_sizes signature horizon) row count → IsRow (position_sizes signature horizon) row
all_within law signature horizon row count long all within =
    row_from_within (position_sizes signature horizon) row (long ∙ sym (size_count law signature horizon)) (λ position low. within position (omega arith))
