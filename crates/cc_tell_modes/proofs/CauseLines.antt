-- The lines that say why positions have their values, one after another.
use Rattle.std.proofs.Common.{◌≡◌, ◌∙◌, refl, sym, ap, subst, zero, suc, ℕ, ◌+◌, ◌-◌, ◌%◌, ◌<◌, ◌≤◌, List, [], ◌∷◌, ◌++◌, append-nil, append_assoc, length, get_or, map, Option, Some, None, Result, Ok, Err, arith}
use Rattle.std.specs.List.{flat_map}
use Rattle.std.specs.Prelude.{IsErrAnd, option_map, slice_get, slice_index}
use Rattle.cc_defs.specs.declared.signature.Const.{Const}
use Rattle.cc_defs.specs.Conditions.{IsSignatureOfDescription}
use Rattle.cc_defs.specs.Description.{Description, sizes_at}
use Rattle.cc_defs.specs.Laws.{PositionsHaveSizes}
use Rattle.cc_defs.specs.Rows.{IsRow}
use Rattle.cc_defs.specs.Rules.{upto}
use Rattle.cc_defs.specs.Signatures.{Signature, ground_constants, position_count}
use Rattle.cc_ports.specs.declared.desk.To.TheVariants as outputs
use Rattle.cc_ports.specs.Moments.{Moment}
use Rattle.cc_print.specs.Atoms.{IsAtomOf}
use Rattle.cc_tell.specs.declared.status.Stop.{Stop}
use Rattle.cc_tell_modes.specs.CauseTexts.{cause_line, why_line, why_text}
use Rattle.cc_tell.specs.Steps.{Step}
use Rattle.cc_tell.specs.Givens.{given_to}
use Rattle.cc_why.specs.declared.cause.Cause.{Cause}
use Rattle.cc_why.specs.Causes.{cause_at, causes_at}
use Rattle.cc_tell.proofs.LineSteps.{LinesSoFar, lines_begin, lines_end, lines_more, lines_stop}

-- ---- numbers in order

-- so many numbers from a first one on
abbrev pub onwards : (first count : ℕ) → List ℕ
onwards first zero = []
onwards first (suc count) = first ∷ onwards (suc first) count

upto_parts : (first count : ℕ) → upto (first + count) ≡ upto first ++ onwards first count
upto_parts first zero = let same : first + 0 ≡ first = omega arith in ap upto same ∙ sym (append-nil (upto first))
upto_parts first (suc count) =
    let same : first + suc count ≡ suc first + count = omega arith in
    ap upto same ∙ (upto_parts (suc first) count ∙ append_assoc (upto first) (first ∷ []) (onwards (suc first) count))

upto_onwards : (count : ℕ) → upto count ≡ onwards 0 count
upto_onwards count = let same : count ≡ 0 + count = omega arith in ap upto same ∙ upto_parts 0 count

onwards_more : (first end : ℕ) → first < end → onwards first (end - first) ≡ first ∷ onwards (first + 1) (end - (first + 1))
onwards_more first end less =
    let left : end - first ≡ suc (end - (first + 1)) = omega arith in
    let next : suc first ≡ first + 1 = omega arith in
    ap (onwards first) left ∙ ap (λ (n : ℕ). first ∷ onwards n (end - (first + 1))) next

-- ---- the cause of a position

same_first : {X : Type 0} (a b : X) (xs ys : List X) → a ∷ xs ≡ b ∷ ys → a ≡ b
same_first a b xs ys e = cc

same_others : {X : Type 0} (a b : X) (xs ys : List X) → a ∷ xs ≡ b ∷ ys → xs ≡ ys
same_others a b xs ys e = cc

abbrev some : Cause → Option Cause
some cause = Some cause

cause_from : (g : ℕ → Option Cause) (causes : List Cause) (first count k : ℕ) (none : Cause) → map some causes ≡ map g (onwards first count) → k < count →
    g (first + k) ≡ Some (get_or causes k none)
cause_from g causes first zero k none same less = absurd (omega arith)
cause_from g [] first (suc count) k none same less = absurd cc
cause_from g (cause ∷ causes) first (suc count) zero none same less =
    let here : first + 0 ≡ first = omega arith in
    ap g here ∙ sym (same_first (some cause) (g first) (map some causes) (map g (onwards (suc first) count)) same)
cause_from g (cause ∷ causes) first (suc count) (suc k) none same less =
    let here : first + suc k ≡ suc first + k = omega arith in
    ap g here
    ∙ cause_from g causes (suc first) count k none (same_others (some cause) (g first) (map some causes) (map g (onwards (suc first) count)) same) (omega arith)

length_map : (g : ℕ → Option Cause) (causes : List Cause) (first count : ℕ) → map some causes ≡ map g (onwards first count) → length causes ≡ count
length_map g [] first zero same = refl
length_map g [] first (suc count) same = absurd cc
length_map g (cause ∷ causes) first zero same = absurd cc
length_map g (cause ∷ causes) first (suc count) same =
    ap suc (length_map g causes (suc first) count (same_others (some cause) (g first) (map some causes) (map g (onwards (suc first) count)) same))

-- each position has one
pub cause_each : (d : Description) (horizon : ℕ) (row : List ℕ) (causes : List Cause) → map some causes ≡ causes_at d horizon row → length causes ≡ length row
cause_each d horizon row causes same =
    length_map (cause_at d horizon row) causes 0 (length row) (same ∙ ap (map (cause_at d horizon row)) (upto_onwards (length row)))

-- ---- atoms

abbrev some_of : {X : Type 0} → X → Option X
some_of x = Some x

from_map : {X Y : Type 0} (f : X → Y) (o : Option X) (y : Y) → option_map f o ≡ Some y → (x : X) × (o ≡ Some x) × (f x ≡ y)
from_map f None y e = absurd cc
from_map f (Some x) y e = (x, refl, same (f x) y e)
  where
    same : {Y : Type 0} (a b : Y) → some_of a ≡ some_of b → a ≡ b
    same a b e = cc

-- the size at a position of a row, which its index is below
size_at : (sizes row : List ℕ) → IsRow sizes row → (position : ℕ) → position < length row → (size : ℕ) × (slice_get sizes position ≡ Some size) × (slice_index row position < size)
size_at sizes [] is position low = absurd (omega arith)
size_at [] (index ∷ row) is position low = absurd is
size_at (size ∷ sizes) (index ∷ row) is zero low = (size, refl, is.0)
size_at (size ∷ sizes) (index ∷ row) is (suc position) low = size_at sizes row is.1 position (omega arith)

long_as : (sizes row : List ℕ) → IsRow sizes row → length row ≡ length sizes
long_as [] [] is = refl
long_as [] (index ∷ row) is = absurd is
long_as (size ∷ sizes) [] is = absurd is
long_as (size ∷ sizes) (index ∷ row) is = ap suc (long_as sizes row is.1)

atom_at : PositionsHaveSizes → (d : Description) (signature : Signature) → IsSignatureOfDescription d signature → (horizon : ℕ) (row : List ℕ) → IsRow (sizes_at d horizon) row →
    (position : ℕ) → position < length row → IsAtomOf signature position (slice_index row position)
atom_at law d signature of horizon row is position low =
    let here = law d signature of horizon in
    let long = long_as (sizes_at d horizon) row is in
    let count : length (sizes_at d horizon) ≡ position_count signature horizon = here.0 in
    let within : position < position_count signature horizon = omega arith in
    let size = size_at (sizes_at d horizon) row is position low in
    let constant = from_map (λ (c : Const). length c.domain) (slice_get (ground_constants signature) (position % length (ground_constants signature))) size.0
    (sym (here.1 position within) ∙ size.1) in
    record { constant = constant.0; found = constant.1; within = subst (λ (n : ℕ). slice_index row position < n) (sym constant.2) size.2 }

-- a position of a row and its index are an atom
pub row_atoms : PositionsHaveSizes → (d : Description) (signature : Signature) → IsSignatureOfDescription d signature → (horizon : ℕ) (row whole : List ℕ) → row ≡ whole →
    IsRow (sizes_at d horizon) whole → (position : ℕ) → position < length row → IsAtomOf signature position (slice_index row position)
row_atoms law d signature of horizon row whole same is =
    atom_at law d signature of horizon row (subst (λ (l : List ℕ). IsRow (sizes_at d horizon) l) (sym same) is)

-- ---- lines

module _ (d : Description) (names : List (List ℕ)) (horizon : ℕ) (row : List ℕ) where
  -- the lines of the positions from one on
  abbrev pub lines_from : ℕ → List ℕ
  lines_from position = flat_map (why_line d names horizon row) (onwards position (length row - position))

  -- those before a position were given
  abbrev pub AreToldTo : ℕ → Moment → Moment → Type 0
  AreToldTo position x y = LinesSoFar outputs.Out (why_text d names horizon row) (lines_from position) x y

  pub none_told : (m : Moment) → AreToldTo 0 m m
  none_told m = lines_begin outputs.Out (why_text d names horizon row) (lines_from 0) m
      (let all : length row - 0 ≡ length row = omega arith in ap (flat_map (why_line d names horizon row)) (ap (onwards 0) all ∙ sym (upto_onwards (length row))))

  line_is : (causes : List Cause) (position : ℕ) (none : Cause) → map some causes ≡ causes_at d horizon row → position < length row →
      lines_from position ≡ cause_line d names position (slice_index row position) (Some (get_or causes position none)) ++ lines_from (position + 1)
  line_is causes position none same less =
      let here : position ≡ 0 + position = omega arith in
      let cause : cause_at d horizon row position ≡ Some (get_or causes position none) =
      ap (cause_at d horizon row) here
      ∙ cause_from (cause_at d horizon row) causes 0 (length row) position none (same ∙ ap (map (cause_at d horizon row)) (upto_onwards (length row))) less in
      ap (flat_map (why_line d names horizon row)) (onwards_more position (length row) less)
      ∙ ap (λ (one : Option Cause). cause_line d names position (slice_index row position) one ++ lines_from (position + 1)) cause

  pub line_told : {X : Type 0} (causes : List Cause) (position : ℕ) (none : Cause) (x y z : Moment) (r : Result X Stop) (v : X) → map some causes ≡ causes_at d horizon row →
      position < length row → AreToldTo position x y →
      Step (given_to outputs.Out (cause_line d names position (slice_index row position) (Some (get_or causes position none)))) y z r → r ≡ Ok v → AreToldTo (position + 1) x z
  line_told causes position none x y z r v same less told step was =
      lines_more outputs.Out (why_text d names horizon row) (lines_from position) x y told
      (cause_line d names position (slice_index row position) (Some (get_or causes position none))) (lines_from (position + 1)) (line_is causes position none same less) z r v step was

  pub line_stopped : {X Y : Type 0} (causes : List Cause) (position : ℕ) (none : Cause) (x y z : Moment) (r : Result X Stop) (e : Stop) (s : Result Y Stop) →
      map some causes ≡ causes_at d horizon row → position < length row → AreToldTo position x y →
      Step (given_to outputs.Out (cause_line d names position (slice_index row position) (Some (get_or causes position none)))) y z r → r ≡ Err e → IsErrAnd s (λ d. d ≡ e) →
      Step (given_to outputs.Out (why_text d names horizon row)) x z s
  line_stopped causes position none x y z r e s same less told step was err =
      lines_stop outputs.Out (why_text d names horizon row) (lines_from position) x y told
      (cause_line d names position (slice_index row position) (Some (get_or causes position none))) (lines_from (position + 1)) (line_is causes position none same less) z r e s step was err

  pub all_told : {X : Type 0} (position : ℕ) (x y : Moment) (v : X) → length row ≤ position → AreToldTo position x y →
      Step (given_to outputs.Out (why_text d names horizon row)) x y (Ok v)
  all_told position x y v end told =
      let none : length row - position ≡ 0 = omega arith in
      lines_end outputs.Out (why_text d names horizon row) (lines_from position) x y told v
      (ap (λ (n : ℕ). length (flat_map (why_line d names horizon row) (onwards position n))) none)
