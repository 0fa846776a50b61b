-- The Boolean actions from a number on.
use Rattle.std.proofs.Common.{◌≡◌, ◌∙◌, ℕ, zero, suc, ◌+◌, ◌≤◌, Bool, true, false, List, [], ◌∷◌, ◌++◌, length, drop, slice_get, Some, sym, ap, append_assoc, append-nil, add-one}
use Rattle.std.specs.Prelude.{if◌then◌else◌}
use Rattle.std.proofs.lemmas.List.{at_drop_all}
use Rattle.cc_defs.specs.declared.signature.Const.{Const}
use Rattle.cc_defs.specs.Declarations.{numbers_where}
use Rattle.cc_defs.specs.Universe.{Universe, constants_in, is_boolean_action}

module _ {X : Type 0} where
  front_is : (xs : List X) (i : ℕ) (x : X) → Some x ≡ slice_get xs i → drop i xs ≡ x ∷ drop (suc i) xs
  front_is [] i x e = absurd cc
  front_is (y ∷ ys) zero x e = cc
  front_is (y ∷ ys) (suc i) x e = front_is ys i x e

  pub front_behind : (xs : List X) (i : ℕ) (x : X) → Some x ≡ slice_get xs i → drop i xs ≡ x ∷ drop (i + 1) xs
  front_behind xs i x e = rw add-one (front_is xs i x e)

abbrev actions_behind : Universe → ℕ → List Const → List ℕ
actions_behind u number constants = numbers_where (is_boolean_action u) (number + 1) (drop (number + 1) constants)

actions_more : (u : Universe) (number : ℕ) (constant : Const) (constants : List Const) → Some constant ≡ slice_get constants number →
    numbers_where (is_boolean_action u) number (drop number constants) ≡ (if is_boolean_action u constant then number ∷ actions_behind u number constants else actions_behind u number constants)
actions_more u number constant constants is =
    ap (numbers_where (is_boolean_action u) number) (front_behind constants number constant is)

added : (front rest whole new : List ℕ) (number : ℕ) (boolean : Bool) → new ≡ (if boolean then front ++ number ∷ [] else front) →
    front ++ (if boolean then number ∷ rest else rest) ≡ whole → new ++ rest ≡ whole
added front rest whole new number true is so_far = ap (λ (w : List ℕ). w ++ rest) is ∙ append_assoc front (number ∷ []) rest ∙ so_far
added front rest whole new number false is so_far = ap (λ (w : List ℕ). w ++ rest) is ∙ so_far

-- with the constant of a number added where it is a Boolean action, the others are those behind it
pub actions_step : (u : Universe) (number : ℕ) (constant : Const) (front new whole : List ℕ) (boolean : Bool) → Some constant ≡ slice_get (constants_in u) number →
    boolean ≡ is_boolean_action u constant → new ≡ (if boolean then front ++ number ∷ [] else front) →
    front ++ numbers_where (is_boolean_action u) number (drop number (constants_in u)) ≡ whole → new ++ actions_behind u number (constants_in u) ≡ whole
actions_step u number constant front new whole boolean is same added_is so_far =
    let rest = actions_behind u number (constants_in u) in
    added front rest whole new number boolean added_is
    (ap (λ (w : Bool). front ++ (if w then number ∷ rest else rest)) same ∙ ap (λ (w : List ℕ). front ++ w) (sym (actions_more u number constant (constants_in u) is)) ∙ so_far)

pub actions_end : (u : Universe) (front whole : List ℕ) (number : ℕ) → length (constants_in u) ≤ number → front ++ numbers_where (is_boolean_action u) number (drop number (constants_in u)) ≡ whole → front ≡ whole
actions_end u front whole number past so_far =
    sym (append-nil front) ∙ sym (at_drop_all (λ (l : List Const). front ++ numbers_where (is_boolean_action u) number l) (constants_in u) number past) ∙ so_far
