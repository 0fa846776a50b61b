-- The truth of all, or of some, of the terms that are made of items.
use Rattle.std.proofs.Common.{◌≡◌, ◌∙◌, ℕ, Bool, true, false, ◌&&◌, ◌||◌, List, [], ◌∷◌, refl, ap}
use Rattle.std.proofs.Math.Bool.{and_assoc, or_assoc}
use Rattle.std.specs.Prelude.{map}
use Rattle.std.specs.List.{list_all, list_any}
use Rattle.cc_defs.specs.Terms.{Ground, Operands, operands_behind, truth, all_true, any_true}
use Rattle.cc_defs.specs.Terms as terms

pub and_true : (b : Bool) → b ≡ (b && true)
and_true true = refl
and_true false = refl

pub or_false : (b : Bool) → b ≡ (b || false)
or_false true = refl
or_false false = refl

module _ (valuation : ℕ → ℕ) {X : Type 0} (instance : X → Ground) where
  pub all_instances : (operands : Operands) (items : List X) →
      all_true valuation (operands_behind operands (map instance items)) ≡ (all_true valuation operands && list_all (λ item. truth valuation (instance item)) items)
  all_instances operands [] = and_true (all_true valuation operands)
  all_instances operands (item ∷ items) =
      all_instances (terms.and_then operands (instance item)) items
      ∙ and_assoc (all_true valuation operands) (truth valuation (instance item)) (list_all (λ other. truth valuation (instance other)) items)

  pub any_instances : (operands : Operands) (items : List X) →
      any_true valuation (operands_behind operands (map instance items)) ≡ (any_true valuation operands || list_any (λ item. truth valuation (instance item)) items)
  any_instances operands [] = or_false (any_true valuation operands)
  any_instances operands (item ∷ items) =
      any_instances (terms.and_then operands (instance item)) items
      ∙ or_assoc (any_true valuation operands) (truth valuation (instance item)) (list_any (λ other. truth valuation (instance other)) items)

module _ {X : Type 0} (p q : X → Bool) where
  pub same_all : (xs : List X) → ((x : X) → p x ≡ q x) → list_all p xs ≡ list_all q xs
  same_all [] e = refl
  same_all (x ∷ xs) e = ap (λ (b : Bool). b && list_all p xs) (e x) ∙ ap (λ (b : Bool). q x && b) (same_all xs e)

  pub same_any : (xs : List X) → ((x : X) → p x ≡ q x) → list_any p xs ≡ list_any q xs
  same_any [] e = refl
  same_any (x ∷ xs) e = ap (λ (b : Bool). b || list_any p xs) (e x) ∙ ap (λ (b : Bool). q x || b) (same_any xs e)
