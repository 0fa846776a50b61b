-- Unknown names, in terms and of brackets, found by one walk.
use Rattle.std.proofs.Common.{◌≡◌, ◌∙◌, Bool, true, false, ◌||◌, List, [], ◌∷◌, refl, ap}
use Rattle.std.specs.List.{list_any}
use Rattle.cc_defs.specs.Trees.{PlainTree}
use Rattle.cc_laws.specs.declared.walk.Check.TheVariants as checks
use Rattle.cc_laws.specs.FormulaFaults.{has_unknown, leaf_has, is_unknown_name, bracket_unknown}
use Rattle.cc_laws.specs.Leaves.{leaves}
use Rattle.cc_laws.specs.Views.{fails}
use Rattle.cc_laws.specs.Vocabulary.{Vocabulary}

both_orders : (a b c d : Bool) → ((a || b) || (c || d)) ≡ ((a || c) || (b || d))
both_orders true b c d = refl
both_orders false true true d = refl
both_orders false true false d = refl
both_orders false false c d = refl

any_of_two : {X : Type 0} (p q : X → Bool) (xs : List X) → list_any (λ x. p x || q x) xs ≡ (list_any p xs || list_any q xs)
any_of_two p q [] = refl
any_of_two p q (x ∷ xs) = ap (λ (others : Bool). (p x || q x) || others) (any_of_two p q xs) ∙ both_orders (p x) (q x) (list_any p xs) (list_any q xs)

unknown_fails : (v : Vocabulary) (formula : PlainTree) → fails v checks.Unknown formula ≡ has_unknown v formula
unknown_fails v formula = any_of_two (leaf_has v is_unknown_name) (bracket_unknown v) (leaves formula)

pub some_unknown : (v : Vocabulary) (formulas : List PlainTree) → list_any (fails v checks.Unknown) formulas ≡ list_any (has_unknown v) formulas
some_unknown v [] = refl
some_unknown v (formula ∷ formulas) =
    ap (λ (w : Bool). w || list_any (fails v checks.Unknown) formulas) (unknown_fails v formula)
    ∙ ap (λ (others : Bool). has_unknown v formula || others) (some_unknown v formulas)
