-- Whether a formula names an action, by its two parts.
use Rattle.std.proofs.Common.{◌≡◌, ◌∙◌, ◌⊎◌, inl, inr, Bool, true, false, ◌||◌, List, ap, sym}
use Rattle.std.specs.Global.{Box}
use Rattle.std.proofs.lemmas.List.Folds.{list_any-append}
use Rattle.cc_defs.specs.declared.formula.Formula.{Formula}
use Rattle.cc_defs.specs.declared.formula.Formula as kept
use Rattle.cc_defs.specs.declared.formula.Term.{Term}
use Rattle.cc_defs.specs.declared.signature.Symbol.{Symbol}
use Rattle.cc_defs.specs.Forms.{formula_symbols, is_action_symbol, names_action, term_symbols}
use Rattle.cc_defs.specs.Resolved.{plain_formula, plain_term}
use Rattle.cc_laws.proofs.ActionNames.{names_action as term_names}

module _ (symbols : List Symbol) (formula : Formula) where
  abbrev names : Formula → Bool
  names f = names_action symbols (plain_formula f)

  abbrev pub IsJoined : Box Formula → Box Formula → Type 0
  IsJoined first second = (formula ≡ kept.Both first second) ⊎ ((formula ≡ kept.Either first second) ⊎ ((formula ≡ kept.Implies first second) ⊎ (formula ≡ kept.Same first second)))

  joined : (first second : Box Formula) → IsJoined first second → names formula ≡ (names first.value || names second.value)
  joined first second (inl e) = ap names e ∙ list_any-append (is_action_symbol symbols) (formula_symbols (plain_formula first.value)) (formula_symbols (plain_formula second.value))
  joined first second (inr (inl e)) = ap names e ∙ list_any-append (is_action_symbol symbols) (formula_symbols (plain_formula first.value)) (formula_symbols (plain_formula second.value))
  joined first second (inr (inr (inl e))) = ap names e ∙ list_any-append (is_action_symbol symbols) (formula_symbols (plain_formula first.value)) (formula_symbols (plain_formula second.value))
  joined first second (inr (inr (inr e))) = ap names e ∙ list_any-append (is_action_symbol symbols) (formula_symbols (plain_formula first.value)) (formula_symbols (plain_formula second.value))

  pub by_first : (first second : Box Formula) (a : Formula) (r : Bool) → IsJoined first second → a ≡ first.value → r ≡ names a → r ≡ true → r ≡ names formula
  by_first first second a r is at e so = so ∙ sym (joined first second is ∙ ap (λ (b : Bool). b || names second.value) (ap names (sym at) ∙ sym e ∙ so))

  pub by_second : (first second : Box Formula) (a b : Formula) (r s : Bool) → IsJoined first second → a ≡ first.value → r ≡ names a → r ≡ false → b ≡ second.value → s ≡ names b → s ≡ names formula
  by_second first second a b r s is at e so behind f =
      f ∙ ap names behind ∙ sym (joined first second is ∙ ap (λ (b : Bool). b || names second.value) (ap names (sym at) ∙ sym e ∙ so))

  abbrev pub IsCompared : Term → Term → Type 0
  IsCompared left right = (formula ≡ kept.Equal left right) ⊎ ((formula ≡ kept.Less left right) ⊎ (formula ≡ kept.AtMost left right))

  compared : (left right : Term) → IsCompared left right → names formula ≡ (term_names symbols left || term_names symbols right)
  compared left right (inl e) = ap names e ∙ list_any-append (is_action_symbol symbols) (term_symbols (plain_term left)) (term_symbols (plain_term right))
  compared left right (inr (inl e)) = ap names e ∙ list_any-append (is_action_symbol symbols) (term_symbols (plain_term left)) (term_symbols (plain_term right))
  compared left right (inr (inr e)) = ap names e ∙ list_any-append (is_action_symbol symbols) (term_symbols (plain_term left)) (term_symbols (plain_term right))

  pub by_left : (left right : Term) (r : Bool) → IsCompared left right → r ≡ term_names symbols left → r ≡ true → r ≡ names formula
  by_left left right r is e so = so ∙ sym (compared left right is ∙ ap (λ (b : Bool). b || term_names symbols right) (sym e ∙ so))

  pub by_right : (left right : Term) (r s : Bool) → IsCompared left right → r ≡ term_names symbols left → r ≡ false → s ≡ term_names symbols right → s ≡ names formula
  by_right left right r s is e so f = f ∙ sym (compared left right is ∙ ap (λ (b : Bool). b || term_names symbols right) (sym e ∙ so))
