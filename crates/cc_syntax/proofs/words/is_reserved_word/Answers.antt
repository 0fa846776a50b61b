use Rattle.std.proofs.Common.{◌≡◌, ℕ, ◌||◌, List, [], ◌∷◌, map, refl, ap₂, ◌∙◌}
use Rattle.std.proofs.lemmas.Cmp.{nat_list_eq_equiv}
use Rattle.std.specs.List.{list_any}
use Rattle.cc_defs.specs.Grammar.{same_text}
use Rattle.cc_syntax.specs.declared.words.TheConstants.{RESERVED}
use Rattle.cc_syntax.proofs.words.is_reserved_word.Goals as goal

any_same : {W : Type 0} (view : W → List ℕ) (text : List ℕ) (words : List W) → list_any (λ word. same_text (view word) text) words ≡ list_any (same_text text) (map view words)
any_same view text [] = refl
any_same view text (word ∷ words) = ap₂ (λ a b. a || b) (nat_list_eq_equiv.symm (view word) text) (any_same view text words)

pub returns : goal.returns
returns c = c.contains.ensures.value ∙ any_same (λ word. word.now) c.args.text.now RESERVED
