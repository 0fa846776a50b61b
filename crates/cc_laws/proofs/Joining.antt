-- Formulas joined by `&`, one by one.
use Rattle.std.proofs.Common.{◌≡◌, ◌∙◌, ℕ, ◌+◌, ◌<◌, ◌≤◌, List, [], length, map, get_or, drop, arith, sym, ap}
use Rattle.std.proofs.lemmas.List.{at_drop_all}
use Rattle.cc_defs.specs.declared.tree.Tree.{Tree}
use Rattle.cc_defs.specs.Resolved.{Formula, Both}
use Rattle.cc_defs.specs.Trees.{plain_tree}
use Rattle.cc_laws.specs.Questions.{joined_behind}
use Rattle.cc_laws.specs.Resolving.{brackets, brackets_in, resolve, resolve_all}
use Rattle.cc_laws.specs.Vocabulary.{Vocabulary}
use Rattle.cc_laws.proofs.TermRows.{next_item}

module _ (v : Vocabulary) (others : List Tree) (i next total : ℕ) where
  module _ (formula : Tree) (within : i < length others) (is : formula ≡ get_or others i formula) (new : ℕ) (added : new ≡ next + brackets (plain_tree formula)) where
    pub joined_more : (made joined whole : Formula) → joined ≡ Both made (resolve v [] next (plain_tree formula)) →
        joined_behind made (resolve_all v next (map plain_tree (drop i others))) ≡ whole →
        joined_behind joined (resolve_all v new (map plain_tree (drop (i + 1) others))) ≡ whole
    joined_more made joined whole e so =
        let rest = map plain_tree (drop (i + 1) others) in
        ap (λ (f : Formula). joined_behind f (resolve_all v new rest)) e
        ∙ ap (λ (n : ℕ). joined_behind (Both made (resolve v [] next (plain_tree formula))) (resolve_all v n rest)) added
        ∙ sym (next_item (λ (l : List Tree). joined_behind made (resolve_all v next (map plain_tree l))) others i formula within is) ∙ so

    pub brackets_more : next + brackets_in (map plain_tree (drop i others)) ≡ total → new + brackets_in (map plain_tree (drop (i + 1) others)) ≡ total
    brackets_more so = let e = next_item (λ (l : List Tree). brackets_in (map plain_tree l)) others i formula within is in omega arith

  pub all_joined : (made whole : Formula) → length others ≤ i → joined_behind made (resolve_all v next (map plain_tree (drop i others))) ≡ whole → made ≡ whole
  all_joined made whole past so = sym (at_drop_all (λ (l : List Tree). joined_behind made (resolve_all v next (map plain_tree l))) others i past) ∙ so

  pub all_brackets : length others ≤ i → next + brackets_in (map plain_tree (drop i others)) ≡ total → next ≡ total
  all_brackets past so = let e = at_drop_all (λ (l : List Tree). brackets_in (map plain_tree l)) others i past in omega arith
