-- The symbols of definite heads: each is declared, and means what no test fails that fails nowhere in the head's text.
use Rattle.std.proofs.Common.{◌≡◌, ◌∙◌, ℕ, zero, suc, Bool, true, false, not, ◌&&◌, ◌||◌, List, [], ◌∷◌, Option, Some, None, sym, ap}
use Rattle.std.specs.Prelude.{unwrap_or}
use Rattle.std.specs.List.{AllByRecursion, list_any}
use Rattle.std.proofs.lemmas.Bool.{or_parts}
use Rattle.std.proofs.lemmas.List.{append-nil}
use Rattle.cc_defs.specs.Forms.{formula_symbols, term_symbols, terms_symbols}
use Rattle.cc_defs.specs.Resolved.{Term, Terms, Head}
use Rattle.cc_defs.specs.Resolved as resolved
use Rattle.cc_defs.specs.Trees.{PlainTerm, Applied, PlainSum, Summed, Numeral, Called, NoAddends, MoreAddends, PlainTree}
use Rattle.cc_defs.specs.Trees as trees
use Rattle.cc_laws.specs.Expansion.{head_parts}
use Rattle.cc_laws.specs.FormulaFaults.{mention_has, term_has, term_meaning, sum_has, formula_has}
use Rattle.cc_laws.specs.Heads.{is_constant_term, is_boolean_term, is_truth_term, is_falsity_term, atom_meant, atom, opposite, only_if, or_else, both_heads, value_heads, boolean_heads, denied_heads, definite_heads, opposite_of}
use Rattle.cc_laws.specs.Leaves.{lone, leaves, mentions, argument_mentions}
use Rattle.cc_laws.specs.Resolving.{Binding, resolve_sum, resolve_sums}
use Rattle.cc_laws.specs.Vocabulary.{Vocabulary, Meaning, Unknown, Nothing, Object, Variable, Constant, meaning, is_constant}
use Rattle.cc_laws.specs.Widening.{head_formula}
use Rattle.cc_laws.proofs.EachOf.{each_of_both}
use Rattle.cc_laws.proofs.SymbolsMeant.{IsIn, meaning_in, named, IsSo, leaf_parted, symbols_of_sum, symbols_of_sums}
use Rattle.cc_laws.proofs.TermLists.{terms_listed}

-- so is each symbol of an atom
abbrev pub HeadIsSo : (ℕ → Type 0) → Head → Type 0
HeadIsSo P head = AllByRecursion P (formula_symbols (head_formula head))

abbrev pub AreSo : (ℕ → Type 0) → Option (List Head) → Type 0
AreSo P None = Unit {0}
AreSo P (Some heads) = AllByRecursion (HeadIsSo P) heads

module _ (P : ℕ → Type 0) where
  only_if_so : (test : Bool) (heads : Option (List Head)) → AreSo P heads → AreSo P (only_if test heads)
  only_if_so true heads so = so
  only_if_so false heads so = tt

  or_else_so : (heads others : Option (List Head)) → AreSo P heads → AreSo P others → AreSo P (or_else heads others)
  or_else_so (Some heads) others so other = so
  or_else_so None others so other = other

  both_so : (heads others : Option (List Head)) → AreSo P heads → AreSo P others → AreSo P (both_heads heads others)
  both_so (Some heads) (Some others) so other = each_of_both (HeadIsSo P) heads others so other
  both_so (Some heads) None so other = tt
  both_so None others so other = tt

  written_so : (heads : Option (List Head)) → AreSo P heads → AllByRecursion (HeadIsSo P) (unwrap_or heads [])
  written_so None so = tt
  written_so (Some heads) so = so

module _ (v : Vocabulary) (test : Meaning → Bool) (P : ℕ → Type 0) (so : IsSo v test P) (scope : List Binding) where
  atom_meant_so : (means : Meaning) (args : Terms) (value : Term) → IsIn v means → test means ≡ false → AllByRecursion P (terms_symbols args) → AllByRecursion P (term_symbols value) →
      AreSo P (atom_meant means args value)
  atom_meant_so (Constant number symbol) args value is e all other =
      rw (terms_listed args) ((so number symbol is e, each_of_both P (terms_symbols args) (term_symbols value) all other), tt)
  atom_meant_so Unknown args value is e all other = tt
  atom_meant_so Nothing args value is e all other = tt
  atom_meant_so (Object number sort) args value is e all other = tt
  atom_meant_so (Variable number sort) args value is e all other = tt

  atom_so : (term : PlainTerm) (value : Term) → term_has v (named test) term ≡ false → AllByRecursion P (term_symbols value) → AreSo P (atom v scope term value)
  atom_so (Applied name args) value e other =
      let parts = or_parts (test (meaning v name)) (list_any (mention_has v (named test)) (argument_mentions args)) e in
      atom_meant_so (meaning v name) (resolve_sums v scope args) value (meaning_in v name) parts.0 (symbols_of_sums v test P so scope args parts.1) other

  opposite_so : (means : Meaning) → AllByRecursion P (term_symbols (opposite_of means))
  opposite_so (Object zero sort) = tt
  opposite_so (Object (suc number) sort) = tt
  opposite_so Unknown = tt
  opposite_so Nothing = tt
  opposite_so (Variable number sort) = tt
  opposite_so (Constant number symbol) = tt

  -- no test fails in a side of a comparison
  sides : (s t : PlainSum) → (sum_has v (named test) s || sum_has v (named test) t) || false ≡ false → (sum_has v (named test) s ≡ false) × (sum_has v (named test) t ≡ false)
  sides s t e = or_parts (sum_has v (named test) s) (sum_has v (named test) t) (or_parts _ false e).0

  -- nor in the term that a side is
  abbrev LoneSo : Option PlainTerm → Type 0
  LoneSo None = Unit {0}
  LoneSo (Some term) = term_has v (named test) term ≡ false

  lone_so : (sum : PlainSum) → sum_has v (named test) sum ≡ false → LoneSo (lone sum)
  lone_so (Summed (Called term) NoAddends) e = sym (ap (list_any (mention_has v (named test))) (append-nil (mentions term))) ∙ e
  lone_so (Summed (Called term) (MoreAddends minus piece others)) e = tt
  lone_so (Summed (Numeral number) _) e = tt

  value_so : (c : Option PlainTerm) (sum : PlainSum) → LoneSo c → sum_has v (named test) sum ≡ false → AreSo P (value_heads v scope c sum)
  value_so None sum e other = tt
  value_so (Some c) sum e other =
      only_if_so P (is_constant_term v c && not (sum_has v (λ means count. is_constant means) sum)) (atom v scope c (resolve_sum v scope sum))
      (atom_so c (resolve_sum v scope sum) e (symbols_of_sum v test P so scope sum other))

  boolean_so : (c value : Option PlainTerm) → LoneSo c → AreSo P (boolean_heads v scope c value)
  boolean_so None value e = tt
  boolean_so (Some c) None e = tt
  boolean_so (Some c) (Some value) e =
      only_if_so P (is_boolean_term v c && is_truth_term v value) (atom v scope c (opposite v value)) (atom_so c (opposite v value) e (opposite_so (term_meaning v value)))

  denied_so : (f : PlainTree) → formula_has v (named test) f ≡ false → AreSo P (denied_heads v scope f)
  denied_so (trees.Bare c) e = only_if_so P (is_boolean_term v c) (atom v scope c (resolved.Object 0)) (atom_so c (resolved.Object 0) (or_parts _ false e).0 tt)
  denied_so (trees.Compared trees.IsEqual s t) e =
      let parts = sides s t e in
      or_else_so P (boolean_heads v scope (lone s) (lone t)) (boolean_heads v scope (lone t) (lone s))
      (boolean_so (lone s) (lone t) (lone_so s parts.0)) (boolean_so (lone t) (lone s) (lone_so t parts.1))
  denied_so (trees.Compared trees.Differs s t) e = tt
  denied_so (trees.Compared trees.IsLess s t) e = tt
  denied_so (trees.Compared trees.IsAtMost s t) e = tt
  denied_so (trees.Compared trees.IsMore s t) e = tt
  denied_so (trees.Compared trees.IsAtLeast s t) e = tt
  denied_so (trees.Paren f) e = denied_so f e
  denied_so (trees.Not f) e = tt
  denied_so (trees.Both f g) e = tt
  denied_so (trees.Either f g) e = tt
  denied_so (trees.Implies f g) e = tt
  denied_so (trees.Same f g) e = tt
  denied_so (trees.ForAll name f) e = tt
  denied_so (trees.Exists name f) e = tt

  definite_so : (f : PlainTree) → formula_has v (named test) f ≡ false → AreSo P (definite_heads v scope f)
  definite_so (trees.Bare c) e =
      or_else_so P (only_if (is_falsity_term v c) (Some (resolved.Falsity ∷ []))) (only_if (is_boolean_term v c) (atom v scope c (resolved.Object 1)))
      (only_if_so P (is_falsity_term v c) (Some (resolved.Falsity ∷ [])) (tt, tt))
      (only_if_so P (is_boolean_term v c) (atom v scope c (resolved.Object 1)) (atom_so c (resolved.Object 1) (or_parts _ false e).0 tt))
  definite_so (trees.Compared trees.IsEqual s t) e =
      let parts = sides s t e in
      or_else_so P (value_heads v scope (lone s) t) (value_heads v scope (lone t) s) (value_so (lone s) t (lone_so s parts.0) parts.1) (value_so (lone t) s (lone_so t parts.1) parts.0)
  definite_so (trees.Compared trees.Differs s t) e = boolean_so (lone s) (lone t) (lone_so s (sides s t e).0)
  definite_so (trees.Compared trees.IsLess s t) e = tt
  definite_so (trees.Compared trees.IsAtMost s t) e = tt
  definite_so (trees.Compared trees.IsMore s t) e = tt
  definite_so (trees.Compared trees.IsAtLeast s t) e = tt
  definite_so (trees.Paren f) e = definite_so f e
  definite_so (trees.Not f) e = denied_so f e
  definite_so (trees.Both f g) e =
      let parts = leaf_parted v test P so (leaves f) (leaves g) e in
      both_so P (definite_heads v scope f) (definite_heads v scope g) (definite_so f parts.0) (definite_so g parts.1)
  definite_so (trees.Either f g) e = tt
  definite_so (trees.Implies f g) e = tt
  definite_so (trees.Same f g) e = tt
  definite_so (trees.ForAll name f) e = tt
  definite_so (trees.Exists name f) e = tt

  pub symbols_of_heads : (f : PlainTree) → formula_has v (named test) f ≡ false → AllByRecursion (HeadIsSo P) (head_parts v scope (Some f))
  symbols_of_heads f e = written_so P (definite_heads v scope f) (definite_so f e)
