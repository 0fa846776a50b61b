-- The symbols of resolved formulas and heads: each is declared, and means what no test fails that fails nowhere in the text.
use Rattle.std.proofs.Common.{◌≡◌, ◌∙◌, ℕ, zero, suc, ◌+◌, Bool, true, false, ◌||◌, List, [], ◌∷◌, ◌++◌, map, slice_get, Option, Some, None, refl, sym, subst}
use Rattle.std.specs.Prelude.{if◌then◌else◌, codes}
use Rattle.std.specs.List.{AllByRecursion, list_any}
use Rattle.std.proofs.lemmas.Bool.{or_parts}
use Rattle.std.proofs.lemmas.List.Folds.{list_any-append}
use Rattle.cc_defs.specs.declared.signature.Symbol.{Symbol}
use Rattle.cc_defs.specs.Forms.{term_symbols, terms_symbols, formula_symbols}
use Rattle.cc_defs.specs.Grammar.{same_text}
use Rattle.cc_defs.specs.Resolved.{Term, Terms, Formula}
use Rattle.cc_defs.specs.Resolved as resolved
use Rattle.cc_defs.specs.Trees.{Comparison, PlainTerm, Applied, PlainSums, NoSums, MoreSums, PlainSum, Summed, PlainPiece, Numeral, Called, PlainAddends, NoAddends, MoreAddends, PlainTree}
use Rattle.cc_defs.specs.Trees as trees
use Rattle.cc_laws.specs.FormulaFaults.{NameTest, mention_has, term_has, sum_has, leaf_has, formula_has}
use Rattle.cc_laws.specs.Leaves.{Leaf, leaves, Mention, argument_mentions, sum_mentions, piece_mentions, addend_mentions}
use Rattle.cc_laws.specs.Resolving.{Binding, number_in, variable_at, term_meant, joined, resolve_term, resolve_sums, resolve_sum, resolve_piece, resolve_addends, alone, compared, resolve_bracket, resolve, brackets}
use Rattle.cc_laws.specs.Vocabulary.{Vocabulary, Meaning, Unknown, Nothing, Object, Variable, Constant, meaning, as_object, as_variable, as_constant, constant_at}
use Rattle.cc_sorts.specs.Dictionaries.{number_of, names_of}
use Rattle.cc_laws.proofs.EachOf.{each_of_both}

-- ---- what a name means is declared

abbrev pub IsIn : Vocabulary → Meaning → Type 0
IsIn v Unknown = Unit {0}
IsIn v Nothing = Unit {0}
IsIn v (Object number own) = Unit {0}
IsIn v (Variable number own) = Unit {0}
IsIn v (Constant number symbol) = slice_get v.symbols number ≡ Some symbol

constant_in : (v : Vocabulary) (number : ℕ) (found : Option Symbol) → slice_get v.symbols number ≡ found → IsIn v (constant_at number found)
constant_in v number None e = tt
constant_in v number (Some symbol) e = e

as_constant_in : (v : Vocabulary) (found : Option ℕ) → IsIn v (as_constant v found)
as_constant_in v None = tt
as_constant_in v (Some number) = constant_in v number (slice_get v.symbols number) refl

as_variable_in : (v : Vocabulary) (name : List ℕ) (found : Option ℕ) → IsIn v (as_variable v name found)
as_variable_in v name None = as_constant_in v (number_of (map (λ (symbol : Symbol). symbol.name) v.symbols) name)
as_variable_in v name (Some number) = tt

as_object_in : (v : Vocabulary) (name : List ℕ) (found : Option ℕ) → IsIn v (as_object v name found)
as_object_in v name None = as_variable_in v name (number_of (names_of v.variables) name)
as_object_in v name (Some number) = tt

pub meaning_in : (v : Vocabulary) (name : List ℕ) → IsIn v (meaning v name)
meaning_in v name = choose (same_text name (codes "none"))
  where
    choose : (is : Bool) → IsIn v (if is then Nothing else as_object v name (number_of (names_of v.objects) name))
    choose true = tt
    choose false = as_object_in v name (number_of (names_of v.objects) name)

-- ---- terms

-- a test of a meaning alone
abbrev pub named : (Meaning → Bool) → NameTest
named test means count = test means

-- what is so of each symbol that the test does not pass
abbrev pub IsSo : Vocabulary → (Meaning → Bool) → (ℕ → Type 0) → Type 0
IsSo v test P = (number : ℕ) (symbol : Symbol) → slice_get v.symbols number ≡ Some symbol → test (Constant number symbol) ≡ false → P number

module _ (v : Vocabulary) (test : Meaning → Bool) (P : ℕ → Type 0) (so : IsSo v test P) where
  variable_symbols : (found : Option ℕ) → AllByRecursion P (term_symbols (variable_at found))
  variable_symbols None = tt
  variable_symbols (Some number) = tt

  meant_symbols : (scope : List Binding) (means : Meaning) (args : Terms) → IsIn v means → test means ≡ false → AllByRecursion P (terms_symbols args) → AllByRecursion P (term_symbols (term_meant scope means args))
  meant_symbols scope Unknown args is e all = tt
  meant_symbols scope Nothing args is e all = tt
  meant_symbols scope (Object number own) args is e all = tt
  meant_symbols scope (Variable number own) args is e all = variable_symbols (number_in scope number)
  meant_symbols scope (Constant number symbol) args is e all = (so number symbol is e, all)

  parted : (first others : List Mention) → list_any (mention_has v (named test)) (first ++ others) ≡ false →
      (list_any (mention_has v (named test)) first ≡ false) × (list_any (mention_has v (named test)) others ≡ false)
  parted first others e =
      or_parts (list_any (mention_has v (named test)) first) (list_any (mention_has v (named test)) others) (sym (list_any-append (mention_has v (named test)) first others) ∙ e)

  -- of a sum that is made, and one piece more
  joined_symbols : (minus : Bool) (made piece : Term) → AllByRecursion P (term_symbols made) → AllByRecursion P (term_symbols piece) → AllByRecursion P (term_symbols (joined minus made piece))
  joined_symbols true made piece all other = each_of_both P (term_symbols made) (term_symbols piece) all other
  joined_symbols false made piece all other = each_of_both P (term_symbols made) (term_symbols piece) all other

  mutual
    pub symbols_of_term : (scope : List Binding) (term : PlainTerm) → term_has v (named test) term ≡ false → AllByRecursion P (term_symbols (resolve_term v scope term))
    symbols_of_term scope (Applied name args) e =
        let parts = or_parts (test (meaning v name)) (list_any (mention_has v (named test)) (argument_mentions args)) e in
        meant_symbols scope (meaning v name) (resolve_sums v scope args) (meaning_in v name) parts.0 (symbols_of_sums scope args parts.1)

    pub symbols_of_sums : (scope : List Binding) (args : PlainSums) → list_any (mention_has v (named test)) (argument_mentions args) ≡ false → AllByRecursion P (terms_symbols (resolve_sums v scope args))
    symbols_of_sums scope NoSums e = tt
    symbols_of_sums scope (MoreSums first others) e =
        let parts = parted (sum_mentions first) (argument_mentions others) e in
        each_of_both P (term_symbols (resolve_sum v scope first)) (terms_symbols (resolve_sums v scope others)) (symbols_of_sum scope first parts.0) (symbols_of_sums scope others parts.1)

    pub symbols_of_sum : (scope : List Binding) (sum : PlainSum) → sum_has v (named test) sum ≡ false → AllByRecursion P (term_symbols (resolve_sum v scope sum))
    symbols_of_sum scope (Summed first addends) e =
        let parts = parted (piece_mentions first) (addend_mentions addends) e in
        symbols_of_addends scope (resolve_piece v scope first) addends (symbols_of_piece scope first parts.0) parts.1

    pub symbols_of_piece : (scope : List Binding) (piece : PlainPiece) → list_any (mention_has v (named test)) (piece_mentions piece) ≡ false → AllByRecursion P (term_symbols (resolve_piece v scope piece))
    symbols_of_piece scope (Numeral number) e = tt
    symbols_of_piece scope (Called term) e = symbols_of_term scope term e

    pub symbols_of_addends : (scope : List Binding) (made : Term) (addends : PlainAddends) → AllByRecursion P (term_symbols made) → list_any (mention_has v (named test)) (addend_mentions addends) ≡ false →
        AllByRecursion P (term_symbols (resolve_addends v scope made addends))
    symbols_of_addends scope made NoAddends all e = all
    symbols_of_addends scope made (MoreAddends minus piece others) all e =
        let parts = parted (piece_mentions piece) (addend_mentions others) e in
        symbols_of_addends scope (joined minus made (resolve_piece v scope piece)) others
        (joined_symbols minus made (resolve_piece v scope piece) all (symbols_of_piece scope piece parts.0)) parts.1

  -- ---- formulas

  pub leaf_parted : (first others : List Leaf) → list_any (leaf_has v (named test)) (first ++ others) ≡ false →
      (list_any (leaf_has v (named test)) first ≡ false) × (list_any (leaf_has v (named test)) others ≡ false)
  leaf_parted first others e =
      or_parts (list_any (leaf_has v (named test)) first) (list_any (leaf_has v (named test)) others) (sym (list_any-append (leaf_has v (named test)) first others) ∙ e)

  alone_symbols : (term : Term) → AllByRecursion P (term_symbols term) → AllByRecursion P (formula_symbols (alone term))
  alone_symbols (resolved.Object zero) all = tt
  alone_symbols (resolved.Object (suc zero)) all = tt
  alone_symbols (resolved.Object (suc (suc number))) all = tt
  alone_symbols (resolved.Constant symbol args) all = (all.0, each_of_both P (terms_symbols args) [] all.1 tt)
  alone_symbols (resolved.Variable number) all = tt
  alone_symbols resolved.Nothing all = tt
  alone_symbols (resolved.Number number) all = tt
  alone_symbols (resolved.Plus s t) all = each_of_both P (term_symbols s ++ term_symbols t) [] all tt
  alone_symbols (resolved.Minus s t) all = each_of_both P (term_symbols s ++ term_symbols t) [] all tt

  bracket_symbols : (make : ℕ → ℕ → Formula → Formula) → ((variable sort : ℕ) (f : Formula) → formula_symbols (make variable sort f) ≡ formula_symbols f) →
      (scope : List Binding) (number : ℕ) (means : Meaning) (inside : List Binding → Formula) →
      ((inner : List Binding) → AllByRecursion P (formula_symbols (inside inner))) → AllByRecursion P (formula_symbols (resolve_bracket make scope number means inside))
  bracket_symbols make same scope number (Variable variable sort) inside all =
      let inner : List Binding = record { variable = variable; number = number } ∷ scope in
      subst (λ (w : List ℕ). AllByRecursion P w) (sym (same number sort (inside inner))) (all inner)
  bracket_symbols make same scope number Unknown inside all = tt
  bracket_symbols make same scope number Nothing inside all = tt
  bracket_symbols make same scope number (Object object sort) inside all = tt
  bracket_symbols make same scope number (Constant other symbol) inside all = tt

  compared_symbols : (comparison : Comparison) (s t : Term) → AllByRecursion P (term_symbols s) → AllByRecursion P (term_symbols t) → AllByRecursion P (formula_symbols (compared comparison s t))
  compared_symbols trees.IsEqual s t all other = each_of_both P (term_symbols s) (term_symbols t) all other
  compared_symbols trees.Differs s t all other = each_of_both P (term_symbols s) (term_symbols t) all other
  compared_symbols trees.IsLess s t all other = each_of_both P (term_symbols s) (term_symbols t) all other
  compared_symbols trees.IsAtMost s t all other = each_of_both P (term_symbols s) (term_symbols t) all other
  compared_symbols trees.IsMore s t all other = each_of_both P (term_symbols t) (term_symbols s) other all
  compared_symbols trees.IsAtLeast s t all other = each_of_both P (term_symbols t) (term_symbols s) other all

  sides_symbols : (scope : List Binding) (comparison : Comparison) (s t : PlainSum) → (sum_has v (named test) s || sum_has v (named test) t) || false ≡ false →
      AllByRecursion P (formula_symbols (compared comparison (resolve_sum v scope s) (resolve_sum v scope t)))
  sides_symbols scope comparison s t e =
      let parts = or_parts (sum_has v (named test) s) (sum_has v (named test) t) (or_parts _ false e).0 in
      compared_symbols comparison (resolve_sum v scope s) (resolve_sum v scope t) (symbols_of_sum scope s parts.0) (symbols_of_sum scope t parts.1)

  pub symbols_of_formula : (scope : List Binding) (next : ℕ) (f : PlainTree) → formula_has v (named test) f ≡ false → AllByRecursion P (formula_symbols (resolve v scope next f))
  symbols_of_formula scope next (trees.Bare term) e = alone_symbols (resolve_term v scope term) (symbols_of_term scope term (or_parts _ false e).0)
  symbols_of_formula scope next (trees.Compared comparison s t) e = sides_symbols scope comparison s t e
  symbols_of_formula scope next (trees.Paren f) e = symbols_of_formula scope next f e
  symbols_of_formula scope next (trees.Not f) e = symbols_of_formula scope next f e
  symbols_of_formula scope next (trees.Both f g) e =
      let parts = leaf_parted (leaves f) (leaves g) e in
      each_of_both P (formula_symbols (resolve v scope next f)) (formula_symbols (resolve v scope (next + brackets f) g)) (symbols_of_formula scope next f parts.0) (symbols_of_formula scope (next + brackets f) g parts.1)
  symbols_of_formula scope next (trees.Either f g) e =
      let parts = leaf_parted (leaves f) (leaves g) e in
      each_of_both P (formula_symbols (resolve v scope next f)) (formula_symbols (resolve v scope (next + brackets f) g)) (symbols_of_formula scope next f parts.0) (symbols_of_formula scope (next + brackets f) g parts.1)
  symbols_of_formula scope next (trees.Implies f g) e =
      let parts = leaf_parted (leaves f) (leaves g) e in
      each_of_both P (formula_symbols (resolve v scope next f)) (formula_symbols (resolve v scope (next + brackets f) g)) (symbols_of_formula scope next f parts.0) (symbols_of_formula scope (next + brackets f) g parts.1)
  symbols_of_formula scope next (trees.Same f g) e =
      let parts = leaf_parted (leaves f) (leaves g) e in
      each_of_both P (formula_symbols (resolve v scope next f)) (formula_symbols (resolve v scope (next + brackets f) g)) (symbols_of_formula scope next f parts.0) (symbols_of_formula scope (next + brackets f) g parts.1)
  symbols_of_formula scope next (trees.ForAll name f) e =
      bracket_symbols resolved.ForAll (λ variable sort f. refl) scope next (meaning v name) (λ inner. resolve v inner (next + 1) f) (λ inner. symbols_of_formula inner (next + 1) f e)
  symbols_of_formula scope next (trees.Exists name f) e =
      bracket_symbols resolved.Exists (λ variable sort f. refl) scope next (meaning v name) (λ inner. resolve v inner (next + 1) f) (λ inner. symbols_of_formula inner (next + 1) f e)
