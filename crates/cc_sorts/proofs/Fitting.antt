-- Whether an action has the sorts of an attribute's action, by names and by numbers.
use Rattle.std.proofs.Common.{◌≡◌, ◌∙◌, ℕ, zero, suc, ◌==◌, ◌&&◌, Bool, true, false, cond, List, [], ◌∷◌, map, length, get_or, drop, Option, Some, None, is_none, IsTrue, refl, sym, ap, subst, ◌<◌, ◌+◌, add-one, drop-cons}
use Rattle.std.specs.Cmp.Lexicographic.{pointwise}
use Rattle.std.specs.List.{list_all, list_any, find, AllByRecursion}
use Rattle.std.specs.Option.{option_map}
use Rattle.std.proofs.lemmas.Iterator.Adapters.{position_from-zero}
use denote.Bor.{Bor}
use Rattle.std.proofs.Math.Dec.{eqb-suc-zero, eqb-zero-suc}
use Rattle.cc_defs.specs.declared.signature.Symbol.{Symbol}
use Rattle.cc_defs.specs.DeclarationFaults.{is_sort, are_sorts, constant_named, same_sorts, is_plain}
use Rattle.cc_defs.specs.Declarations.{Declaration, Declared, boolean, constants, symbol_of, number_in, sort_names, value_sort, action_of}
use Rattle.cc_defs.specs.Grammar.{same_text}
use Rattle.cc_defs.specs.Trees.{PlainShape, PlainKind, plain_shape}
use Rattle.cc_defs.specs.Trees as trees
use Rattle.cc_sorts.specs.Dictionaries.{number_of}
use Rattle.cc_sorts.specs.Lefts.{shaped, left_constant, table_symbol, IsLeft, action_fits, shaped_fits, is_boolean_kind, is_boolean_action_symbol, is_numbered, are_numbered, numbers_fit}
use Rattle.cc_sorts.specs.Tables.{TableView}
use Rattle.cc_sorts.specs.declared.left.Left.{Left}
use Rattle.cc_sorts.proofs.Counts.{of_table, new_known}
use Rattle.cc_sorts.proofs.Lefts.{numbered_same}
use Rattle.cc_sorts.proofs.Swaps.{same_swap}

-- ---- the action by its shape and its kind

fits_shaped : (found : Option Declared) (sorts : List (List ℕ)) (shapes : List PlainShape) → shaped_fits (option_map shaped found) sorts shapes ≡ action_fits found sorts shapes
fits_shaped None sorts shapes = refl
fits_shaped (Some constant) sorts shapes = refl

pub new_fits : (left : Left) (declarations : List Declaration) (name : List ℕ) → IsLeft left declarations → None ≡ table_symbol left.table.now name →
    (sorts : List (List ℕ)) (shapes : List PlainShape) → shaped_fits (left_constant left name) sorts shapes ≡ action_fits (constant_named declarations name) sorts shapes
new_fits left declarations name is_left e sorts shapes =
    ap (λ found. shaped_fits found sorts shapes) (sym (new_known left declarations name is_left e)) ∙ fits_shaped (constant_named declarations name) sorts shapes

-- ---- sorts by number

are_same : (names sorts own : List (List ℕ)) → list_all (λ sort. list_any (same_text sort) names) own ≡ true → are_numbered names sorts (map (number_in names) own) ≡ same_sorts sorts own
are_same names [] [] there = refl
are_same names [] (other ∷ own) there = refl
are_same names (sort ∷ sorts) [] there = refl
are_same names (sort ∷ sorts) (other ∷ own) there =
    ap (λ t. t && are_numbered names sorts (map (number_in names) own)) (numbered_same names sort other (first_of _ _ there))
    ∙ ap (λ t. same_text sort other && t) (are_same names sorts own (others_of _ _ there))
  where
    first_of : (a b : Bool) → (a && b) ≡ true → a ≡ true
    first_of true b e = refl
    first_of false b e = absurd cc

    others_of : (a b : Bool) → (a && b) ≡ true → b ≡ true
    others_of true b e = e
    others_of false b e = absurd cc

-- ---- a symbol of the table

found_all : {X : Type 0} (P : X → Type 0) (test : X → Bool) (xs : List X) (x : X) → AllByRecursion P xs → find test xs ≡ Some x → P x
found_all P test [] x all e = absurd cc
found_all {X} P test (y ∷ xs) x all e = here (test y) e (found_all P test xs x all.1)
  where
    here : (passes : Bool) → cond passes (Some y) (find test xs) ≡ Some x → (find test xs ≡ Some x → P x) → P x
    here true e more = (let same : y ≡ x = cc in subst P same all.0)
    here false e more = more e

zero_swap : (n : ℕ) → (n == 0) ≡ (0 == n)
zero_swap zero = refl
zero_swap (suc n) = eqb-suc-zero n ∙ sym (eqb-zero-suc n)

boolean_domain : (base : List Declaration) (sort : List ℕ) → is_sort base sort ≡ true → (number_in (sort_names base) sort == 0) ≡ same_text sort boolean
boolean_domain base sort there =
    zero_swap (number_in (sort_names base) sort)
    ∙ ap (λ found. is_numbered found (number_in (sort_names base) sort)) (sym (position_from-zero (same_text boolean) (sort_names base)))
    ∙ numbered_same (sort_names base) boolean sort there
    ∙ same_swap boolean sort

no_action : (base : List Declaration) (kind : PlainKind) → is_none (action_of base kind) ≡ is_plain kind
no_action base (trees.Plain word sort) = refl
no_action base (trees.Attribute sort action) = refl

and_same : (a b c a' b' c' : Bool) → a ≡ a' → b ≡ b' → c ≡ c' → (a && (b && c)) ≡ (a' && (b' && c'))
and_same a b c a' b' c' e f g = ap (λ t. t && (b && c)) e ∙ ap (λ t. a' && (t && c)) f ∙ ap (λ t. a' && (b' && t)) g

boolean_kind : (base : List Declaration) (constant : Declared) → is_sort base (value_sort constant.kind) ≡ true → is_boolean_action_symbol (symbol_of base constant) ≡ is_boolean_kind constant.kind
boolean_kind base constant there =
    and_same _ _ _ _ _ _ (no_action base constant.kind) refl (boolean_domain base (value_sort constant.kind) there)

all_same : (names own : List (List ℕ)) (shapes : List PlainShape) → list_all (λ sort. list_any (same_text sort) names) own ≡ true →
    list_all (λ shape. are_numbered names shape.sorts (map (number_in names) own)) shapes ≡ list_all (λ shape. same_sorts shape.sorts own) shapes
all_same names own [] there = refl
all_same names own (shape ∷ shapes) there =
    ap (λ t. t && list_all (λ other. are_numbered names other.sorts (map (number_in names) own)) shapes) (are_same names shape.sorts own there)
    ∙ ap (λ t. same_sorts shape.sorts own && t) (all_same names own shapes there)

known_fits : (table : TableView) (base : List Declaration) (constant : Declared) → table.sorts.names ≡ sort_names base → is_sort base (value_sort constant.kind) ≡ true →
    are_sorts base constant.shape.sorts ≡ true → (sorts : List (List ℕ)) (shapes : List PlainShape) →
    numbers_fit table (symbol_of base constant) sorts shapes ≡ shaped_fits (Some (shaped constant)) sorts shapes
known_fits table base constant names of_value of_arguments sorts shapes =
    and_same _ _ _ _ _ _ (boolean_kind base constant of_value)
    (ap (λ ns. are_numbered ns sorts (symbol_of base constant).sorts) names ∙ are_same (sort_names base) sorts constant.shape.sorts of_arguments)
    (ap (λ ns. list_all (λ shape. are_numbered ns shape.sorts (symbol_of base constant).sorts) shapes) names ∙ all_same (sort_names base) constant.shape.sorts shapes of_arguments)

pub symbol_fits : (left : Left) (declarations : List Declaration) (name : List ℕ) (symbol : Symbol) → IsLeft left declarations → Some symbol ≡ table_symbol left.table.now name →
    (sorts : List (List ℕ)) (shapes : List PlainShape) → numbers_fit left.table.now symbol sorts shapes ≡ action_fits (constant_named declarations name) sorts shapes
symbol_fits left declarations name symbol is_left e sorts shapes =
    let known = of_table left declarations name symbol is_left e
    in ap (λ (s : Symbol). numbers_fit left.table.now s sorts shapes) known.is_symbol
    ∙ known_fits left.table.now is_left.base known.constant is_left.is_table.names
    (found_all (λ constant. IsTrue (is_sort is_left.base (value_sort constant.kind))) (λ constant. same_text name constant.shape.name) (constants is_left.base) known.constant is_left.is_table.known.of_values known.named)
    (found_all (λ constant. IsTrue (are_sorts is_left.base constant.shape.sorts)) (λ constant. same_text name constant.shape.name) (constants is_left.base) known.constant is_left.is_table.known.of_arguments known.named)
    sorts shapes
    ∙ ap (λ found. shaped_fits found sorts shapes) (sym known.known)
    ∙ fits_shaped (constant_named declarations name) sorts shapes

-- ---- the loop over sorts and numbers

pub lengths_differ : (names : List (List ℕ)) (sorts : List (Bor (List ℕ))) (numbers : List ℕ) → (length sorts ≡ length numbers → ⊥) → false ≡ are_numbered names (map (λ sort. sort.now) sorts) numbers
lengths_differ names [] [] differ = absurd (differ refl)
lengths_differ names [] (number ∷ numbers) differ = refl
lengths_differ names (sort ∷ sorts) [] differ = refl
lengths_differ names (sort ∷ sorts) (number ∷ numbers) differ =
    never (is_numbered (number_of names sort.now) number) _ (lengths_differ names sorts numbers (λ e. differ (ap suc e)))
  where
    never : (a b : Bool) → false ≡ b → false ≡ (a && b)
    never true b e = e
    never false b e = refl

pub numbered_at : (names : List (List ℕ)) (sorts : List (Bor (List ℕ))) (numbers : List ℕ) (i : ℕ) (d : Bor (List ℕ)) (e : ℕ) → i < length sorts → i < length numbers →
    are_numbered names (map (λ sort. sort.now) (drop i sorts)) (drop i numbers)
    ≡ (is_numbered (number_of names (get_or sorts i d).now) (get_or numbers i e) && are_numbered names (map (λ sort. sort.now) (drop (i + 1) sorts)) (drop (i + 1) numbers))
numbered_at names sorts numbers i d e within also =
    ap (λ xs. are_numbered names (map (λ sort. sort.now) xs) (drop i numbers)) (drop-cons sorts i d within)
    ∙ ap (are_numbered names (map (λ sort. sort.now) (get_or sorts i d ∷ drop (suc i) sorts))) (drop-cons numbers i e also)
    ∙ ap (λ k. is_numbered (number_of names (get_or sorts i d).now) (get_or numbers i e) && are_numbered names (map (λ sort. sort.now) (drop k sorts)) (drop k numbers)) (sym (add-one i))

pub pointwise_texts : (sorts others : List (Bor (List ℕ))) → pointwise (λ sort other. same_text sort.now other.now) sorts others ≡ same_sorts (map (λ sort. sort.now) sorts) (map (λ sort. sort.now) others)
pointwise_texts [] [] = refl
pointwise_texts [] (other ∷ others) = refl
pointwise_texts (sort ∷ sorts) [] = refl
pointwise_texts (sort ∷ sorts) (other ∷ others) = ap (λ t. same_text sort.now other.now && t) (pointwise_texts sorts others)
