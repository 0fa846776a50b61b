-- The plain forms of constants, by the list of their arguments, and of brackets.
use Rattle.std.proofs.Common.{◌≡◌, ◌∙◌, ℕ, ◌+◌, ◌<◌, ◌≤◌, List, [], ◌∷◌, ◌++◌, length, drop, get_or, map, Option, Some, None, option_map, append_assoc, append-nil, rules, refl, sym, ap}
use Rattle.std.proofs.lemmas.List.{at_drop_all, at_drop_more}
use Rattle.std.specs.Global.{Box, Vec}
use Rattle.cc_defs.specs.declared.formula.Formula as kept
use Rattle.cc_defs.specs.declared.formula.Term.{Term, Constant, Row_of-Term, end_of-Term, more_of-Term, items-the_row-Term, items_hidden-the_row-Term-0}
use Rattle.cc_defs.specs.declared.law.Head.{Head as HeadTree}
use Rattle.cc_defs.specs.declared.law.Head.TheVariants as head_trees
use Rattle.cc_defs.specs.GroundLaws.{ground_head, head_of_sides}
use Rattle.cc_defs.specs.Nodes.{Side, side}
use Rattle.cc_defs.specs.Resolved as resolved
use Rattle.cc_defs.specs.Satisfaction.{Environment, argument, arguments, cons_both}
use Rattle.cc_defs.specs.Universe.{Universe}
use Rattle.cc_defs.specs.Resolved.{MoreTerms, plain_formula, plain_head, plain_term, plain_row, terms_of}

row_is : (n : _) (row : Row_of-Term n) → plain_row row ≡ terms_of (map plain_term (items-the_row-Term n row))
row_is _ end_of-Term = refl
row_is _ (more_of-Term term rest) = ap (MoreTerms (plain_term term)) (row_is _ rest)

plain_constant : (symbol : ℕ) (args : Vec Term) → plain_term (Constant symbol args) ≡ resolved.Constant symbol (terms_of (map plain_term args.items))
plain_constant symbol args = search (rules, row_is, items_hidden-the_row-Term-0)

-- a constant by its symbol and the list of its arguments
pub constant_by_args : (term : Term) (symbol : ℕ) (args : Vec Term) (terms : List Term) → term ≡ Constant symbol args → terms ≡ args.items →
    resolved.Constant symbol (terms_of (map plain_term terms)) ≡ plain_term term
constant_by_args term symbol args terms is same =
    ap (λ (l : List Term). resolved.Constant symbol (terms_of (map plain_term l))) same ∙ sym (plain_constant symbol args) ∙ sym (ap plain_term is)

pub all_is : (whole inner : kept.Formula) (variable sort : ℕ) (box : Box kept.Formula) → whole ≡ kept.ForAll variable sort box → inner ≡ box.value →
    plain_formula whole ≡ resolved.ForAll variable sort (plain_formula inner)
all_is whole inner variable sort box is same = ap plain_formula is ∙ ap (λ f. resolved.ForAll variable sort (plain_formula f)) (sym same)

pub some_is : (whole inner : kept.Formula) (variable sort : ℕ) (box : Box kept.Formula) → whole ≡ kept.Exists variable sort box → inner ≡ box.value →
    plain_formula whole ≡ resolved.Exists variable sort (plain_formula inner)
some_is whole inner variable sort box is same = ap plain_formula is ∙ ap (λ f. resolved.Exists variable sort (plain_formula f)) (sym same)

-- the head that a constant's side and a value's have
pub head_as : (u : Universe) (env : Environment) (symbol : ℕ) (args given : List Term) (value : Term) (tree : HeadTree) (left right : Side) → tree ≡ head_trees.Atom symbol args value → given ≡ args →
    left ≡ side u env (resolved.Constant symbol (terms_of (map plain_term given))) → right ≡ side u env (plain_term value) → head_of_sides left right ≡ ground_head u env (plain_head tree)
head_as u env symbol args given value tree left right is same l r =
    ap (λ (w : Side). head_of_sides w right) l
    ∙ ap (head_of_sides (side u env (resolved.Constant symbol (terms_of (map plain_term given))))) r
    ∙ ap (λ (w : List Term). head_of_sides (side u env (resolved.Constant symbol (terms_of (map plain_term w)))) (side u env (plain_term value))) same
    ∙ sym (ap (λ (w : HeadTree). ground_head u env (plain_head w)) is)

-- ---- arguments, one after another

abbrev args_of : Universe → Environment → List Term → Option (List ℕ)
args_of u env terms = arguments u env (terms_of (map plain_term terms))

abbrev with_front : List ℕ → Option (List ℕ) → Option (List ℕ)
with_front items found = option_map (λ (more : List ℕ). items ++ more) found

front_more : (items : List ℕ) (object : ℕ) (rest : Option (List ℕ)) → with_front (items ++ object ∷ []) rest ≡ with_front items (cons_both (Some object) rest)
front_more items object None = refl
front_more items object (Some more) = ap Some (append_assoc items (object ∷ []) more)

no_front : (items : List ℕ) (rest : Option (List ℕ)) → None ≡ with_front items (cons_both None rest)
no_front items None = refl
no_front items (Some more) = refl

args_at : (u : Universe) (env : Environment) (terms : List Term) (i : ℕ) (items : List ℕ) (term : Term) (found now : Option ℕ) → i < length terms → term ≡ get_or terms i term → found ≡ argument u env (plain_term term) → found ≡ now →
    with_front items (cons_both now (args_of u env (drop (i + 1) terms))) ≡ with_front items (args_of u env (drop i terms))
args_at u env terms i items term found now less at is some =
    ap (λ (o : Option ℕ). with_front items (cons_both o (args_of u env (drop (i + 1) terms)))) (sym some ∙ is ∙ ap (λ (t : Term). argument u env (plain_term t)) at)
    ∙ sym (at_drop_more (λ (l : List Term). with_front items (args_of u env l)) terms i term less)

pub args_more : (u : Universe) (env : Environment) (terms : List Term) (i : ℕ) (items now : List ℕ) (term : Term) (found : Option ℕ) (object : ℕ) → i < length terms → term ≡ get_or terms i term → found ≡ argument u env (plain_term term) →
    found ≡ Some object → now ≡ items ++ object ∷ [] → with_front items (args_of u env (drop i terms)) ≡ args_of u env terms → with_front now (args_of u env (drop (i + 1) terms)) ≡ args_of u env terms
args_more u env terms i items now term found object less at is some pushed so_far =
    let rest = args_of u env (drop (i + 1) terms) in
    ap (λ (l : List ℕ). with_front l rest) pushed ∙ front_more items object rest ∙ args_at u env terms i items term found (Some object) less at is some ∙ so_far

pub args_none : (u : Universe) (env : Environment) (terms : List Term) (i : ℕ) (items : List ℕ) (term : Term) (found : Option ℕ) → i < length terms → term ≡ get_or terms i term → found ≡ argument u env (plain_term term) →
    found ≡ None → with_front items (args_of u env (drop i terms)) ≡ args_of u env terms → None ≡ args_of u env terms
args_none u env terms i items term found less at is none so_far = no_front items (args_of u env (drop (i + 1) terms)) ∙ args_at u env terms i items term found None less at is none ∙ so_far

pub args_end : (u : Universe) (env : Environment) (terms : List Term) (i : ℕ) (items : List ℕ) → length terms ≤ i → with_front items (args_of u env (drop i terms)) ≡ args_of u env terms → Some items ≡ args_of u env terms
args_end u env terms i items past so_far =
    ap Some (sym (append-nil items)) ∙ sym (at_drop_all (λ (l : List Term). with_front items (args_of u env l)) terms i past) ∙ so_far

-- a formula of two, by its parts
pub two_is : (kept_as : Box kept.Formula → Box kept.Formula → kept.Formula) (resolved_as : resolved.Formula → resolved.Formula → resolved.Formula) (whole f g : kept.Formula) (l r : Box kept.Formula) →
    plain_formula (kept_as l r) ≡ resolved_as (plain_formula l.value) (plain_formula r.value) → whole ≡ kept_as l r → f ≡ l.value → g ≡ r.value → plain_formula whole ≡ resolved_as (plain_formula f) (plain_formula g)
two_is kept_as resolved_as whole f g l r plain is first second =
    ap plain_formula is ∙ plain ∙ ap (λ x. resolved_as (plain_formula x) (plain_formula r.value)) (sym first) ∙ ap (λ x. resolved_as (plain_formula f) (plain_formula x)) (sym second)
