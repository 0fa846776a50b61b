-- Whether a term whose names are resolved has an action in its arguments, by the list of them.
use Rattle.std.proofs.Common.{◌≡◌, ℕ, Bool, true, false, ◌||◌, List, [], ◌∷◌, rules, refl, ap, ◌∙◌}
use Rattle.std.specs.List.{list_any}
use Rattle.std.proofs.lemmas.List.Folds.{list_any-append}
use Rattle.cc_defs.specs.declared.signature.Symbol.{Symbol}
use Rattle.std.specs.Global.{Vec}
use Rattle.cc_defs.specs.declared.formula.Term.{Term, Constant, Row_of-Term, end_of-Term, more_of-Term, items-the_row-Term, items_hidden-the_row-Term-0}
use Rattle.cc_defs.specs.Resolved as resolved
use Rattle.cc_defs.specs.Resolved.{Terms, MoreTerms, plain_term, plain_row}
use Rattle.cc_defs.specs.Forms.{is_action_symbol, term_symbols, terms_symbols}
use Rattle.cc_laws.specs.Views.{row_terms}

row_is : (n : _) (row : Row_of-Term n) → plain_row row ≡ row_terms (items-the_row-Term n row)
row_is _ end_of-Term = refl
row_is _ (more_of-Term term rest) = ap (MoreTerms (plain_term term)) (row_is _ rest)

-- whether a term has an action
abbrev pub names_action : List Symbol → Term → Bool
names_action symbols term = list_any (is_action_symbol symbols) (term_symbols (plain_term term))

-- whether one of the terms has
abbrev pub some_names_action : List Symbol → List Term → Bool
some_names_action symbols terms = list_any (names_action symbols) terms

pub some_names_action_is : (symbols : List Symbol) (terms : List Term) → list_any (is_action_symbol symbols) (terms_symbols (row_terms terms)) ≡ some_names_action symbols terms
some_names_action_is symbols [] = refl
some_names_action_is symbols (term ∷ terms) =
    list_any-append (is_action_symbol symbols) (term_symbols (plain_term term)) (terms_symbols (row_terms terms)) ∙ ap (λ (others : Bool). names_action symbols term || others) (some_names_action_is symbols terms)

pub plain_constant : (symbol : ℕ) (args : Vec Term) → plain_term (Constant symbol args) ≡ resolved.Constant symbol (row_terms args.items)
plain_constant symbol args = search (rules, row_is, items_hidden-the_row-Term-0)

-- a constant names an action itself or in one of its arguments
constant_names : (symbols : List Symbol) (symbol : ℕ) (args : Vec Term) → names_action symbols (Constant symbol args) ≡ (is_action_symbol symbols symbol || some_names_action symbols args.items)
constant_names symbols symbol args =
    ap (λ (term : resolved.Term). list_any (is_action_symbol symbols) (term_symbols term)) (plain_constant symbol args) ∙ ap (λ (others : Bool). is_action_symbol symbols symbol || others) (some_names_action_is symbols args.items)

pub names_by_args : (symbols : List Symbol) (term : Term) (symbol : ℕ) (args : Vec Term) → term ≡ Constant symbol args → is_action_symbol symbols symbol ≡ false → names_action symbols term ≡ some_names_action symbols args.items
names_by_args symbols term symbol args e h = ap (names_action symbols) e ∙ constant_names symbols symbol args ∙ ap (λ (b : Bool). b || some_names_action symbols args.items) h

pub names_by_symbol : (symbols : List Symbol) (term : Term) (symbol : ℕ) (args : Vec Term) → term ≡ Constant symbol args → is_action_symbol symbols symbol ≡ true → names_action symbols term ≡ true
names_by_symbol symbols term symbol args e h = ap (names_action symbols) e ∙ constant_names symbols symbol args ∙ ap (λ (b : Bool). b || some_names_action symbols args.items) h

-- a sum names an action in one of its two parts
pub names_in_plus : (symbols : List Symbol) (first second : resolved.Term) →
    list_any (is_action_symbol symbols) (term_symbols (resolved.Plus first second)) ≡ (list_any (is_action_symbol symbols) (term_symbols first) || list_any (is_action_symbol symbols) (term_symbols second))
names_in_plus symbols first second = list_any-append (is_action_symbol symbols) (term_symbols first) (term_symbols second)
