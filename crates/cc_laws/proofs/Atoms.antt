-- The head that a constant has a value, by its term with numbers in place of names.
use Rattle.std.proofs.Common.{◌≡◌, ◌∙◌, ℕ, List, [], ◌∷◌, ◌++◌, map, refl, ap, sym}
use Rattle.std.specs.Prelude.{Option, Some, None}
use Rattle.std.proofs.lemmas.List.{map-append}
use Rattle.std.specs.Global.{Vec}
use Rattle.cc_defs.specs.declared.formula.Term as kept
use Rattle.cc_defs.specs.declared.law.Head.{Head as HeadTree}
use Rattle.cc_defs.specs.declared.law.Head.TheVariants as heads
use Rattle.cc_defs.specs.Resolved.{Term, Terms, Head, Atom, plain_head, plain_term}
use Rattle.cc_defs.specs.Resolved as resolved
use Rattle.cc_defs.specs.Trees.{PlainTerm, Applied}
use Rattle.cc_laws.specs.Heads.{listed, atom, atom_meant, both_heads}
use Rattle.cc_laws.specs.Resolving.{Binding, number_in, variable_at, term_meant, resolve_term, resolve_sums}
use Rattle.cc_laws.specs.Vocabulary.{Vocabulary, Meaning, Unknown, Nothing, Object, Variable, Constant, meaning}
use Rattle.cc_laws.proofs.ActionNames.{plain_constant}
use Rattle.cc_laws.proofs.Rows.{listed_rows}

abbrev pub atom_by : Term → Term → Option (List Head)
atom_by (resolved.Constant number args) value = Some (Atom number (listed args) value ∷ [])
atom_by term value = None

no_atom : (number : Option ℕ) (value : Term) → atom_by (variable_at number) value ≡ None
no_atom (Some number) value = refl
no_atom None value = refl

atom_of : (scope : List Binding) (means : Meaning) (args : Terms) (value : Term) → atom_by (term_meant scope means args) value ≡ atom_meant means args value
atom_of scope Unknown args value = refl
atom_of scope Nothing args value = refl
atom_of scope (Object number sort) args value = refl
atom_of scope (Variable number sort) args value = no_atom (number_in scope number) value
atom_of scope (Constant number symbol) args value = refl

atom_is : (v : Vocabulary) (scope : List Binding) (term : PlainTerm) (value : Term) → atom_by (resolve_term v scope term) value ≡ atom v scope term value
atom_is v scope (Applied name args) value = atom_of scope (meaning v name) (resolve_sums v scope args) value

pub atom_added : (v : Vocabulary) (scope : List Binding) (term : PlainTerm) (value made : kept.Term) (symbol : ℕ) (args : Vec kept.Term) (given : List kept.Term) (old new : List HeadTree) →
    made ≡ kept.Constant symbol args → plain_term made ≡ resolve_term v scope term → given ≡ args.items →
    new ≡ old ++ heads.Atom symbol given value ∷ [] →
    Some (map plain_head new) ≡ both_heads (Some (map plain_head old)) (atom v scope term (plain_term value))
atom_added v scope term value made symbol args given old new is e same push =
    let one = plain_term value in
    ap (λ (l : List HeadTree). Some (map plain_head l)) push
    ∙ ap Some (map-append plain_head old (heads.Atom symbol given value ∷ []))
    ∙ ap (both_heads (Some (map plain_head old)))
    (ap (λ (l : List kept.Term). Some (Atom symbol (map plain_term l) one ∷ [])) same
    ∙ ap (λ (l : List Term). Some (Atom symbol l one ∷ [])) (sym (listed_rows args.items))
    ∙ ap (λ (t : Term). atom_by t one) (sym (plain_constant symbol args) ∙ ap plain_term (sym is) ∙ e)
    ∙ atom_is v scope term one)
