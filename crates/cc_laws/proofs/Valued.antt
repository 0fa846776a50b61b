-- The law about each value of a constant, by what it is made of.
use Rattle.std.proofs.Common.{◌≡◌, ◌∙◌, ℕ, ◌+◌, List, [], ◌∷◌, ◌++◌, length, map, sym, ap}
use Rattle.std.specs.Prelude.{Option}
use Rattle.cc_defs.specs.declared.formula.Term as kept
use Rattle.cc_defs.specs.declared.law.Range.{Range}
use Rattle.cc_defs.specs.declared.law.Range.TheVariants as ranges
use Rattle.cc_defs.specs.Resolved.{Term, Formula, BaseLaw, plain_term, plain_formula}
use Rattle.cc_defs.specs.Resolved as resolved
use Rattle.cc_laws.specs.Expansion.{Persistence}
use Rattle.cc_laws.specs.Expansion as words
use Rattle.cc_laws.specs.Heads.{listed}
use Rattle.cc_laws.specs.Resolving.{Binding, numbered_from}
use Rattle.cc_laws.specs.Views.{row_terms, inside, scope_of}
use Rattle.cc_laws.specs.Vocabulary.{Vocabulary}
use Rattle.cc_laws.proofs.Rows.{listed_rows}
use Rattle.std.specs.Global.{Vec}
use Rattle.cc_defs.specs.Trees.{PlainTree}
use Rattle.cc_laws.specs.declared.names.Binding.{Binding as KeptBinding}
use Rattle.cc_laws.specs.declared.names.Names.{Names}
use Rattle.cc_defs.specs.declared.formula.Formula.{Formula as Kept}

abbrev pub frame_with : List Range → Formula → List Binding → ℕ → ℕ → ℕ → words.Frame
frame_with over test scope next file line = record { ranges = over; test = test; scope = scope; next = next; file = file; line = line }

abbrev pub equal_to : ℕ → List kept.Term → ℕ → Formula
equal_to symbol args variable = resolved.Equal (resolved.Constant symbol (row_terms args)) (resolved.Variable variable)

abbrev built : Vocabulary → Formula → List Binding → ℕ → ℕ → ℕ → ℕ → List Range → List Term → ℕ → Formula → Option Formula → BaseLaw
built v test scope next file line symbol over args variable body after =
    words.base_law v (frame_with over test scope next file line) (resolved.Atom symbol args (resolved.Variable variable)) body after

pub value_made : (v : Vocabulary) (over pushed : List Range) (test : Formula) (scope : List Binding) (next file line : ℕ) (p : Persistence) (symbol : ℕ) (args given : List kept.Term) (variable : ℕ) (body : Formula) (after : Option Formula) (made : BaseLaw) →
    pushed ≡ over ++ ranges.Domain symbol ∷ [] → given ≡ args → variable ≡ length over →
    body ≡ words.body_of p (equal_to symbol args variable) →
    after ≡ words.after_of p (equal_to symbol args variable) →
    made ≡ built v test scope next file line symbol pushed (map plain_term given) variable body after →
    made ≡ words.value_law v (frame_with over test scope next file line) p symbol (row_terms args)
value_made v over pushed test scope next file line p symbol args given variable body after made push same here is_body is_after e =
    let all = over ++ ranges.Domain symbol ∷ [] in
    let terms = listed (row_terms args) in
    e
    ∙ ap (λ (w : List Range). built v test scope next file line symbol w (map plain_term given) variable body after) push
    ∙ ap (λ (w : List kept.Term). built v test scope next file line symbol all (map plain_term w) variable body after) same
    ∙ ap (λ (w : List Term). built v test scope next file line symbol all w variable body after) (sym (listed_rows args))
    ∙ ap (λ (w : Formula). built v test scope next file line symbol all terms variable w after) is_body
    ∙ ap (λ (w : Option Formula). built v test scope next file line symbol all terms variable (words.body_of p (equal_to symbol args variable)) w) is_after
    ∙ ap (λ (n : ℕ). built v test scope next file line symbol all terms n (words.body_of p (equal_to symbol args n)) (words.after_of p (equal_to symbol args n))) here

-- ---- what the base laws of a law, or of a constant, have in common

pub law_framed : (file line : ℕ) (v : Vocabulary) (variables : List ℕ) (tree : Option PlainTree) (old new : Names) (over : Vec Range) (test : Kept) →
    scope_of old ≡ numbered_from 0 variables → old.next ≡ length variables + 1 → over.items ≡ words.sort_ranges v variables →
    plain_formula test ≡ words.part v (scope_of old) old.next tree → new.bindings.items ≡ old.bindings.items → new.next ≡ old.next + words.part_brackets tree →
    frame_with over.items (plain_formula test) (scope_of new) new.next file line ≡ words.law_frame file v line variables tree
law_framed file line v variables tree old new over test here first all one kept next =
    let scope = numbered_from 0 variables in
    let formula = words.part v scope (length variables + 1) tree in
    ap (λ (w : List Range). frame_with w (plain_formula test) (scope_of new) new.next file line) all
    ∙ ap (λ (w : Formula). frame_with (words.sort_ranges v variables) w (scope_of new) new.next file line)
    (one ∙ ap (λ (s : List Binding). words.part v s old.next tree) here ∙ ap (λ (n : ℕ). words.part v scope n tree) first)
    ∙ ap (λ (w : List Binding). frame_with (words.sort_ranges v variables) formula w new.next file line) (ap (inside []) kept ∙ here)
    ∙ ap (λ (n : ℕ). frame_with (words.sort_ranges v variables) formula scope n file line) (next ∙ ap (λ (n : ℕ). n + words.part_brackets tree) first)

pub shape_framed : (file line : ℕ) (sorts : List ℕ) (bindings : List KeptBinding) (over : Vec Range) → bindings ≡ [] → over.items ≡ map ranges.Sort sorts →
    frame_with over.items resolved.Truth (inside [] bindings) (length sorts + 1) file line ≡ words.shape_frame file line sorts
shape_framed file line sorts bindings over none all =
    ap (λ (w : List Range). frame_with w resolved.Truth (inside [] bindings) (length sorts + 1) file line) all
    ∙ ap (λ (w : List KeptBinding). frame_with (map ranges.Sort sorts) resolved.Truth (inside [] w) (length sorts + 1) file line) none
