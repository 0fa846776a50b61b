-- The limits of clauses with one literal more.
use Rattle.std.proofs.Common.{◌≡◌, ◌∙◌, ℕ, ◌<◌, ◌≤◌, Bool, true, false, List, [], ◌∷◌, ◌++◌, length, Option, Some, None, Result, Ok, Err, IfErr, IsErrAnd, slice_get, sym, ap, subst, refl, arith, length-append}
use Rattle.std.specs.Prelude.{if◌then◌else◌}
use Rattle.std.proofs.lemmas.Bool.{lt-ltb, le-ltb}
use Rattle.std.proofs.lemmas.List.Elements.{All-append, All-from_recursion, Contains-append_left}
use Rattle.cc_defs.specs.declared.refusal.Fault.{Fault}
use Rattle.cc_defs.specs.declared.refusal.LimitAt.TheVariants as limits
use Rattle.cc_defs.specs.declared.refusal.Refusal.{Refusal}
use Rattle.cc_defs.specs.ClauseForms.{atom_variable, positive}
use Rattle.cc_defs.specs.Clauses.{Literal, IsClause, IsOver}
use Rattle.cc_defs.specs.Refusals.{IsRefusedBy, past}
use Rattle.cc_defs.specs.Sections.{Axioms}
use Rattle.cc_defs.specs.Terms.{Fits}
use Rattle.cc_defs.specs.declared.node.Node.TheVariants as nodes
use Rattle.cc_form.specs.Building.{count_refusal}
use Rattle.cc_form.specs.Forms.{IsForm, with_atom}
use Rattle.cc_form.specs.Store.{literal_count_of}
use Rattle.cc_form.proofs.Keeping.{counted_behind}
use Rattle.cc_form.proofs.Positions.{atom_below, atom_some}

module _ (first second : Refusal) where
  none_of : (many long : Bool) → many ≡ false → long ≡ false → (if many then Some first else (if long then Some second else None)) ≡ None
  none_of false false few short = refl
  none_of false true few short = absurd cc
  none_of true long few short = absurd cc

  second_of : (many long : Bool) → many ≡ false → long ≡ true → (if many then Some first else (if long then Some second else None)) ≡ Some second
  second_of false true few is = refl
  second_of false false few is = absurd cc
  second_of true long few is = absurd cc

module _ (xs : List (List Literal)) (literal : Literal) where
  pub one_fits : length xs < 8000000 → literal_count_of xs < 40000000 → count_refusal (xs ++ (literal ∷ []) ∷ []) ≡ None
  one_fits few short =
      let long = length-append xs ((literal ∷ []) ∷ []) in
      let all = counted_behind xs ((literal ∷ []) ∷ []) in
      none_of (past limits.AxiomClauses) (past limits.AxiomLiterals) _ _ (le-ltb 8000000 (length (xs ++ (literal ∷ []) ∷ [])) (omega arith))
      (le-ltb 40000000 (literal_count_of (xs ++ (literal ∷ []) ∷ [])) (omega arith))

  pub one_too_long : length xs < 8000000 → 40000000 ≤ literal_count_of xs → count_refusal (xs ++ (literal ∷ []) ∷ []) ≡ Some (past limits.AxiomLiterals)
  one_too_long few most =
      let long = length-append xs ((literal ∷ []) ∷ []) in
      let all = counted_behind xs ((literal ∷ []) ∷ []) in
      second_of (past limits.AxiomClauses) (past limits.AxiomLiterals) _ _ (le-ltb 8000000 (length (xs ++ (literal ∷ []) ∷ [])) (omega arith))
      (lt-ltb 40000000 (literal_count_of (xs ++ (literal ∷ []) ∷ [])) (omega arith))

-- ---- a form with an atom more

pub atom_behind : (form : Axioms) (position value : ℕ) → IsForm form → Fits form.sizes (nodes.Atom position value) → length form.clauses < 8000000 →
    IsForm (with_atom form position value)
atom_behind form position value is fits few =
    let below = atom_below form.sizes position value fits in
    let some = atom_some form.sizes position value in
    let least = is.axioms.least in
    let long = length-append form.clauses ((positive (atom_variable form.sizes position value) ∷ []) ∷ []) in
    record {
      axioms = record {
        each = All-append IsClause form.clauses _ is.axioms.each (All-from_recursion IsClause ((positive (atom_variable form.sizes position value) ∷ []) ∷ []) (tt, tt));
        over = All-append (IsOver form.variables) form.clauses _ is.axioms.over
            (All-from_recursion (IsOver form.variables) ((positive (atom_variable form.sizes position value) ∷ []) ∷ []) ((omega arith, omega arith, tt), tt));
        least = least;
        choices = λ clause there. Contains-append_left form.clauses _ clause (is.axioms.choices clause there);
      };
      count = omega arith;
      most = is.most;
    }

-- the same of the fields, each as it was copied
pub atom_placed : (sizes copy : List ℕ) (variables : ℕ) (clauses copied made : List (List Literal)) (position value : ℕ) (literal : Literal) (form : Axioms) →
    record { sizes = sizes; variables = variables; clauses = clauses } ≡ form → IsForm (record { sizes = sizes; variables = variables; clauses = clauses }) →
    copy ≡ sizes → copied ≡ clauses → made ≡ copied ++ (literal ∷ []) ∷ [] → literal ≡ positive (atom_variable sizes position value) →
    ((size : ℕ) × (slice_get form.sizes position ≡ Some size) × (value < size)) → length clauses < 8000000 →
    IsForm (record { sizes = copy; variables = variables; clauses = made })
atom_placed sizes copy variables clauses copied made position value literal form view is copy_is copied_is made_is literal_is (size, at, less) few =
    let all : made ≡ clauses ++ (positive (atom_variable sizes position value) ∷ []) ∷ [] =
    made_is ∙ ap (λ (l : List (List Literal)). l ++ (literal ∷ []) ∷ []) copied_is ∙ ap (λ (l : Literal). clauses ++ (l ∷ []) ∷ []) literal_is in
    let fits : Fits sizes (nodes.Atom position value) = (size, ap (λ (a : Axioms). slice_get a.sizes position) view ∙ at, less) in
    subst (λ (s : List ℕ). IsForm (record { sizes = s; variables = variables; clauses = made })) (sym copy_is)
    (subst (λ (l : List (List Literal)). IsForm (record { sizes = sizes; variables = variables; clauses = l })) (sym all)
    (atom_behind (record { sizes = sizes; variables = variables; clauses = clauses }) position value is fits few))

pub errs_as : {T : Type 0} (r : Result T Fault) (fault : Fault) (refusal : Option Refusal) → IsErrAnd r (λ given. given ≡ fault) → IsRefusedBy refusal fault → IfErr r (IsRefusedBy refusal)
errs_as (Ok done) fault refusal is refused = tt
errs_as (Err given) fault refusal is refused = subst (IsRefusedBy refusal) (sym is) refused
