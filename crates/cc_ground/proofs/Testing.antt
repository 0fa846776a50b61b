-- Whether a formula is true: its relations, its two parts, and brackets over objects that are taken one after another.
use Rattle.std.proofs.Common.{◌≡◌, ◌∙◌, ◌⊎◌, inl, inr, ℕ, ◌+◌, ◌<◌, ◌≤◌, Bool, true, false, ◌&&◌, ◌||◌, not, List, length, drop, get_or, Option, option_map, Result, Ok, Err, IfOk, OnOk, refl, subst, sym, ap}
use Rattle.std.proofs.lemmas.Bool.{false≢true}
use Rattle.std.proofs.lemmas.List.{at_drop_more, at_drop_all}
use Rattle.std.specs.Bool.{beq}
use Rattle.std.specs.Global.{Box}
use Rattle.std.specs.List.{list_all, list_any}
use Rattle.cc_defs.specs.declared.formula.Formula as kept
use Rattle.cc_defs.specs.declared.formula.Term.{Term as TermTree}
use Rattle.cc_defs.specs.Resolved.{Formula, Term, plain_formula, plain_term}
use Rattle.cc_defs.specs.Resolved as resolved
use Rattle.cc_defs.specs.Satisfaction.{Environment, Value as Meant, bind, given_value, satisfied, term_value}
use Rattle.cc_defs.specs.Universe.{Universe, objects_of}
use Rattle.cc_sorts.specs.Tables.{TableView}
use Rattle.cc_ground.specs.declared.outermost.Joint.{Joint}
use Rattle.cc_ground.specs.declared.pieces.Sign.{Sign}
use Rattle.cc_ground.specs.declared.pieces.Sign.TheVariants as signs
use Rattle.cc_ground.specs.declared.sums.Value.{Value}
use Rattle.cc_ground.specs.Bindings.{BindingsView, environment_of}
use Rattle.cc_ground.specs.Outermost.{bracket_truth, is_for_all, joint_of, joined_truth, sign_of, stand_values}
use Rattle.cc_ground.specs.Pieces.{formula_of}
use Rattle.cc_ground.specs.Views.{bare_universe, passes_in, plain_value}
use Rattle.cc_ground.proofs.Bare.{bare_value}
use Rattle.cc_ground.proofs.Meant.{all_is, some_is, two_is}

-- ---- equations and comparisons

module _ (table : TableView) (env : Environment) (s t : Term) where
  abbrev truth_of : Formula → Bool
  truth_of f = satisfied (bare_universe table) (λ number. 0) env f

  so_valued : (join : Option Meant → Option Meant → Bool) → join (given_value (bare_universe table) env s) (given_value (bare_universe table) env t)
      ≡ join (term_value (bare_universe table) env (λ number. 0) s) (term_value (bare_universe table) env (λ number. 0) t)
  so_valued join = sym (ap (λ w. join w (term_value (bare_universe table) env (λ number. 0) t)) (bare_value table env s) ∙ ap (join (given_value (bare_universe table) env s)) (bare_value table env t))

  so_related : (sign : Sign) → stand_values sign (given_value (bare_universe table) env s) (given_value (bare_universe table) env t) ≡ truth_of (formula_of sign s t)
  so_related signs.Equal = so_valued (stand_values signs.Equal)
  so_related signs.Less = so_valued (stand_values signs.Less)
  so_related signs.AtMost = so_valued (stand_values signs.AtMost)

pub related_so : (table : TableView) (env : Environment) (sign : Sign) (s t : Term) (one other : Option Value) → option_map plain_value one ≡ given_value (bare_universe table) env s → option_map plain_value other ≡ given_value (bare_universe table) env t →
    stand_values sign (option_map plain_value one) (option_map plain_value other) ≡ satisfied (bare_universe table) (λ number. 0) env (formula_of sign s t)
related_so table env sign s t one other first second =
    ap (λ (w : Option Meant). stand_values sign w (option_map plain_value other)) first ∙ ap (stand_values sign (given_value (bare_universe table) env s)) second ∙ so_related table env s t sign

abbrev pub IsRelation : kept.Formula → TermTree → TermTree → Type 0
IsRelation whole l r = (whole ≡ kept.Equal l r) ⊎ ((whole ≡ kept.Less l r) ⊎ (whole ≡ kept.AtMost l r))

pub relation_is : (whole : kept.Formula) (sign : Sign) (l r : TermTree) → IsRelation whole l r → sign ≡ sign_of (plain_formula whole) → formula_of sign (plain_term l) (plain_term r) ≡ plain_formula whole
relation_is whole sign l r (inl is) same = ap (λ (s : Sign). formula_of s (plain_term l) (plain_term r)) (same ∙ ap (λ f. sign_of (plain_formula f)) is) ∙ sym (ap plain_formula is)
relation_is whole sign l r (inr (inl is)) same = ap (λ (s : Sign). formula_of s (plain_term l) (plain_term r)) (same ∙ ap (λ f. sign_of (plain_formula f)) is) ∙ sym (ap plain_formula is)
relation_is whole sign l r (inr (inr is)) same = ap (λ (s : Sign). formula_of s (plain_term l) (plain_term r)) (same ∙ ap (λ f. sign_of (plain_formula f)) is) ∙ sym (ap plain_formula is)

-- ---- brackets

-- with the variable bound to the object
pub passed_here : (u : Universe) (test : Formula) (env now bound : Environment) (variable object : ℕ) (passed : Bool) → passed ≡ passes_in u test bound → bound ≡ bind variable object now → now ≡ env →
    passed ≡ passes_in u test (bind variable object env)
passed_here u test env now bound variable object passed is binds same = is ∙ ap (passes_in u test) (binds ∙ ap (bind variable object) same)

differs : (passed all : Bool) → not (beq passed all) ≡ true → passed ≡ not all
differs true true e = absurd (false≢true e)
differs true false e = refl
differs false true e = refl
differs false false e = absurd (false≢true e)

agrees : (passed all : Bool) → not (beq passed all) ≡ false → passed ≡ all
agrees true true e = refl
agrees true false e = absurd (false≢true (sym e))
agrees false true e = absurd (false≢true (sym e))
agrees false false e = refl

module _ (p : ℕ → Bool) (objects : List ℕ) (i : ℕ) where
  abbrev part : Bool → List ℕ → Bool
  part all l = bracket_truth all p l

  -- where the first one of those that are left does not decide
  pub bracket_more : (all passed : Bool) → i < length objects → passed ≡ p (get_or objects i 0) → not (beq passed all) ≡ false → part all (drop i objects) ≡ part all objects → part all (drop (i + 1) objects) ≡ part all objects
  bracket_more true passed within is goes_on rest = ap (λ (b : Bool). b && list_all p (drop (i + 1) objects)) (sym (agrees passed true goes_on) ∙ is) ∙ sym (at_drop_more (list_all p) objects i 0 within) ∙ rest
  bracket_more false passed within is goes_on rest = ap (λ (b : Bool). b || list_any p (drop (i + 1) objects)) (sym (agrees passed false goes_on) ∙ is) ∙ sym (at_drop_more (list_any p) objects i 0 within) ∙ rest

  -- where it decides
  pub bracket_stop : (all passed : Bool) → i < length objects → passed ≡ p (get_or objects i 0) → not (beq passed all) ≡ true → part all (drop i objects) ≡ part all objects → passed ≡ part all objects
  bracket_stop true passed within is stops rest =
      let ends = differs passed true stops in
      ends ∙ ap (λ (b : Bool). b && list_all p (drop (i + 1) objects)) (sym ends ∙ is) ∙ sym (at_drop_more (list_all p) objects i 0 within) ∙ rest
  bracket_stop false passed within is stops rest =
      let ends = differs passed false stops in
      ends ∙ ap (λ (b : Bool). b || list_any p (drop (i + 1) objects)) (sym ends ∙ is) ∙ sym (at_drop_more (list_any p) objects i 0 within) ∙ rest

  -- where none is left
  pub bracket_end : (all : Bool) → length objects ≤ i → part all (drop i objects) ≡ part all objects → all ≡ part all objects
  bracket_end true past rest = sym (at_drop_all (list_all p) objects i past) ∙ rest
  bracket_end false past rest = sym (at_drop_all (list_any p) objects i past) ∙ rest

abbrev pub IsBracket : kept.Formula → ℕ → ℕ → Box kept.Formula → Type 0
IsBracket whole variable sort box = (whole ≡ kept.ForAll variable sort box) ⊎ (whole ≡ kept.Exists variable sort box)

pub bracket_is_true : (u : Universe) (env : Environment) (whole inner : kept.Formula) (variable sort : ℕ) (box : Box kept.Formula) (all : Bool) → IsBracket whole variable sort box → inner ≡ box.value → all ≡ is_for_all (plain_formula whole) →
    bracket_truth all (λ object. passes_in u (plain_formula inner) (bind variable object env)) (objects_of u sort) ≡ passes_in u (plain_formula whole) env
bracket_is_true u env whole inner variable sort box all (inl is) same for_all =
    let it = all_is whole inner variable sort box is same in
    ap (λ (b : Bool). bracket_truth b (λ object. passes_in u (plain_formula inner) (bind variable object env)) (objects_of u sort)) (for_all ∙ ap is_for_all it) ∙ sym (ap (λ f. passes_in u f env) it)
bracket_is_true u env whole inner variable sort box all (inr is) same for_all =
    let it = some_is whole inner variable sort box is same in
    ap (λ (b : Bool). bracket_truth b (λ object. passes_in u (plain_formula inner) (bind variable object env)) (objects_of u sort)) (for_all ∙ ap is_for_all it) ∙ sym (ap (λ f. passes_in u f env) it)

-- ---- formulas of two

abbrev pub IsOfTwo : kept.Formula → Box kept.Formula → Box kept.Formula → Type 0
IsOfTwo whole l r = (whole ≡ kept.Both l r) ⊎ ((whole ≡ kept.Either l r) ⊎ ((whole ≡ kept.Implies l r) ⊎ (whole ≡ kept.Same l r)))

module _ (u : Universe) (env : Environment) (whole f g : kept.Formula) (l r : Box kept.Formula) where
  abbrev here : kept.Formula → Bool
  here h = passes_in u (plain_formula h) env

  joined_so : (joint : Joint) (all : Formula) → joint ≡ joint_of (plain_formula whole) → plain_formula whole ≡ all → joined_truth (joint_of all) (here f) (here g) ≡ passes_in u all env → joined_truth joint (here f) (here g) ≡ here whole
  joined_so joint all is it so = ap (λ (j : Joint). joined_truth j (here f) (here g)) (is ∙ ap joint_of it) ∙ so ∙ sym (ap (λ w. passes_in u w env) it)

  pub two_true : (joint : Joint) → IsOfTwo whole l r → joint ≡ joint_of (plain_formula whole) → f ≡ l.value → g ≡ r.value → joined_truth joint (here f) (here g) ≡ here whole
  two_true joint (inl is) same first second = joined_so joint _ same (two_is kept.Both resolved.Both whole f g l r refl is first second) refl
  two_true joint (inr (inl is)) same first second = joined_so joint _ same (two_is kept.Either resolved.Either whole f g l r refl is first second) refl
  two_true joint (inr (inr (inl is))) same first second = joined_so joint _ same (two_is kept.Implies resolved.Implies whole f g l r refl is first second) refl
  two_true joint (inr (inr (inr is))) same first second = joined_so joint _ same (two_is kept.Same resolved.Same whole f g l r refl is first second) refl

-- the second part behind the first one, which has this truth
pub then_second : {E : Type 0} (u : Universe) (old mid : BindingsView) (whole f g : kept.Formula) (l r : Box kept.Formula) (joint : Joint) (first : Bool) (result : Result Bool E) → IsOfTwo whole l r → joint ≡ joint_of (plain_formula whole) →
    f ≡ l.value → g ≡ r.value → mid ≡ old → first ≡ passes_in u (plain_formula f) (environment_of old) → IfOk result (λ passed. passed ≡ joined_truth joint first (passes_in u (plain_formula g) (environment_of mid))) →
    IfOk result (λ passed. passed ≡ passes_in u (plain_formula whole) (environment_of old))
then_second u old mid whole f g l r joint first (Err error) two is fv gv same one other = tt
then_second u old mid whole f g l r joint first (Ok passed) two is fv gv same one other =
    other
    ∙ ap (λ (w : BindingsView). joined_truth joint first (passes_in u (plain_formula g) (environment_of w))) same
    ∙ ap (λ (b : Bool). joined_truth joint b (passes_in u (plain_formula g) (environment_of old))) one
    ∙ two_true u (environment_of old) whole f g l r joint two is fv gv
