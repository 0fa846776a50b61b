-- The laws of a law without a fault have the forms of their kinds, those with heads of any form too.
use Rattle.std.proofs.Common.{◌≡◌, ◌∙◌, inl, ℕ, Bool, true, false, not, ◌||◌, List, [], ◌∷◌, ◌++◌, map, Option, Some, None, refl, sym, ap, subst}
use Rattle.std.specs.Prelude.{if◌then◌else◌}
use Rattle.std.specs.List.{AllByRecursion, list_any, list_all}
use Rattle.std.proofs.lemmas.Bool.{and_parts, not-false, or_parts}
use Rattle.cc_defs.specs.declared.signature.Symbol.{Symbol}
use Rattle.cc_defs.specs.Forms.{HaveForms}
use Rattle.cc_defs.specs.Refusals.{least, refused_if}
use Rattle.cc_defs.specs.Trees.{PlainTerm, PlainTree, PlainLaw}
use Rattle.cc_defs.specs.Trees as trees
use Rattle.cc_wide.specs.WideForms.{HaveWideForms}
use Rattle.cc_laws.specs.Expansion.{Caused, Frame, Exogenous, Inertial, both, caused, part_acts, effect, law_frame, laws_with, laws_in}
use Rattle.cc_laws.specs.FormulaFaults.{is_fluent_formula, is_action_formula, is_miscounted, has_miscounted, has_misfit, has_constant, term_has, term_meaning, term_misfits}
use Rattle.cc_laws.specs.FreeVariables.{optional}
use Rattle.cc_laws.specs.LawFaults.{formulas, subject, subject_satisfies, subject_misfits, law_variables, lacks_form, has_determined_head, has_indefinite_head, law_faults, part_fault}
use Rattle.cc_laws.specs.Shortened.{law_short_for, other_laws}
use Rattle.cc_laws.specs.Vocabulary.{Vocabulary, Constant, is_action_constant, is_determined_constant}
use Rattle.cc_laws.specs.Widening.{wide_faults, wide_laws, wide_part_fault, whole_short, widened}
use Rattle.cc_laws.proofs.EachOf.{each_front}
use Rattle.cc_laws.proofs.FormsOfSplits.{AreFormed, Fits, GoesOn, acts_not, base_forms, both_act_not, fluent_fits, of_actions, optional_acts_not, plain_fits, simple_kind, split_formed, whole_formed, wide_forms}
use Rattle.cc_laws.proofs.FormsOfValues.{MayLast, subject_forms}
use Rattle.cc_laws.proofs.Shortened.{by_short, shortened}

-- ---- what no check refuses

abbrev IsNone : ℕ × Bool → Type 0
IsNone test = test.1 ≡ false

none_of : (tests : List (ℕ × Bool)) → least tests ≡ None → AllByRecursion IsNone tests
none_of [] e = tt
none_of ((number, true) ∷ tests) e = absurd cc
none_of ((number, false) ∷ tests) e = (refl, none_of tests e)

pub no_number : (file line : ℕ) (fault : Option ℕ) → refused_if file line fault ≡ None → fault ≡ None
no_number file line None e = refl
no_number file line (Some number) e = absurd cc

record HasNoFault (v : Vocabulary) (law : PlainLaw) : Type 0 where
  counted : subject_satisfies (term_has v is_miscounted) (subject law) ≡ false
  fits : subject_satisfies (subject_misfits v) (subject law) ≡ false
  form : lacks_form v law ≡ false
  undetermined : has_determined_head v law ≡ false

has_no_fault : (v : Vocabulary) (law : PlainLaw) (tests : List PlainTree) → AllByRecursion IsNone (wide_faults v law tests) → HasNoFault v law
has_no_fault v law tests each =
    let miscounted = each.1.0 in
    let misfit = each.1.1.0 in
    record {
      counted = (or_parts (list_any (has_miscounted v) (formulas law ++ tests)) (subject_satisfies (term_has v is_miscounted) (subject law)) miscounted).1;
      fits = (or_parts (list_any (has_misfit v) (formulas law ++ tests)) (subject_satisfies (subject_misfits v) (subject law))
          (or_parts (list_any (has_misfit v) (formulas law ++ tests) || subject_satisfies (subject_misfits v) (subject law)) (list_any (has_constant v) tests) misfit).0).1;
      form = each.1.1.1.1.0;
      undetermined = each.1.1.1.1.1.0;
    }

-- ---- law by law

module _ (v : Vocabulary) (symbols : List Symbol) (goes : GoesOn v.symbols symbols) (frame : Frame) where
  -- a default says its head in its body too
  default_acts_not : (f : PlainTree) (g : Option PlainTree) → list_all (is_fluent_formula v) (f ∷ optional g) ≡ true → part_acts v (Some (both f g)) ≡ false
  default_acts_not f g e =
      let parts = and_parts (is_fluent_formula v f) (list_all (is_fluent_formula v) (optional g)) e in
      both_act_not v symbols goes f g (acts_not v symbols goes f parts.0) (optional_acts_not v symbols goes g parts.1)

  causes_fits : (a f : PlainTree) (g : Option PlainTree) → HasNoFault v (trees.Causes a f g) → Fits v symbols goes (effect (is_fluent_formula v f) a f g)
  causes_fits a f g none = choose (is_fluent_formula v f) refl (not-false _ (or_parts (not (is_action_formula v a)) _ none.form).1)
    where
      choose : (fluent : Bool) → is_fluent_formula v f ≡ fluent → (fluent || is_action_formula v f) ≡ true → Fits v symbols goes (effect fluent a f g)
      choose true is one = (acts_not v symbols goes f is, refl, none.undetermined)
      choose false is one = of_actions v symbols goes f (Some (both a g)) one

  may_cause_fits : (a f : PlainTree) (g : Option PlainTree) → HasNoFault v (trees.MayCause a f g) → Fits v symbols goes (caused (Some f) (Some f) (Some (both a g)))
  may_cause_fits a f g none =
      let fluent = acts_not v symbols goes f (not-false (is_fluent_formula v f) (or_parts (not (is_action_formula v a)) (not (is_fluent_formula v f)) none.form).1) in
      (fluent, fluent, none.undetermined)

  inertial_may : (c : PlainTerm) → is_action_constant (term_meaning v c) ≡ false → is_determined_constant (term_meaning v c) ≡ false →
      (number : ℕ) (symbol : Symbol) → term_meaning v c ≡ Constant number symbol → MayLast Inertial symbol
  inertial_may c acts determined number symbol e =
      simple_kind symbol.kind (ap is_action_constant (sym e) ∙ acts) (ap is_determined_constant (sym e) ∙ determined)

  -- a law that is short for another, or the base laws of one that is not
  abbrev IsFit : PlainLaw → Option Caused → Type 0
  IsFit law (Some short) = Fits v symbols goes short
  IsFit law None = AreFormed symbols (other_laws v frame law)

  law_fits : (law : PlainLaw) → HasNoFault v law → IsFit law (law_short_for v law)
  law_fits (trees.Exogenous c) none = subject_forms v symbols goes frame Exogenous c none.counted (or_parts _ (term_misfits v c) none.fits).1 (λ number symbol e. tt)
  law_fits (trees.Inertial c) none = subject_forms v symbols goes frame Inertial c none.counted (or_parts _ (term_misfits v c) none.fits).1 (inertial_may c none.form none.undetermined)
  law_fits trees.NoConcurrency none = ((tt, tt), tt)
  law_fits (trees.Caused f g None) none = plain_fits v symbols goes f (optional g) g (optional_acts_not v symbols goes g) (not-false _ none.form)
  law_fits (trees.Caused f g (Some h)) none = fluent_fits v symbols goes f (optional g) g h (optional_acts_not v symbols goes g) (not-false _ none.form) none.undetermined
  law_fits (trees.Constraint f) none = inl (refl, none.form)
  law_fits (trees.Always f) none = (refl, refl, refl)
  law_fits (trees.Nonexecutable f g) none = (refl, refl, refl)
  law_fits (trees.Default f g None) none = plain_fits v symbols goes f (f ∷ optional g) (Some (both f g)) (default_acts_not f g) (not-false _ none.form)
  law_fits (trees.Default f g (Some h)) none = fluent_fits v symbols goes f (f ∷ optional g) (Some (both f g)) h (default_acts_not f g) (not-false _ none.form) none.undetermined
  law_fits (trees.Causes a f g) none = causes_fits a f g none
  law_fits (trees.MayCause a f g) none = may_cause_fits a f g none

  short_formed : (law : PlainLaw) (short : Option Caused) → IsFit law short → AreFormed symbols (by_short v frame law short)
  short_formed law (Some short) fits = split_formed v symbols goes frame short fits
  short_formed law None formed = formed

  laws_formed : (law : PlainLaw) → HasNoFault v law → AreFormed symbols (laws_with v frame law)
  laws_formed law none = subst (AreFormed symbols) (shortened v frame law) (short_formed law (law_short_for v law) (law_fits law none))

  whole_short_formed : (law : PlainLaw) (short : Option Caused) → IsFit law short → HaveWideForms symbols (whole_short v frame short)
  whole_short_formed law (Some short) fits = whole_formed v symbols goes frame short fits
  whole_short_formed law None formed = tt

module _ (v : Vocabulary) (symbols : List Symbol) (goes : GoesOn v.symbols symbols) (file line : ℕ) (law : PlainLaw) (test : Option PlainTree) where
  abbrev frame : Frame
  frame = law_frame file v line (law_variables v law) test

  pub law_forms : part_fault v (trees.Law law test) ≡ None → HaveForms symbols (laws_in file v line law test)
  law_forms none =
      let tests = optional test in
      let each = each_front IsNone (wide_faults v law tests) ((11, has_indefinite_head v law) ∷ []) (none_of (law_faults v law tests) none) in
      base_forms symbols (laws_in file v line law test) (laws_formed v symbols goes frame law (has_no_fault v law tests each))

  pub wide_law_forms : wide_part_fault v (trees.Law law test) ≡ None → HaveWideForms symbols (wide_laws file v line (trees.Law law test))
  wide_law_forms none = choose (has_indefinite_head v law)
    where
      faultless : HasNoFault v law
      faultless = has_no_fault v law (optional test) (none_of (wide_faults v law (optional test)) none)

      choose : (whole : Bool) → HaveWideForms symbols (if whole then whole_short v frame (law_short_for v law) else map widened (laws_in file v line law test))
      choose true = whole_short_formed v symbols goes frame law (law_short_for v law) (law_fits v symbols goes frame law faultless)
      choose false = wide_forms symbols (laws_in file v line law test) (laws_formed v symbols goes frame law faultless)
