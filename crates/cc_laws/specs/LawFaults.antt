-- The faults of a law, one definition for each number, and its refusal.
use Rattle.std.specs.Prelude.{ℕ, Bool, false, not, ◌&&◌, ◌||◌, List, [], ◌∷◌, ◌++◌, flat_map, Option, Some, None, is_some}
use Rattle.std.specs.List.{list_any, list_all}
use Rattle.cc_defs.specs.declared.refusal.Refusal.{Refusal}
use Rattle.cc_defs.specs.Trees.{PlainTerm, PlainTree, PlainLaw, PlainPart, PlainStatement}
use Rattle.cc_defs.specs.Trees as trees
use Rattle.cc_defs.specs.Refusals.{least, refused_if}
use Rattle.cc_laws.specs.FormulaFaults.{term_has, is_unknown_name, is_miscounted, has_unknown, has_miscounted, has_misfit, term_misfits, term_meaning, has_constant, has_action, has_determined, is_fluent_formula, is_action_formula}
use Rattle.cc_laws.specs.FreeVariables.{optional, some_is_new, free, firsts, term_variables}
use Rattle.cc_laws.specs.Heads.{definite_heads}
use Rattle.cc_laws.specs.Vocabulary.{Vocabulary, is_constant, is_action_constant, is_determined_constant}

-- ---- the parts of a law, in the order of its text

abbrev pub formulas : PlainLaw → List PlainTree
formulas (trees.Caused f g h) = f ∷ optional g ++ optional h
formulas (trees.Constraint f) = f ∷ []
formulas (trees.Always f) = f ∷ []
formulas (trees.Nonexecutable f g) = f ∷ optional g
formulas (trees.Default f g h) = f ∷ optional g ++ optional h
formulas (trees.Exogenous c) = []
formulas (trees.Inertial c) = []
formulas (trees.Causes a f g) = a ∷ f ∷ optional g
formulas (trees.MayCause a f g) = a ∷ f ∷ optional g
formulas trees.NoConcurrency = []

-- what is exogenous or inertial
abbrev pub subject : PlainLaw → Option PlainTerm
subject (trees.Exogenous c) = Some c
subject (trees.Inertial c) = Some c
subject law = None

abbrev pub subject_satisfies : (PlainTerm → Bool) → Option PlainTerm → Bool
subject_satisfies test None = false
subject_satisfies test (Some c) = test c

-- ---- 5 and 6: names that are unknown, or have another number of arguments

abbrev pub law_has_unknown : Vocabulary → PlainLaw → List PlainTree → Bool
law_has_unknown v law tests = list_any (has_unknown v) (formulas law ++ tests) || subject_satisfies (term_has v is_unknown_name) (subject law)

abbrev pub law_has_miscounted : Vocabulary → PlainLaw → List PlainTree → Bool
law_has_miscounted v law tests = list_any (has_miscounted v) (formulas law ++ tests) || subject_satisfies (term_has v is_miscounted) (subject law)

-- ---- 7: what does not fit; in a `where` test a constant does not, and what is exogenous or inertial is a constant

abbrev pub subject_misfits : Vocabulary → PlainTerm → Bool
subject_misfits v c = not (is_constant (term_meaning v c)) || term_misfits v c

abbrev pub law_misfits : Vocabulary → PlainLaw → List PlainTree → Bool
law_misfits v law tests =
    (list_any (has_misfit v) (formulas law ++ tests) || subject_satisfies (subject_misfits v) (subject law)) || list_any (has_constant v) tests

-- ---- 8: the test has a variable that is not free in the law before it

abbrev pub subject_variables : Vocabulary → Option PlainTerm → List ℕ
subject_variables v None = []
subject_variables v (Some c) = term_variables v c

-- the free occurrences of variables before `where`, in the order of the text
abbrev pub occurrences : Vocabulary → PlainLaw → List ℕ
occurrences v law = flat_map (free v []) (formulas law) ++ subject_variables v (subject law)

-- the variables of a law: those that are free in it, in the order of their first free occurrences before `where`
abbrev pub law_variables : Vocabulary → PlainLaw → List ℕ
law_variables v law = firsts (occurrences v law)

abbrev pub has_unbound : Vocabulary → List ℕ → PlainTree → Bool
has_unbound v variables test = some_is_new variables (free v [] test)

-- ---- 9: the three forms of laws, and the parts of abbreviations

-- `caused F if G` of fluents, or of an action formula F and any G
abbrev pub has_plain_form : Vocabulary → PlainTree → List PlainTree → Bool
has_plain_form v f g = (is_fluent_formula v f && list_all (is_fluent_formula v) g) || is_action_formula v f

-- `caused F if G after H`, F and G of fluents
abbrev pub has_fluent_form : Vocabulary → PlainTree → List PlainTree → Bool
has_fluent_form v f g = is_fluent_formula v f && list_all (is_fluent_formula v) g

abbrev pub has_form : Vocabulary → PlainTree → List PlainTree → Option PlainTree → Bool
has_form v f g None = has_plain_form v f g
has_form v f g (Some h) = has_fluent_form v f g

abbrev pub lacks_form : Vocabulary → PlainLaw → Bool
lacks_form v (trees.Caused f g h) = not (has_form v f (optional g) h)
lacks_form v (trees.Constraint f) = has_action v f
lacks_form v (trees.Always f) = false
lacks_form v (trees.Nonexecutable f g) = not (is_action_formula v f)
lacks_form v (trees.Default f g h) = not (has_form v f (f ∷ optional g) h)
lacks_form v (trees.Exogenous c) = false
lacks_form v (trees.Inertial c) = is_action_constant (term_meaning v c)
lacks_form v (trees.Causes a f g) = not (is_action_formula v a) || not (is_fluent_formula v f || is_action_formula v f)
lacks_form v (trees.MayCause a f g) = not (is_action_formula v a) || not (is_fluent_formula v f)
lacks_form v trees.NoConcurrency = false

-- ---- 10: the head of a fluent dynamic law has a statically determined fluent

abbrev pub has_determined_after : Vocabulary → PlainTree → Option PlainTree → Bool
has_determined_after v f None = false
has_determined_after v f (Some h) = has_determined v f

abbrev pub has_determined_head : Vocabulary → PlainLaw → Bool
has_determined_head v (trees.Caused f g h) = has_determined_after v f h
has_determined_head v (trees.Default f g h) = has_determined_after v f h
has_determined_head v (trees.Inertial c) = is_determined_constant (term_meaning v c)
has_determined_head v (trees.Causes a f g) = has_determined v f
has_determined_head v (trees.MayCause a f g) = has_determined v f
has_determined_head v law = false

-- ---- 11: a head that is not definite

abbrev pub is_definite : Vocabulary → PlainTree → Bool
is_definite v formula = is_some (definite_heads v [] formula)

abbrev pub has_indefinite_head : Vocabulary → PlainLaw → Bool
has_indefinite_head v (trees.Caused f g h) = not (is_definite v f)
has_indefinite_head v (trees.Default f g h) = not (is_definite v f)
has_indefinite_head v (trees.Causes a f g) = not (is_definite v f)
has_indefinite_head v (trees.MayCause a f g) = not (is_definite v f)
has_indefinite_head v law = false

-- ---- the least number that has a fault

abbrev pub law_faults : Vocabulary → PlainLaw → List PlainTree → List (ℕ × Bool)
law_faults v law tests =
    (5, law_has_unknown v law tests)
    ∷ (6, law_has_miscounted v law tests)
    ∷ (7, law_misfits v law tests)
    ∷ (8, list_any (has_unbound v (law_variables v law)) tests)
    ∷ (9, lacks_form v law)
    ∷ (10, has_determined_head v law)
    ∷ (11, has_indefinite_head v law) ∷ []

-- only a law has such faults
abbrev pub part_fault : Vocabulary → PlainPart → Option ℕ
part_fault v (trees.Law law test) = least (law_faults v law (optional test))
part_fault v part = None

-- the refusal of a law, if there is one
abbrev pub law_refusal : ℕ → Vocabulary → PlainStatement → Option Refusal
law_refusal file v statement = refused_if file statement.line (part_fault v statement.part)
