-- The rows of a clause list are those that meet the completion and the conditions, do not meet the claim, and lie after the key.
use Rattle.std.proofs.Common.{◌≡◌, ◌∙◌, ℕ, zero, suc, ◌+◌, ◌<◌, inl, inr, Bool, true, false, not, ◌&&◌, List, [], ◌∷◌, ◌++◌, slice_get, Option, Some, None, refl, sym, ap, subst, arith, append_assoc, IsFalse, IsTrue}
use Rattle.std.specs.Prelude.{◌==◌, IfSome, slice_index}
use Rattle.std.specs.List.{list_all, list_any, filter, AllByRecursion}
use Rattle.std.proofs.lemmas.Bool.{eqb-true, eq-eqb}
use Rattle.cc_defs.specs.declared.lists.Key.{Key}
use Rattle.cc_defs.specs.declared.node.GroundHead.{GroundHead}
use Rattle.cc_defs.specs.declared.node.GroundHead.TheVariants as heads
use Rattle.cc_defs.specs.ClauseForms.{all_written, atom_variable, true_variable}
use Rattle.cc_defs.specs.ClauseLists.{Asserted, MadeRules, assert_all, bodies_of, completion_from, denials_of, deny, is_certain, is_falsity, is_of_atom, key_terms, made_rules, rules_that_count}
use Rattle.cc_defs.specs.Clauses.{Literal, IsIn}
use Rattle.cc_defs.specs.Rows.{IsBelow, IsRow}
use Rattle.cc_defs.specs.Terms.{Ground}
use Rattle.cc_defs.specs.TimedRules.{TimedRule}
use Rattle.cc_clauses.specs.RowsOf.{HasRow}
use Rattle.cc_clauses.specs.Tells.{Tells}
use Rattle.cc_theory.specs.Completion.{IsCause, MeetsCompletion, holds}
use Rattle.cc_form.specs.Laws.{AllFit, ClausesTellRows, HeadFits, IsTold, RuleFits, TellsRows, TermFits, axioms_over}
use Rattle.cc_form.specs.Parts.{Agrees, AllMet, Says, SaysFrom, axioms_behind, first_clauses, joined_parts}
use Rattle.cc_form.proofs.Causes.{AllTrue, AreRulesTold, IsDenied, all_atoms_fit, all_filter, atoms_counting, claim_denied, claim_values_of, completion_met, denials_met, falsity_counting, met_completion, met_denials, rules_told, rules_values_of, terms_asserted, terms_values_of}
use Rattle.cc_form.proofs.Keys.{after_true, key_fits, true_after}
use Rattle.cc_form.proofs.Meaning.{AtomsFit, all_written_met, and_is, lit, met_all_written, met_both, met_left, met_right}
use Rattle.cc_form.proofs.Ordered.{among, both_true, cases_test, contained}
use Rattle.cc_form.proofs.RowValues.{atom_is}
use Rattle.cc_form.proofs.Saying.{parts_tell_rows, says_then, tells_alike}
use Rattle.cc_form.proofs.Written.{any_gives, any_made, equal_tests}

-- ---- the completion of rules as equations of Booleans

has_atom_is : (position value : ℕ) (head : GroundHead) → is_of_atom position value head ≡ true → head ≡ heads.Atom position value
has_atom_is position value heads.Falsity e = absurd cc
has_atom_is position value (heads.Atom other index) e =
    let both = both_true (position == other) (value == index) e in
    ap (λ (p : ℕ). let h : GroundHead = heads.Atom p index in h) (sym (eqb-true position other both.0)) ∙ ap (λ (i : ℕ). let h : GroundHead = heads.Atom position i in h) (sym (eqb-true value index both.1))

falsity_is : (head : GroundHead) → is_falsity head ≡ true → head ≡ heads.Falsity
falsity_is (heads.Atom other index) e = absurd cc
falsity_is heads.Falsity e = refl

module _ (sizes row : List ℕ) (rules : List TimedRule) where
  abbrev pub has : (GroundHead → Bool) → TimedRule → Bool
  has test rule = test rule.head && holds row rule.body

  cause_of : (test : GroundHead → Bool) (head : GroundHead) → ((h : GroundHead) → test h ≡ true → h ≡ head) → list_any (has test) rules ≡ true → IsCause rules row head
  cause_of test head tells e =
      let found = any_gives (has test) rules e in
      let both = both_true (test found.0.head) (holds row found.0.body) found.2 in
      record { rule = found.0; member = contained rules found.0 found.1; head_is = tells found.0.head both.0; body = both.1 }

  of_cause : (test : GroundHead → Bool) (head : GroundHead) → test head ≡ true → IsCause rules row head → list_any (has test) rules ≡ true
  of_cause test head is cause = any_made (has test) rules cause.rule (among rules cause.rule cause.member)
      (and_is (test cause.rule.head) (holds row cause.rule.body) (ap test cause.head_is ∙ is) cause.body)

  own_atom : (position value : ℕ) → is_of_atom position value (heads.Atom position value) ≡ true
  own_atom position value = and_is (position == position) (value == value) (eq-eqb position position refl) (eq-eqb value value refl)

  abbrev pub AreEqual : Type 0
  AreEqual = (position size value : ℕ) → slice_get sizes position ≡ Some size → 1 < size → value < size → (slice_index row position == value) ≡ list_any (has (is_of_atom position value)) rules

  member_fits : (list : List TimedRule) → AllByRecursion (RuleFits sizes) list → (rule : TimedRule) → IsIn list rule → RuleFits sizes rule
  member_fits [] fit rule h = absurd h
  member_fits (x ∷ list) fit rule (inl e) = subst (RuleFits sizes) e fit.0
  member_fits (x ∷ list) fit rule (inr h) = member_fits list fit.1 rule h

  pub completed : IsRow sizes row → AllByRecursion (RuleFits sizes) rules → AreEqual → list_any (has is_falsity) rules ≡ false → MeetsCompletion sizes rules row
  completed is fit equal none = record {
    caused = λ position size at more.
        cause_of (is_of_atom position (slice_index row position)) (heads.Atom position (slice_index row position)) (has_atom_is position (slice_index row position))
        (sym (equal position size (slice_index row position) at more (within sizes row position size is at)) ∙ eq-eqb (slice_index row position) (slice_index row position) refl);
    only = λ position size value at more cause.
        let head : HeadFits sizes (heads.Atom position value) = subst (HeadFits sizes) cause.head_is (member_fits rules fit cause.rule (among rules cause.rule cause.member)).head in
        let same : head.0 ≡ size = own (sym head.1 ∙ at) in
        sym (eqb-true (slice_index row position) value (equal position size value at more (let less = head.2 in omega arith) ∙ of_cause (is_of_atom position value) (heads.Atom position value) (own_atom position value) cause));
    denied = λ cause. let wrong = of_cause is_falsity heads.Falsity refl cause in cc;
  }
    where
      own : {m n : ℕ} → Some m ≡ Some n → m ≡ n
      own e = cc

      within : (sizes row : List ℕ) (position size : ℕ) → IsRow sizes row → slice_get sizes position ≡ Some size → slice_index row position < size
      within [] row position size is at = absurd cc
      within (s ∷ sizes) [] position size is at = absurd is
      within (s ∷ sizes) (i ∷ row) zero size is at = let same : s ≡ size = cc in let less = is.0 in omega arith
      within (s ∷ sizes) (i ∷ row) (suc position) size is at = within sizes row position size is.1 at

  pub equal_of : MeetsCompletion sizes rules row → AreEqual
  equal_of meets_it position size value at more less = equal_tests (slice_index row position == value) (list_any (has (is_of_atom position value)) rules)
      (λ e. of_cause (is_of_atom position value) (heads.Atom position value) (own_atom position value)
      (subst (λ (n : ℕ). IsCause rules row (heads.Atom position n)) (eqb-true (slice_index row position) value e) (meets_it.caused position size at more)))
      (λ e. eq-eqb (slice_index row position) value (sym (meets_it.only position size value at more (cause_of (is_of_atom position value) (heads.Atom position value) (has_atom_is position value) e))))

  pub none_of : MeetsCompletion sizes rules row → list_any (has is_falsity) rules ≡ false
  none_of meets_it = elim (cases_test (list_any (has is_falsity) rules)) [
    | inl e ↦ absurd (meets_it.denied (cause_of is_falsity heads.Falsity falsity_is e))
    | inr e ↦ e
  ]

-- ---- conditions and claims

pub all_hold : (row : List ℕ) (formulas : List Ground) → AllTrue (λ position. slice_index row position) formulas → list_all (holds row) formulas ≡ true
all_hold row [] h = refl
all_hold row (f ∷ formulas) h = and_is (holds row f) (list_all (holds row) formulas) h.0 (all_hold row formulas h.1)

pub hold_all : (row : List ℕ) (formulas : List Ground) → list_all (holds row) formulas ≡ true → AllTrue (λ position. slice_index row position) formulas
hold_all row [] e = tt
hold_all row (f ∷ formulas) e = let both = both_true (holds row f) (list_all (holds row) formulas) e in (both.0, hold_all row formulas both.1)

fails_from : (row : List ℕ) (claim : Option Ground) → IsDenied (λ position. slice_index row position) claim → IfSome claim (λ claim. IsFalse (holds row claim))
fails_from row None h = tt
fails_from row (Some f) h = h

denied_from : (row : List ℕ) (claim : Option Ground) → IfSome claim (λ claim. IsFalse (holds row claim)) → IsDenied (λ position. slice_index row position) claim
denied_from row None h = tt
denied_from row (Some f) h = h

-- ---- keys

from_start : (row : List ℕ) (k : ℕ) → slice_index row (0 + k) ≡ slice_index row k
from_start row k = ap (slice_index row) (let e : 0 + k ≡ k = omega arith in e)

key_after : (sizes row : List ℕ) (key : Option Key) → IsRow sizes row → IfSome key (λ key. IsRow sizes key.row) → AllTrue (λ position. slice_index row position) (key_terms sizes key) → IfSome key (λ key. IsBelow key.row row)
key_after sizes row None is fits h = tt
key_after sizes row (Some key) is fits h = true_after (λ position. slice_index row position) sizes key.row row 0 fits is (from_start row) h.0

after_key_is : (sizes row : List ℕ) (key : Option Key) → IsRow sizes row → IfSome key (λ key. IsRow sizes key.row) → IfSome key (λ key. IsBelow key.row row) → AllTrue (λ position. slice_index row position) (key_terms sizes key)
after_key_is sizes row None is fits h = tt
after_key_is sizes row (Some key) is fits h = (after_true (λ position. slice_index row position) sizes key.row row 0 fits is (from_start row) h, tt)

pub key_atoms : (sizes : List ℕ) (key : Option Key) → IfSome key (λ key. IsRow sizes key.row) → AllByRecursion (AtomsFit sizes) (key_terms sizes key)
key_atoms sizes None fits = tt
key_atoms sizes (Some key) fits = (key_fits sizes sizes key.row 0 fits (λ k size e. ap (slice_get sizes) (let s : 0 + k ≡ k = omega arith in s) ∙ e), tt)

-- ---- the parts of a list

-- what the clauses of rules, of their completion and of their denials say
module _ (sizes : List ℕ) (rules : List TimedRule) (fit : AllByRecursion (RuleFits sizes) rules) where
  abbrev T : ℕ
  T = true_variable sizes

  abbrev counted : List TimedRule
  counted = rules_that_count sizes rules

  abbrev bodies : MadeRules
  bodies = made_rules sizes T counted

  abbrev completion : List (List Literal)
  completion = all_written (completion_from sizes bodies.rules 0 sizes)

  abbrev denials : List (List Literal)
  denials = all_written (denials_of bodies.rules)

  abbrev pub rules_part : Asserted
  rules_part = record { last = bodies.last; clauses = bodies.clauses ++ completion ++ denials }

  abbrev value_in : List ℕ → ℕ → ℕ
  value_in row = λ position. slice_index row position

  abbrev body_values : List ℕ → List Bool
  body_values row = rules_values_of sizes (value_in row) T counted

  module _ (row : List ℕ) (is : IsRow sizes row) (a : ℕ → Bool) (has_row : HasRow sizes a row) (is_true : a T ≡ true) where
    bodies_told : AreRulesTold a sizes (value_in row) is_true (atom_is a sizes row has_row) T bodies (body_values row) counted
    bodies_told = rules_told a sizes (value_in row) is_true (atom_is a sizes row has_row) counted T (all_filter (RuleFits sizes) (λ rule. not (is_certain sizes rule.head)) rules fit)

    module _ (met : AllMet a rules_part.clauses) where
      up_to_completion : AllMet a (bodies.clauses ++ completion)
      up_to_completion = met_left a (bodies.clauses ++ completion) denials met

      bodies_met : AllMet a bodies.clauses
      bodies_met = met_left a bodies.clauses completion up_to_completion

      equal : AreEqual sizes row rules
      equal position size value at more less =
          let done = met_completion a sizes (value_in row) is_true (atom_is a sizes row has_row) bodies.rules sizes 0
          (met_all_written a (completion_from sizes bodies.rules 0 sizes) (met_right a bodies.clauses completion up_to_completion)) position size value at more less in
          let here = subst (λ (p : ℕ). a (atom_variable sizes p value) ≡ list_any (lit a) (bodies_of p value bodies.rules)) (let e : 0 + position ≡ position = omega arith in e) done in
          sym (atom_is a sizes row has_row position value (size, at, less)) ∙ here ∙ bodies_told.tests (bodies_told.meets bodies_met) (is_of_atom position value)
          ∙ atoms_counting a sizes (value_in row) is_true (atom_is a sizes row has_row) rules position value size at more

      none : list_any (has sizes row rules is_falsity) rules ≡ false
      none =
          sym (falsity_counting a sizes (value_in row) is_true (atom_is a sizes row has_row) rules) ∙ sym (bodies_told.tests (bodies_told.meets bodies_met) is_falsity)
          ∙ met_denials a sizes (value_in row) is_true (atom_is a sizes row has_row) (filter (λ rule. is_falsity rule.head) bodies.rules)
          (met_all_written a (denials_of bodies.rules) (met_right a (bodies.clauses ++ completion) denials met))

      rules_met : MeetsCompletion sizes rules row
      rules_met = completed sizes row rules is fit equal none

    met_rules : Agrees a T (body_values row) → MeetsCompletion sizes rules row → AllMet a rules_part.clauses
    met_rules agrees meets_it =
        let equal = equal_of sizes row rules meets_it in
        met_both a (bodies.clauses ++ completion) denials
        (met_both a bodies.clauses completion (bodies_told.agrees agrees)
        (all_written_met a (completion_from sizes bodies.rules 0 sizes)
        (completion_met a sizes (value_in row) is_true (atom_is a sizes row has_row) bodies.rules sizes 0 (λ position size value at more less.
        subst (λ (p : ℕ). a (atom_variable sizes p value) ≡ list_any (lit a) (bodies_of p value bodies.rules)) (let e : position ≡ 0 + position = omega arith in e)
        (atom_is a sizes row has_row position value (size, at, less) ∙ equal position size value at more less
        ∙ sym (bodies_told.tests agrees (is_of_atom position value) ∙ atoms_counting a sizes (value_in row) is_true (atom_is a sizes row has_row) rules position value size at more))))))
        (all_written_met a (denials_of bodies.rules)
        (denials_met a sizes (value_in row) is_true (atom_is a sizes row has_row) (filter (λ rule. is_falsity rule.head) bodies.rules)
        (bodies_told.tests agrees is_falsity ∙ falsity_counting a sizes (value_in row) is_true (atom_is a sizes row has_row) rules ∙ none_of sizes row rules meets_it)))

  -- the rows that meet their completion
  pub says_rules : Says sizes rules_part (MeetsCompletion sizes rules)
  says_rules = record {
    given = body_values;
    says = λ row is a has_row is_true. record {
      ends = (bodies_told row is a has_row is_true).ends;
      meets = λ h. (bodies_told row is a has_row is_true).meets (bodies_met row is a has_row is_true h);
      holds = rules_met row is a has_row is_true;
      agrees = met_rules row is a has_row is_true;
    };
  }

-- conditions: the rows in which they hold
pub says_conditions : (sizes : List ℕ) (last : ℕ) (conditions : List Ground) → AllByRecursion (TermFits sizes) conditions →
    SaysFrom sizes last (assert_all sizes last conditions) (λ row. IsTrue (list_all (holds row) conditions))
says_conditions sizes last conditions fit = record {
  given = λ row. terms_values_of sizes (λ position. slice_index row position) last conditions;
  says = λ row is a has_row is_true.
      let told = terms_asserted a sizes (λ position. slice_index row position) is_true (atom_is a sizes row has_row) conditions last (all_atoms_fit sizes conditions fit) in
      record { ends = told.ends; meets = told.meets; holds = λ h. all_hold row conditions (told.holds h); agrees = λ h k. told.agrees h (hold_all row conditions k) };
}

-- a claim that is denied: the rows in which it does not hold
pub says_denied : (sizes : List ℕ) (last : ℕ) (claim : Option Ground) → IfSome claim (TermFits sizes) → SaysFrom sizes last (deny sizes last claim) (λ row. IfSome claim (λ claim. IsFalse (holds row claim)))
says_denied sizes last claim fit = record {
  given = λ row. claim_values_of sizes (λ position. slice_index row position) last claim;
  says = λ row is a has_row is_true.
      let told = claim_denied a sizes (λ position. slice_index row position) is_true (atom_is a sizes row has_row) claim last fit in
      record { ends = told.ends; meets = told.meets; holds = λ h. fails_from row claim (told.holds h); agrees = λ h k. told.agrees h (denied_from row claim k) };
}

-- a key: the rows behind it
pub says_key : (sizes : List ℕ) (last : ℕ) (key : Option Key) → IfSome key (λ key. IsRow sizes key.row) → SaysFrom sizes last (assert_all sizes last (key_terms sizes key)) (λ row. IfSome key (λ key. IsBelow key.row row))
says_key sizes last key fit = record {
  given = λ row. terms_values_of sizes (λ position. slice_index row position) last (key_terms sizes key);
  says = λ row is a has_row is_true.
      let told = terms_asserted a sizes (λ position. slice_index row position) is_true (atom_is a sizes row has_row) (key_terms sizes key) last (key_atoms sizes key fit) in
      record { ends = told.ends; meets = told.meets; holds = λ h. key_after sizes row key is fit (told.holds h); agrees = λ h k. told.agrees h (after_key_is sizes row key is fit k) };
}

-- ---- the whole list

one_behind : (front xs ys whole : List (List Literal)) → whole ≡ front ++ xs → whole ++ ys ≡ front ++ (xs ++ ys)
one_behind front xs ys whole e = ap (λ (l : List (List Literal)). l ++ ys) e ∙ append_assoc front xs ys

module _ (sizes : List ℕ) (rules : List TimedRule) (conditions : List Ground) (claim : Option Ground) (key : Option Key) (fit : AllFit sizes rules conditions claim key) where
  abbrev of_rules : Asserted
  of_rules = rules_part sizes rules fit.rules_fit

  abbrev of_conditions : Asserted
  of_conditions = assert_all sizes of_rules.last conditions

  abbrev of_claim : Asserted
  of_claim = deny sizes of_conditions.last claim

  abbrev of_key : Asserted
  of_key = assert_all sizes of_claim.last (key_terms sizes key)

  abbrev to_claim : Asserted
  to_claim = joined_parts (joined_parts of_rules of_conditions) of_claim

  abbrev Said : List ℕ → Type 0
  Said row = ((MeetsCompletion sizes rules row × IsTrue (list_all (holds row) conditions)) × IfSome claim (λ claim. IsFalse (holds row claim))) × IfSome key (λ key. IsBelow key.row row)

  part : Says sizes (joined_parts to_claim of_key) Said
  part =
      let to_conditions = says_then sizes (true_variable sizes) of_rules of_conditions (MeetsCompletion sizes rules) (λ row. IsTrue (list_all (holds row) conditions))
      (says_rules sizes rules fit.rules_fit) (says_conditions sizes of_rules.last conditions fit.conditions_fit) in
      let claimed = says_then sizes (true_variable sizes) (joined_parts of_rules of_conditions) of_claim (λ row. MeetsCompletion sizes rules row × IsTrue (list_all (holds row) conditions))
      (λ row. IfSome claim (λ claim. IsFalse (holds row claim))) to_conditions (says_denied sizes of_conditions.last claim fit.claim_fits) in
      says_then sizes (true_variable sizes) to_claim of_key
      (λ row. (MeetsCompletion sizes rules row × IsTrue (list_all (holds row) conditions)) × IfSome claim (λ claim. IsFalse (holds row claim)))
      (λ row. IfSome key (λ key. IsBelow key.row row)) claimed (says_key sizes of_claim.last key fit.key_fits)

  same_list : (axioms_over sizes rules conditions claim key).clauses ≡ first_clauses sizes ++ (joined_parts to_claim of_key).clauses
  same_list =
      let first = first_clauses sizes in
      let made = bodies sizes rules fit.rules_fit in
      let done = completion sizes rules fit.rules_fit in
      let none = denials sizes rules fit.rules_fit in
      one_behind first (of_rules.clauses ++ of_conditions.clauses ++ of_claim.clauses) of_key.clauses (first ++ made.clauses ++ done ++ none ++ of_conditions.clauses ++ of_claim.clauses)
      (one_behind first (of_rules.clauses ++ of_conditions.clauses) of_claim.clauses (first ++ made.clauses ++ done ++ none ++ of_conditions.clauses)
      (one_behind first of_rules.clauses of_conditions.clauses (first ++ made.clauses ++ done ++ none)
      (one_behind first (made.clauses ++ done) none (first ++ made.clauses ++ done)
      (one_behind first made.clauses done (first ++ made.clauses) refl))))

  pub tells : TellsRows sizes rules conditions claim key
  tells =
      subst (λ (list : List (List Literal)). Tells (record { sizes = sizes; variables = of_key.last; clauses = list }) (IsTold sizes rules conditions claim key)) (sym same_list)
      (tells_alike (axioms_behind sizes (joined_parts to_claim of_key)) (λ row. IsRow sizes row × Said row) (IsTold sizes rules conditions claim key) (λ row. (
        (λ so. record { is_row = so.0; completion = so.1.0.0.0; conditions_hold = so.1.0.0.1; claim_fails = so.1.0.1; after = so.1.1 }),
        (λ told. (told.is_row, (((told.completion, told.conditions_hold), told.claim_fails), told.after))),
      ))
      (parts_tell_rows sizes (joined_parts to_claim of_key) Said part))

pub clauses_tell_rows : ClausesTellRows
clauses_tell_rows sizes rules conditions claim key fit = tells sizes rules conditions claim key fit
