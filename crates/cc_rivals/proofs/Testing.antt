-- What loops keep that test a row, and that a row is a candidate where it passes.
use Rattle.std.proofs.Common.{◌≡◌, ◌∙◌, ℕ, ◌+◌, ◌≤◌, ◌↔◌, Bool, true, false, not, ◌&&◌, ◌||◌, List, [], ◌∷◌, ◌++◌, length, map, flat_map, Option, Some, None, refl, sym, ap, subst, option_map, IsTrue, IsFalse}
use Rattle.std.specs.Prelude.{IfSome}
use Rattle.std.specs.List.{list_all}
use Rattle.std.proofs.lemmas.List.Folds.{list_all-append}
use Rattle.cc_arena.specs.declared.ground_laws.GroundQuery.{GroundQuery}
use Rattle.cc_arena.specs.GroundViews.{plain_ground_query}
use Rattle.cc_arena.specs.Laws.{TermsMeanFormulas}
use Rattle.cc_defs.specs.declared.signature.Const.{Const}
use Rattle.cc_defs.specs.declared.signature.Kind.{Kind}
use Rattle.cc_defs.specs.declared.signature.Kind.TheVariants as kinds
use Rattle.cc_defs.specs.ClauseLists.{condition_term}
use Rattle.cc_defs.specs.GroundLaws.{StandsForQuery}
use Rattle.cc_defs.specs.Resolved.{Query}
use Rattle.cc_defs.specs.Rows.{IsRow}
use Rattle.cc_defs.specs.Rules.{upto}
use Rattle.cc_defs.specs.Signatures.{Signature}
use Rattle.cc_defs.specs.Terms.{Ground}
use Rattle.cc_form.specs.Places.{position_sizes}
use Rattle.cc_form.specs.Queries.{IsQueryAt}
use Rattle.cc_rivals.specs.Making.{initial_value, rules_at_step, rules_for}
use Rattle.cc_rivals.specs.Meets.{claim_at, claim_denied, conditions_at, query_met, rule_met, rules_met}
use Rattle.cc_rivals.specs.Wides.{AreWideLawsFor, AreWideLawsOf}
use Rattle.cc_rivals.proofs.Matching.{candidate_said, claim_meant, conditions_meant, timed_are, wide_sizes_are}
use Rattle.cc_theory.specs.Making.{stride_of}
use Rattle.cc_wide.specs.declared.ground.WideGroundLaw.{WideGroundLaw}
use Rattle.cc_wide.specs.WideLaws.{WideDescription, frame}
use Rattle.cc_wide.specs.WideLists.{WideTimed, all_initial_wide, holds_in, initial_wide, wide_timed}
use Rattle.cc_wide.specs.WideRules.{IsCandidate, wide_sizes}

pub not_both : {A : Type 0} (b : Bool) → b ≡ true → b ≡ false → A
not_both true so is = absurd cc
not_both false so is = absurd cc

pub alone : {X : Type 0} (test : X → Bool) (x : X) (here : Bool) → here ≡ test x → here ≡ list_all test (x ∷ [])
alone test x here is = is ∙ sym (with_true (test x))
  where
    with_true : (b : Bool) → (b && true) ≡ b
    with_true true = refl
    with_true false = refl

-- ---- loops: the test of what is left is that of the whole

module _ {X : Type 0} (test : X → Bool) (left whole : List X) (so_far : list_all test left ≡ list_all test whole) where
  module _ (first rest : List X) (splits : left ≡ first ++ rest) (here : Bool) (is : here ≡ list_all test first) where
    split : list_all test whole ≡ (here && list_all test rest)
    split = sym so_far ∙ ap (list_all test) splits ∙ list_all-append test first rest ∙ ap (λ (b : Bool). b && list_all test rest) (sym is)

    pub passes : here ≡ true → list_all test rest ≡ list_all test whole
    passes so = sym (split ∙ ap (λ (b : Bool). b && list_all test rest) so)

    pub fails : here ≡ false → false ≡ list_all test whole
    fails so = sym (split ∙ ap (λ (b : Bool). b && list_all test rest) so)

  pub all_pass : left ≡ [] → true ≡ list_all test whole
  all_pass none = sym (ap (list_all test) none) ∙ so_far

-- ---- the initial rules are met by each row

module _ (row : List ℕ) where
  own_met : (b : Bool) → (not (b && true) || b) ≡ true
  own_met true = refl
  own_met false = refl

  values_met : (number : ℕ) (values : List ℕ) → rules_met row (map (initial_value number) values) ≡ true
  values_met number [] = refl
  values_met number (value ∷ values) = ap (λ (b : Bool). b && rules_met row (map (initial_value number) values)) (own_met (holds_in row (initial_value number value).head)) ∙ values_met number values

  initial_met : (kind : Kind) (number size : ℕ) → rules_met row (initial_wide kind number size) ≡ true
  initial_met kinds.Simple number size = values_met number (upto size)
  initial_met kinds.Determined number size = refl
  initial_met kinds.Action number size = refl

  all_initial_met : (number : ℕ) (constants : List Const) → rules_met row (all_initial_wide number constants) ≡ true
  all_initial_met number [] = refl
  all_initial_met number (c ∷ constants) =
      list_all-append (rule_met row) (initial_wide c.kind number (length c.domain)) (all_initial_wide (number + 1) constants)
      ∙ ap (λ (b : Bool). b && rules_met row (all_initial_wide (number + 1) constants)) (initial_met c.kind number (length c.domain)) ∙ all_initial_met (number + 1) constants

  pub steps_met : (signature : Signature) (laws : List WideGroundLaw) (horizon : ℕ) →
      rules_met row (flat_map (rules_at_step (stride_of signature) laws horizon) (upto (horizon + 1))) ≡ rules_met row (rules_for signature laws horizon)
  steps_met signature laws horizon =
      let steps = flat_map (rules_at_step (stride_of signature) laws horizon) (upto (horizon + 1)) in
      sym (list_all-append (rule_met row) (all_initial_wide 0 signature.fluents) steps ∙ ap (λ (b : Bool). b && rules_met row steps) (all_initial_met 0 signature.fluents))

-- ---- candidates

both_true : (a b : Bool) → IsTrue (a && b) ↔ (IsTrue a × IsTrue b)
both_true true b = ((λ h. (refl, h)), (λ h. h.1))
both_true false b = ((λ h. absurd cc), (λ h. h.0))

denied_said : (row : List ℕ) (claim : Option Ground) → IsTrue (claim_denied row claim) ↔ IfSome claim (λ claim. IsFalse (holds_in row claim))
denied_said row None = ((λ h. tt), (λ h. refl))
denied_said row (Some claim) = turned (holds_in row claim)
  where
    turned : (b : Bool) → IsTrue (not b) ↔ IsFalse b
    turned true = ((λ h. absurd cc), (λ h. absurd cc))
    turned false = ((λ h. refl), (λ h. refl))

module _ (mean : TermsMeanFormulas) (signature : Signature) (laws : List WideGroundLaw) (w : WideDescription) (are : AreWideLawsFor signature laws) (of : AreWideLawsOf signature laws w)
    (horizon : ℕ) (most : horizon ≤ 1000) (query : GroundQuery) (q : Query) (stands : StandsForQuery (plain_ground_query query) (frame w) q) (asked : IsQueryAt signature horizon (plain_ground_query query)) (row : List ℕ) where
  abbrev by : ℕ
  by = stride_of signature

  abbrev passes_all : List WideTimed → List Ground → Option Ground → Bool
  passes_all rules conditions claim = rules_met row rules && (list_all (holds_in row) conditions && claim_denied row claim)

  all_said : (rules : List WideTimed) (conditions : List Ground) (claim : Option Ground) →
      IsTrue (passes_all rules conditions claim) ↔ ((IsTrue (rules_met row rules) × IsTrue (list_all (holds_in row) conditions)) × IfSome claim (λ claim. IsFalse (holds_in row claim)))
  all_said rules conditions claim =
      let outer = both_true (rules_met row rules) (list_all (holds_in row) conditions && claim_denied row claim) in
      let inner = both_true (list_all (holds_in row) conditions) (claim_denied row claim) in
      let denied = denied_said row claim in (
        (λ h. let h2 = inner.0 (outer.0 h).1 in (((outer.0 h).0, h2.0), denied.0 h2.1)),
        (λ h. outer.1 (h.0.0, inner.1 (h.0.1, denied.1 h.1))),
      )

  abbrev R : List WideTimed
  R = rules_for signature laws horizon

  abbrev at : List Ground
  at = conditions_at by horizon query.conditions

  abbrev claimed : Option Ground
  claimed = claim_at by horizon query.claim

  all_are : passes_all R at claimed ≡ passes_all (wide_timed w horizon) (map (condition_term (frame w) horizon) q.conditions) (option_map (condition_term (frame w) horizon) q.claim)
  all_are =
      ap (λ (r : List WideTimed). passes_all r at claimed) (timed_are mean signature laws w are of horizon)
      ∙ ap (λ (l : List Ground). passes_all (wide_timed w horizon) l claimed) (conditions_meant signature laws w of horizon query q stands)
      ∙ ap (passes_all (wide_timed w horizon) (map (condition_term (frame w) horizon) q.conditions)) (claim_meant signature laws w of horizon query q stands)

  said : (IsRow (wide_sizes w horizon) row × IsTrue (passes_all R at claimed)) ↔ IsCandidate w q horizon row
  said =
      let here = all_said (wide_timed w horizon) (map (condition_term (frame w) horizon) q.conditions) (option_map (condition_term (frame w) horizon) q.claim) in
      let whole = candidate_said mean signature laws w are of horizon most query q stands asked row in (
        (λ h. whole.0 (h.0, here.0 (sym all_are ∙ h.1))),
        (λ candidate. let h = whole.1 candidate in (h.0, all_are ∙ here.1 h.1)),
      )

  pub candidate_tested : (IsRow (position_sizes signature horizon) row × IsTrue (rules_met row R && query_met by horizon query row)) ↔ IsCandidate w q horizon row
  candidate_tested =
      subst (λ (sizes : List ℕ). (IsRow sizes row × IsTrue (passes_all R at claimed)) ↔ IsCandidate w q horizon row) (sym (wide_sizes_are mean signature laws w are of horizon)) said
