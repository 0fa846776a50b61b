-- A row is in all parts of a query without a claim exactly where it is a history.
use Rattle.std.proofs.Common.{◌≡◌, ◌∙◌, ℕ, zero, suc, ◌+◌, ◌*◌, ◌/◌, ◌%◌, ◌<◌, ◌≤◌, true, nat_lt, List, [], ◌∷◌, ◌++◌, length, map, flat_map, filter, slice_get, Option, Some, None, option_map, refl, sym, ap, subst, arith, length-append, eqb-true}
use Rattle.std.specs.Prelude.{Contains, IfSome, IsFalse, IsNone, slice_index}
use Rattle.std.specs.List.{AllByRecursion}
use Rattle.std.proofs.lemmas.Bool.{lt-ltb, ltb-true}
use Rattle.std.proofs.lemmas.List.{length-map}
use Rattle.std.proofs.lemmas.Nat.{div-add-mod', mod-mul-add}
use Rattle.std.proofs.lemmas.Option.{get_or_from_slice_get, slice_get-get_or, slice_get-map, slice_get_within}
use Rattle.cc_defs.specs.declared.node.GroundHead.{GroundHead}
use Rattle.cc_defs.specs.declared.node.GroundHead.TheVariants as heads
use Rattle.cc_defs.specs.declared.signature.Const.{Const}
use Rattle.cc_defs.specs.declared.signature.Kind.{Kind}
use Rattle.cc_defs.specs.declared.signature.Kind.TheVariants as kinds
use Rattle.cc_defs.specs.Declarations.{upto}
use Rattle.cc_defs.specs.Description.{Description, domain_sizes, sizes_at, stride}
use Rattle.cc_defs.specs.Environments.{Instance, Under, Together, environments, instances, instances_from, instances_of, pairs_of}
use Rattle.cc_defs.specs.Histories.{IsHistory, condition_holds}
use Rattle.cc_defs.specs.Laws.{PositionsHaveSizes}
use Rattle.cc_defs.specs.Resolved.{BaseLaw, Condition, NoConcurrency, One, Query}
use Rattle.cc_defs.specs.Rows.{IsRow}
use Rattle.cc_defs.specs.Signatures.{Signature}
use Rattle.cc_defs.specs.Terms.{Ground}
use Rattle.cc_defs.specs.Terms as terms
use Rattle.cc_defs.specs.TimedRules.{TimedRule, all_initial_timed, initial_timed, timed_of_instance, timed_rules}
use Rattle.cc_defs.specs.Universe.{Universe, boolean_actions}
use Rattle.cc_theory.specs.Completion.{IsCause, MeetsCompletion}
use Rattle.cc_theory.specs.Laws.{HeadFits, HeadsNameAtoms, IsGroundedWell, ModelsArePaths, ModelsMeetCompletion}
use Rattle.cc_why.specs.Causes.{Sourced, cause_of, sourced, sourced_at_step, sourced_rules}
use Rattle.cc_why.specs.declared.cause.Cause.{Cause}
use Rattle.cc_why.specs.declared.cause.Cause.TheVariants as causes
use Rattle.cc_why.specs.Laws.{SourcedAreRules}
use Rattle.cc_whynot.specs.Parts.{IsIn, IsInAll, MeetsHead, MeetsRule, OfCondition, OfConstant, OfLaw, Part, PartsMakeHistories, has_choice, parts_of}
use Rattle.cc_whynot.proofs.Lists.{all_behind, all_each, all_filter, all_flat, all_from, all_map, all_parts, all_to, all_upto, filter_all, map_all, test_holds, tests_hold, upto_all}

-- the laws that this rests on
pub record Known : Type 0 where
  pub sizes : PositionsHaveSizes
  pub complete : ModelsMeetCompletion
  pub paths : ModelsArePaths
  pub heads_name : HeadsNameAtoms
  pub rules : SourcedAreRules

-- ---- where rules come from: an initial one has its head for its body, and a law's is that of a base law with a number

abbrev pub ComesFrom : (count : ℕ) → Cause → TimedRule → Type 0
ComesFrom count causes.OneValue rule = ⊥
ComesFrom count causes.Initial rule = (position value : ℕ) × (rule ≡ record { head = heads.Atom position value; body = terms.Atom position value })
ComesFrom count (causes.Law number) rule = number < count

module _ (count : ℕ) where
  abbrev pub IsOf : Sourced → Type 0
  IsOf one = ComesFrom count one.cause one.rule

  initial_of_kind : (kind : Kind) (number size : ℕ) → AllByRecursion (ComesFrom count causes.Initial) (initial_timed kind number size)
  initial_of_kind kinds.Simple number size =
      all_map (ComesFrom count causes.Initial) (λ (value : ℕ). record { head = heads.Atom number value; body = terms.Atom number value }) (upto size)
      (all_each (λ (value : ℕ). ComesFrom count causes.Initial (record { head = heads.Atom number value; body = terms.Atom number value })) (λ value. (number, value, refl)) (upto size))
  initial_of_kind kinds.Determined number size = tt
  initial_of_kind kinds.Action number size = tt

  initials : (number : ℕ) (constants : List Const) → AllByRecursion (ComesFrom count causes.Initial) (all_initial_timed number constants)
  initials number [] = tt
  initials number (c ∷ cs) =
      all_behind (ComesFrom count causes.Initial) (initial_timed c.kind number (length c.domain)) (all_initial_timed (number + 1) cs)
      (initial_of_kind c.kind number (length c.domain)) (initials (number + 1) cs)

  abbrev IsLaw : Cause → Type 0
  IsLaw causes.OneValue = ⊥
  IsLaw causes.Initial = ⊥
  IsLaw (causes.Law number) = number < count

  law_comes : (cause : Cause) → IsLaw cause → (rule : TimedRule) → ComesFrom count cause rule
  law_comes causes.OneValue is rule = is
  law_comes causes.Initial is rule = absurd is
  law_comes (causes.Law number) is rule = is

  abbrev IsLawsInstance : Instance → Type 0
  IsLawsInstance instance = IsLaw (cause_of instance)

  own_instances : (u : Universe) (base : ℕ) (law : BaseLaw) → base < count → AllByRecursion IsLawsInstance (instances_of u base law)
  own_instances u base (One law) less = all_map IsLawsInstance (Under base law) (environments u law) (all_each (λ values. IsLawsInstance (Under base law values)) (λ values. less) (environments u law))
  own_instances u base (NoConcurrency file line) less =
      all_map IsLawsInstance (Together base) (pairs_of (boolean_actions u)) (all_each (λ pair. IsLawsInstance (Together base pair)) (λ pair. less) (pairs_of (boolean_actions u)))

  numbered : (u : Universe) (base : ℕ) (laws : List BaseLaw) → base + length laws ≤ count → AllByRecursion IsLawsInstance (instances_from u base laws)
  numbered u base [] within = tt
  numbered u base (law ∷ laws) within =
      all_behind IsLawsInstance (instances_of u base law) (instances_from u (base + 1) laws)
      (own_instances u base law (omega arith)) (numbered u (base + 1) laws (omega arith))

  module _ (d : Description) (horizon : ℕ) where
    at_instances : (step : ℕ) (all : List Instance) → AllByRecursion IsLawsInstance all →
        AllByRecursion (λ instance. AllByRecursion IsOf (map (sourced (cause_of instance)) (timed_of_instance d horizon step instance))) all
    at_instances step [] are = tt
    at_instances step (instance ∷ others) are = (
      all_map IsOf (sourced (cause_of instance)) (timed_of_instance d horizon step instance)
          (all_each (ComesFrom count (cause_of instance)) (law_comes (cause_of instance) are.0) (timed_of_instance d horizon step instance)),
      at_instances step others are.1,
    )

    at_step : length d.laws ≤ count → (step : ℕ) → AllByRecursion IsOf (sourced_at_step d horizon step)
    at_step within step =
        all_flat IsOf (λ instance. map (sourced (cause_of instance)) (timed_of_instance d horizon step instance)) (instances d.universe d.laws)
        (at_instances step (instances d.universe d.laws) (numbered d.universe 0 d.laws (omega arith)))

    pub each_comes : length d.laws ≤ count → AllByRecursion IsOf (sourced_rules d horizon)
    each_comes within =
        let first = all_initial_timed 0 d.universe.fluents in
        all_behind IsOf (map (sourced causes.Initial) first) (flat_map (sourced_at_step d horizon) (upto (horizon + 1)))
        (all_map IsOf (sourced causes.Initial) first (initials 0 d.universe.fluents))
        (all_flat IsOf (sourced_at_step d horizon) (upto (horizon + 1))
        (all_each (λ step. AllByRecursion IsOf (sourced_at_step d horizon step)) (at_step within) (upto (horizon + 1))))

-- ---- the size of a position is that of its constant

abbrev sizes_of : Description → List ℕ
sizes_of d = domain_sizes d.universe.fluents ++ domain_sizes d.universe.actions

map_append : {X Y : Type 0} (f : X → Y) (xs ys : List X) → map f (xs ++ ys) ≡ map f xs ++ map f ys
map_append f [] ys = refl
map_append f (x ∷ xs) ys = ap (λ l. f x ∷ l) (map_append f xs ys)

sizes_long : (d : Description) → length (sizes_of d) ≡ stride d
sizes_long d =
    let size : Const → ℕ = λ constant. length constant.domain in
    length-append (domain_sizes d.universe.fluents) (domain_sizes d.universe.actions)
    ∙ ap (λ (n : ℕ). n + length (domain_sizes d.universe.actions)) (length-map d.universe.fluents size)
    ∙ ap (λ (n : ℕ). length d.universe.fluents + n) (length-map d.universe.actions size)

size_there : PositionsHaveSizes → (d : Description) (horizon p : ℕ) → p < length (sizes_at d horizon) → slice_get (sizes_at d horizon) p ≡ slice_get (sizes_of d) (p % stride d)
size_there have d horizon p less =
    let size : Const → ℕ = λ constant. length constant.domain in
    let all = d.universe.fluents ++ d.universe.actions in
    let signature : Signature = record { fluents = d.universe.fluents; actions = d.universe.actions; numbers = d.universe.numbers } in
    let facts = have d signature (record { fluents = refl; actions = refl; numbers = refl }) horizon in
    facts.1 p (subst (λ (n : ℕ). p < n) facts.0 less)
    ∙ ap (λ (n : ℕ). option_map size (slice_get all (p % n))) (length-append d.universe.fluents d.universe.actions)
    ∙ sym (slice_get-map size all (p % stride d))
    ∙ ap (λ (l : List ℕ). slice_get l (p % stride d)) (map_append size d.universe.fluents d.universe.actions)

-- ---- the rules are met, and the values caused, exactly where the completion is met

abbrev Met : List TimedRule → List ℕ → Type 0
Met rules row = AllByRecursion (MeetsRule row) rules

abbrev AreCaused : List ℕ → List TimedRule → List ℕ → Type 0
AreCaused sizes rules row = (position size : ℕ) → slice_get sizes position ≡ Some size → 1 < size → IsCause rules row (heads.Atom position (slice_index row position))

head_met : (rules : List TimedRule) (row : List ℕ) → Met rules row → (head : GroundHead) → IsCause rules row head → MeetsHead row head
head_met rules row met head cause = subst (MeetsHead row) cause.head_is (all_to (MeetsRule row) rules met cause.rule cause.member cause.body)

completion : (sizes : List ℕ) (rules : List TimedRule) (row : List ℕ) → Met rules row → AreCaused sizes rules row → MeetsCompletion sizes rules row
completion sizes rules row met caused = record {
  caused = caused;
  only = λ p size value at more cause. sym (head_met rules row met (heads.Atom p value) cause);
  denied = λ cause. head_met rules row met heads.Falsity cause;
}

row_less : (sizes row : List ℕ) (p size : ℕ) → IsRow sizes row → slice_get sizes p ≡ Some size → slice_index row p < size
row_less [] row p size is e = absurd cc
row_less (s ∷ sizes) [] p size is e = absurd is
row_less (s ∷ sizes) (v ∷ row) zero size is e = let same : s ≡ size = cc in subst (λ (n : ℕ). v < n) same is.0
row_less (s ∷ sizes) (v ∷ row) (suc p) size is e = row_less sizes row p size is.1 e

only_value : (size a b : ℕ) → a < size → b < size → (1 < size → a ≡ b) → a ≡ b
only_value zero a b p q e = absurd (omega arith)
only_value (suc zero) a b p q e = omega arith
only_value (suc (suc n)) a b p q e = e (omega arith)

had : (sizes : List ℕ) (rules : List TimedRule) (row : List ℕ) → IsRow sizes row → MeetsCompletion sizes rules row → (head : GroundHead) → HeadFits sizes head → IsCause rules row head → MeetsHead row head
had sizes rules row is meets (heads.Atom p v) fits cause =
    only_value fits.0 (slice_index row p) v (row_less sizes row p fits.0 is fits.1) fits.2 (λ more. sym (meets.only p fits.0 v fits.1 more cause))
had sizes rules row is meets heads.Falsity fits cause = meets.denied cause

all_met : (sizes : List ℕ) (rules : List TimedRule) (row : List ℕ) → IsRow sizes row → ((rule : TimedRule) → Contains rules rule → HeadFits sizes rule.head) → MeetsCompletion sizes rules row → Met rules row
all_met sizes rules row is fit meets =
    all_from (MeetsRule row) rules (λ rule there body. had sizes rules row is meets rule.head (fit rule there) (record { rule = rule; member = there; head_is = refl; body = body }))

-- ---- parts

module _ (known : Known) (d : Description) (well : IsGroundedWell d) (q : Query) (horizon : ℕ) (row : List ℕ) where
  abbrev sizes : List ℕ
  sizes = sizes_at d horizon

  abbrev rules : List TimedRule
  rules = timed_rules d horizon

  abbrev Is : Part → Type 0
  Is part = IsIn d q horizon row part

  -- by their kinds
  record AreMet : Type 0 where
    conditions : (number : ℕ) → number < length q.conditions → Is (OfCondition number)
    laws : (number : ℕ) → number < length d.laws → Is (OfLaw number)
    constants : (number : ℕ) → number < stride d → has_choice d number ≡ true → Is (OfConstant number)

  abbrev conditions_of : List Part
  conditions_of = map OfCondition (upto (length q.conditions))

  abbrev laws_of : List Part
  laws_of = map OfLaw (upto (length d.laws))

  abbrev chosen : List ℕ
  chosen = filter (has_choice d) (upto (stride d))

  split : AllByRecursion Is (parts_of d q) → AreMet
  split all =
      let outer = all_parts Is (conditions_of ++ laws_of) (map OfConstant chosen) all in
      let inner = all_parts Is conditions_of laws_of outer.0 in
      record {
        conditions = upto_all (λ number. Is (OfCondition number)) (length q.conditions) (map_all Is OfCondition (upto (length q.conditions)) inner.0);
        laws = upto_all (λ number. Is (OfLaw number)) (length d.laws) (map_all Is OfLaw (upto (length d.laws)) inner.1);
        constants = upto_all (λ number. has_choice d number ≡ true → Is (OfConstant number)) (stride d)
            (filter_all (λ number. Is (OfConstant number)) (has_choice d) (upto (stride d)) (map_all Is OfConstant chosen outer.1));
      }

  joined : AreMet → AllByRecursion Is (parts_of d q)
  joined met =
      all_behind Is (conditions_of ++ laws_of) (map OfConstant chosen)
      (all_behind Is conditions_of laws_of
      (all_map Is OfCondition (upto (length q.conditions)) (all_upto (λ number. Is (OfCondition number)) (length q.conditions) met.conditions))
      (all_map Is OfLaw (upto (length d.laws)) (all_upto (λ number. Is (OfLaw number)) (length d.laws) met.laws)))
      (all_map Is OfConstant chosen
      (all_filter (λ number. Is (OfConstant number)) (has_choice d) (upto (stride d))
      (all_upto (λ number. has_choice d number ≡ true → Is (OfConstant number)) (stride d) met.constants)))

  -- ---- rules

  rule_met : AreMet → (one : Sourced) → Contains (sourced_rules d horizon) one → (cause : Cause) (rule : TimedRule) → one.cause ≡ cause → one.rule ≡ rule →
      ComesFrom (length d.laws) cause rule → MeetsRule row rule
  rule_met met one there causes.OneValue rule from is comes = absurd comes
  rule_met met one there causes.Initial rule from is comes = subst (MeetsRule row) (sym comes.2) (λ body. eqb-true (slice_index row comes.0) comes.1 body)
  rule_met met one there (causes.Law number) rule from is comes = subst (MeetsRule row) is (met.laws number comes one there from)

  rules_met : AreMet → Met rules row
  rules_met met =
      subst (λ (l : List TimedRule). Met l row) (known.rules d horizon)
      (all_map (MeetsRule row) (λ (one : Sourced). one.rule) (sourced_rules d horizon)
      (all_from (λ (one : Sourced). MeetsRule row one.rule) (sourced_rules d horizon) (λ one there. rule_met met one there one.cause one.rule refl refl
      (all_to (IsOf (length d.laws)) (sourced_rules d horizon) (each_comes (length d.laws) d horizon (omega arith)) one there))))

  met_laws : Met rules row → (number : ℕ) → Is (OfLaw number)
  met_laws met number = λ one there from.
      all_to (λ (other : Sourced). MeetsRule row other.rule) (sourced_rules d horizon)
      (map_all (MeetsRule row) (λ (other : Sourced). other.rule) (sourced_rules d horizon) (subst (λ (l : List TimedRule). Met l row) (sym (known.rules d horizon)) met)) one there

  -- ---- values

  all_caused : AreMet → AreCaused sizes rules row
  all_caused met p size at more =
      let number = p % stride d in
      let step = p / stride d in
      let less = slice_get_within sizes p size at in
      let here : slice_get (sizes_of d) number ≡ Some size = sym (size_there known.sizes d horizon p less) ∙ at in
      let within : number < stride d = subst (λ (n : ℕ). number < n) (sizes_long d) (slice_get_within (sizes_of d) number size here) in
      let same : step * stride d + number ≡ p = div-add-mod' p (stride d) in
      let choice : has_choice d number ≡ true = ap (nat_lt 1) (get_or_from_slice_get (sizes_of d) number size 0 here) ∙ lt-ltb 1 size more in
      subst (λ (n : ℕ). IsCause rules row (heads.Atom n (slice_index row n))) same
      (met.constants number within choice step (subst (λ (n : ℕ). n < length sizes) (sym same) less))

  caused_constants : AreCaused sizes rules row → (number : ℕ) → number < stride d → has_choice d number ≡ true → Is (OfConstant number)
  caused_constants caused number within choice = λ step less.
      let p = step * stride d + number in
      let size = slice_index (sizes_of d) number in
      let at : slice_get sizes p ≡ Some size =
      size_there known.sizes d horizon p less ∙ ap (slice_get (sizes_of d)) (mod-mul-add step (stride d) number within)
      ∙ slice_get-get_or (sizes_of d) number 0 (subst (λ (n : ℕ). number < n) (sym (sizes_long d)) within) in
      caused p size at (ltb-true 1 size choice)

  -- ---- histories

  history : IsNone q.claim → IsInAll d q horizon (parts_of d q) row → IsHistory d q horizon None row
  history none all =
      let met = split all.1 in
      let model = (known.complete d well horizon row all.0).1 (completion sizes rules row (rules_met met) (all_caused met)) in
      record {
        path = (known.paths d well horizon row).0 model;
        meets = record { conditions = tests_hold (condition_holds d horizon row) q.conditions met.conditions; claim = no_claim q.claim none };
        after = tt;
      }
    where
      no_claim : (claim : Option Condition) → IsNone claim → IfSome claim (λ condition. IsFalse (condition_holds d horizon row condition))
      no_claim None is = tt
      no_claim (Some condition) is = absurd cc

  parts : IsHistory d q horizon None row → IsInAll d q horizon (parts_of d q) row
  parts is =
      let model = (known.paths d well horizon row).1 is.path in
      let meets = (known.complete d well horizon row model.interprets).0 model in
      let met = all_met sizes rules row model.interprets (known.heads_name d well horizon) meets in (
        model.interprets,
        joined (record {
          conditions = λ number less. test_holds (condition_holds d horizon row) q.conditions is.meets.conditions number;
          laws = λ number less. met_laws met number;
          constants = caused_constants meets.caused;
        }),
      )

pub made : Known → PartsMakeHistories
made known d well q none horizon row = (history known d well q horizon row none, parts known d well q horizon row)
