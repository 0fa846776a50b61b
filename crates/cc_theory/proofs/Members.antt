-- What the rules of a horizon are: initial ones, and those of cases at steps. Their heads name positions and values of these.
use Rattle.std.proofs.Common.{◌≡◌, ◌∙◌, ℕ, zero, suc, ◌+◌, ◌*◌, ◌<◌, ◌≤◌, ◌⊎◌, inl, inr, Bool, true, false, List, [], ◌∷◌, flat_map, nat_lt, slice_get, Some, refl, sym, ap, subst, arith}
use Rattle.std.specs.Prelude.{if◌then◌else◌}
use Rattle.std.proofs.lemmas.Bool.{lt-ltb, ltb-true}
use Rattle.std.proofs.lemmas.Option.{slice_get_within}
use Rattle.cc_defs.specs.declared.node.GroundHead.{GroundHead}
use Rattle.cc_defs.specs.declared.node.GroundHead.TheVariants as heads
use Rattle.cc_defs.specs.declared.signature.Const.{Const}
use Rattle.cc_defs.specs.declared.signature.Kind.{Kind}
use Rattle.cc_defs.specs.declared.signature.Kind.TheVariants as kinds
use Rattle.cc_defs.specs.declared.signature.LawKind.{LawKind}
use Rattle.cc_defs.specs.declared.signature.LawKind.TheVariants as law_kinds
use Rattle.cc_defs.specs.Conditions.{IsGroundFluentHead, IsGroundSimpleHead, IsGroundActionHead}
use Rattle.cc_defs.specs.Description.{Description, sizes_at, stride}
use Rattle.cc_defs.specs.Forms.{is_simple}
use Rattle.cc_defs.specs.Rules.{upto}
use Rattle.cc_defs.specs.Terms as terms
use Rattle.cc_defs.specs.TimedRules.{TimedRule, all_initial_timed, head_at_step, initial_timed}
use Rattle.cc_theory.specs.Laws.{HeadFits}
use Rattle.cc_theory.proofs.Cases.{Case, IsFit, by_cases, cases, of_case, of_kind, timed_case}
use Rattle.cc_theory.proofs.Lists.{In, flat_in, got_either, in_either, in_flat, in_left, in_map, in_right, in_upto, map_in, upto_in}
use Rattle.cc_theory.proofs.Places.{action_place, fluent_place, size_of}

-- ---- the initial rules

abbrev pub initial : ℕ → ℕ → TimedRule
initial number value = record { head = heads.Atom number value; body = terms.Atom number value }

-- the rule of a value of the simple fluent at a place of a list of constants whose numbers begin with this one
pub record IsInitial (start : ℕ) (constants : List Const) (t : TimedRule) : Type 0 where
  pub place : ℕ
  pub value : ℕ
  pub constant : Const
  pub there : slice_get constants place ≡ Some constant
  pub simple : is_simple constant.kind ≡ true
  pub below : value < size_of constant
  pub is : initial (start + place) value ≡ t

kind_initial : (kind : Kind) (number size : ℕ) (t : TimedRule) → In (initial_timed kind number size) t →
    (is_simple kind ≡ true) × (value : ℕ) × (value < size) × (initial number value ≡ t)
kind_initial kinds.Simple number size t i = let found = map_in (initial number) (upto size) t i in (refl, found.0, upto_in size found.0 found.1, found.2)
kind_initial kinds.Determined number size t i = absurd i
kind_initial kinds.Action number size t i = absurd i

initial_of : (start : ℕ) (constants : List Const) (t : TimedRule) → In (all_initial_timed start constants) t → IsInitial start constants t
initial_of start [] t i = absurd i
initial_of start (c ∷ cs) t i = elim (in_either (initial_timed c.kind start (size_of c)) (all_initial_timed (start + 1) cs) t i) [
  | inl here ↦
      let found = kind_initial c.kind start (size_of c) t here in
      let at : start + 0 ≡ start = omega arith in
      record { place = 0; value = found.1; constant = c; there = refl; simple = found.0; below = found.2; is = ap (λ (n : ℕ). initial n found.1) at ∙ found.3 }
  | inr later ↦
      let found = initial_of (start + 1) cs t later in
      let at : start + suc found.place ≡ start + 1 + found.place = omega arith in
      record {
        place = suc found.place;
        value = found.value;
        constant = found.constant;
        there = found.there;
        simple = found.simple;
        below = found.below;
        is = ap (λ (n : ℕ). initial n found.value) at ∙ found.is;
      }
]

initial_in : (kind : Kind) (number size value : ℕ) → is_simple kind ≡ true → value < size → In (initial_timed kind number size) (initial number value)
initial_in kinds.Simple number size value simple less = in_map (initial number) (upto size) value (in_upto size value less)
initial_in kinds.Determined number size value simple less = absurd cc
initial_in kinds.Action number size value simple less = absurd cc

pub of_initial : (start place value : ℕ) (constants : List Const) (constant : Const) → slice_get constants place ≡ Some constant → is_simple constant.kind ≡ true → value < size_of constant →
    In (all_initial_timed start constants) (initial (start + place) value)
of_initial start place value [] constant there simple less = absurd cc
of_initial start zero value (c ∷ cs) constant there simple less =
    let at : start ≡ start + 0 = omega arith in
    let same : c ≡ constant = cc in
    in_left (initial_timed c.kind start (size_of c)) (all_initial_timed (start + 1) cs) (initial (start + 0) value)
    (subst (λ (n : ℕ). In (initial_timed c.kind start (size_of c)) (initial n value)) at
    (initial_in c.kind start (size_of c) value (ap (λ (k : Const). is_simple k.kind) same ∙ simple) (subst (λ (k : Const). value < size_of k) (sym same) less)))
of_initial start (suc place) value (c ∷ cs) constant there simple less =
    let at : start + 1 + place ≡ start + suc place = omega arith in
    in_right (initial_timed c.kind start (size_of c)) (all_initial_timed (start + 1) cs) (initial (start + suc place) value)
    (subst (λ (n : ℕ). In (all_initial_timed (start + 1) cs) (initial n value)) at (of_initial (start + 1) place value cs constant there simple less))

-- ---- the rules of cases

where_in : {X : Type 0} (b : Bool) (x y : X) → In (if b then x ∷ [] else []) y → (b ≡ true) × (x ≡ y)
where_in true x y i = elim i [ inl e ↦ (refl, e) | inr none ↦ absurd none ]
where_in false x y i = absurd i

pub in_where : {X : Type 0} (b : Bool) (x : X) → b ≡ true → In (if b then x ∷ [] else []) x
in_where true x e = inl refl
in_where false x e = absurd cc

-- a dynamic law has its rule before the last step
pub before_last : (step horizon : ℕ) (x y : TimedRule) → In (if nat_lt step horizon then x ∷ [] else []) y → (step < horizon) × (x ≡ y)
before_last step horizon x y i = let found = where_in (nat_lt step horizon) x y i in (ltb-true step horizon found.0, found.1)

pub in_before : (step horizon : ℕ) (x : TimedRule) → step < horizon → In (if nat_lt step horizon then x ∷ [] else []) x
in_before step horizon x less = in_where (nat_lt step horizon) x (lt-ltb step horizon less)

module _ (d : Description) (horizon : ℕ) where
  pub record IsAt (t : TimedRule) : Type 0 where
    pub step : ℕ
    pub case : Case
    pub within : step ≤ horizon
    pub member : In (cases d) case
    pub made : In (of_case d horizon step case) t

  abbrev at_steps : List TimedRule
  at_steps = flat_map (λ step. flat_map (of_case d horizon step) (cases d)) (upto (horizon + 1))

  pub rule_of : (t : TimedRule) → In (by_cases d horizon) t → IsInitial 0 d.universe.fluents t ⊎ IsAt t
  rule_of t i = elim (in_either (all_initial_timed 0 d.universe.fluents) at_steps t i) [
    | inl first ↦ inl (initial_of 0 d.universe.fluents t first)
    | inr later ↦
        let one = flat_in (λ step. flat_map (of_case d horizon step) (cases d)) (upto (horizon + 1)) t later in
        let other = flat_in (of_case d horizon one.0) (cases d) t one.2 in
        let less = upto_in (horizon + 1) one.0 one.1 in
        inr (record { step = one.0; case = other.0; within = omega arith; member = other.1; made = other.2 })
  ]

  pub first_in : (t : TimedRule) → In (all_initial_timed 0 d.universe.fluents) t → In (by_cases d horizon) t
  first_in t i = in_left (all_initial_timed 0 d.universe.fluents) at_steps t i

  pub of_at : (step : ℕ) (c : Case) (t : TimedRule) → step ≤ horizon → In (cases d) c → In (of_case d horizon step c) t → In (by_cases d horizon) t
  of_at step c t within member made =
      in_right (all_initial_timed 0 d.universe.fluents) at_steps t
      (in_flat (λ step. flat_map (of_case d horizon step) (cases d)) (upto (horizon + 1)) step t (in_upto (horizon + 1) step (omega arith))
      (in_flat (of_case d horizon step) (cases d) c t member made))

  -- ---- their heads

  fluent_fits : (step : ℕ) (head : GroundHead) → step ≤ horizon → IsGroundFluentHead d.universe head → HeadFits (sizes_at d horizon) (head_at_step d step head)
  fluent_fits step (heads.Atom number value) within is = (size_of is.0, fluent_place d horizon step number is.0 within is.1, is.2)
  fluent_fits step heads.Falsity within is = tt

  simple_is_fluent : (head : GroundHead) → IsGroundSimpleHead d.universe head → IsGroundFluentHead d.universe head
  simple_is_fluent (heads.Atom number value) is = (is.0, is.1, is.2)
  simple_is_fluent heads.Falsity is = tt

  action_fits : (step : ℕ) (head : GroundHead) → step < horizon → IsGroundActionHead d.universe head → HeadFits (sizes_at d horizon) (head_at_step d step head)
  action_fits step (heads.Atom number value) within is = elim (got_either d.universe.fluents d.universe.actions number is.0 is.2) [
    | inl fluent ↦ let less = slice_get_within d.universe.fluents number is.0 fluent in let more = is.1 in absurd (omega arith)
    | inr behind ↦ (
      size_of is.0,
      ap (λ (n : ℕ). slice_get (sizes_at d horizon) (step * stride d + n)) behind.1 ∙ action_place d horizon step behind.0 is.0 within behind.2,
      is.3,
    )
  ]
  action_fits step heads.Falsity within is = tt

  kind_fits : (kind : LawKind) (step : ℕ) (c : Case) (t : TimedRule) → step ≤ horizon → In (of_kind kind d horizon step c) t → IsFit kind d.universe c → HeadFits (sizes_at d horizon) t.head
  kind_fits law_kinds.Static step c t within i fit = elim i [
    | inl e ↦ subst (λ (w : TimedRule). HeadFits (sizes_at d horizon) w.head) e (fluent_fits step c.head within fit.0)
    | inr none ↦ absurd none
  ]
  kind_fits law_kinds.ActionDynamic step c t within i fit =
      let found = before_last step horizon (timed_case d c step step) t i in
      subst (λ (w : TimedRule). HeadFits (sizes_at d horizon) w.head) found.1 (action_fits step c.head found.0 fit.0)
  kind_fits law_kinds.FluentDynamic step c t within i fit =
      let found = before_last step horizon (timed_case d c (step + 1) step) t i in
      let less = found.0 in
      subst (λ (w : TimedRule). HeadFits (sizes_at d horizon) w.head) found.1 (fluent_fits (step + 1) c.head (omega arith) (simple_is_fluent c.head fit.0))

  pub heads_fit : ((c : Case) → In (cases d) c → IsFit c.kind d.universe c) → (t : TimedRule) → In (by_cases d horizon) t → HeadFits (sizes_at d horizon) t.head
  heads_fit fit t i = elim (rule_of t i) [
    | inl first ↦
        let at : 0 + first.place ≡ 0 * stride d + first.place = omega arith in
        subst (λ (w : TimedRule). HeadFits (sizes_at d horizon) w.head) first.is
        (size_of first.constant, ap (slice_get (sizes_at d horizon)) at ∙ fluent_place d horizon 0 first.place first.constant (omega arith) first.there, first.below)
    | inr at ↦ kind_fits at.case.kind at.step at.case t at.within at.made (fit at.case at.member)
  ]
