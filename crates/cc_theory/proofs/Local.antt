-- Supported rows are local: the valuation of each step is a state's, and each two neighbours are a step's.
use Rattle.std.proofs.Common.{◌≡◌, ◌∙◌, ℕ, zero, suc, ◌+◌, ◌*◌, ◌<◌, ◌≤◌, ◌⊎◌, inl, inr, Bool, true, false, ◌&&◌, List, length, slice_get, Some, refl, sym, ap, subst, arith}
use Rattle.std.specs.Prelude.{IsTrue, slice_index}
use Rattle.std.proofs.lemmas.Bool.{eq-eqb}
use Rattle.cc_arena.specs.Meanings.{head_truth}
use Rattle.cc_defs.specs.declared.node.GroundHead.{GroundHead}
use Rattle.cc_defs.specs.declared.node.GroundHead.TheVariants as heads
use Rattle.cc_defs.specs.declared.signature.Const.{Const}
use Rattle.cc_defs.specs.declared.signature.LawKind.{LawKind}
use Rattle.cc_defs.specs.declared.signature.LawKind.TheVariants as law_kinds
use Rattle.cc_defs.specs.Description.{Description, sizes_at, stride, values_at}
use Rattle.cc_defs.specs.Forms.{is_simple}
use Rattle.cc_defs.specs.Rows.{IsRow}
use Rattle.cc_defs.specs.Terms.{truth}
use Rattle.cc_defs.specs.TimedRules.{TimedRule, head_at_step}
use Rattle.cc_theory.specs.Completion.{holds}
use Rattle.cc_theory.proofs.Cases.{Case, body_at, by_cases, cases, head_at, of_kind, timed_case}
use Rattle.cc_theory.proofs.Lists.{In, row_at}
use Rattle.cc_theory.proofs.Members.{before_last, first_in, in_before, initial, of_at, of_initial, rule_of}
use Rattle.cc_theory.proofs.Places.{fluent_place, place_of, size_of}
use Rattle.cc_theory.proofs.Supported.{Found, IsSupported, meets_head}

abbrev pub Valuation : Type 0
Valuation = ℕ → ℕ

-- ---- what a case says of the valuations of one step, and of two

abbrev pub now_holds : Case → Valuation → Bool
now_holds c v = truth v c.now && truth v c.before

abbrev pub next_holds : Case → Valuation → Valuation → Bool
next_holds c v w = truth w c.now && truth v c.before

abbrev pub StateMet : LawKind → Case → Valuation → Type 0
StateMet law_kinds.Static c v = IsTrue (now_holds c v) → IsTrue (head_truth v c.head)
StateMet law_kinds.ActionDynamic c v = Unit {0}
StateMet law_kinds.FluentDynamic c v = Unit {0}

abbrev pub StepMet : LawKind → Case → Valuation → Valuation → Type 0
StepMet law_kinds.Static c v w = Unit {0}
StepMet law_kinds.ActionDynamic c v w = IsTrue (now_holds c v) → IsTrue (head_truth v c.head)
StepMet law_kinds.FluentDynamic c v w = IsTrue (next_holds c v w) → IsTrue (head_truth w c.head)

abbrev pub StateCause : LawKind → Case → Valuation → GroundHead → Type 0
StateCause law_kinds.Static c v head = (c.head ≡ head) × IsTrue (now_holds c v)
StateCause law_kinds.ActionDynamic c v head = ⊥
StateCause law_kinds.FluentDynamic c v head = ⊥

abbrev pub ActionCause : LawKind → Case → Valuation → GroundHead → Type 0
ActionCause law_kinds.Static c v head = ⊥
ActionCause law_kinds.ActionDynamic c v head = (c.head ≡ head) × IsTrue (now_holds c v)
ActionCause law_kinds.FluentDynamic c v head = ⊥

abbrev pub StepCause : LawKind → Case → Valuation → Valuation → GroundHead → Type 0
StepCause law_kinds.Static c v w head = ⊥
StepCause law_kinds.ActionDynamic c v w head = ⊥
StepCause law_kinds.FluentDynamic c v w head = (c.head ≡ head) × IsTrue (next_holds c v w)

module _ (d : Description) where
  abbrev pub HasStateCause : Valuation → GroundHead → Type 0
  HasStateCause v head = (c : Case) × In (cases d) c × StateCause c.kind c v head

  abbrev pub HasActionCause : Valuation → GroundHead → Type 0
  HasActionCause v head = (c : Case) × In (cases d) c × ActionCause c.kind c v head

  abbrev pub HasStepCause : Valuation → Valuation → GroundHead → Type 0
  HasStepCause v w head = (c : Case) × In (cases d) c × StepCause c.kind c v w head

  -- static laws are met, and fluents that are not simple have causes by these
  pub record IsStateOf (v : Valuation) : Type 0 where
    pub met : (c : Case) → In (cases d) c → StateMet c.kind c v
    pub determined : (number : ℕ) (constant : Const) → slice_get d.universe.fluents number ≡ Some constant → 1 < size_of constant → is_simple constant.kind ≡ false →
        HasStateCause v (heads.Atom number (v number))

  -- dynamic laws are met, actions have causes, and fluents at the later end have them by static or dynamic laws
  pub record IsStepOf (v w : Valuation) : Type 0 where
    pub met : (c : Case) → In (cases d) c → StepMet c.kind c v w
    pub actions : (number : ℕ) (constant : Const) → slice_get d.universe.actions number ≡ Some constant → 1 < size_of constant →
        HasActionCause v (heads.Atom (length d.universe.fluents + number) (v (length d.universe.fluents + number)))
    pub fluents : (number : ℕ) (constant : Const) → slice_get d.universe.fluents number ≡ Some constant → 1 < size_of constant →
        HasStateCause w (heads.Atom number (w number)) ⊎ HasStepCause v w (heads.Atom number (w number))

  abbrev pub valued : List ℕ → ℕ → Valuation
  valued row step = λ number. values_at d row step number

  pub record IsLocal (horizon : ℕ) (row : List ℕ) : Type 0 where
    pub states : (step : ℕ) → step ≤ horizon → IsStateOf (valued row step)
    pub steps : (step : ℕ) → step < horizon → IsStepOf (valued row step) (valued row (step + 1))

  module _ (horizon : ℕ) (row : List ℕ) where
    -- ---- a rule of a case at a step

    rule_met : (c : Case) (now before : ℕ) → (IsTrue (truth (valued row now) c.now && truth (valued row before) c.before) → IsTrue (head_truth (valued row now) c.head)) →
        IsTrue (holds row (timed_case d c now before).body) → IsTrue (meets_head row (timed_case d c now before).head)
    rule_met c now before met h = head_at d row now c.head ∙ met (sym (body_at d row now before c.now c.before) ∙ h)

    pub met_rule : (c : Case) (now before : ℕ) → (IsTrue (holds row (timed_case d c now before).body) → IsTrue (meets_head row (timed_case d c now before).head)) →
        IsTrue (truth (valued row now) c.now && truth (valued row before) c.before) → IsTrue (head_truth (valued row now) c.head)
    met_rule c now before met h = sym (head_at d row now c.head) ∙ met (body_at d row now before c.now c.before ∙ h)

    abbrev pub RuleMet : TimedRule → Type 0
    RuleMet t = IsTrue (holds row t.body) → IsTrue (meets_head row t.head)

    -- ---- from local to supported

    kind_met : (kind : LawKind) (step : ℕ) (c : Case) (t : TimedRule) → In (of_kind kind d horizon step c) t →
        StateMet kind c (valued row step) → (step < horizon → StepMet kind c (valued row step) (valued row (step + 1))) → RuleMet t
    kind_met law_kinds.Static step c t i state next = elim i [
      | inl e ↦ subst RuleMet e (rule_met c step step state)
      | inr none ↦ absurd none
    ]
    kind_met law_kinds.ActionDynamic step c t i state next =
        let found = before_last step horizon (timed_case d c step step) t i in
        subst RuleMet found.1 (rule_met c step step (next found.0))
    kind_met law_kinds.FluentDynamic step c t i state next =
        let found = before_last step horizon (timed_case d c (step + 1) step) t i in
        subst RuleMet found.1 (rule_met c (step + 1) step (next found.0))

    -- the rule of a case with a head, which has its body
    abbrev HasRule : LawKind → ℕ → Case → GroundHead → Type 0
    HasRule kind step c head = (t : TimedRule) × In (of_kind kind d horizon step c) t × (t.head ≡ head) × IsTrue (holds row t.body)

    state_rule : (kind : LawKind) (step : ℕ) (c : Case) (head : GroundHead) → StateCause kind c (valued row step) head → HasRule kind step c (head_at_step d step head)
    state_rule law_kinds.Static step c head cause =
        (timed_case d c step step, inl refl, ap (head_at_step d step) cause.0, body_at d row step step c.now c.before ∙ cause.1)
    state_rule law_kinds.ActionDynamic step c head cause = absurd cause
    state_rule law_kinds.FluentDynamic step c head cause = absurd cause

    action_rule : (kind : LawKind) (step : ℕ) (c : Case) (head : GroundHead) → step < horizon → ActionCause kind c (valued row step) head → HasRule kind step c (head_at_step d step head)
    action_rule law_kinds.Static step c head less cause = absurd cause
    action_rule law_kinds.ActionDynamic step c head less cause =
        (timed_case d c step step, in_before step horizon (timed_case d c step step) less, ap (head_at_step d step) cause.0, body_at d row step step c.now c.before ∙ cause.1)
    action_rule law_kinds.FluentDynamic step c head less cause = absurd cause

    step_rule : (kind : LawKind) (step : ℕ) (c : Case) (head : GroundHead) → step < horizon → StepCause kind c (valued row step) (valued row (step + 1)) head →
        HasRule kind step c (head_at_step d (step + 1) head)
    step_rule law_kinds.Static step c head less cause = absurd cause
    step_rule law_kinds.ActionDynamic step c head less cause = absurd cause
    step_rule law_kinds.FluentDynamic step c head less cause =
        (timed_case d c (step + 1) step, in_before step horizon (timed_case d c (step + 1) step) less, ap (head_at_step d (step + 1)) cause.0, body_at d row (step + 1) step c.now c.before ∙ cause.1)

    found_at : (step : ℕ) (c : Case) (head : GroundHead) → step ≤ horizon → In (cases d) c → HasRule c.kind step c head → Found (by_cases d horizon) row head
    found_at step c head within member rule = (rule.0, of_at d horizon step c rule.0 within member rule.1, rule.2, rule.3)

    found_state : (step : ℕ) (head : GroundHead) → step ≤ horizon → HasStateCause (valued row step) head → Found (by_cases d horizon) row (head_at_step d step head)
    found_state step head within cause = found_at step cause.0 (head_at_step d step head) within cause.1 (state_rule cause.0.kind step cause.0 head cause.2)

    found_action : (step : ℕ) (head : GroundHead) → step < horizon → HasActionCause (valued row step) head → Found (by_cases d horizon) row (head_at_step d step head)
    found_action step head less cause = found_at step cause.0 (head_at_step d step head) (omega arith) cause.1 (action_rule cause.0.kind step cause.0 head less cause.2)

    found_step : (step : ℕ) (head : GroundHead) → step < horizon → HasStepCause (valued row step) (valued row (step + 1)) head → Found (by_cases d horizon) row (head_at_step d (step + 1) head)
    found_step step head less cause = found_at step cause.0 (head_at_step d (step + 1) head) (omega arith) cause.1 (step_rule cause.0.kind step cause.0 head less cause.2)

    abbrev pub CausedAt : ℕ → Type 0
    CausedAt p = Found (by_cases d horizon) row (heads.Atom p (slice_index row p))

    module _ (is : IsRow (sizes_at d horizon) row) (local : IsLocal horizon row) where
      first_caused : (number : ℕ) (constant : Const) → slice_get d.universe.fluents number ≡ Some constant → 1 < size_of constant → CausedAt (0 * stride d + number)
      first_caused number constant there more = by (is_simple constant.kind) refl
        where
          by : (b : Bool) → is_simple constant.kind ≡ b → CausedAt (0 * stride d + number)
          by true simple =
              let at : 0 * stride d + number ≡ 0 + number = omega arith in
              let below = row_at (sizes_at d horizon) row (0 * stride d + number) (size_of constant) is (fluent_place d horizon 0 number constant (omega arith) there) in
              let less : slice_index row (0 + number) < size_of constant = subst (λ (n : ℕ). slice_index row n < size_of constant) at below.1 in
              let t = initial (0 + number) (slice_index row (0 + number)) in
              subst CausedAt (sym at)
              (t, first_in d horizon t (of_initial 0 number (slice_index row (0 + number)) d.universe.fluents constant there simple less), refl, eq-eqb (slice_index row (0 + number)) (slice_index row (0 + number)) refl)
          by false other = found_state 0 (heads.Atom number (valued row 0 number)) (omega arith) ((local.states 0 (omega arith)).determined number constant there more other)

      later_caused : (step number : ℕ) (constant : Const) → step < horizon → slice_get d.universe.fluents number ≡ Some constant → 1 < size_of constant → CausedAt ((step + 1) * stride d + number)
      later_caused step number constant less there more = elim ((local.steps step less).fluents number constant there more) [
        | inl state ↦ found_state (step + 1) (heads.Atom number (valued row (step + 1) number)) (omega arith) state
        | inr next ↦ found_step step (heads.Atom number (valued row (step + 1) number)) less next
      ]

      fluent_caused : (step number : ℕ) (constant : Const) → step ≤ horizon → slice_get d.universe.fluents number ≡ Some constant → 1 < size_of constant → CausedAt (step * stride d + number)
      fluent_caused zero number constant within there more = first_caused number constant there more
      fluent_caused (suc step) number constant within there more =
          let next : step + 1 ≡ suc step = omega arith in
          subst (λ (n : ℕ). CausedAt (n * stride d + number)) next (later_caused step number constant (omega arith) there more)

      action_caused : (step number : ℕ) (constant : Const) → step < horizon → slice_get d.universe.actions number ≡ Some constant → 1 < size_of constant →
          CausedAt (step * stride d + (length d.universe.fluents + number))
      action_caused step number constant less there more =
          found_action step (heads.Atom (length d.universe.fluents + number) (valued row step (length d.universe.fluents + number))) less ((local.steps step less).actions number constant there more)

      pub local_supported : IsSupported (sizes_at d horizon) (by_cases d horizon) row
      local_supported = record {
        met = λ t i. elim (rule_of d horizon t i) [
          | inl first ↦ subst RuleMet first.is (λ h. h)
          | inr at ↦ kind_met at.case.kind at.step at.case t at.made ((local.states at.step at.within).met at.case at.member) (λ less. (local.steps at.step less).met at.case at.member)
        ];
        caused = λ p size there more. elim (place_of d horizon p size there) [
          | inl f ↦ subst CausedAt f.at (fluent_caused f.step f.number f.constant f.within f.there (subst (λ (n : ℕ). 1 < n) (sym f.sized) more))
          | inr a ↦ subst CausedAt a.at (action_caused a.step a.number a.constant a.within a.there (subst (λ (n : ℕ). 1 < n) (sym a.sized) more))
        ];
      }
