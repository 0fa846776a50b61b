-- Where the causes of a supported row come from: so it is local.
use Rattle.std.proofs.Common.{◌≡◌, ◌∙◌, ℕ, ◌+◌, ◌*◌, ◌<◌, ◌≤◌, ◌⊎◌, inl, inr, true, false, List, length, slice_get, Some, refl, sym, ap, subst, arith}
use Rattle.std.specs.Prelude.{IsTrue}
use Rattle.std.proofs.lemmas.Option.{slice_get_within}
use Rattle.cc_defs.specs.declared.node.GroundHead.{GroundHead}
use Rattle.cc_defs.specs.declared.node.GroundHead.TheVariants as heads
use Rattle.cc_defs.specs.declared.signature.Const.{Const}
use Rattle.cc_defs.specs.declared.signature.LawKind.{LawKind}
use Rattle.cc_defs.specs.declared.signature.LawKind.TheVariants as law_kinds
use Rattle.cc_defs.specs.Conditions.{IsGroundFluentHead, IsGroundSimpleHead, IsGroundActionHead}
use Rattle.cc_defs.specs.Description.{Description, sizes_at, stride}
use Rattle.cc_defs.specs.Forms.{is_simple}
use Rattle.cc_defs.specs.TimedRules.{TimedRule, head_at_step}
use Rattle.cc_theory.specs.Completion.{holds}
use Rattle.cc_theory.proofs.Cases.{Case, IsFit, body_at, by_cases, cases, of_kind, timed_case}
use Rattle.cc_theory.proofs.Lists.{In, got_either}
use Rattle.cc_theory.proofs.Local.{ActionCause, HasActionCause, HasStateCause, HasStepCause, IsLocal, RuleMet, StateCause, StateMet, StepCause, StepMet, met_rule, next_holds, now_holds, valued}
use Rattle.cc_theory.proofs.Members.{before_last, in_before, of_at, rule_of}
use Rattle.cc_theory.proofs.Places.{action_place, fluent_place, one_place, size_of}
use Rattle.cc_theory.proofs.Supported.{Found, IsSupported}

atom_parts : (a b p q : ℕ) → heads.Atom a b ≡ heads.Atom p q → (a ≡ p) × (b ≡ q)
atom_parts a b p q e = (cc, cc)

atom_same : (a b p q : ℕ) → a ≡ p → b ≡ q → heads.Atom a b ≡ heads.Atom p q
atom_same a b p q e f = ap (λ (n : ℕ). heads.Atom n b) e ∙ ap (λ (n : ℕ). heads.Atom p n) f

-- the atom of a head is of one of so many constants
abbrev IsBelow : ℕ → GroundHead → Type 0
IsBelow count (heads.Atom number value) = number < count
IsBelow count heads.Falsity = Unit {0}

module _ (d : Description) where
  -- ---- the constants of heads

  fluent_below : (head : GroundHead) → IsGroundFluentHead d.universe head → IsBelow (stride d) head
  fluent_below (heads.Atom number value) is = let less = slice_get_within d.universe.fluents number is.0 is.1 in omega arith
  fluent_below heads.Falsity is = tt

  simple_below : (head : GroundHead) → IsGroundSimpleHead d.universe head → IsBelow (stride d) head
  simple_below (heads.Atom number value) is = let less = slice_get_within d.universe.fluents number is.0 is.1 in omega arith
  simple_below heads.Falsity is = tt

  action_below : (head : GroundHead) → IsGroundActionHead d.universe head → IsBelow (stride d) head
  action_below (heads.Atom number value) is = elim (got_either d.universe.fluents d.universe.actions number is.0 is.2) [
    | inl fluent ↦ let less = slice_get_within d.universe.fluents number is.0 fluent in omega arith
    | inr behind ↦ let less = slice_get_within d.universe.actions behind.0 is.0 behind.2 in let at = behind.1 in omega arith
  ]
  action_below heads.Falsity is = tt

  -- a head at a step that is the atom of a constant at a step is that constant's, at that step
  located : (head : GroundHead) (s step k v : ℕ) → k < stride d → head_at_step d s head ≡ heads.Atom (step * stride d + k) v → IsBelow (stride d) head →
      (s ≡ step) × (head ≡ heads.Atom k v)
  located (heads.Atom j w) s step k v less e below =
      let parts = atom_parts (s * stride d + j) w (step * stride d + k) v e in
      let same = one_place (stride d) s j step k below less parts.0 in
      (same.0, atom_same j w k v same.1 parts.1)
  located heads.Falsity s step k v less e below = absurd cc

  -- the fluent with this number is simple
  abbrev IsSimple : ℕ → Type 0
  IsSimple number = (constant : Const) × (slice_get d.universe.fluents number ≡ Some constant) × (is_simple constant.kind ≡ true)

  module _ (horizon : ℕ) (row : List ℕ) where
    -- where a cause of a constant's value at a step comes from: a static law, an action dynamic one, or a fluent dynamic one at the step before
    abbrev FromState : LawKind → Case → ℕ → ℕ → ℕ → Type 0
    FromState kind c step k v = (k < length d.universe.fluents) × StateCause kind c (valued d row step) (heads.Atom k v)

    abbrev FromAction : LawKind → Case → ℕ → ℕ → ℕ → Type 0
    FromAction kind c step k v = (length d.universe.fluents ≤ k) × ActionCause kind c (valued d row step) (heads.Atom k v)

    abbrev FromBefore : LawKind → Case → ℕ → ℕ → ℕ → Type 0
    FromBefore kind c step k v = (before : ℕ) × (before + 1 ≡ step) × IsSimple k × StepCause kind c (valued d row before) (valued d row (before + 1)) (heads.Atom k v)

    abbrev From : LawKind → Case → ℕ → ℕ → ℕ → Type 0
    From kind c step k v = FromState kind c step k v ⊎ (FromAction kind c step k v ⊎ FromBefore kind c step k v)

    kind_from : (kind : LawKind) (s : ℕ) (c : Case) (t : TimedRule) (step k v : ℕ) → k < stride d → In (of_kind kind d horizon s c) t → IsFit kind d.universe c →
        t.head ≡ heads.Atom (step * stride d + k) v → IsTrue (holds row t.body) → From kind c step k v
    kind_from law_kinds.Static s c t step k v less i fit is h = elim i [
      | inl e ↦
          let same = located c.head s step k v less (ap (λ (w : TimedRule). w.head) e ∙ is) (fluent_below c.head fit.0) in
          let fluent : IsGroundFluentHead d.universe (heads.Atom k v) = subst (IsGroundFluentHead d.universe) same.1 fit.0 in
          let body : IsTrue (now_holds c (valued d row s)) = sym (body_at d row s s c.now c.before) ∙ ap (λ (w : TimedRule). holds row w.body) e ∙ h in
          inl (slice_get_within d.universe.fluents k fluent.0 fluent.1, (same.1, subst (λ (n : ℕ). IsTrue (now_holds c (valued d row n))) same.0 body))
      | inr none ↦ absurd none
    ]
    kind_from law_kinds.ActionDynamic s c t step k v less i fit is h =
        let e = (before_last s horizon (timed_case d c s s) t i).1 in
        let same = located c.head s step k v less (ap (λ (w : TimedRule). w.head) e ∙ is) (action_below c.head fit.0) in
        let action : IsGroundActionHead d.universe (heads.Atom k v) = subst (IsGroundActionHead d.universe) same.1 fit.0 in
        let body : IsTrue (now_holds c (valued d row s)) = sym (body_at d row s s c.now c.before) ∙ ap (λ (w : TimedRule). holds row w.body) e ∙ h in
        inr (inl (action.1, (same.1, subst (λ (n : ℕ). IsTrue (now_holds c (valued d row n))) same.0 body)))
    kind_from law_kinds.FluentDynamic s c t step k v less i fit is h =
        let e = (before_last s horizon (timed_case d c (s + 1) s) t i).1 in
        let same = located c.head (s + 1) step k v less (ap (λ (w : TimedRule). w.head) e ∙ is) (simple_below c.head fit.0) in
        let simple : IsGroundSimpleHead d.universe (heads.Atom k v) = subst (IsGroundSimpleHead d.universe) same.1 fit.0 in
        let body : IsTrue (next_holds c (valued d row s) (valued d row (s + 1))) =
        sym (body_at d row (s + 1) s c.now c.before) ∙ ap (λ (w : TimedRule). holds row w.body) e ∙ h in
        inr (inr (s, same.0, (simple.0, simple.1, simple.3), (same.1, body)))

    -- ---- the origins of a cause

    pub data Origin (step k v : ℕ) : Type 0 where
      AtStart : step ≡ 0 → IsSimple k → Origin step k v
      ByState : k < length d.universe.fluents → HasStateCause d (valued d row step) (heads.Atom k v) → Origin step k v
      ByAction : length d.universe.fluents ≤ k → HasActionCause d (valued d row step) (heads.Atom k v) → Origin step k v
      ByStep : (before : ℕ) → before + 1 ≡ step → IsSimple k → HasStepCause d (valued d row before) (valued d row (before + 1)) (heads.Atom k v) → Origin step k v

    module _ (fit : (c : Case) → In (cases d) c → IsFit c.kind d.universe c) where
      origin : (step k v : ℕ) → k < stride d → Found (by_cases d horizon) row (heads.Atom (step * stride d + k) v) → Origin step k v
      origin step k v less found = elim (rule_of d horizon found.0 found.1) [
        | inl first ↦
            let parts = atom_parts (0 + first.place) first.value (step * stride d + k) v (ap (λ (w : TimedRule). w.head) first.is ∙ found.2) in
            let at : 0 * stride d + first.place ≡ step * stride d + k = let e = parts.0 in omega arith in
            let below : first.place < stride d = let p = slice_get_within d.universe.fluents first.place first.constant first.there in omega arith in
            let same = one_place (stride d) 0 first.place step k below less at in
            AtStart (sym same.0) (first.constant, ap (slice_get d.universe.fluents) (sym same.1) ∙ first.there, first.simple)
        | inr at ↦ elim (kind_from at.case.kind at.step at.case found.0 step k v less at.made (fit at.case at.member) found.2 found.3) [
          | inl state ↦ ByState state.0 (at.case, at.member, state.1)
          | inr other ↦ elim other [
            | inl action ↦ ByAction action.0 (at.case, at.member, action.1)
            | inr next ↦ ByStep next.0 next.1 next.2 (at.case, at.member, next.3)
          ]
        ]
      ]

      module _ (supported : IsSupported (sizes_at d horizon) (by_cases d horizon) row) where
        rules_met : (step : ℕ) (c : Case) → step ≤ horizon → In (cases d) c → (t : TimedRule) → In (of_kind c.kind d horizon step c) t → RuleMet d horizon row t
        rules_met step c within member t made = supported.met t (of_at d horizon step c t within member made)

        kind_state : (kind : LawKind) (step : ℕ) (c : Case) → ((t : TimedRule) → In (of_kind kind d horizon step c) t → RuleMet d horizon row t) → StateMet kind c (valued d row step)
        kind_state law_kinds.Static step c met = met_rule d horizon row c step step (met (timed_case d c step step) (inl refl))
        kind_state law_kinds.ActionDynamic step c met = tt
        kind_state law_kinds.FluentDynamic step c met = tt

        kind_step : (kind : LawKind) (step : ℕ) (c : Case) → step < horizon → ((t : TimedRule) → In (of_kind kind d horizon step c) t → RuleMet d horizon row t) →
            StepMet kind c (valued d row step) (valued d row (step + 1))
        kind_step law_kinds.Static step c less met = tt
        kind_step law_kinds.ActionDynamic step c less met =
            met_rule d horizon row c step step (met (timed_case d c step step) (in_before step horizon (timed_case d c step step) less))
        kind_step law_kinds.FluentDynamic step c less met =
            met_rule d horizon row c (step + 1) step (met (timed_case d c (step + 1) step) (in_before step horizon (timed_case d c (step + 1) step) less))

        fluent_origin : (step number : ℕ) (constant : Const) → step ≤ horizon → slice_get d.universe.fluents number ≡ Some constant → 1 < size_of constant →
            Origin step number (valued d row step number)
        fluent_origin step number constant within there more =
            let less = slice_get_within d.universe.fluents number constant there in
            origin step number (valued d row step number) (omega arith)
            (supported.caused (step * stride d + number) (size_of constant) (fluent_place d horizon step number constant within there) more)

        action_origin : (step number : ℕ) (constant : Const) → step < horizon → slice_get d.universe.actions number ≡ Some constant → 1 < size_of constant →
            Origin step (length d.universe.fluents + number) (valued d row step (length d.universe.fluents + number))
        action_origin step number constant within there more =
            let less = slice_get_within d.universe.actions number constant there in
            origin step (length d.universe.fluents + number) (valued d row step (length d.universe.fluents + number)) (omega arith)
            (supported.caused (step * stride d + (length d.universe.fluents + number)) (size_of constant) (action_place d horizon step number constant within there) more)

        not_both : (number : ℕ) (constant : Const) → slice_get d.universe.fluents number ≡ Some constant → is_simple constant.kind ≡ false → IsSimple number → ⊥
        not_both number constant there other simple =
            let same : simple.0 ≡ constant = let e : Some simple.0 ≡ Some constant = sym simple.1 ∙ there in cc in
            let wrong : false ≡ true = sym other ∙ ap (λ (c : Const). is_simple c.kind) (sym same) ∙ simple.2 in
            absurd cc

        determined_by : (step number v : ℕ) (constant : Const) → slice_get d.universe.fluents number ≡ Some constant → is_simple constant.kind ≡ false → Origin step number v →
            HasStateCause d (valued d row step) (heads.Atom number v)
        determined_by step number v constant there other (AtStart start simple) = absurd (not_both number constant there other simple)
        determined_by step number v constant there other (ByState fluent cause) = cause
        determined_by step number v constant there other (ByAction action cause) = let less = slice_get_within d.universe.fluents number constant there in absurd (omega arith)
        determined_by step number v constant there other (ByStep before next simple cause) = absurd (not_both number constant there other simple)

        later_by : (step number v : ℕ) (constant : Const) → slice_get d.universe.fluents number ≡ Some constant → Origin (step + 1) number v →
            HasStateCause d (valued d row (step + 1)) (heads.Atom number v) ⊎ HasStepCause d (valued d row step) (valued d row (step + 1)) (heads.Atom number v)
        later_by step number v constant there (AtStart start simple) = absurd (omega arith)
        later_by step number v constant there (ByState fluent cause) = inl cause
        later_by step number v constant there (ByAction action cause) = let less = slice_get_within d.universe.fluents number constant there in absurd (omega arith)
        later_by step number v constant there (ByStep before next simple cause) =
            let same : before ≡ step = omega arith in
            inr (subst (λ (n : ℕ). HasStepCause d (valued d row n) (valued d row (n + 1)) (heads.Atom number v)) same cause)

        action_by : (step number v : ℕ) → Origin step (length d.universe.fluents + number) v →
            HasActionCause d (valued d row step) (heads.Atom (length d.universe.fluents + number) v)
        action_by step number v (AtStart start simple) = let less = slice_get_within d.universe.fluents (length d.universe.fluents + number) simple.0 simple.1 in absurd (omega arith)
        action_by step number v (ByState fluent cause) = absurd (omega arith)
        action_by step number v (ByAction action cause) = cause
        action_by step number v (ByStep before next simple cause) =
            let less = slice_get_within d.universe.fluents (length d.universe.fluents + number) simple.0 simple.1 in absurd (omega arith)

        pub supported_local : IsLocal d horizon row
        supported_local = record {
          states = λ step within. record {
            met = λ c member. kind_state c.kind step c (rules_met step c within member);
            determined = λ number constant there more other.
                determined_by step number (valued d row step number) constant there other (fluent_origin step number constant within there more);
          };
          steps = λ step less. record {
            met = λ c member. kind_step c.kind step c less (rules_met step c (omega arith) member);
            actions = λ number constant there more.
                action_by step number (valued d row step (length d.universe.fluents + number)) (action_origin step number constant less there more);
            fluents = λ number constant there more.
                later_by step number (valued d row (step + 1) number) constant there (fluent_origin (step + 1) number constant (omega arith) there more);
          };
        }
