-- States and steps read no more than the values of their constants.
use Rattle.std.proofs.Common.{◌≡◌, ◌∙◌, ℕ, ◌+◌, ◌<◌, inl, inr, Bool, ◌&&◌, ◌++◌, length, refl, sym, ap, subst, arith, length-append}
use Rattle.std.specs.Prelude.{◌==◌}
use Rattle.std.proofs.lemmas.Option.{slice_get_within}
use Rattle.cc_arena.specs.Meanings.{head_truth}
use Rattle.cc_defs.specs.declared.node.GroundHead.{GroundHead}
use Rattle.cc_defs.specs.declared.node.GroundHead.TheVariants as heads
use Rattle.cc_defs.specs.declared.signature.LawKind.{LawKind}
use Rattle.cc_defs.specs.declared.signature.LawKind.TheVariants as law_kinds
use Rattle.cc_defs.specs.Conditions.{IsGroundFluentHead, IsGroundSimpleHead, IsGroundActionHead}
use Rattle.cc_defs.specs.Description.{Description, stride}
use Rattle.cc_defs.specs.Terms.{truth}
use Rattle.cc_theory.proofs.Cases.{Case, IsFit, cases}
use Rattle.cc_theory.proofs.Lists.{In}
use Rattle.cc_theory.proofs.Local.{ActionCause, HasActionCause, HasStateCause, HasStepCause, IsStateOf, IsStepOf, StateCause, StateMet, StepCause, StepMet, Valuation}

module _ (d : Description) where
  abbrev pub Agree : ℕ → Valuation → Valuation → Type 0
  Agree count v w = (number : ℕ) → number < count → v number ≡ w number

  both_same : (a b x y : Bool) → a ≡ x → b ≡ y → (a && b) ≡ (x && y)
  both_same a b x y p q = ap (λ (c : Bool). c && b) p ∙ ap (λ (c : Bool). x && c) q

  -- ---- heads

  fluent_head : (v w : Valuation) → Agree (length d.universe.fluents) v w → (head : GroundHead) → IsGroundFluentHead d.universe head → head_truth v head ≡ head_truth w head
  fluent_head v w agree (heads.Atom number value) is = ap (λ (n : ℕ). n == value) (agree number (slice_get_within d.universe.fluents number is.0 is.1))
  fluent_head v w agree heads.Falsity is = refl

  simple_head : (v w : Valuation) → Agree (length d.universe.fluents) v w → (head : GroundHead) → IsGroundSimpleHead d.universe head → head_truth v head ≡ head_truth w head
  simple_head v w agree (heads.Atom number value) is = ap (λ (n : ℕ). n == value) (agree number (slice_get_within d.universe.fluents number is.0 is.1))
  simple_head v w agree heads.Falsity is = refl

  action_head : (v w : Valuation) → Agree (stride d) v w → (head : GroundHead) → IsGroundActionHead d.universe head → head_truth v head ≡ head_truth w head
  action_head v w agree (heads.Atom number value) is =
      let sum = length-append d.universe.fluents d.universe.actions in
      let less = slice_get_within (d.universe.fluents ++ d.universe.actions) number is.0 is.2 in
      ap (λ (n : ℕ). n == value) (agree number (omega arith))
  action_head v w agree heads.Falsity is = refl

  module _ (fit : (c : Case) → In (cases d) c → IsFit c.kind d.universe c) where
    -- ---- states

    module _ (v w : Valuation) (agree : Agree (length d.universe.fluents) v w) where
      state_met : (kind : LawKind) (c : Case) → IsFit kind d.universe c → StateMet kind c v → StateMet kind c w
      state_met law_kinds.Static c fits met = λ h.
          sym (fluent_head v w agree c.head fits.0) ∙ met (both_same (truth v c.now) (truth v c.before) (truth w c.now) (truth w c.before) (fits.1 v w agree) (fits.2 v w agree) ∙ h)
      state_met law_kinds.ActionDynamic c fits met = tt
      state_met law_kinds.FluentDynamic c fits met = tt

      state_cause : (kind : LawKind) (c : Case) (head : GroundHead) → IsFit kind d.universe c → StateCause kind c v head → StateCause kind c w head
      state_cause law_kinds.Static c head fits cause =
          (cause.0, sym (both_same (truth v c.now) (truth v c.before) (truth w c.now) (truth w c.before) (fits.1 v w agree) (fits.2 v w agree)) ∙ cause.1)
      state_cause law_kinds.ActionDynamic c head fits cause = absurd cause
      state_cause law_kinds.FluentDynamic c head fits cause = absurd cause

      caused_same : (number : ℕ) → number < length d.universe.fluents → HasStateCause d v (heads.Atom number (v number)) → HasStateCause d w (heads.Atom number (w number))
      caused_same number less cause =
          subst (λ (n : ℕ). HasStateCause d w (heads.Atom number n)) (agree number less)
          (cause.0, cause.1, state_cause cause.0.kind cause.0 (heads.Atom number (v number)) (fit cause.0 cause.1) cause.2)

      pub state_same : IsStateOf d v → IsStateOf d w
      state_same state = record {
        met = λ c member. state_met c.kind c (fit c member) (state.met c member);
        determined = λ number constant there more other.
            caused_same number (slice_get_within d.universe.fluents number constant there) (state.determined number constant there more other);
      }

    -- ---- steps

    module _ (v w x y : Valuation) (all : Agree (stride d) v x) (agree : Agree (length d.universe.fluents) w y) where
      step_met : (kind : LawKind) (c : Case) → IsFit kind d.universe c → StepMet kind c v w → StepMet kind c x y
      step_met law_kinds.Static c fits met = tt
      step_met law_kinds.ActionDynamic c fits met = λ h.
          sym (action_head v x all c.head fits.0) ∙ met (both_same (truth v c.now) (truth v c.before) (truth x c.now) (truth x c.before) (fits.1 v x all) (fits.2 v x all) ∙ h)
      step_met law_kinds.FluentDynamic c fits met = λ h.
          sym (simple_head w y agree c.head fits.0) ∙ met (both_same (truth w c.now) (truth v c.before) (truth y c.now) (truth x c.before) (fits.1 w y agree) (fits.2 v x all) ∙ h)

      action_cause : (kind : LawKind) (c : Case) (head : GroundHead) → IsFit kind d.universe c → ActionCause kind c v head → ActionCause kind c x head
      action_cause law_kinds.Static c head fits cause = absurd cause
      action_cause law_kinds.ActionDynamic c head fits cause =
          (cause.0, sym (both_same (truth v c.now) (truth v c.before) (truth x c.now) (truth x c.before) (fits.1 v x all) (fits.2 v x all)) ∙ cause.1)
      action_cause law_kinds.FluentDynamic c head fits cause = absurd cause

      step_cause : (kind : LawKind) (c : Case) (head : GroundHead) → IsFit kind d.universe c → StepCause kind c v w head → StepCause kind c x y head
      step_cause law_kinds.Static c head fits cause = absurd cause
      step_cause law_kinds.ActionDynamic c head fits cause = absurd cause
      step_cause law_kinds.FluentDynamic c head fits cause =
          (cause.0, sym (both_same (truth w c.now) (truth v c.before) (truth y c.now) (truth x c.before) (fits.1 w y agree) (fits.2 v x all)) ∙ cause.1)

      pub step_same : IsStepOf d v w → IsStepOf d x y
      step_same step = record {
        met = λ c member. step_met c.kind c (fit c member) (step.met c member);
        actions = λ number constant there more.
            let cause = step.actions number constant there more in
            let within = slice_get_within d.universe.actions number constant there in
            let k = length d.universe.fluents + number in
            subst (λ (n : ℕ). HasActionCause d x (heads.Atom k n)) (all k (omega arith))
            (cause.0, cause.1, action_cause cause.0.kind cause.0 (heads.Atom k (v k)) (fit cause.0 cause.1) cause.2);
        fluents = λ number constant there more.
            let less = slice_get_within d.universe.fluents number constant there in
            elim (step.fluents number constant there more) [
              | inl state ↦ inl (caused_same w y agree number less state)
              | inr next ↦ inr (subst (λ (n : ℕ). HasStepCause d x y (heads.Atom number n)) (agree number less)
                  (next.0, next.1, step_cause next.0.kind next.0 (heads.Atom number (w number)) (fit next.0 next.1) next.2))
            ];
      }
