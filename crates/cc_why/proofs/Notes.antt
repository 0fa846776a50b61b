-- Causes are noted rule by rule, law by law and step by step.
use Rattle.std.proofs.Common.{◌≡◌, ◌∙◌, ℕ, suc, ◌+◌, ◌<◌, List, [], ◌∷◌, ◌++◌, length, flat_map, drop, get_or, Option, Some, None, refl, sym, ap, subst, arith, add-one}
use Rattle.std.specs.List.{find}
use Rattle.std.specs.Option.{option_map, option_or}
use Rattle.std.proofs.Math.Seq.{drop-cons}
use Rattle.std.proofs.lemmas.Grind.{flat_map-append}
use Rattle.std.proofs.lemmas.List.{append-nil}
use Rattle.std.proofs.lemmas.List.Folds.{find-append}
use Rattle.cc_arena.specs.declared.ground_laws.GroundLaw.{GroundLaw}
use Rattle.cc_defs.specs.declared.node.GroundHead.TheVariants as heads
use Rattle.cc_defs.specs.declared.signature.LawKind.TheVariants as law_kinds
use Rattle.cc_defs.specs.Declarations.{upto}
use Rattle.cc_defs.specs.TimedRules as timed
use Rattle.cc_theory.specs.Making.{rule_of}
use Rattle.cc_theory.specs.Theories.{IsRuleOf}
use Rattle.cc_why.specs.declared.cause.Cause.{Cause}
use Rattle.cc_why.specs.declared.cause.Cause.TheVariants as kinds
use Rattle.cc_why.specs.Causes.{Sourced, is_reason, sourced}
use Rattle.cc_why.specs.Noting.{AreNoted, MeanAt, MeansAt, found_in, head_step}

-- the law that a read past the end gives
abbrev pub no_law : GroundLaw
no_law = record { head = heads.Atom 0 0; body = record { ref_ptr = (0, 0); now = [] }; after = None; kind = law_kinds.Static; base = 0 }

pub or_none : {X : Type 0} (o : Option X) → o ≡ option_or o None
or_none (Some x) = refl
or_none None = refl

or_or : {X : Type 0} (o p q : Option X) → option_or (option_or o p) q ≡ option_or o (option_or p q)
or_or (Some x) p q = refl
or_or None p q = refl

map_or : {X Y : Type 0} (f : X → Y) (o p : Option X) → option_map f (option_or o p) ≡ option_or (option_map f o) (option_map f p)
map_or f (Some x) p = refl
map_or f None p = refl

-- the first of two lists of rules
pub found_append : (row : List ℕ) (position : ℕ) (xs ys : List Sourced) → found_in row position (xs ++ ys) ≡ option_or (found_in row position xs) (found_in row position ys)
found_append row position xs ys =
    ap (option_map (λ (one : Sourced). one.cause)) (find-append (is_reason row position) xs ys)
    ∙ map_or (λ (one : Sourced). one.cause) (find (is_reason row position) xs) (find (is_reason row position) ys)

module _ (row : List ℕ) where
  pub none_noted : (causes : List (Option Cause)) → AreNoted row [] causes causes
  none_noted causes = record { long = refl; each = λ position less. or_none (get_or causes position None) }

  pub noted_then : (xs ys : List Sourced) (old between new : List (Option Cause)) → AreNoted row xs old between → AreNoted row ys between new → AreNoted row (xs ++ ys) old new
  noted_then xs ys old between new first second = record {
    long = second.long ∙ first.long;
    each = λ position less.
        second.each position (subst (λ (n : ℕ). position < n) (sym first.long) less)
        ∙ ap (λ (o : Option Cause). option_or o (found_in row position ys)) (first.each position less)
        ∙ or_or (get_or old position None) (found_in row position xs) (found_in row position ys)
        ∙ ap (option_or (get_or old position None)) (sym (found_append row position xs ys));
  }

  -- ---- a law

  pub rule_noted : (stride step : ℕ) (law : GroundLaw) (taken : Option ℕ) (now : ℕ) (old new : List (Option Cause)) → taken ≡ Some now →
      ((rule : timed.TimedRule) → IsRuleOf stride (rule_of stride law now step) rule → AreNoted row (sourced (kinds.Law law.base) rule ∷ []) old new) →
      (meant : List Sourced) → MeansAt stride step law taken meant → AreNoted row meant old new
  rule_noted stride step law taken now old new is noted meant means =
      let own = subst (λ (o : Option ℕ). MeansAt stride step law o meant) is means in
      subst (λ (m : List Sourced). AreNoted row m old new) (sym own.2) (noted own.0 own.1)

  pub no_rule_noted : (stride step : ℕ) (law : GroundLaw) (taken : Option ℕ) (causes : List (Option Cause)) → taken ≡ None →
      (meant : List Sourced) → MeansAt stride step law taken meant → AreNoted row meant causes causes
  no_rule_noted stride step law taken causes is meant means =
      subst (λ (m : List Sourced). AreNoted row m causes causes) (sym (subst (λ (o : Option ℕ). MeansAt stride step law o meant) is means)) (none_noted causes)

  -- ---- the laws at a step

  module _ (stride horizon step : ℕ) (laws : List GroundLaw) where
    -- what is left to be noted from here on is all that is left
    abbrev pub IsLeft : ℕ → List (Option Cause) → List (Option Cause) → List Sourced → Type 0
    IsLeft i first causes meant =
        (rest : List Sourced) × MeanAt stride horizon step (drop i laws) rest × ((new : List (Option Cause)) → AreNoted row rest causes new → AreNoted row meant first new)

    pub law_noted : (i : ℕ) (first old new : List (Option Cause)) → i < length laws →
        ((own : List Sourced) → MeansAt stride step (get_or laws i no_law) (head_step (get_or laws i no_law).kind horizon step) own → AreNoted row own old new) →
        (meant : List Sourced) → IsLeft i first old meant → IsLeft (i + 1) first new meant
    law_noted i first old new less noted meant left =
        let means = subst (λ (l : List GroundLaw). MeanAt stride horizon step l left.0) (drop-cons laws i no_law less) left.1 in (
          means.1,
          subst (λ (n : ℕ). MeanAt stride horizon step (drop n laws) means.1) (let e : suc i ≡ i + 1 = omega arith in e) means.3,
          λ later are. left.2 later (subst (λ (m : List Sourced). AreNoted row m old later) (sym means.4) (noted_then means.0 means.1 old new later (noted means.0 means.2) are)),
        )

  -- ---- the steps

  pub step_noted : (meant : ℕ → List Sourced) (step : ℕ) (first old new : List (Option Cause)) → AreNoted row (flat_map meant (upto step)) first old → AreNoted row (meant step) old new →
      AreNoted row (flat_map meant (upto (step + 1))) first new
  step_noted meant step first old new so_far here =
      let split : flat_map meant (upto (step + 1)) ≡ flat_map meant (upto step) ++ meant step =
      ap (λ (n : ℕ). flat_map meant (upto n)) (add-one step) ∙ flat_map-append meant (upto step) (step ∷ []) ∙ ap (λ (l : List Sourced). flat_map meant (upto step) ++ l) (append-nil (meant step)) in
      subst (λ (m : List Sourced). AreNoted row m first new) (sym split) (noted_then (flat_map meant (upto step)) (meant step) first old new so_far here)
