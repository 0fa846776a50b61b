-- Induction over the last states of a path.
use Rattle.std.proofs.Common.{◌≡◌, ◌∙◌, ℕ, zero, suc, ◌+◌, ◌-◌, ◌<◌, ◌≤◌, ◌⊎◌, inl, inr, Bool, true, false, ◌&&◌, not, List, [], ◌∷◌, map, nat_lt, Option, None, refl, ap, subst, arith}
use Rattle.std.specs.Prelude.{IsTrue, unwrap_or}
use Rattle.std.specs.List.{list_all}
use Rattle.std.specs.List.Sorted.{IsStrictlySortedBy}
use Rattle.std.proofs.lemmas.List.Folds.{list_all-append, list_all-map}
use Rattle.std.proofs.lemmas.Bool.{ltb-true, ltb-false}
use Rattle.cc_arena.specs.Laws.{TermsMeanFormulas}
use Rattle.cc_defs.specs.declared.signature.At.TheVariants.{Number}
use Rattle.cc_defs.specs.Conditions.{IsSignatureOfDescription}
use Rattle.cc_defs.specs.Declarations.{upto}
use Rattle.cc_defs.specs.Description.{Description, values_at}
use Rattle.cc_defs.specs.GroundLaws.{PlainGroundQuery}
use Rattle.cc_defs.specs.Histories.{IsHistory, condition_holds}
use Rattle.cc_defs.specs.Paths.{IsPath}
use Rattle.cc_defs.specs.Resolved.{Query}
use Rattle.cc_defs.specs.Runs.{HasNone}
use Rattle.cc_defs.specs.Signatures.{Signature}
use Rattle.cc_form.specs.Queries.{IsQueryAt}
use Rattle.cc_theory.specs.Laws.{IsGroundedWell, PathsHaveParts, TermsRestOnTheirConstants, part_of}
use Rattle.cc_induction.specs.Induction.{InductionHolds, last_conditions, none_sought_by, step_query}
use Rattle.cc_induction.proofs.Kept.{AreFit, asked_fit, numbers_kept, state_kept}
use Rattle.cc_induction.proofs.Sought.{asked, both, in_state, lasts, meets, met, met_last, none_sought_is, says}

-- the laws that it rests on
pub record Rests : Type 0 where
  pub terms_mean : TermsMeanFormulas
  pub terms_rest : TermsRestOnTheirConstants
  pub parts : PathsHaveParts

-- ---- horizons without a history

has_none : (d : Description) (q : Query) (horizon : ℕ) → HasNone d q horizon → (row : List ℕ) → IsHistory d q horizon None row → ⊥
has_none d q horizon none row history = let found = (none.members row).1 history in let less = found.1 in omega arith

none_has : (d : Description) (q : Query) (horizon : ℕ) → ((row : List ℕ) → IsHistory d q horizon None row → ⊥) → HasNone d q horizon
unfolding IsStrictlySortedBy
none_has d q horizon nothing = record {
  ascending = tt;
  members = λ row. ((λ there. absurd (let less = there.1 in omega arith)), (λ history. absurd (nothing row history)));
}

all_up : (test : ℕ → Bool) (count : ℕ) → ((i : ℕ) → i < count → IsTrue (test i)) → IsTrue (list_all test (upto count))
all_up test zero each = refl
all_up test (suc count) each =
    list_all-append test (upto count) (count ∷ [])
    ∙ both (list_all test (upto count)) (test count && true) (all_up test count (λ i less. each i (omega arith)))
    (both (test count) true (each count (omega arith)) refl)

below : (n m : ℕ) → (n < m) ⊎ (m ≤ n)
below n m = by (nat_lt n m) refl
  where
    by : (less : Bool) → nat_lt n m ≡ less → (n < m) ⊎ (m ≤ n)
    by true is = inl (ltb-true n m is)
    by false is = inr (ltb-false n m is)

module _ (rests : Rests) (d : Description) (well : IsGroundedWell d) (signature : Signature) (of : IsSignatureOfDescription d signature) (least : ℕ) (q : Query)
    (fit : AreFit d signature of least (asked q)) (count : ℕ) where
  abbrev Sought : (ℕ → ℕ) → Bool
  Sought v = in_state d v (lasts (asked q))

  -- a path whose earlier states are none that is looked for, and whose last one is
  step_history : (row : List ℕ) → IsPath d count row → ((i : ℕ) → i < count → Sought (values_at d row i) ≡ false) → IsTrue (Sought (values_at d row count)) →
      IsHistory d (step_query q count) count None row
  step_history row path before last =
      let ends = met_last d count row q last in
      let earlier = map (λ (step : ℕ). record { at = Number step; formula = none_sought_by q }) (upto count) in
      record {
        path = path;
        meets = record {
          conditions =
              list_all-append (condition_holds d count row) earlier (last_conditions q)
              ∙ both (list_all (condition_holds d count row) earlier) (list_all (condition_holds d count row) (last_conditions q))
              (list_all-map (condition_holds d count row) (λ (step : ℕ). record { at = Number step; formula = none_sought_by q }) (upto count)
              ∙ all_up (λ (step : ℕ). says d (values_at d row step) (none_sought_by q)) count (λ i less. none_sought_is d (values_at d row i) q ∙ ap not (before i less)))
              ends.0;
          claim = ends.1;
        };
        after = tt;
      }

  module _ (base : (horizon : ℕ) → least ≤ horizon → horizon < least + count → HasNone d q horizon) (step : HasNone d (step_query q count) count) where
    module _ (horizon : ℕ) (row : List ℕ) (history : IsHistory d q horizon None row)
        (earlier : (shorter : ℕ) → least ≤ shorter → shorter < horizon → (other : List ℕ) → IsHistory d q shorter None other → ⊥) where
      -- a beginning is no history, so its last state is none that is looked for
      not_sought : (shorter : ℕ) → least ≤ shorter → shorter < horizon → (sought : Bool) → Sought (values_at d row shorter) ≡ sought → sought ≡ false
      not_sought shorter from before false is = refl
      not_sought shorter from before true is = absurd (earlier shorter from before (part_of d row 0 shorter) (record {
        path = rests.parts d well horizon row history.path 0 shorter (omega arith);
        meets = meets d shorter (part_of d row 0 shorter) q
            (numbers_kept d signature of least row shorter from (asked q) fit ∙ (met d horizon row q history.meets).0)
            (state_kept d signature of least row 0 shorter shorter shorter (omega arith) (omega arith) (asked q) fit ∙ is);
        after = tt;
      }))

      -- so the end is a history of the step
      no_end : (start : ℕ) → least ≤ start → start + count ≡ horizon → ⊥
      no_end start from is =
          has_none d (step_query q count) count step (part_of d row start count)
          (step_history (part_of d row start count) (rests.parts d well horizon row history.path start count (omega arith))
          (λ i inside. state_kept d signature of least row start count i (start + i) refl (omega arith) (asked q) fit
          ∙ not_sought (start + i) (omega arith) (omega arith) (Sought (values_at d row (start + i))) refl)
          (state_kept d signature of least row start count count horizon is (omega arith) (asked q) fit ∙ (met d horizon row q history.meets).1))

    never : (fuel horizon : ℕ) → horizon < fuel → least ≤ horizon → (row : List ℕ) → IsHistory d q horizon None row → ⊥
    never zero horizon less long row history = omega arith
    never (suc fuel) horizon less long row history = elim (below horizon (least + count)) [
      | inl short ↦ has_none d q horizon (base horizon long short) row history
      | inr enough ↦ no_end horizon row history (λ shorter from before. never fuel shorter (omega arith) from) (horizon - count) (omega arith) (omega arith)
    ]

pub induction : Rests → InductionHolds
induction rests d well signature q query of stands is count some base step horizon long =
    let range = stands.0 in
    let asks = subst (λ (ground : PlainGroundQuery). IsQueryAt signature ground.lo ground) stands.2 is in
    let fit = asked_fit d signature of range.0 rests.terms_mean rests.terms_rest well range q asks in
    none_has d q horizon
    (never rests d well signature of range.0 q fit count
    (subst (λ (ground : PlainGroundQuery). (horizon : ℕ) → ground.lo ≤ horizon → horizon < ground.lo + count → HasNone d q horizon) stands.2 base) step
    (suc horizon) horizon (omega arith) (subst (λ (given : Option (ℕ × ℕ)). (unwrap_or given (1, 0)).0 ≤ horizon) stands.1 long))
