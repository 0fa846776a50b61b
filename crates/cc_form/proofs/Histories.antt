-- The rows of the clause list of a section are histories.
use Rattle.std.proofs.Common.{◌≡◌, ◌∙◌, ℕ, zero, suc, ◌+◌, ◌*◌, Bool, true, false, not, ◌&&◌, ◌||◌, List, [], ◌∷◌, ◌++◌, length, map, Option, Some, None, refl, sym, ap, subst, IsTrue, IsFalse}
use Rattle.std.specs.Prelude.{IfSome, slice_index}
use Rattle.std.specs.Bool.{beq}
use Rattle.std.specs.List.{list_all}
use Rattle.std.specs.Option.{option_map}
use Rattle.cc_arena.specs.Laws.{TermsMeanFormulas}
use Rattle.cc_arena.specs.Walks.{OneFormula}
use Rattle.cc_defs.specs.declared.lists.Key.{Key}
use Rattle.cc_defs.specs.declared.signature.Const.{Const}
use Rattle.cc_defs.specs.ClauseLists.{claim_if, condition_term}
use Rattle.cc_defs.specs.Conditions.{IsSignatureOfDescription}
use Rattle.cc_defs.specs.Description.{Description, domain_sizes, sizes_at, stride, values_at}
use Rattle.cc_defs.specs.Histories.{condition_holds, step_of}
use Rattle.cc_defs.specs.Nodes.{term_of}
use Rattle.cc_defs.specs.Resolved.{Condition, Query}
use Rattle.cc_defs.specs.Rows.{IsBelow}
use Rattle.cc_defs.specs.Satisfaction.{giving}
use Rattle.cc_defs.specs.Signatures.{Signature}
use Rattle.cc_defs.specs.Terms.{Ground, Operands, nothing, and_then, truth, all_true, any_true}
use Rattle.cc_defs.specs.Terms as terms
use Rattle.cc_defs.specs.TimedRules.{moved, moved_operands, timed_rules}
use Rattle.cc_theory.specs.Completion.{holds}
use Rattle.cc_theory.specs.Laws.{IsGroundedWell, ModelsArePaths, ModelsMeetCompletion}
use Rattle.cc_theory.specs.Making.{stride_of}
use Rattle.cc_form.specs.Forms.{TellsHistories, asked, form_of}
use Rattle.cc_form.specs.Laws.{TellsRows}
use Rattle.cc_form.specs.Places.{position_sizes}

-- ---- positions

pub domain_behind : (xs ys : List Const) → domain_sizes (xs ++ ys) ≡ domain_sizes xs ++ domain_sizes ys
domain_behind [] ys = refl
domain_behind (x ∷ xs) ys = ap (λ (l : List ℕ). length x.domain ∷ l) (domain_behind xs ys)

sizes_own : (d : Description) (h : ℕ) → (let own : Signature = record { fluents = d.universe.fluents; actions = d.universe.actions; numbers = d.universe.numbers } in position_sizes own h) ≡ sizes_at d h
sizes_own d zero = refl
sizes_own d (suc h) = ap (λ (l : List ℕ). l ++ (let own : Signature = record { fluents = d.universe.fluents; actions = d.universe.actions; numbers = d.universe.numbers } in position_sizes own h)) (domain_behind d.universe.fluents d.universe.actions)
    ∙ ap (λ (l : List ℕ). domain_sizes d.universe.fluents ++ domain_sizes d.universe.actions ++ l) (sizes_own d h)

signature_is : (d : Description) (signature : Signature) → IsSignatureOfDescription d signature → signature ≡ record { fluents = d.universe.fluents; actions = d.universe.actions; numbers = d.universe.numbers }
signature_is d signature of =
    ap (λ (f : List Const). let s : Signature = record { fluents = f; actions = signature.actions; numbers = signature.numbers } in s) of.fluents
    ∙ ap (λ (a : List Const). let s : Signature = record { fluents = d.universe.fluents; actions = a; numbers = signature.numbers } in s) of.actions
    ∙ ap (λ (n : List (Option ℕ)). let s : Signature = record { fluents = d.universe.fluents; actions = d.universe.actions; numbers = n } in s) of.numbers

pub sizes_are : (d : Description) (signature : Signature) (h : ℕ) → IsSignatureOfDescription d signature → position_sizes signature h ≡ sizes_at d h
sizes_are d signature h of = ap (λ (s : Signature). position_sizes s h) (signature_is d signature of) ∙ sizes_own d h

pub stride_is : (d : Description) (signature : Signature) → IsSignatureOfDescription d signature → stride_of signature ≡ stride d
stride_is d signature of = ap stride_of (signature_is d signature of)

-- ---- terms at their steps

mutual
  moved_truth : (v : ℕ → ℕ) (by : ℕ) (f : Ground) → truth v (moved by f) ≡ truth (λ n. v (by + n)) f
  moved_truth v by terms.Truth = refl
  moved_truth v by terms.Falsehood = refl
  moved_truth v by (terms.Atom constant value) = refl
  moved_truth v by (terms.Not f) = ap not (moved_truth v by f)
  moved_truth v by (terms.All operands) = moved_all v by operands
  moved_truth v by (terms.Any operands) = moved_any v by operands
  moved_truth v by (terms.Same f g) = ap (λ (b : Bool). beq b (truth v (moved by g))) (moved_truth v by f) ∙ ap (beq (truth (λ n. v (by + n)) f)) (moved_truth v by g)

  moved_all : (v : ℕ → ℕ) (by : ℕ) (operands : Operands) → all_true v (moved_operands by operands) ≡ all_true (λ n. v (by + n)) operands
  moved_all v by nothing = refl
  moved_all v by (and_then operands f) = ap (λ (b : Bool). b && truth v (moved by f)) (moved_all v by operands) ∙ ap (λ (b : Bool). all_true (λ n. v (by + n)) operands && b) (moved_truth v by f)

  moved_any : (v : ℕ → ℕ) (by : ℕ) (operands : Operands) → any_true v (moved_operands by operands) ≡ any_true (λ n. v (by + n)) operands
  moved_any v by nothing = refl
  moved_any v by (and_then operands f) = ap (λ (b : Bool). b || truth v (moved by f)) (moved_any v by operands) ∙ ap (λ (b : Bool). any_true (λ n. v (by + n)) operands || b) (moved_truth v by f)

module _ (models : ModelsMeetCompletion) (paths : ModelsArePaths) (mean : TermsMeanFormulas) (one : OneFormula) (d : Description) (well : IsGroundedWell d) where
  condition_true : (h : ℕ) (row : List ℕ) (condition : Condition) → holds row (condition_term d h condition) ≡ condition_holds d h row condition
  condition_true h row condition =
      let term = term_of d.universe (giving []) condition.formula in
      let m = mean d.universe well.values (giving []) condition.formula in
      moved_truth (λ position. slice_index row position) (step_of condition.at h * stride d) term
      ∙ ap (truth (λ n. values_at d row (step_of condition.at h) n)) (one term m.term m.written) ∙ m.truth_is (λ n. values_at d row (step_of condition.at h) n)

  conditions_true : (h : ℕ) (row : List ℕ) (conditions : List Condition) → list_all (holds row) (map (condition_term d h) conditions) ≡ list_all (condition_holds d h row) conditions
  conditions_true h row [] = refl
  conditions_true h row (c ∷ conditions) = ap (λ (b : Bool). b && list_all (holds row) (map (condition_term d h) conditions)) (condition_true h row c) ∙ ap (λ (b : Bool). condition_holds d h row c && b) (conditions_true h row conditions)

  claim_to : (h : ℕ) (row : List ℕ) (with_claim : Bool) (q : Query) → IfSome (claim_if with_claim (option_map (condition_term d h) q.claim)) (λ claim. IsFalse (holds row claim)) →
      IfSome (asked with_claim q).claim (λ claim. IsFalse (condition_holds d h row claim))
  claim_to h row false q is = tt
  claim_to h row true q is = to q.claim is
    where
      to : (claim : Option Condition) → IfSome (option_map (condition_term d h) claim) (λ claim. IsFalse (holds row claim)) → IfSome claim (λ claim. IsFalse (condition_holds d h row claim))
      to None k = tt
      to (Some c) k = subst (λ (b : Bool). IsFalse b) (condition_true h row c) k

  claim_from : (h : ℕ) (row : List ℕ) (with_claim : Bool) (q : Query) → IfSome (asked with_claim q).claim (λ claim. IsFalse (condition_holds d h row claim)) →
      IfSome (claim_if with_claim (option_map (condition_term d h) q.claim)) (λ claim. IsFalse (holds row claim))
  claim_from h row false q is = tt
  claim_from h row true q is = from q.claim is
    where
      from : (claim : Option Condition) → IfSome claim (λ claim. IsFalse (condition_holds d h row claim)) → IfSome (option_map (condition_term d h) claim) (λ claim. IsFalse (holds row claim))
      from None k = tt
      from (Some c) k = subst (λ (b : Bool). IsFalse b) (sym (condition_true h row c)) k

  key_to : (row : List ℕ) (key : Option Key) → IfSome key (λ key. IsBelow key.row row) → IfSome (option_map (λ key. key.row) key) (λ low. IsBelow low row)
  key_to row None is = tt
  key_to row (Some key) is = is

  key_from : (row : List ℕ) (key : Option Key) → IfSome (option_map (λ key. key.row) key) (λ low. IsBelow low row) → IfSome key (λ key. IsBelow key.row row)
  key_from row None is = tt
  key_from row (Some key) is = is

  asked_conditions : (with_claim : Bool) (q : Query) → (asked with_claim q).conditions ≡ q.conditions
  asked_conditions true q = refl
  asked_conditions false q = refl

  pub tells_histories : (q : Query) (h : ℕ) (with_claim : Bool) (key : Option Key) →
      TellsRows (sizes_at d h) (timed_rules d h) (map (condition_term d h) q.conditions) (claim_if with_claim (option_map (condition_term d h) q.claim)) key →
      TellsHistories d (asked with_claim q) h (option_map (λ key. key.row) key) (form_of d q h with_claim key)
  tells_histories q h with_claim key tells = record {
    rows = λ row. (
      (λ of.
          let told = (tells.rows row).0 of in
          record {
            path = (paths d well h row).0 ((models d well h row told.is_row).1 told.completion);
            meets = record {
              conditions = subst IsTrue (conditions_true h row q.conditions ∙ ap (list_all (condition_holds d h row)) (sym (asked_conditions with_claim q))) told.conditions_hold;
              claim = claim_to h row with_claim q told.claim_fails;
            };
            after = key_to row key told.after;
          }),
      (λ history.
          let model = (paths d well h row).1 history.path in
          (tells.rows row).1 (record {
            is_row = model.interprets;
            completion = (models d well h row model.interprets).0 model;
            conditions_hold = subst IsTrue (ap (list_all (condition_holds d h row)) (asked_conditions with_claim q) ∙ sym (conditions_true h row q.conditions)) history.meets.conditions;
            claim_fails = claim_from h row with_claim q history.meets.claim;
            after = key_from row key history.after;
          })),
    );
    once = tells.once;
    each = tells.each;
  }
