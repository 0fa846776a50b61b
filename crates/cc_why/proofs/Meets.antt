-- A row that meets each rule, and has a cause for each of its values, meets the completion; and so the row is a path.
use Rattle.std.proofs.Common.{◌≡◌, ◌∙◌, ℕ, zero, suc, ◌+◌, ◌%◌, ◌<◌, ◌↔◌, Bool, true, false, not, ◌&&◌, ◌||◌, nat_lt, List, length, slice_get, Option, Some, option_map, refl, sym, ap, subst, arith, eqb-true, eq-eqb}
use Rattle.std.specs.Prelude.{◌==◌, IsTrue, slice_index}
use Rattle.std.specs.List.{AllZip, list_all, list_any}
use Rattle.std.proofs.lemmas.Bool.{lt-ltb, ltb-true}
use Rattle.cc_defs.specs.declared.node.GroundHead.{GroundHead}
use Rattle.cc_defs.specs.declared.node.GroundHead.TheVariants as heads
use Rattle.cc_defs.specs.declared.signature.Const.{Const}
use Rattle.cc_defs.specs.Conditions.{IsSignatureOfDescription}
use Rattle.cc_defs.specs.Declarations.{upto}
use Rattle.cc_defs.specs.Description.{Description, sizes_at, stride}
use Rattle.cc_defs.specs.Laws.{PositionsHaveSizes}
use Rattle.cc_defs.specs.Paths.{IsPath}
use Rattle.cc_defs.specs.Rows.{IsRow}
use Rattle.cc_defs.specs.Signatures.{Signature, ground_constants}
use Rattle.cc_defs.specs.TimedRules.{TimedRule, timed_rules}
use Rattle.cc_theory.specs.Completion.{IsCause, MeetsCompletion, holds}
use Rattle.cc_theory.specs.Laws.{HeadFits, ModelsArePaths, ModelsMeetCompletion}
use Rattle.cc_theory.specs.declared.rule.TimedHead.{TimedHead}
use Rattle.cc_theory.specs.declared.rule.TimedHead.TheVariants as timed_heads
use Rattle.cc_theory.specs.declared.rule.TimedRule as made
use Rattle.cc_theory.specs.Making.{stride_of}
use Rattle.cc_theory.specs.Theories.{AreRulesAt, IsHeadAt, IsRuleAt, IsRuleOf, IsTheoryOf, PlainTheory, plain_head}
use Rattle.cc_why.specs.Causes.{is_atom_head}
use Rattle.cc_why.specs.Meeting.{has_head, is_cause, is_settled, meets, size_at}
use Rattle.cc_why.proofs.Lists.{In, all_in, any_in, both, both_hold, contains_in, in_all, in_any, in_contains, in_upto, upto_in, zip_all}
use Rattle.cc_why.proofs.Loops.{size_is}
use Rattle.cc_why.proofs.Rows.{count_is, row_at, size_there}

-- ---- heads

pub atom_is : (p v : ℕ) (head : GroundHead) → is_atom_head p v head ≡ true → head ≡ heads.Atom p v
atom_is p v (heads.Atom q w) e =
    let same = both_hold (q == p) (w == v) e in
    ap (λ (n : ℕ). heads.Atom n w) (eqb-true q p same.0) ∙ ap (λ (n : ℕ). heads.Atom p n) (eqb-true w v same.1)
atom_is p v heads.Falsity e = absurd cc

pub is_the_atom : (p v : ℕ) (head : GroundHead) → head ≡ heads.Atom p v → is_atom_head p v head ≡ true
is_the_atom p v head e = ap (is_atom_head p v) e ∙ both (p == p) (v == v) (eq-eqb p p refl) (eq-eqb v v refl)

-- ---- causes

pub cause_passes : (rules : List TimedRule) (row : List ℕ) (p : ℕ) → IsCause rules row (heads.Atom p (slice_index row p)) → list_any (is_cause row p) rules ≡ true
cause_passes rules row p cause =
    in_any (is_cause row p) rules cause.rule (contains_in rules cause.rule cause.member)
    (both (is_atom_head p (slice_index row p) cause.rule.head) (holds row cause.rule.body) (is_the_atom p (slice_index row p) cause.rule.head cause.head_is) cause.body)

pub passes_cause : (rules : List TimedRule) (row : List ℕ) (p : ℕ) → list_any (is_cause row p) rules ≡ true → IsCause rules row (heads.Atom p (slice_index row p))
passes_cause rules row p e =
    let found = any_in (is_cause row p) rules e in
    let parts = both_hold (is_atom_head p (slice_index row p) found.0.head) (holds row found.0.body) found.2 in
    record { rule = found.0; member = in_contains rules found.0 found.1; head_is = atom_is p (slice_index row p) found.0.head parts.0; body = parts.1 }

only_value : (size a b : ℕ) → a < size → b < size → (1 < size → a ≡ b) → a ≡ b
only_value zero a b p q e = absurd (omega arith)
only_value (suc zero) a b p q e = omega arith
only_value (suc (suc n)) a b p q e = e (omega arith)

implies : (a b : Bool) → (not a || b) ≡ true → a ≡ true → b ≡ true
implies true b e so = e
implies false b e so = absurd cc

unless : (a b : Bool) → (a ≡ true → b ≡ true) → (not a || b) ≡ true
unless true b e = e refl
unless false b e = refl

module _ (have : PositionsHaveSizes) (d : Description) (signature : Signature) (of : IsSignatureOfDescription d signature) (horizon : ℕ) (row : List ℕ) (is : IsRow (sizes_at d horizon) row)
    (rules : List TimedRule) where
  abbrev sizes : List ℕ
  sizes = sizes_at d horizon

  abbrev size_here : ℕ → Option ℕ
  size_here p = option_map (λ (constant : Const). length constant.domain) (slice_get (ground_constants signature) (p % length (ground_constants signature)))

  pub size_same : (p size : ℕ) → slice_get sizes p ≡ Some size → size_at signature p ≡ size
  size_same p size at =
      let less = subst (λ (n : ℕ). p < n) (count_is have d signature of horizon row is) (row_at sizes row p size is at).0 in
      size_is (slice_get (ground_constants signature) (p % length (ground_constants signature))) size (sym ((have d signature of horizon).1 p less) ∙ at)

  pub met_completion : list_all (meets row) rules ≡ true → list_all (is_settled signature rules row) (upto (length row)) ≡ true → MeetsCompletion sizes rules row
  met_completion met settled = record {
    caused = λ p size at more.
        let here = all_in (is_settled signature rules row) (upto (length row)) settled p (in_upto (length row) p (row_at sizes row p size is at).0) in
        passes_cause rules row p (implies (nat_lt 1 (size_at signature p)) (list_any (is_cause row p) rules) here (ap (nat_lt 1) (size_same p size at) ∙ lt-ltb 1 size more));
    only = λ p size value at more cause. sym (eqb-true (slice_index row p) value (head_had (heads.Atom p value) cause));
    denied = λ cause. let wrong : false ≡ true = head_had heads.Falsity cause in absurd cc;
  }
    where
      head_had : (head : GroundHead) → IsCause rules row head → has_head row head ≡ true
      head_had head cause =
          ap (has_head row) (sym cause.head_is)
          ∙ implies (holds row cause.rule.body) (has_head row cause.rule.head) (all_in (meets row) rules met cause.rule (contains_in rules cause.rule cause.member)) cause.body

  pub completion_met : ((t : TimedRule) → In rules t → HeadFits sizes t.head) → MeetsCompletion sizes rules row →
      (list_all (meets row) rules ≡ true) × (list_all (is_settled signature rules row) (upto (length row)) ≡ true)
  completion_met fit completion = (
    in_all (meets row) rules (λ t i. unless (holds row t.body) (has_head row t.head) (λ body. had t.head (fit t i) (record { rule = t; member = in_contains rules t i; head_is = refl; body = body }))),
    in_all (is_settled signature rules row) (upto (length row)) (λ p i. unless (nat_lt 1 (size_at signature p)) (list_any (is_cause row p) rules) (λ more. settled p (upto_in (length row) p i) more)),
  )
    where
      had : (head : GroundHead) → HeadFits sizes head → IsCause rules row head → has_head row head ≡ true
      had (heads.Atom p v) fits cause =
          eq-eqb (slice_index row p) v
          (only_value fits.0 (slice_index row p) v (row_at sizes row p fits.0 is fits.1).1 fits.2 (λ more. sym (completion.only p fits.0 v fits.1 more cause)))
      had heads.Falsity fits cause = absurd (completion.denied cause)

      settled : (p : ℕ) → p < length row → nat_lt 1 (size_at signature p) ≡ true → list_any (is_cause row p) rules ≡ true
      settled p less more =
          let size = size_there sizes row p is less in
          let many : 1 < size.0 = ltb-true 1 size.0 (ap (nat_lt 1) (sym (size_same p size.0 size.1)) ∙ more) in
          cause_passes rules row p (completion.caused p size.0 size.1 many)

-- ---- histories

-- two things are so exactly where a third is
both_or : (a b : Bool) (P : Type 0) → (a ≡ true → b ≡ true → P) → (P → (a ≡ true) × (b ≡ true)) → ((a && b) ≡ true) ↔ P
both_or a b P to from = (λ e. let parts = both_hold a b e in to parts.0 parts.1, λ p. let parts = from p in both a b parts.0 parts.1)

module _ (have : PositionsHaveSizes) (complete : ModelsMeetCompletion) (paths : ModelsArePaths) (theory : PlainTheory) (d : Description) (of : IsTheoryOf theory d)
    (fit : AreRulesAt theory.signature theory.horizon theory.rules) (row : List ℕ) (is : IsRow (sizes_at d theory.horizon) row) where
  abbrev meant : List TimedRule
  meant = timed_rules d theory.horizon

  head_fits : (head : TimedHead) → IsHeadAt theory.signature theory.horizon head → HeadFits (sizes_at d theory.horizon) (plain_head head)
  head_fits (timed_heads.Atom position value) at = (
    length at.constant.domain,
    (have d theory.signature of.signature theory.horizon).1 position at.within ∙ ap (option_map (λ (constant : Const). length constant.domain)) at.found,
    at.short,
  )
  head_fits timed_heads.Falsity at = tt

  rule_fits : (rule : made.TimedRule) (m : TimedRule) → IsRuleOf (stride d) rule m → IsRuleAt theory.signature theory.horizon rule → HeadFits (sizes_at d theory.horizon) m.head
  rule_fits rule m same at = subst (HeadFits (sizes_at d theory.horizon)) same.head (head_fits rule.head at.head)

  pub is_path : ((list_all (meets row) meant && list_all (is_settled theory.signature meant row) (upto (length row))) ≡ true) ↔ IsPath d theory.horizon row
  is_path =
      let as_model = complete d of.well theory.horizon row is in
      let as_path = paths d of.well theory.horizon row in
      both_or (list_all (meets row) meant) (list_all (is_settled theory.signature meant row) (upto (length row))) (IsPath d theory.horizon row)
      (λ met settled. as_path.0 (as_model.1 (met_completion have d theory.signature of.signature theory.horizon row is meant met settled)))
      (λ path. completion_met have d theory.signature of.signature theory.horizon row is meant
      (zip_all (IsRuleOf (stride d)) (IsRuleAt theory.signature theory.horizon) (λ (m : TimedRule). HeadFits (sizes_at d theory.horizon) m.head) rule_fits theory.rules meant of.rules fit)
      (as_model.0 (as_path.1 path)))

  -- with the stride and the rules as the theory hands them out
  pub rules_are : (n : ℕ) (signature : Signature) (rules : List made.TimedRule) → n ≡ stride_of signature → signature ≡ theory.signature → rules ≡ theory.rules → AllZip (IsRuleOf n) rules meant
  rules_are n signature rules step same all =
      let wide : n ≡ stride d = step ∙ ap stride_of same ∙ ap (λ (c : List Const). length c + length theory.signature.actions) of.signature.fluents
      ∙ ap (λ (c : List Const). length d.universe.fluents + length c) of.signature.actions in
      subst (λ (k : ℕ). AllZip (IsRuleOf k) rules meant) (sym wide) (subst (λ (r : List made.TimedRule). AllZip (IsRuleOf (stride d)) r meant) (sym all) of.rules)

  abbrev IsHistory : Bool → Type 0
  IsHistory result = IsTrue result ↔ IsPath d theory.horizon row

  -- the rules are met, and the causes are as they were found
  pub path_then : (met caused : Bool) → met ≡ true → met ≡ list_all (meets row) meant → caused ≡ list_all (is_settled theory.signature meant row) (upto (length row)) → IsHistory caused
  path_then met caused so is_met is_caused =
      subst IsHistory (ap (λ (b : Bool). b && list_all (is_settled theory.signature meant row) (upto (length row))) (sym is_met ∙ so) ∙ sym is_caused) is_path

  -- one of the rules is not met
  pub path_else : (met : Bool) → met ≡ false → met ≡ list_all (meets row) meant → IsHistory met
  path_else met so is_met =
      subst IsHistory (ap (λ (b : Bool). b && list_all (is_settled theory.signature meant row) (upto (length row))) (sym is_met ∙ so) ∙ sym so) is_path
