-- What is made of ground laws and a query, or of a row, is the list of the description.
use Rattle.std.proofs.Common.{◌≡◌, ◌∙◌, ℕ, ◌≤◌, List, length, map, nat_lt, Option, Some, None, IsErrAnd, IfErr, OnOk, Result, Ok, Err, sym, ap, subst, option_map}
use Rattle.std.specs.Prelude.{if◌then◌else◌, IfSome}
use Rattle.std.specs.List.{AllByRecursion}
use Rattle.std.specs.Option.{option_or}
use Rattle.cc_arena.specs.declared.ground_laws.GroundCondition.{GroundCondition}
use Rattle.cc_arena.specs.declared.ground_laws.GroundQuery.{GroundQuery}
use Rattle.cc_arena.specs.GroundViews.{plain_ground_condition, plain_ground_query}
use Rattle.cc_defs.specs.declared.refusal.Fault.{Fault}
use Rattle.cc_defs.specs.declared.refusal.LimitAt.TheVariants as limits
use Rattle.cc_defs.specs.declared.refusal.Refusal.{Refusal}
use Rattle.cc_defs.specs.ClauseLists.{condition_term}
use Rattle.cc_defs.specs.GroundLaws.{StandsForQuery}
use Rattle.cc_defs.specs.Histories.{step_of}
use Rattle.cc_defs.specs.Refusals.{past}
use Rattle.cc_defs.specs.Resolved.{Query}
use Rattle.cc_defs.specs.Rows.{IsRow}
use Rattle.cc_defs.specs.Sections.{Axioms}
use Rattle.cc_defs.specs.Signatures.{Signature}
use Rattle.cc_defs.specs.Terms.{Ground}
use Rattle.cc_form.specs.Drafts.{axioms_refusal}
use Rattle.cc_form.specs.Parts.{axioms_behind}
use Rattle.cc_form.specs.Places.{position_sizes}
use Rattle.cc_form.specs.Queries.{IsConditionAt}
use Rattle.cc_rivals.specs.Making.{IsPlacedOver, most_in_front, placed_condition, rules_for, rules_past, term_at}
use Rattle.cc_rivals.specs.Wides.{AreWideLawsOf, candidates_refusal, rivals_refusal, wide_rules_refusal}
use Rattle.cc_rivals.proofs.Ending.{candidates_form, candidates_made, rivals_form, rivals_made}
use Rattle.cc_rivals.proofs.Matching.{claim_meant, conditions_meant, sizes_are}
use Rattle.cc_rivals.proofs.Meant.{rules_are}
use Rattle.cc_rivals.proofs.Stances.{claim_placed, conditions_placed, few_in_front}
use Rattle.cc_theory.specs.Making.{stride_of}
use Rattle.cc_wide.specs.declared.ground.WideGroundLaw.{WideGroundLaw}
use Rattle.cc_wide.specs.WideLaws.{WideDescription, frame}
use Rattle.cc_wide.specs.WideLists.{WideTimed, axioms_over, candidate_axioms, candidates_over, rival_axioms, rivals_over, wide_timed}
use Rattle.cc_wide.specs.WideRules.{wide_sizes}

module _ (signature : Signature) (laws : List WideGroundLaw) (w : WideDescription) (of : AreWideLawsOf signature laws w) (horizon : ℕ) where
  abbrev P : List ℕ
  P = position_sizes signature horizon

  abbrev R : List WideTimed
  R = rules_for signature laws horizon

  S_is : P ≡ wide_sizes w horizon
  S_is = sizes_are signature (frame w) horizon of.signature_is

  R_is : R ≡ wide_timed w horizon
  R_is = rules_are signature laws w horizon of

  pub rules_past_are : rules_past signature laws horizon ≡ wide_rules_refusal w horizon
  rules_past_are = ap (λ (r : List WideTimed). if nat_lt 8000000 (length r) then Some (past limits.Rules) else None) R_is

  -- ---- rivals

  pub rivals_eq : (row : List ℕ) → IsRow P row → axioms_behind P (rivals_made P R row) ≡ rival_axioms w horizon row
  rivals_eq row is =
      rivals_form P R row is
      ∙ ap (λ (p : List ℕ). axioms_over p (rivals_over p R row)) S_is
      ∙ ap (λ (r : List WideTimed). axioms_over (wide_sizes w horizon) (rivals_over (wide_sizes w horizon) r row)) R_is

  pub rivals_refusal_is : (row : List ℕ) → IsRow P row → option_or (rules_past signature laws horizon) (axioms_refusal (axioms_behind P (rivals_made P R row))) ≡ rivals_refusal w horizon row
  rivals_refusal_is row is =
      ap (λ (o : Option Refusal). option_or o (axioms_refusal (axioms_behind P (rivals_made P R row)))) rules_past_are
      ∙ ap (λ (a : Axioms). option_or (wide_rules_refusal w horizon) (axioms_refusal a)) (rivals_eq row is)

  -- ---- candidates

  module _ (query : GroundQuery) (q : Query) (stands : StandsForQuery (plain_ground_query query) (frame w) q) where
    abbrev at : GroundCondition → Ground
    at c = term_at (placed_condition (stride_of signature) horizon c)

    pub candidates_eq : axioms_behind P (candidates_made P R (map at query.conditions) (option_map at query.claim)) ≡ candidate_axioms w q horizon
    candidates_eq =
        candidates_form P R (map at query.conditions) (option_map at query.claim)
        ∙ ap (λ (p : List ℕ). axioms_over p (candidates_over p R (map at query.conditions) (option_map at query.claim))) S_is
        ∙ ap (λ (r : List WideTimed). axioms_over (wide_sizes w horizon) (candidates_over (wide_sizes w horizon) r (map at query.conditions) (option_map at query.claim))) R_is
        ∙ ap (λ (c : List Ground). axioms_over (wide_sizes w horizon) (candidates_over (wide_sizes w horizon) (wide_timed w horizon) c (option_map at query.claim))) (conditions_meant signature laws w of horizon query q stands)
        ∙ ap (λ (k : Option Ground). axioms_over (wide_sizes w horizon) (candidates_over (wide_sizes w horizon) (wide_timed w horizon) (map (condition_term (frame w) horizon) q.conditions) k)) (claim_meant signature laws w of horizon query q stands)

    pub candidates_refusal_is : option_or (rules_past signature laws horizon) (axioms_refusal (axioms_behind P (candidates_made P R (map at query.conditions) (option_map at query.claim)))) ≡ candidates_refusal w q horizon
    candidates_refusal_is =
        ap (λ (o : Option Refusal). option_or o (axioms_refusal (axioms_behind P (candidates_made P R (map at query.conditions) (option_map at query.claim))))) rules_past_are
        ∙ ap (λ (a : Axioms). option_or (wide_rules_refusal w horizon) (axioms_refusal a)) candidates_eq

    -- with what the code reads
    module _ (by : ℕ) (conditions : List GroundCondition) (by_is : by ≡ stride_of signature) (conditions_is : conditions ≡ query.conditions) where
      pub read_eq : map (λ (c : GroundCondition). term_at (placed_condition by horizon c)) conditions ≡ map at query.conditions
      read_eq =
          ap (λ (n : ℕ). map (λ (c : GroundCondition). term_at (placed_condition n horizon c)) conditions) by_is
          ∙ ap (map at) conditions_is

      pub claim_eq : option_map (λ (c : GroundCondition). term_at (placed_condition by horizon c)) query.claim ≡ option_map at query.claim
      claim_eq = ap (λ (n : ℕ). option_map (λ (c : GroundCondition). term_at (placed_condition n horizon c)) query.claim) by_is

      abbrev C : List Ground
      C = map (λ (c : GroundCondition). term_at (placed_condition by horizon c)) conditions

      abbrev K : Option Ground
      K = option_map (λ (c : GroundCondition). term_at (placed_condition by horizon c)) query.claim

      made_eq : axioms_behind P (candidates_made P R C K) ≡ axioms_behind P (candidates_made P R (map at query.conditions) (option_map at query.claim))
      made_eq = ap (λ (l : List Ground). axioms_behind P (candidates_made P R l K)) read_eq ∙ ap (λ (o : Option Ground). axioms_behind P (candidates_made P R (map at query.conditions) o)) claim_eq

      pub form_eq : axioms_behind P (candidates_made P R C K) ≡ candidate_axioms w q horizon
      form_eq = made_eq ∙ candidates_eq

      pub refusal_eq : option_or (rules_past signature laws horizon) (axioms_refusal (axioms_behind P (candidates_made P R C K))) ≡ candidates_refusal w q horizon
      refusal_eq = ap (λ (a : Axioms). option_or (rules_past signature laws horizon) (axioms_refusal a)) made_eq ∙ candidates_refusal_is

-- ---- conditions and claim over the positions that are there

module _ (signature : Signature) (horizon : ℕ) (most : horizon ≤ 1000) (by : ℕ) (by_is : by ≡ stride_of signature) (bound : by ≤ 8589934592) (places : List ℕ) (places_are : places ≡ position_sizes signature horizon) where
  abbrev IsThere : ℕ → List ℕ → GroundCondition → Type 0
  IsThere n p condition = (step_of condition.at horizon ≤ 1000) × IsPlacedOver p (placed_condition n horizon condition)

  own_bound : stride_of signature ≤ 8589934592
  own_bound = subst (λ (n : ℕ). n ≤ 8589934592) by_is bound

  pub conditions_there : (conditions read : List GroundCondition) → read ≡ conditions → AllByRecursion (IsConditionAt signature horizon) (map plain_ground_condition conditions) → AllByRecursion (IsThere by places) read
  conditions_there conditions read same are =
      subst (AllByRecursion (IsThere by places)) (sym same)
      (subst (λ (n : ℕ). AllByRecursion (IsThere n places) conditions) (sym by_is)
      (subst (λ (p : List ℕ). AllByRecursion (IsThere (stride_of signature) p) conditions) (sym places_are) (conditions_placed signature most_in_front horizon (few_in_front signature own_bound horizon most) most conditions are)))

  pub claim_there : (claim : Option GroundCondition) → IfSome (option_map plain_ground_condition claim) (IsConditionAt signature horizon) → IfSome claim (IsThere by places)
  claim_there claim is =
      subst (λ (n : ℕ). IfSome claim (IsThere n places)) (sym by_is)
      (subst (λ (p : List ℕ). IfSome claim (IsThere (stride_of signature) p)) (sym places_are) (claim_placed signature most_in_front horizon (few_in_front signature own_bound horizon most) most claim is))

-- ---- results

pub ok_any : {T E : Type 0} (result : Result T E) (X : Type 0) → X → OnOk result X
ok_any (Ok x) X is = is
ok_any (Err e) X is = tt

pub err_any : {T : Type 0} (result : Result T Fault) (fault : Fault) (X : Fault → Type 0) → IsErrAnd result (λ given. given ≡ fault) → X fault → IfErr result X
err_any (Ok x) fault X failed is = absurd failed
err_any (Err given) fault X failed is = subst X (sym failed) is
