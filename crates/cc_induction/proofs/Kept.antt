-- What a part of a row keeps of what a query asks: a beginning what is asked at numbers, and each part what is asked of a state.
use Rattle.std.proofs.Common.{◌≡◌, ◌∙◌, ℕ, suc, ◌+◌, ◌*◌, ◌<◌, ◌≤◌, Bool, true, false, ◌&&◌, not, List, [], ◌∷◌, length, map, drop, nat_lt, Option, Some, None, refl, sym, ap, subst, arith, length-append}
use Rattle.std.specs.Prelude.{IfSome, slice_index, if◌then◌else◌}
use Rattle.std.specs.List.{AllByRecursion}
use Rattle.std.specs.Option.{option_map}
use Rattle.std.proofs.Math.Nat.{add-mul, mul-le-mul_right, suc-mul}
use Rattle.std.proofs.lemmas.Bool.{ltb-true, le-ltb}
use Rattle.std.proofs.lemmas.List.{get_or-drop, get_or-take, length-map}
use Rattle.cc_arena.specs.Laws.{TermsMeanFormulas}
use Rattle.cc_defs.specs.declared.signature.At.{At}
use Rattle.cc_defs.specs.declared.signature.At.TheVariants.{Number, Last}
use Rattle.cc_defs.specs.declared.signature.Const.{Const}
use Rattle.cc_defs.specs.Conditions.{IsSignatureOfDescription}
use Rattle.cc_defs.specs.Description.{Description, domain_sizes, stride, values_at}
use Rattle.cc_defs.specs.GroundLaws.{ground_condition, ground_query}
use Rattle.cc_defs.specs.Histories.{step_of}
use Rattle.cc_defs.specs.Resolved.{Condition, Formula, Query}
use Rattle.cc_defs.specs.Satisfaction.{giving}
use Rattle.cc_defs.specs.Signatures.{Signature, ground_constants}
use Rattle.cc_defs.specs.Terms.{IsTermOver}
use Rattle.cc_form.specs.Queries.{IsConditionAt, IsQueryAt}
use Rattle.cc_theory.specs.Laws.{IsGroundedWell, TermsRestOnTheirConstants, part_of}
use Rattle.cc_theory.specs.Theories.{sizes_of_step}
use Rattle.cc_induction.specs.Induction.{is_at_last}
use Rattle.cc_induction.proofs.Sought.{asked, asks, at_numbers, in_state, lasts, number_says, says}

module _ (d : Description) where
  abbrev fluents : ℕ
  fluents = length d.universe.fluents

  module _ (row : List ℕ) (start count : ℕ) where
    values : (step at : ℕ) → start + step ≡ at → (number : ℕ) → step * stride d + number < count * stride d + fluents →
        values_at d (part_of d row start count) step number ≡ values_at d row at number
    values step at is number less =
        let sum = add-mul start step (stride d) in
        let place : start * stride d + (step * stride d + number) ≡ (start + step) * stride d + number = omega arith in
        get_or-take (count * stride d + fluents) (drop (start * stride d) row) (step * stride d + number) 0 less
        ∙ get_or-drop (start * stride d) row (step * stride d + number) 0
        ∙ ap (slice_index row) place
        ∙ ap (λ (n : ℕ). slice_index row (n * stride d + number)) is

  module _ (signature : Signature) (of : IsSignatureOfDescription d signature) (least : ℕ) where
    -- what the formula says rests on the constants that its step has at the least horizon
    pub record IsFit (at : At) (formula : Formula) : Type 0 where
      pub within : step_of at least ≤ least
      pub rests : (v w : ℕ → ℕ) → ((number : ℕ) → number < length (sizes_of_step signature least (step_of at least)) → v number ≡ w number) →
          says d v formula ≡ says d w formula

    abbrev pub AreFit : List Condition → Type 0
    AreFit conditions = AllByRecursion (λ condition. IsFit condition.at condition.formula) conditions

    -- ---- the constants of a step

    fluent_count : length (domain_sizes signature.fluents) ≡ fluents
    fluent_count = length-map signature.fluents (λ (c : Const). length c.domain) ∙ ap length of.fluents

    last_count : length (sizes_of_step signature least least) ≡ fluents
    last_count =
        ap (λ (b : Bool). length (if b then domain_sizes (ground_constants signature) else domain_sizes signature.fluents)) (le-ltb least least (omega arith))
        ∙ fluent_count

    -- they have values in each part that begins with the row
    has_values : (count step : ℕ) → least ≤ count → step ≤ least → (number : ℕ) → number < length (sizes_of_step signature least step) →
        step * stride d + number < count * stride d + fluents
    has_values count step long within number = by (nat_lt step least) refl
      where
        by : (before : Bool) → nat_lt step least ≡ before →
            number < length (if before then domain_sizes (ground_constants signature) else domain_sizes signature.fluents) → step * stride d + number < count * stride d + fluents
        by true is less =
            let before : step < least = ltb-true step least is in
            let more = mul-le-mul_right {m = suc step} {n = count} (stride d) (omega arith) in
            let next = suc-mul step (stride d) in
            let all = length-map (ground_constants signature) (λ (c : Const). length c.domain) in
            let sum = length-append signature.fluents signature.actions in
            let f = ap length of.fluents in
            let a = ap length of.actions in
            omega arith
        by false is less =
            let more = mul-le-mul_right {m = step} {n = count} (stride d) (omega arith) in
            let few = fluent_count in
            omega arith

    -- ---- what is kept

    pub numbers_kept : (row : List ℕ) (count : ℕ) → least ≤ count → (conditions : List Condition) → AreFit conditions →
        at_numbers d (part_of d row 0 count) conditions ≡ at_numbers d row conditions
    numbers_kept row count long [] fit = refl
    numbers_kept row count long (condition ∷ conditions) fit =
        ap (λ (b : Bool). b && at_numbers d (part_of d row 0 count) conditions) (by condition.at fit.0)
        ∙ ap (λ (b : Bool). number_says d row condition.at condition.formula && b) (numbers_kept row count long conditions fit.1)
      where
        by : (at : At) → IsFit at condition.formula → number_says d (part_of d row 0 count) at condition.formula ≡ number_says d row at condition.formula
        by (Number step) is =
            is.rests (values_at d (part_of d row 0 count) step) (values_at d row step)
            (λ number less. values row 0 count step step (omega arith) number (has_values count step long is.within number less))
        by Last is = refl

    pub state_kept : (row : List ℕ) (start count step at : ℕ) → start + step ≡ at → step ≤ count → (conditions : List Condition) → AreFit conditions →
        in_state d (values_at d (part_of d row start count) step) (lasts conditions) ≡ in_state d (values_at d row at) (lasts conditions)
    state_kept row start count step at is within [] fit = refl
    state_kept row start count step at is within (condition ∷ conditions) fit = by condition.at fit.0 (state_kept row start count step at is within conditions fit.1)
      where
        by : (place : At) → IsFit place condition.formula →
            in_state d (values_at d (part_of d row start count) step) (lasts conditions) ≡ in_state d (values_at d row at) (lasts conditions) →
            in_state d (values_at d (part_of d row start count) step) (if is_at_last place then condition ∷ lasts conditions else lasts conditions)
            ≡ in_state d (values_at d row at) (if is_at_last place then condition ∷ lasts conditions else lasts conditions)
        by (Number n) fits more = more
        by Last fits more =
            let same = fits.rests (values_at d (part_of d row start count) step) (values_at d row at) (λ number less.
            values row start count step at is number
            (let few = last_count in let most = mul-le-mul_right {m = step} {n = count} (stride d) within in omega arith)) in
            ap (λ (b : Bool). b && in_state d (values_at d (part_of d row start count) step) (lasts conditions)) same
            ∙ ap (λ (b : Bool). says d (values_at d row at) condition.formula && b) more

    -- ---- a query at its least horizon

    module _ (terms_mean : TermsMeanFormulas) (terms_rest : TermsRestOnTheirConstants) (well : IsGroundedWell d) where
      is_fit : (condition : Condition) → IsConditionAt signature least (ground_condition d.universe condition) → IsFit condition.at condition.formula
      is_fit condition is = record {
        within = is.within;
        rests = λ v w agree.
            let sizes = sizes_of_step signature least (step_of condition.at least) in
            let m = terms_mean d.universe well.values (giving []) condition.formula in
            sym (m.truth_is v) ∙ terms_rest sizes m.term (subst (IsTermOver sizes) m.written is.term) v w agree ∙ m.truth_is w;
      }

      are_fit : (conditions : List Condition) → AllByRecursion (IsConditionAt signature least) (map (ground_condition d.universe) conditions) → AreFit conditions
      are_fit [] are = tt
      are_fit (condition ∷ conditions) are = (is_fit condition are.0, are_fit conditions are.1)

      asks_fit : (claim : Option Condition) (conditions : List Condition) → IfSome (option_map (ground_condition d.universe) claim) (IsConditionAt signature least) →
          AreFit conditions → AreFit (asks claim conditions)
      asks_fit None conditions is are = are
      asks_fit (Some claim) conditions is are =
          let fit = is_fit claim is in
          (record { within = fit.within; rests = λ v w agree. ap not (fit.rests v w agree) }, are)

      pub asked_fit : (range : ℕ × ℕ) (q : Query) → IsQueryAt signature least (ground_query d.universe range q) → AreFit (asked q)
      asked_fit range q is = asks_fit q.claim q.conditions is.claim (are_fit q.conditions is.conditions)
