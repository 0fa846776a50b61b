-- What a query asks of a row: at numbers, and of its last state.
use Rattle.std.proofs.Common.{◌≡◌, ◌∙◌, ℕ, Bool, true, false, ◌&&◌, ◌||◌, not, List, [], ◌∷◌, map, filter, Option, Some, None, refl, sym, ap}
use Rattle.std.specs.Prelude.{IsTrue, IsFalse, IfSome, if◌then◌else◌}
use Rattle.std.specs.List.{list_all}
use Rattle.std.specs.Option.{option_map}
use Rattle.cc_defs.specs.declared.signature.At.{At}
use Rattle.cc_defs.specs.declared.signature.At.TheVariants.{Number, Last}
use Rattle.cc_defs.specs.Description.{Description, values_at}
use Rattle.cc_defs.specs.Histories.{Meets, condition_holds, step_of}
use Rattle.cc_defs.specs.Resolved.{Condition, Formula, Both, Not, Query}
use Rattle.cc_defs.specs.Satisfaction.{giving, satisfied}
use Rattle.cc_induction.specs.Induction.{at_last, is_at_last, joined, joined_behind, last_conditions, none_sought, none_sought_by}

-- ---- truth values

pub both_hold : (a b : Bool) → (a && b) ≡ true → (a ≡ true) × (b ≡ true)
both_hold true b e = (refl, e)
both_hold false b e = absurd cc

pub both : (a b : Bool) → a ≡ true → b ≡ true → (a && b) ≡ true
both a b p q = ap (λ (c : Bool). c && b) p ∙ q

fails : (a : Bool) → not a ≡ true → a ≡ false
fails true e = absurd cc
fails false e = refl

to_left : (a b c : Bool) → (a && (b && c)) ≡ ((a && b) && c)
to_left true b c = refl
to_left false b c = refl

second_first : (a b c : Bool) → (a && (b && c)) ≡ (b && (a && c))
second_first true b c = refl
second_first false true c = refl
second_first false false c = refl

claim_alone : (claim : Bool) → claim ≡ not (not claim && true)
claim_alone true = refl
claim_alone false = refl

claim_too : (claim conditions : Bool) → (not conditions || claim) ≡ not (not claim && conditions)
claim_too true true = refl
claim_too true false = refl
claim_too false true = refl
claim_too false false = refl

-- ---- conditions

-- the claim as one more condition: that it fails
abbrev pub asks : Option Condition → List Condition → List Condition
asks None conditions = conditions
asks (Some claim) conditions = record { at = claim.at; formula = Not claim.formula } ∷ conditions

abbrev pub asked : Query → List Condition
asked q = asks q.claim q.conditions

abbrev pub lasts : List Condition → List Condition
lasts conditions = filter (λ (condition : Condition). is_at_last condition.at) conditions

asked_last : (claim : Option Condition) (conditions : List Condition) → lasts (asks claim conditions) ≡ asks (at_last claim) (lasts conditions)
asked_last None conditions = refl
asked_last (Some claim) conditions = by (is_at_last claim.at)
  where
    by : (last : Bool) →
        (if last then record { at = claim.at; formula = Not claim.formula } ∷ lasts conditions else lasts conditions) ≡ asks (if last then Some claim else None) (lasts conditions)
    by true = refl
    by false = refl

module _ (d : Description) where
  abbrev pub says : (ℕ → ℕ) → Formula → Bool
  says v formula = satisfied d.universe v (giving []) formula

  abbrev pub number_says : List ℕ → At → Formula → Bool
  number_says row (Number step) formula = says (values_at d row step) formula
  number_says row Last formula = true

  -- what is asked at numbers
  abbrev pub at_numbers : List ℕ → List Condition → Bool
  at_numbers row conditions = list_all (λ (condition : Condition). number_says row condition.at condition.formula) conditions

  -- what is asked of a state
  abbrev pub in_state : (ℕ → ℕ) → List Condition → Bool
  in_state v conditions = list_all (λ (condition : Condition). says v condition.formula) conditions

  module _ (horizon : ℕ) (row : List ℕ) where
    abbrev holds : Condition → Bool
    holds condition = condition_holds d horizon row condition

    abbrev last_state : ℕ → ℕ
    last_state = values_at d row horizon

    split : (conditions : List Condition) → list_all holds conditions ≡ (at_numbers row conditions && in_state last_state (lasts conditions))
    split [] = refl
    split (condition ∷ conditions) = by condition.at (split conditions)
      where
        by : (at : At) → list_all holds conditions ≡ (at_numbers row conditions && in_state last_state (lasts conditions)) → (says (values_at d row (step_of at horizon)) condition.formula && list_all holds conditions)
            ≡ ((number_says row at condition.formula && at_numbers row conditions)
            && in_state last_state (if is_at_last at then condition ∷ lasts conditions else lasts conditions))
        by (Number step) more =
            let says_it = says (values_at d row step) condition.formula in
            ap (λ (b : Bool). says_it && b) more ∙ to_left says_it (at_numbers row conditions) (in_state last_state (lasts conditions))
        by Last more =
            let says_it = says last_state condition.formula in
            ap (λ (b : Bool). says_it && b) more ∙ second_first says_it (at_numbers row conditions) (in_state last_state (lasts conditions))

    pub last_holds : (conditions : List Condition) → in_state last_state (lasts conditions) ≡ list_all holds (lasts conditions)
    last_holds [] = refl
    last_holds (condition ∷ conditions) = by condition.at refl (last_holds conditions)
      where
        by : (at : At) → condition.at ≡ at → in_state last_state (lasts conditions) ≡ list_all holds (lasts conditions) →
            in_state last_state (if is_at_last at then condition ∷ lasts conditions else lasts conditions)
            ≡ list_all holds (if is_at_last at then condition ∷ lasts conditions else lasts conditions)
        by (Number step) is more = more
        by Last is more =
            ap (λ (at : At). says (values_at d row (step_of at horizon)) condition.formula && in_state last_state (lasts conditions)) (sym is)
            ∙ ap (λ (b : Bool). holds condition && b) more

    all_asked : (claim : Option Condition) (conditions : List Condition) →
        IsTrue (list_all holds conditions) → IfSome claim (λ claim. IsFalse (holds claim)) → IsTrue (list_all holds (asks claim conditions))
    all_asked None conditions all none = all
    all_asked (Some claim) conditions all failing = ap (λ (b : Bool). not b && list_all holds conditions) failing ∙ all

    asked_all : (claim : Option Condition) (conditions : List Condition) →
        IsTrue (list_all holds (asks claim conditions)) → IsTrue (list_all holds conditions) × IfSome claim (λ claim. IsFalse (holds claim))
    asked_all None conditions all = (all, tt)
    asked_all (Some claim) conditions all =
        let parts = both_hold (not (holds claim)) (list_all holds conditions) all in (parts.1, fails (holds claim) parts.0)

    module _ (q : Query) where
      -- a row meets a query where it has what is asked at numbers, and its last state what is asked there
      pub meets : IsTrue (at_numbers row (asked q)) → IsTrue (in_state last_state (lasts (asked q))) → Meets d q horizon row
      meets numbers state =
          let parts = asked_all q.claim q.conditions (split (asked q) ∙ both (at_numbers row (asked q)) (in_state last_state (lasts (asked q))) numbers state) in
          record { conditions = parts.0; claim = parts.1 }

      pub met : Meets d q horizon row → IsTrue (at_numbers row (asked q)) × IsTrue (in_state last_state (lasts (asked q)))
      met m = both_hold (at_numbers row (asked q)) (in_state last_state (lasts (asked q))) (sym (split (asked q)) ∙ all_asked q.claim q.conditions m.conditions m.claim)

      -- what is asked of a last state, as the conditions and the claim there
      pub met_last : IsTrue (in_state last_state (lasts (asked q))) → IsTrue (list_all holds (last_conditions q)) × IfSome (at_last q.claim) (λ claim. IsFalse (holds claim))
      met_last state =
          asked_all (at_last q.claim) (last_conditions q)
          (ap (λ (conditions : List Condition). list_all holds conditions) (sym (asked_last q.claim q.conditions)) ∙ sym (last_holds (asked q)) ∙ state)

  -- ---- a state is none that is looked for where it has not what is asked of the last one

  module _ (v : ℕ → ℕ) where
    joined_says : (first : Formula) (conditions : List Condition) →
        says v (joined_behind first (map (λ (condition : Condition). condition.formula) conditions)) ≡ (says v first && in_state v conditions)
    joined_says first [] = by (says v first)
      where
        by : (b : Bool) → b ≡ (b && true)
        by true = refl
        by false = refl
    joined_says first (next ∷ conditions) =
        joined_says (Both first next.formula) conditions ∙ sym (to_left (says v first) (says v next.formula) (in_state v conditions))

    none_is : (claim : Option Condition) (conditions : List Condition) →
        says v (none_sought (joined (map (λ (condition : Condition). condition.formula) conditions)) (option_map (λ (condition : Condition). condition.formula) claim))
        ≡ not (in_state v (asks claim conditions))
    none_is None [] = refl
    none_is None (first ∷ conditions) = ap not (joined_says first.formula conditions)
    none_is (Some claim) [] = claim_alone (says v claim.formula)
    none_is (Some claim) (first ∷ conditions) =
        ap (λ (b : Bool). not b || says v claim.formula) (joined_says first.formula conditions)
        ∙ claim_too (says v claim.formula) (in_state v (first ∷ conditions))

    pub none_sought_is : (q : Query) → says v (none_sought_by q) ≡ not (in_state v (lasts (asked q)))
    none_sought_is q =
        none_is (at_last q.claim) (last_conditions q)
        ∙ ap (λ (conditions : List Condition). not (in_state v conditions)) (sym (asked_last q.claim q.conditions))
