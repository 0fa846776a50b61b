-- What holds at every horizon, by induction over so many steps (Sheeran, Singh and Stålmarck, 2000).
use Rattle.std.specs.Prelude.{◌≤◌, ◌<◌, ◌+◌, ℕ, Bool, true, false, List, [], ◌∷◌, ◌++◌, Option, Some, None, map, filter, option_map, if◌then◌else◌}
use Rattle.cc_defs.specs.declared.signature.At.{At}
use Rattle.cc_defs.specs.declared.signature.At.TheVariants.{Number, Last}
use Rattle.cc_defs.specs.Conditions.{IsSignatureOfDescription}
use Rattle.cc_defs.specs.Declarations.{upto}
use Rattle.cc_defs.specs.Description.{Description}
use Rattle.cc_defs.specs.GroundLaws.{PlainGroundQuery, StandsForQuery}
use Rattle.cc_defs.specs.Resolved.{Condition, Formula, Both, Falsehood, Implies, Not, Query}
use Rattle.cc_defs.specs.Runs.{HasNone, range_of}
use Rattle.cc_defs.specs.Signatures.{Signature}
use Rattle.cc_form.specs.Queries.{IsQueryAt}
use Rattle.cc_theory.specs.Laws.{IsGroundedWell}

-- no horizon from the query's least one on, without an end, has a history
abbrev pub Never : Description → Query → Type 0
Never d q = (horizon : ℕ) → (range_of q).0 ≤ horizon → HasNone d q horizon

-- ---- the step of an induction

-- a condition stands at the last step
abbrev pub is_at_last : At → Bool
is_at_last Last = true
is_at_last (Number step) = false

-- the conditions at the last step, in order; the claim, where it stands there
abbrev pub last_conditions : Query → List Condition
last_conditions q = filter (λ condition. is_at_last condition.at) q.conditions

abbrev pub at_last : Option Condition → Option Condition
at_last None = None
at_last (Some condition) = if is_at_last condition.at then Some condition else None

-- formulas joined to the left by `&`, behind a first one
abbrev pub joined_behind : Formula → List Formula → Formula
joined_behind first [] = first
joined_behind first (next ∷ others) = joined_behind (Both first next) others

abbrev pub joined : List Formula → Option Formula
joined [] = None
joined (first ∷ others) = Some (joined_behind first others)

-- that a state is none that is looked for: it does not meet the conditions, or it meets the claim
abbrev pub none_sought : (conditions claim : Option Formula) → Formula
none_sought (Some conditions) (Some claim) = Implies conditions claim
none_sought None (Some claim) = claim
none_sought (Some conditions) None = Not conditions
none_sought None None = Falsehood

abbrev pub none_sought_by : Query → Formula
none_sought_by q = none_sought (joined (map (λ condition. condition.formula) (last_conditions q))) (option_map (λ condition. condition.formula) (at_last q.claim))

-- So many states in a row are none that the query looks for, and then comes one that it does. What it says at numbers is left out.
abbrev pub step_query : Query → (count : ℕ) → Query
step_query q count = record q {
  range = Some (count, count);
  conditions = map (λ step. record { at = Number step; formula = none_sought_by q }) (upto count) ++ last_conditions q;
  claim = at_last q.claim;
}

-- ---- what it proves

-- Where so many horizons from the least one on have no history, and the step over so many has none, no horizon has one.
abbrev pub InductionHolds : Type 0
InductionHolds = (d : Description) → IsGroundedWell d → (signature : Signature) (q : Query) (query : PlainGroundQuery) →
    IsSignatureOfDescription d signature → StandsForQuery query d q → IsQueryAt signature query.lo query →
    (count : ℕ) → 1 ≤ count → ((horizon : ℕ) → query.lo ≤ horizon → horizon < query.lo + count → HasNone d q horizon) →
    HasNone d (step_query q count) count → Never d q
