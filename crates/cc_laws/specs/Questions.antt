-- A query: its faults, what it asks, and whether its steps fit.
use Rattle.std.specs.Prelude.{◌≡◌, ℕ, ◌+◌, Bool, true, false, not, ◌&&◌, ◌||◌, ◌==◌, nat_lt, if◌then◌else◌, List, [], ◌∷◌, length, flat_map, Option, Some, None}
use Rattle.std.specs.List.{list_any}
use Rattle.std.specs.Option.{option_map}
use Rattle.cc_defs.specs.declared.refusal.Refusal.{Refusal}
use Rattle.cc_defs.specs.declared.refusal.LimitAt.TheVariants as limits
use Rattle.cc_defs.specs.declared.signature.At.{At}
use Rattle.cc_defs.specs.declared.signature.At.TheVariants as ats
use Rattle.cc_defs.specs.declared.signature.Symbol.{Symbol}
use Rattle.cc_defs.specs.Declarations.{Declaration}
use Rattle.cc_defs.specs.Forms.{names_action}
use Rattle.cc_defs.specs.Limits.{limit_number}
use Rattle.cc_defs.specs.Refusals.{refused, refused_if, past, least}
use Rattle.cc_defs.specs.Trees.{PlainTree, PlainQueryItem, Label, Range, Condition, PlainPart, PlainStatement}
use Rattle.cc_defs.specs.Trees as trees
use Rattle.cc_defs.specs.Resolved.{Formula, Query}
use Rattle.cc_defs.specs.Resolved as resolved
use Rattle.cc_laws.specs.FormulaFaults.{has_unknown, has_miscounted, has_misfit}
use Rattle.cc_laws.specs.FreeVariables.{free}
use Rattle.cc_laws.specs.Resolving.{resolve_all, brackets_in}
use Rattle.cc_laws.specs.Vocabulary.{Vocabulary, vocabulary}

-- ---- the parts of a query

abbrev pub labels_in : PlainQueryItem → List (List ℕ)
labels_in (Label label) = label ∷ []
labels_in item = []

abbrev pub ranges_in : PlainQueryItem → List (ℕ × ℕ)
ranges_in (Range lo hi) = (lo, hi) ∷ []
ranges_in item = []

-- a formula list and its step
pub record Asked : Type 0 where
  pub at : At
  pub formulas : List PlainTree

abbrev pub asked : At → List PlainTree → Asked
asked at formulas = record { at = at; formulas = formulas }

abbrev pub asked_if : Bool → At → List PlainTree → List Asked
asked_if true at formulas = asked at formulas ∷ []
asked_if false at formulas = []

abbrev pub claims_in : PlainQueryItem → List Asked
claims_in (Condition claim at formulas) = asked_if claim at formulas
claims_in item = []

abbrev pub conditions_in : PlainQueryItem → List Asked
conditions_in (Condition claim at formulas) = asked_if (not claim) at formulas
conditions_in item = []

abbrev pub formulas_in : PlainQueryItem → List PlainTree
formulas_in (Condition claim at formulas) = formulas
formulas_in item = []

-- ---- faults

abbrev pub has_two : {X : Type 0} → List X → Bool
has_two xs = nat_lt 1 (length xs)

-- 4: two labels, two ranges of horizons, or two claims
abbrev pub gives_twice : List PlainQueryItem → Bool
gives_twice items = has_two (flat_map labels_in items) || (has_two (flat_map ranges_in items) || has_two (flat_map claims_in items))

-- 8: a free variable
abbrev pub has_free : Vocabulary → PlainTree → Bool
has_free v formula = nat_lt 0 (length (free v [] formula))

-- the least number that has a fault
abbrev pub query_faults : Vocabulary → List PlainQueryItem → List (ℕ × Bool)
query_faults v items =
    (4, gives_twice items)
    ∷ (5, list_any (has_unknown v) (flat_map formulas_in items))
    ∷ (6, list_any (has_miscounted v) (flat_map formulas_in items))
    ∷ (7, list_any (has_misfit v) (flat_map formulas_in items))
    ∷ (8, list_any (has_free v) (flat_map formulas_in items)) ∷ []

abbrev pub items_of : PlainPart → List PlainQueryItem
items_of (trees.Query items) = items
items_of part = []

abbrev pub query_refusal : ℕ → Vocabulary → PlainStatement → Option Refusal
query_refusal file v statement = refused_if file statement.line (least (query_faults v (items_of statement.part)))

-- ---- what is asked

-- the comma of a query is `&`, which groups to the left
abbrev pub joined_behind : Formula → List Formula → Formula
joined_behind formula [] = formula
joined_behind formula (other ∷ others) = joined_behind (resolved.Both formula other) others

abbrev pub joined : List Formula → Formula
joined [] = resolved.Truth
joined (formula ∷ others) = joined_behind formula others

-- a condition, or the claim, whose brackets have the numbers from `next` on
abbrev pub condition_asked : Vocabulary → (next : ℕ) → Asked → resolved.Condition
condition_asked v next asked = record { at = asked.at; formula = joined (resolve_all v next asked.formulas) }

-- conditions one after another, whose brackets are numbered on
abbrev pub conditions_asked : Vocabulary → (next : ℕ) → List Asked → List resolved.Condition
conditions_asked v next [] = []
conditions_asked v next (asked ∷ others) = condition_asked v next asked ∷ conditions_asked v (next + brackets_in asked.formulas) others

abbrev pub brackets_asked : List Asked → ℕ
brackets_asked [] = 0
brackets_asked (asked ∷ others) = brackets_in asked.formulas + brackets_asked others

abbrev pub first : {X : Type 0} → List X → Option X
first [] = None
first (x ∷ xs) = Some x

abbrev pub query_of : ℕ → Vocabulary → ℕ → List PlainQueryItem → Query
query_of file v line items = record {
  label = first (flat_map labels_in items);
  range = first (flat_map ranges_in items);
  conditions = conditions_asked v 0 (flat_map conditions_in items);
  claim = option_map (condition_asked v (brackets_asked (flat_map conditions_in items))) (first (flat_map claims_in items));
  file = file;
  line = line;
}

abbrev pub query_asked : ℕ → Vocabulary → PlainStatement → Query
query_asked file v statement = query_of file v statement.line (items_of statement.part)

-- the statement has no fault, and this is the query that it asks
abbrev pub Asks : ℕ → List Declaration → PlainStatement → Query → Type 0
Asks file left statement query =
    (query_refusal file (vocabulary left) statement ≡ None) × (query ≡ query_asked file (vocabulary left) statement)

-- ---- the steps of a query

-- A step is at most the least horizon, and actions stand before the last step of each horizon.
abbrev pub step_fails : List Symbol → ℕ → At → Formula → Bool
step_fails symbols lo (ats.Number step) formula = nat_lt lo step || ((step == lo) && names_action symbols formula)
step_fails symbols lo ats.Last formula = names_action symbols formula

abbrev pub condition_fails : List Symbol → ℕ → resolved.Condition → Bool
condition_fails symbols lo condition = step_fails symbols lo condition.at condition.formula

abbrev pub claim_fails : List Symbol → ℕ → Option resolved.Condition → Bool
claim_fails symbols lo None = false
claim_fails symbols lo (Some claim) = condition_fails symbols lo claim

-- 16, at the query's place
abbrev pub step_refusal : Query → Refusal
step_refusal query = refused 16 query.file query.line

abbrev pub range_refusal : List Symbol → Query → ℕ → ℕ → Option Refusal
range_refusal symbols query lo hi =
    if nat_lt hi lo || (list_any (condition_fails symbols lo) query.conditions || claim_fails symbols lo query.claim) then Some (step_refusal query)
    else (if nat_lt (limit_number limits.Horizon) hi then Some (past limits.Horizon) else None)

abbrev pub refusal_in_range : List Symbol → Query → Option (ℕ × ℕ) → Option Refusal
refusal_in_range symbols query None = Some (step_refusal query)
refusal_in_range symbols query (Some range) = range_refusal symbols query range.0 range.1

-- The refusal of a query's steps, if there is one: it has no range, its least horizon is above its greatest, or a step does
-- not fit (16); then its greatest horizon passes the limit.
abbrev pub steps_refusal : List Symbol → Query → Option Refusal
steps_refusal symbols query = refusal_in_range symbols query query.range
