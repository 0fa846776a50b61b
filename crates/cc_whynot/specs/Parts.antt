-- Why a query has no history at a horizon: the parts that a history has to be in, and those of them that exclude each other.
use Rattle.std.specs.Prelude.{◌≡◌, ◌↔◌, ℕ, ◌+◌, ◌*◌, ◌<◌, nat_lt, Bool, IsTrue, IsNone, IfSome, List, [], ◌∷◌, ◌++◌, Contains, filter, length, map, slice_get, slice_index, None}
use Rattle.std.specs.List.{AllByRecursion}
use Rattle.cc_defs.specs.declared.node.GroundHead.{GroundHead}
use Rattle.cc_defs.specs.declared.node.GroundHead.TheVariants as heads
use Rattle.cc_defs.specs.Declarations.{upto}
use Rattle.cc_defs.specs.Description.{Description, domain_sizes, sizes_at, stride}
use Rattle.cc_defs.specs.Histories.{AreFirstOf, IsHistory, condition_holds}
use Rattle.cc_defs.specs.Resolved.{Query}
use Rattle.cc_defs.specs.Rows.{IsRow}
use Rattle.cc_defs.specs.TimedRules.{TimedRule, timed_rules}
use Rattle.cc_theory.specs.Completion.{IsCause, holds}
use Rattle.cc_theory.specs.Laws.{IsGroundedWell}
use Rattle.cc_why.specs.Causes.{Sourced, sourced_rules}
use Rattle.cc_why.specs.declared.cause.Cause.TheVariants as causes

-- ---- parts

-- A condition of the query, by its number; a base law; or that the values of a ground constant have causes.
pub data Part : Type 0 where
  OfCondition : (number : ℕ) → Part
  OfLaw : (number : ℕ) → Part
  OfConstant : (number : ℕ) → Part

-- a ground constant has at least two values
abbrev pub has_choice : Description → (constant : ℕ) → Bool
has_choice d constant = nat_lt 1 (slice_index (domain_sizes d.universe.fluents ++ domain_sizes d.universe.actions) constant)

-- all parts, in order: the conditions as they stand in the text, the base laws, and the constants, fluents first
abbrev pub parts_of : Description → Query → List Part
parts_of d q =
    map OfCondition (upto (length q.conditions)) ++ map OfLaw (upto (length d.laws)) ++ map OfConstant (filter (has_choice d) (upto (stride d)))

-- the row gives the position of a head the value that the head names; never what is false
abbrev pub MeetsHead : List ℕ → GroundHead → Type 0
MeetsHead row (heads.Atom position value) = slice_index row position ≡ value
MeetsHead row heads.Falsity = ⊥

-- a law as an implication: where the row meets the body of a rule, it meets its head
abbrev pub MeetsRule : List ℕ → TimedRule → Type 0
MeetsRule row rule = IsTrue (holds row rule.body) → MeetsHead row rule.head

-- A row is in a part: it meets the condition; it meets all rules of the law; or at each step at which the constant has a position, the
-- value that it has there is the head of a rule whose body the row meets.
abbrev pub IsIn : Description → Query → (horizon : ℕ) → List ℕ → Part → Type 0
IsIn d q horizon row (OfCondition number) = IfSome (slice_get q.conditions number) (λ condition. IsTrue (condition_holds d horizon row condition))
IsIn d q horizon row (OfLaw number) =
    (one : Sourced) → Contains (sourced_rules d horizon) one → one.cause ≡ causes.Law number → MeetsRule row one.rule
IsIn d q horizon row (OfConstant number) =
    (step : ℕ) → step * stride d + number < length (sizes_at d horizon) →
    IsCause (timed_rules d horizon) row (heads.Atom (step * stride d + number) (slice_index row (step * stride d + number)))

-- it is a row of the horizon, and in each of these parts
abbrev pub IsInAll : Description → Query → (horizon : ℕ) → List Part → List ℕ → Type 0
IsInAll d q horizon parts row = IsRow (sizes_at d horizon) row × AllByRecursion (IsIn d q horizon row) parts

-- ---- what the parts make: a row is a history exactly where it is in all of them (by the completion theorem)

abbrev pub PartsMakeHistories : Type 0
PartsMakeHistories = (d : Description) → IsGroundedWell d → (q : Query) → IsNone q.claim → (horizon : ℕ) (row : List ℕ) →
    IsInAll d q horizon (parts_of d q) row ↔ IsHistory d q horizon None row

-- ---- conflicts

-- these are some of those, in their order
abbrev pub AreSomeOf : List Part → List Part → Type 0
AreSomeOf [] all = Unit {0}
AreSomeOf (part ∷ parts) all = (before behind : List Part) × (all ≡ before ++ part ∷ behind) × AreSomeOf parts behind

-- for each part, the least row that is in all the others of a conflict: those before it, and those behind
abbrev pub AreShownWithout : Description → Query → (horizon : ℕ) → (before : List Part) → List Part → List (List ℕ) → Type 0
AreShownWithout d q horizon before [] rows = rows ≡ []
AreShownWithout d q horizon before (part ∷ parts) [] = ⊥
AreShownWithout d q horizon before (part ∷ parts) (row ∷ rows) =
    AreFirstOf (IsInAll d q horizon (before ++ parts)) (row ∷ []) × AreShownWithout d q horizon (before ++ part ∷ []) parts rows

-- Parts that no row is in all of, while for each of them some row is in all the others.
pub record IsConflict (d : Description) (q : Query) (horizon : ℕ) (parts : List Part) (rows : List (List ℕ)) : Type 0 where
  pub some : AreSomeOf parts (parts_of d q)
  pub none : (row : List ℕ) → IsInAll d q horizon parts row → ⊥
  pub shown : AreShownWithout d q horizon [] parts rows
