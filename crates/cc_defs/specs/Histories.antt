-- Histories: the paths that satisfy a query, in ascending order.
use Rattle.std.specs.Prelude.{ℕ, Bool, IsTrue, IsFalse, List, [], Option, IfSome, Contains, ◌⊎◌, ◌↔◌}
use Rattle.std.specs.List.{list_all}
use Rattle.std.specs.List.Sorted.{IsStrictlySortedBy}
use Rattle.cc_defs.specs.declared.signature.At.{At}
use Rattle.cc_defs.specs.declared.signature.At.TheVariants.{Number, Last}
use Rattle.cc_defs.specs.Rows.{row_cmp, IsBelow}
use Rattle.cc_defs.specs.Description.{Description, values_at}
use Rattle.cc_defs.specs.Resolved.{Condition, Query}
use Rattle.cc_defs.specs.Satisfaction.{giving, satisfied}
use Rattle.cc_defs.specs.Paths.{IsPath}

-- the step that a condition speaks of at a horizon
abbrev pub step_of : At → ℕ → ℕ
step_of (Number step) horizon = step
step_of Last horizon = horizon

-- a condition has no free variable
abbrev pub condition_holds : Description → ℕ → List ℕ → Condition → Bool
condition_holds d horizon row condition = satisfied d.universe (values_at d row (step_of condition.at horizon)) (giving []) condition.formula

-- every condition holds, and the claim does not
pub record Meets (d : Description) (q : Query) (horizon : ℕ) (row : List ℕ) : Type 0 where
  pub conditions : IsTrue (list_all (condition_holds d horizon row) q.conditions)
  pub claim : IfSome q.claim (λ claim. IsFalse (condition_holds d horizon row claim))

-- a history: a path that satisfies the query, after the key where there is one
pub record IsHistory (d : Description) (q : Query) (horizon : ℕ) (key : Option (List ℕ)) (row : List ℕ) : Type 0 where
  pub path : IsPath d horizon row
  pub meets : Meets d q horizon row
  pub after : IfSome key (λ low. IsBelow low row)

-- ---- lists of rows, of whatever kind

-- all rows that are so, in ascending order, each once
pub record AreAllOf (Is : List ℕ → Type 0) (rows : List (List ℕ)) : Type 0 where
  pub ascending : IsStrictlySortedBy row_cmp rows
  pub members : (row : List ℕ) → Contains rows row ↔ Is row

-- the first rows that are so: each other one comes after all of them
pub record AreFirstOf (Is : List ℕ → Type 0) (rows : List (List ℕ)) : Type 0 where
  pub ascending : IsStrictlySortedBy row_cmp rows
  pub each : (row : List ℕ) → Contains rows row → Is row
  pub others : (row : List ℕ) → Is row → Contains rows row ⊎ ((told : List ℕ) → Contains rows told → IsBelow told row)

-- all histories, in ascending order, each once
abbrev pub IsListing : Description → Query → ℕ → Option (List ℕ) → List (List ℕ) → Type 0
IsListing d q horizon key rows = AreAllOf (IsHistory d q horizon key) rows

-- the first histories: each history is among them, or comes after all of them
abbrev pub AreFirst : Description → Query → ℕ → Option (List ℕ) → List (List ℕ) → Type 0
AreFirst d q horizon key rows = AreFirstOf (IsHistory d q horizon key) rows
