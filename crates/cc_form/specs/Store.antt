-- What is kept of clauses: they themselves as long as they are within their limits, and how many there are up to one more.
use Rattle.std.specs.Prelude.{◌≡◌, ℕ, ◌+◌, ◌≤◌, ◌<◌, Bool, true, false, List, [], ◌∷◌, ◌++◌, length, min}
use Rattle.cc_defs.specs.Clauses.{Literal}
use Rattle.cc_defs.specs.Limits.{most_literals, most_clauses}
use Rattle.cc_form.specs.declared.store.Kept.{Kept}

-- how many literals clauses have together
abbrev pub literal_count_of : List (List Literal) → ℕ
literal_count_of [] = 0
literal_count_of (clause ∷ clauses) = length clause + literal_count_of clauses

-- they themselves, or that they have more literals than their limit
abbrev pub IsKept : Bool → List (List Literal) → List (List Literal) → Type 0
IsKept true kept clauses = most_literals < literal_count_of clauses
IsKept false kept clauses = (kept ≡ clauses) × (literal_count_of clauses ≤ most_literals)

pub record Holds (kept : Kept) (clauses : List (List Literal)) : Type 0 where
  pub count : kept.count ≡ min (length clauses) 8000001
  pub within : kept.count ≤ most_clauses → IsKept kept.is_long kept.arena clauses

-- the clauses so far, with these behind them
pub record Gives (old new : Kept) (part : List (List Literal)) : Type 0 where
  pub each : (clauses : List (List Literal)) → Holds old clauses → Holds new (clauses ++ part)

-- clauses that are within their limits
abbrev pub AreFew : List (List Literal) → Type 0
AreFew clauses = (length clauses ≤ most_clauses) × (literal_count_of clauses ≤ most_literals)
