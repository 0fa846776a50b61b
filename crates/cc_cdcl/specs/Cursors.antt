-- Where the next choice of a search is looked for.
use Rattle.std.specs.Prelude.{◌≡◌, ◌≢◌, ℕ, ◌+◌, ◌<◌, ◌≤◌, zero, suc, List, [], ◌∷◌, length, get_or, None}
use Rattle.cc_defs.specs.Assignments.{Values}
use Rattle.cc_defs.specs.Clauses.{Literal, IsLiteralOver}
use Rattle.cc_trail.specs.declared.entries.Step.{Step}
use Rattle.cc_trail.specs.Steps.{step_of, values_of, values_to}
use Rattle.cc_cdcl.specs.declared.choice.Cursor.{Cursor}
use Rattle.cc_cdcl.specs.Choices.{HasTrueValue, IsNext}

-- so many of the first positions have a true value, and this is the first variable of the next one
abbrev pub HaveTrueValues : ℕ → List ℕ → ℕ → Values → ℕ → Type 0
HaveTrueValues first sizes zero values next = next ≡ first
HaveTrueValues first [] (suc count) values next = ⊥
HaveTrueValues first (size ∷ sizes) (suc count) values next = HasTrueValue first size values × HaveTrueValues (first + size) sizes count values next

-- all positions before that of a cursor have a true value, and all variables below its variable have a value
pub record IsCursor (sizes : List ℕ) (variables : ℕ) (values : Values) (cursor : Cursor) : Type 0 where
  pub positions : HaveTrueValues 1 sizes cursor.position values cursor.first
  pub some : 0 < cursor.variable
  pub most : cursor.variable ≤ variables + 1
  pub before : (variable : ℕ) → 0 < variable → variable < cursor.variable → values variable ≢ None

-- there is a cursor for each level that was opened, by the values up to that level
pub record AreCursors (sizes : List ℕ) (variables : ℕ) (steps : List Step) (level_count : ℕ) (cursors : List Cursor) : Type 0 where
  pub room : length cursors ≡ variables + 1
  pub each : (level : ℕ) (other : Cursor) → level ≤ level_count → IsCursor sizes variables (values_to level steps) (get_or cursors level other)

-- the literal may be decided next
pub record IsChoice (sizes : List ℕ) (variables : ℕ) (steps : List Step) (literal : Literal) : Type 0 where
  pub next : IsNext sizes (values_of steps) literal
  pub over : IsLiteralOver variables literal
  pub open_yet : step_of steps literal.variable ≡ None
