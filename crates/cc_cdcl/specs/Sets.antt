-- Partial assignments: what two of them give alike, and the assignment that one stands for.
use Rattle.std.specs.Prelude.{ℕ, ◌≢◌, ◌<◌, ◌≤◌, Bool, false, if◌then◌else◌, Option, Some, None, unwrap_or}
use Rattle.std.specs.Bool.{beq}
use Rattle.cc_defs.specs.Assignments.{Values}

abbrev pub value_of_both : Option Bool → Option Bool → Option Bool
value_of_both None other = None
value_of_both (Some sign) None = None
value_of_both (Some sign) (Some other) = if beq sign other then Some sign else None

-- what two assignments give alike
abbrev pub intersection : Values → Values → Values
intersection a b variable = value_of_both (a variable) (b variable)

-- the assignment in which what has no value is false
abbrev pub assignment_of : Values → ℕ → Bool
assignment_of values variable = unwrap_or (values variable) false

-- each of the variables 1, .., variables has a value
abbrev pub IsFull : ℕ → Values → Type 0
IsFull variables values = (variable : ℕ) → 0 < variable → variable ≤ variables → values variable ≢ None
