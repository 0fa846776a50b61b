-- Clauses of propositional literals, and resolution (Robinson, A machine-oriented logic based on the resolution principle, 1965).
use Rattle.std.specs.Prelude.{◌≡◌, ◌≢◌, ℕ, ◌<◌, ◌≤◌, ◌-◌, ◌⊎◌, ◌↔◌, Bool, true, false, not, if◌then◌else◌, IsTrue, List, [], ◌∷◌, Contains, Some, slice_get}
use Rattle.std.specs.List.{list_any, list_all}

-- a variable, or its negation
pub record Literal : Type 0 where
  pub variable : ℕ
  pub positive : Bool

abbrev pub opposite : Literal → Literal
opposite literal = record literal { positive = not literal.positive }

-- The order of literals: by variable, and for one variable the negative one first.
abbrev pub IsBefore : Literal → Literal → Type 0
IsBefore a b = (a.variable < b.variable) ⊎ ((a.variable ≡ b.variable) × (a.positive ≡ false) × (b.positive ≡ true))

-- a clause: the ascending list of its distinct literals
abbrev pub IsClause : List Literal → Type 0
IsClause [] = Unit {0}
IsClause (a ∷ []) = Unit {0}
IsClause (a ∷ b ∷ literals) = IsBefore a b × IsClause (b ∷ literals)

-- it is one of these
abbrev pub IsIn : {X : Type 0} → List X → X → Type 0
IsIn [] x = ⊥
IsIn (y ∷ ys) x = (y ≡ x) ⊎ IsIn ys x

-- its variable is among 1, .., variables
abbrev pub IsLiteralOver : ℕ → Literal → Type 0
IsLiteralOver variables literal = (0 < literal.variable) × (literal.variable ≤ variables)

-- its variables are among 1, .., variables
abbrev pub IsOver : ℕ → List Literal → Type 0
IsOver variables [] = Unit {0}
IsOver variables (literal ∷ literals) = (0 < literal.variable) × (literal.variable ≤ variables) × IsOver variables literals

-- whether an assignment makes a literal true, and whether it meets a clause
abbrev pub is_made_true : (ℕ → Bool) → Literal → Bool
is_made_true assignment literal = if literal.positive then assignment literal.variable else not (assignment literal.variable)

abbrev pub meets : (ℕ → Bool) → List Literal → Bool
meets assignment clause = list_any (is_made_true assignment) clause

-- a clause follows from clauses: each assignment that meets them all meets it
abbrev pub Follows : List (List Literal) → List Literal → Type 0
Follows clauses clause = (assignment : ℕ → Bool) → IsTrue (list_all (meets assignment) clauses) → IsTrue (meets assignment clause)

-- the clause has this literal, and not its opposite
abbrev pub HasAlone : List Literal → Literal → Type 0
HasAlone clause literal = Contains clause literal × (Contains clause (opposite literal) → ⊥)

-- one clause has the variable in one sign alone, and the other has it in the opposite sign alone
abbrev pub Clash : List Literal → List Literal → ℕ → Type 0
Clash a b pivot = (sign : Bool) × HasAlone a (record { variable = pivot; positive = sign }) × HasAlone b (record { variable = pivot; positive = not sign })

-- the resolvent of two clauses on a variable on which they clash: just the literals of both on other variables
pub record IsResolvent (a b : List Literal) (pivot : ℕ) (r : List Literal) : Type 0 where
  pub clash : Clash a b pivot
  pub clause : IsClause r
  pub members : (literal : Literal) → Contains r literal ↔ ((Contains a literal ⊎ Contains b literal) × (literal.variable ≢ pivot))

-- the clause of this number, from 1
abbrev pub IsNumbered : List (List Literal) → ℕ → List Literal → Type 0
IsNumbered clauses number clause = (0 < number) × (slice_get clauses (number - 1) ≡ Some clause)

-- what is reached from a clause by resolving on each pivot in turn with the clause of the number behind it
abbrev pub ReachesFrom : List (List Literal) → List Literal → List ℕ → List Literal → Type 0
ReachesFrom clauses from [] clause = clause ≡ from
ReachesFrom clauses from (pivot ∷ []) clause = ⊥
ReachesFrom clauses from (pivot ∷ number ∷ chain) clause =
    (other : List Literal) × (next : List Literal) × IsNumbered clauses number other × IsResolvent from other pivot next × ReachesFrom clauses next chain clause

-- what a chain reaches: it begins with the number of a clause, and goes on with pairs of a pivot and a number
abbrev pub Reaches : List (List Literal) → List ℕ → List Literal → Type 0
Reaches clauses [] clause = ⊥
Reaches clauses (number ∷ chain) clause = (first : List Literal) × IsNumbered clauses number first × ReachesFrom clauses first chain clause
