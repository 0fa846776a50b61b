-- Partial assignments, and what propagation over clauses gives (unit propagation; Davis and Putnam, 1960).
use Rattle.std.specs.Prelude.{◌≡◌, ℕ, ◌<◌, ◌≤◌, ◌⊎◌, ◌↔◌, Bool, not, List, length, Contains, Option, Some, None}
use Rattle.std.specs.List.Sorted.{IsStrictlySortedBy}
use Rattle.std.specs.Ordering.{nat_cmp}
use Rattle.cc_defs.specs.Clauses.{Literal}

-- A partial assignment gives some variables a truth value. It stands for a set of literals, none with its opposite.
abbrev pub Values : Type 0
Values = ℕ → Option Bool

abbrev pub IsTrueIn : Values → Literal → Type 0
IsTrueIn values literal = values literal.variable ≡ Some literal.positive

abbrev pub IsFalseIn : Values → Literal → Type 0
IsFalseIn values literal = values literal.variable ≡ Some (not literal.positive)

-- neither it nor its opposite has been given
abbrev pub HasNoValue : Values → Literal → Type 0
HasNoValue values literal = values literal.variable ≡ None

-- all literals of a clause are false
abbrev pub IsFailed : Values → List Literal → Type 0
IsFailed values clause = (literal : Literal) → Contains clause literal → IsFalseIn values literal

-- one literal of a clause has no value, and every other one is false
pub record IsUnit (values : Values) (clause : List Literal) : Type 0 where
  pub left : Literal
  pub member : Contains clause left
  pub open_yet : HasNoValue values left
  pub others : (literal : Literal) → Contains clause literal → (literal ≡ left) ⊎ IsFalseIn values literal

-- closed: propagation gives nothing more, and no clause is false
pub record IsClosed (values : Values) (clauses : List (List Literal)) : Type 0 where
  pub none_failed : (clause : List Literal) → Contains clauses clause → IsFailed values clause → ⊥
  pub none_unit : (clause : List Literal) → Contains clauses clause → IsUnit values clause → ⊥

-- A clause is earned by earlier ones where it is unit in an assignment that is closed over them: propagation over them did not
-- give it, so it is none of them, and not empty.
pub record IsEarned (clauses : List (List Literal)) (clause : List Literal) : Type 0 where
  pub values : Values
  pub closed : IsClosed values clauses
  pub unit : IsUnit values clause

-- ---- open variables: what propagation over the axioms of a section leaves without a value

pub record IsOpen (axioms : List (List Literal)) (variable : ℕ) : Type 0 where
  pub values : Values
  pub closed : IsClosed values axioms
  pub none : values variable ≡ None

-- these are the open ones of the variables 1, 2, .., up to this number, in order
pub record AreOpen (variables : ℕ) (axioms : List (List Literal)) (found : List ℕ) : Type 0 where
  pub ascending : IsStrictlySortedBy nat_cmp found
  pub members : (variable : ℕ) → Contains found variable ↔ ((0 < variable) × (variable ≤ variables) × IsOpen axioms variable)

-- so many variables are open
abbrev pub HasOpen : ℕ → List (List Literal) → ℕ → Type 0
HasOpen variables axioms count = (found : List ℕ) × AreOpen variables axioms found × (length found ≡ count)
