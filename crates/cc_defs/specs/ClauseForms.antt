-- Terms as clauses: each conjunction, disjunction and equivalence gets a variable of its own (Tseitin, 1968), in both directions.
use Rattle.std.specs.Prelude.{ℕ, zero, suc, ◌+◌, Bool, true, not, ◌&&◌, ◌||◌, ◌==◌, nat_lt, if◌then◌else◌, List, [], ◌∷◌, ◌++◌, map}
use Rattle.std.specs.Bool.{beq}
use Rattle.std.specs.List.{list_any, sum}
use Rattle.cc_defs.specs.Clauses.{Literal, opposite}
use Rattle.cc_defs.specs.Terms.{Ground, Operands}
use Rattle.cc_defs.specs.Terms as terms

abbrev pub positive : ℕ → Literal
positive variable = record { variable = variable; positive = true }

-- ---- clauses as they are written: each literal once, ascending by variable

abbrev pub same_literal : Literal → Literal → Bool
same_literal a b = (a.variable == b.variable) && beq a.positive b.positive

-- by variable, the negative one of a variable first
abbrev pub is_before : Literal → Literal → Bool
is_before a b = nat_lt a.variable b.variable || ((a.variable == b.variable) && (not a.positive && b.positive))

abbrev pub put : Literal → List Literal → List Literal
put literal [] = literal ∷ []
put literal (first ∷ others) =
    if same_literal literal first then first ∷ others
    else (if is_before literal first then literal ∷ first ∷ others else first ∷ put literal others)

abbrev pub in_order : List Literal → List Literal
in_order [] = []
in_order (literal ∷ literals) = put literal (in_order literals)

abbrev pub is_tautology : List Literal → Bool
is_tautology literals = list_any (λ literal. list_any (same_literal (opposite literal)) literals) literals

-- a clause with a variable in both signs is left out
abbrev pub written : List Literal → List (List Literal)
written literals = if is_tautology literals then [] else in_order literals ∷ []

-- ---- the variables of atoms: for each position in order, one for each value in order, from 1

abbrev pub first_variable : List ℕ → ℕ → ℕ
first_variable [] position = 1
first_variable (size ∷ sizes) zero = 1
first_variable (size ∷ sizes) (suc position) = size + first_variable sizes position

abbrev pub atom_variable : List ℕ → ℕ → ℕ → ℕ
atom_variable sizes position value = first_variable sizes position + value

-- the variable T, which is true: the one behind those of the atoms
abbrev pub true_variable : List ℕ → ℕ
true_variable sizes = sum sizes + 1

-- ---- the literal of a term, with the clauses that make it; `last` is the number of the last variable so far

pub record Made : Type 0 where
  pub literal : Literal
  pub last : ℕ
  pub clauses : List (List Literal)

pub record MadeAll : Type 0 where
  pub literals : List Literal
  pub last : ℕ
  pub clauses : List (List Literal)

-- x is true exactly where all of the literals are
abbrev pub all_clauses : Literal → List Literal → List (List Literal)
all_clauses x literals = map (λ literal. opposite x ∷ literal ∷ []) literals ++ (x ∷ map opposite literals) ∷ []

-- x is true exactly where one of the literals is
abbrev pub any_clauses : Literal → List Literal → List (List Literal)
any_clauses x literals = (opposite x ∷ literals) ∷ map (λ literal. x ∷ opposite literal ∷ []) literals

-- x is true exactly where both literals are, or neither is
abbrev pub same_clauses : Literal → Literal → Literal → List (List Literal)
same_clauses x f g =
    (opposite x ∷ opposite f ∷ g ∷ []) ∷ (opposite x ∷ f ∷ opposite g ∷ []) ∷ (x ∷ f ∷ g ∷ []) ∷ (x ∷ opposite f ∷ opposite g ∷ []) ∷ []

abbrev pub all_written : List (List Literal) → List (List Literal)
all_written [] = []
all_written (literals ∷ others) = written literals ++ all_written others

-- All of no literal is T, of one it is this one; of more it is a variable of its own.
abbrev pub made_all : Literal → MadeAll → List Literal → Made
made_all t made [] = record { literal = t; last = made.last; clauses = made.clauses }
made_all t made (literal ∷ []) = record { literal = literal; last = made.last; clauses = made.clauses }
made_all t made (literal ∷ more ∷ others) =
    let x = positive (made.last + 1)
    in record { literal = x; last = made.last + 1; clauses = made.clauses ++ all_written (all_clauses x (literal ∷ more ∷ others)) }

abbrev pub made_any : Literal → MadeAll → List Literal → Made
made_any t made [] = record { literal = opposite t; last = made.last; clauses = made.clauses }
made_any t made (literal ∷ []) = record { literal = literal; last = made.last; clauses = made.clauses }
made_any t made (literal ∷ more ∷ others) =
    let x = positive (made.last + 1)
    in record { literal = x; last = made.last + 1; clauses = made.clauses ++ all_written (any_clauses x (literal ∷ more ∷ others)) }

abbrev pub made_same : Made → Made → Made
made_same f g =
    let x = positive (g.last + 1)
    in record { literal = x; last = g.last + 1; clauses = f.clauses ++ g.clauses ++ all_written (same_clauses x f.literal g.literal) }

abbrev mutual
  pub made_of : List ℕ → ℕ → Ground → Made
  made_of sizes last terms.Truth = record { literal = positive (true_variable sizes); last = last; clauses = [] }
  made_of sizes last terms.Falsehood = record { literal = opposite (positive (true_variable sizes)); last = last; clauses = [] }
  made_of sizes last (terms.Atom position value) = record { literal = positive (atom_variable sizes position value); last = last; clauses = [] }
  made_of sizes last (terms.Not f) =
      let made = made_of sizes last f
      in record { literal = opposite made.literal; last = made.last; clauses = made.clauses }
  made_of sizes last (terms.All operands) =
      let made = made_operands sizes last operands
      in made_all (positive (true_variable sizes)) made made.literals
  made_of sizes last (terms.Any operands) =
      let made = made_operands sizes last operands
      in made_any (positive (true_variable sizes)) made made.literals
  made_of sizes last (terms.Same f g) =
      let made = made_of sizes last f
      in made_same made (made_of sizes made.last g)

  pub made_operands : List ℕ → ℕ → Operands → MadeAll
  made_operands sizes last terms.nothing = record { literals = []; last = last; clauses = [] }
  made_operands sizes last (terms.and_then operands formula) =
      let before = made_operands sizes last operands
      in let made = made_of sizes before.last formula
      in record { literals = before.literals ++ made.literal ∷ []; last = made.last; clauses = before.clauses ++ made.clauses }
