-- Watch links as their holder sees them. Each node of a link stands for one of the two watched literals of a clause.
use Rattle.std.specs.Prelude.{◌≡◌, ℕ, ◌+◌, ◌*◌, ◌<◌, ◌↔◌, false, if◌then◌else◌, List, ◌∷◌, length, get_or}
use Rattle.cc_defs.specs.Clauses.{IsIn, Literal}

-- what is next of each node, as a link, and the literal that it watches
pub record NodesView : Type 0 where
  pub next : List ℕ
  pub watched : List Literal

-- the number of variables, the literal that each node watches, and the nodes that are ahead of the walk that goes on, in order
pub record LinksView : Type 0 where
  pub variables : ℕ
  pub watched : List Literal
  pub ahead : List ℕ

-- what is read past the end
abbrev pub no_literal : Literal
no_literal = record { variable = 0; positive = false }

-- the literal that a node watches
abbrev pub watched_at : List Literal → ℕ → Literal
watched_at watched node = get_or watched node no_literal

-- a literal as a number: twice its variable, and one more where it is positive
abbrev pub code_of : Literal → ℕ
code_of literal = 2 * literal.variable + (if literal.positive then 1 else 0)

-- a list that begins with this number
abbrev pub BeginsWith : List ℕ → ℕ → Type 0
BeginsWith numbers first = (rest : List ℕ) × (numbers ≡ first ∷ rest)

-- a walk begins: just the nodes that watch a literal are ahead of it
pub record AreAhead (old new : LinksView) (literal : Literal) : Type 0 where
  pub variables : new.variables ≡ old.variables
  pub watched : new.watched ≡ old.watched
  pub nodes : (node : ℕ) → IsIn new.ahead node ↔ ((node < length old.watched) × (watched_at old.watched node ≡ literal))
