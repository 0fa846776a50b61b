-- How many literals of a level the staged clause has, and how many a step of resolution brings.
use Rattle.std.specs.Prelude.{◌≡◌, ℕ, ◌==◌, ◌&&◌, ◌||◌, not, Bool, false, List, [], ◌∷◌, filter, Some}
use Rattle.cc_clauses.specs.Merging.{code}
use Rattle.cc_defs.specs.Clauses.{Literal}
use Rattle.cc_kernel.specs.Kernels.{KernelView}
use Rattle.cc_trail.specs.declared.entries.Step.{Step}
use Rattle.cc_cdcl.specs.Analysis.{level_count_in}

-- the staged clause has so many literals of a level
abbrev pub IsCounted : List Step → ℕ → KernelView → ℕ → Type 0
IsCounted steps level kernel held = (clause : List Literal) → kernel.staged ≡ Some clause → held ≡ level_count_in steps level clause

-- whether a literal is one of a clause
abbrev pub has_literal : List Literal → Literal → Bool
has_literal [] literal = false
has_literal (first ∷ clause) literal = (code first == code literal) || has_literal clause literal

-- whether a step of resolution on the pivot brings a literal to the staged clause: it is not on the pivot, and not staged
abbrev pub is_fresh : ℕ → List Literal → Literal → Bool
is_fresh pivot staged literal = not (literal.variable == pivot) && not (has_literal staged literal)

-- what a clause brings
abbrev pub fresh_of : ℕ → List Literal → List Literal → List Literal
fresh_of pivot staged clause = filter (is_fresh pivot staged) clause
