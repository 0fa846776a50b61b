-- The resolvent as a function on ascending lists: what both have on lower variables is merged, and then what both have
-- on higher ones.
use Rattle.std.specs.Prelude.{ℕ, ◌+◌, ◌*◌, Bool, nat_lt, if◌then◌else◌, List, [], ◌∷◌, ◌++◌, filter}
use Rattle.std.specs.Ordering.{nat_cmp}
use Rattle.std.specs.declared.cmp.Ordering.{Ordering}
use Rattle.std.specs.declared.cmp.Ordering.TheVariants.{Less, Equal, Greater}
use Rattle.cc_defs.specs.Clauses.{Literal}

-- the number by which literals ascend
abbrev pub code : Literal → ℕ
code literal = 2 * literal.variable + (if literal.positive then 1 else 0)

abbrev pub by_order : Ordering → List Literal → List Literal → List Literal → List Literal
by_order Less less equal greater = less
by_order Equal less equal greater = equal
by_order Greater less equal greater = greater

-- merges x and what comes after it, which `rest` merges, with a list
abbrev pub weave : Literal → (List Literal → List Literal) → List Literal → List Literal
weave x rest [] = x ∷ rest []
weave x rest (y ∷ ys) = by_order (nat_cmp (code x) (code y)) (x ∷ rest (y ∷ ys)) (x ∷ rest ys) (y ∷ weave x rest ys)

-- two ascending lists as one, with what is in both once
abbrev pub merge : List Literal → List Literal → List Literal
merge [] ys = ys
merge (x ∷ xs) ys = weave x (merge xs) ys

abbrev pub is_lower : ℕ → Literal → Bool
is_lower pivot literal = nat_lt literal.variable pivot

abbrev pub is_higher : ℕ → Literal → Bool
is_higher pivot literal = nat_lt pivot literal.variable

-- the literals on lower variables
abbrev pub lower : ℕ → List Literal → List Literal
lower pivot clause = filter (is_lower pivot) clause

-- the literals on higher variables
abbrev pub higher : ℕ → List Literal → List Literal
higher pivot clause = filter (is_higher pivot) clause

abbrev pub resolvent : List Literal → List Literal → ℕ → List Literal
resolvent a b pivot = merge (lower pivot a) (lower pivot b) ++ merge (higher pivot a) (higher pivot b)
