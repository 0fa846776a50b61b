-- How the parts of an arena make the list of its clauses, and what is always true of them.
use Rattle.std.specs.Prelude.{◌≡◌, ℕ, ◌≤◌, List, [], ◌∷◌, length, slice_range}
use Rattle.cc_defs.specs.Clauses.{Literal}
use Rattle.cc_clauses.specs.declared.arena.ClauseArena.TheInside.{Inside}

-- the clauses that end at these places, the first of which begins at `start`
abbrev pub clauses_between : List Literal → ℕ → List ℕ → List (List Literal)
clauses_between all start [] = []
clauses_between all start (end ∷ ends) = slice_range all start end ∷ clauses_between all end ends

-- the places ascend from `start`, and the last is `last`
abbrev pub AreEnds : ℕ → List ℕ → ℕ → Type 0
AreEnds start [] last = start ≡ last
AreEnds start (end ∷ ends) last = (start ≤ end) × AreEnds end ends last

abbrev pub view_of : Inside → List (List Literal)
view_of arena = clauses_between arena.all.items 0 arena.ends.items

abbrev pub IsArena : Inside → Type 0
IsArena arena = AreEnds 0 arena.ends.items (length arena.all.items)
