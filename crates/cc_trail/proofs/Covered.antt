-- Where each clause spares, or is covered by a later one, all spare: what a part spares the whole spares too.
use Rattle.std.proofs.Common.{ℕ, ◌+◌, ◌-◌, ◌<◌, zero, suc, inl, inr, List, length, subst, arith}
use Rattle.std.specs.Prelude.{◌⊎◌, Contains}
use Rattle.std.proofs.lemmas.Option.{slice_get_within}
use Rattle.cc_defs.specs.Clauses.{Literal, IsNumbered}
use Rattle.cc_defs.specs.Assignments.{Values}
use Rattle.cc_trail.specs.Trails.{IsCovered}
use Rattle.cc_trail.proofs.Adding.{Spares}
use Rattle.cc_trail.proofs.Visiting.{numbered_same}

spares_whole : (values : Values) (part clause : List Literal) → ((literal : Literal) → Contains part literal → Contains clause literal) →
    Spares values part → Spares values clause
spares_whole values part clause within (inl (literal, member, is)) = inl (literal, within literal member, is)
spares_whole values part clause within (inr (one, two, apart, one_in, two_in, one_open, two_open)) =
    inr (one, two, apart, within one one_in, within two two_in, one_open, two_open)

-- by the number of clauses that are left behind it
spares_from : (values : Values) (clauses : List (List Literal)) → ((number : ℕ) (clause : List Literal) → IsNumbered clauses number clause → Spares values clause ⊎ IsCovered clauses number) →
    (left number : ℕ) (clause : List Literal) → length clauses < number + left → IsNumbered clauses number clause → Spares values clause
spares_from values clauses each zero number clause few numbered =
    let within : number - 1 < length clauses = slice_get_within clauses (number - 1) clause numbered.1 in
    let some : 0 < number = numbered.0 in
    absurd (omega arith)
spares_from values clauses each (suc left) number clause few numbered = elim (each number clause numbered) [
  | inl spares ↦ spares
  | inr (by, later, whole, part, whole_is, part_is, within) ↦
      subst (λ (c : List Literal). Spares values c) (numbered_same clauses number whole clause whole_is numbered)
      (spares_whole values part whole within (spares_from values clauses each left by part (omega arith) part_is))
]

pub all_spare : (values : Values) (clauses : List (List Literal)) →
    ((number : ℕ) (clause : List Literal) → IsNumbered clauses number clause → Spares values clause ⊎ IsCovered clauses number) →
    (number : ℕ) (clause : List Literal) → IsNumbered clauses number clause → Spares values clause
all_spare values clauses each number clause numbered = spares_from values clauses each (suc (length clauses)) number clause (omega arith) numbered
