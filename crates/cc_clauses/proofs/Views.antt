-- What the holder of an arena sees of it.
use Rattle.std.proofs.Common.{◌≡◌, ◌∙◌, List, length, sym, ap, arith}
use Rattle.std.specs.Prelude.{sum_by}
use Rattle.cc_defs.specs.Clauses.{Literal}
use Rattle.cc_clauses.specs.declared.arena.ClauseArena.TheInside.{Inside}
use Rattle.cc_clauses.specs.Parts.{view_of, IsArena}
use Rattle.cc_clauses.proofs.Places.{length_of_clauses, literals_together}

module _ (inside : Inside) (old : List (List Literal)) (is : view_of inside ≡ old) where
  pub count_is : length inside.ends.items ≡ length old
  count_is = sym (length_of_clauses inside.all.items 0 inside.ends.items) ∙ ap length is

  pub literals_are : IsArena inside → length inside.all.items ≡ sum_by (λ clause. length clause) old
  literals_are ends =
      let together = literals_together inside.all.items 0 inside.ends.items ends in
      let here : length inside.all.items ≡ sum_by (λ clause. length clause) (view_of inside) = omega arith in
      here ∙ ap (λ (clauses : List (List Literal)). sum_by (λ clause. length clause) clauses) is
