-- The clauses that were made for a section are good axioms.
use Rattle.std.proofs.Common.{◌≡◌, ℕ, ◌+◌, ◌≤◌, List, [], ◌∷◌, Result, Ok, Err, subst, arith}
use Rattle.std.specs.Prelude.{All, OnOk, sum}
use Rattle.std.specs.List.{AllByRecursion}
use Rattle.std.proofs.lemmas.List.Elements.{All-head, All-tail}
use Rattle.cc_defs.specs.Clauses.{Literal, IsClause, IsOver}
use Rattle.cc_defs.specs.Sections.{Axioms}
use Rattle.cc_lists.specs.Subjects.{AreGoodAxioms}

each_of : {X : Type 0} (P : X → Type 0) (xs : List X) → All P xs → AllByRecursion P xs
each_of P [] all = tt
each_of P (x ∷ xs) all = (All-head P x xs all, each_of P xs (All-tail P x xs all))

pub good_axioms : {S E : Type 0} (r : Result S E) (form : Axioms) (clauses : List (List Literal)) (variables : ℕ) → clauses ≡ form.clauses →
    variables ≡ form.variables → All IsClause clauses → All (IsOver form.variables) clauses → sum form.sizes + 1 ≤ variables → OnOk r (AreGoodAxioms form)
good_axioms (Ok value) form clauses variables clauses_are variables_are each over least = record {
  clauses = subst (λ (l : List (List Literal)). AllByRecursion IsClause l) clauses_are (each_of IsClause clauses each);
  over = subst (λ (l : List (List Literal)). AllByRecursion (IsOver form.variables) l) clauses_are (each_of (IsOver form.variables) clauses over);
  positions = omega arith;
}
good_axioms (Err error) form clauses variables clauses_are variables_are each over least = tt
