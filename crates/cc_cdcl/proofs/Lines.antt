-- One line more behind earned ones; and what is chosen next where an assignment is closed.
use Rattle.std.proofs.Common.{◌≡◌, ℕ, ◌+◌, List, [], ◌∷◌, ◌++◌, map, sym, subst, arith, append_assoc, append-nil}
use Rattle.cc_defs.specs.Clauses.{Literal, IsOver}
use Rattle.cc_cdcl.specs.Earned.{Line, Derived, Given, AreEarnedBehind, IsEarnedBehind, clause_of, earned_count}

pub earned_push : (variables : ℕ) (before : List (List Literal)) (lines : List Line) (line : Line) → AreEarnedBehind variables before lines →
    IsOver variables (clause_of line) → IsEarnedBehind (before ++ map clause_of lines) line → AreEarnedBehind variables before (lines ++ line ∷ [])
earned_push variables before [] line earned over next =
    (over, subst (λ (clauses : List (List Literal)). IsEarnedBehind clauses line) (append-nil before) next, tt)
earned_push variables before (first ∷ lines) line earned over next = (
  earned.0,
  earned.1,
  earned_push variables (before ++ clause_of first ∷ []) lines line earned.2 over
      (subst (λ (clauses : List (List Literal)). IsEarnedBehind clauses line) (sym (append_assoc before (clause_of first ∷ []) (map clause_of lines))) next),
)

pub count_push : (lines : List Line) (line : Line) → earned_count (lines ++ line ∷ []) ≡ earned_count lines + earned_count (line ∷ [])
count_push [] line = omega arith
count_push (Derived [] ∷ lines) line = count_push lines line
count_push (Derived (literal ∷ literals) ∷ lines) line = let rest = count_push lines line in omega arith
count_push (Given clause ∷ lines) line = count_push lines line
