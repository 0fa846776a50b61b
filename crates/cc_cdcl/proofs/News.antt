-- An earned clause contains none of the clauses before it.
use Rattle.std.proofs.Common.{◌≡◌, zero, suc, inl, inr, List, [], ◌∷◌, refl, subst, arith}
use Rattle.std.specs.Prelude.{◌⊎◌, Contains}
use Rattle.cc_defs.specs.Assignments.{Values, IsEarned, IsFailed, IsFalseIn}
use Rattle.cc_defs.specs.Clauses.{Literal}
use Rattle.cc_cdcl.proofs.Picking.{in_more}

module _ (values : Values) (left : Literal) where
  abbrev Others : List Literal → Type 0
  Others clause = (literal : Literal) → Contains clause literal → (literal ≡ left) ⊎ IsFalseIn values literal

  left_or_false : (clause : List Literal) → Others clause → Contains clause left ⊎ IsFailed values clause
  left_or_false [] others = inr (λ literal (k, low, same). absurd (omega arith))
  left_or_false (first ∷ clause) others = by (others first (0, omega arith, refl)) (left_or_false clause (λ literal here. others literal (in_more first clause literal here)))
    where
      all : IsFalseIn values first → IsFailed values clause → (literal : Literal) → Contains (first ∷ clause) literal → IsFalseIn values literal
      all is failed literal (zero, low, same) = subst (IsFalseIn values) same is
      all is failed literal (suc k, low, same) = failed literal (k, omega arith, same)

      by : (first ≡ left) ⊎ IsFalseIn values first → Contains clause left ⊎ IsFailed values clause → Contains (first ∷ clause) left ⊎ IsFailed values (first ∷ clause)
      by (inl same) rest = inl (0, omega arith, same)
      by (inr is) (inl here) = inl (in_more first clause left here)
      by (inr is) (inr failed) = inr (all is failed)

pub earned_is_new : (clauses : List (List Literal)) (clause earlier : List Literal) → IsEarned clauses clause → Contains clauses earlier →
    ((literal : Literal) → Contains earlier literal → Contains clause literal) → ⊥
earned_is_new clauses clause earlier earned here within =
    elim (left_or_false earned.values earned.unit.left earlier (λ literal there. earned.unit.others literal (within literal there))) [
      | inl there ↦ earned.closed.none_unit earlier here (record {
        left = earned.unit.left;
        member = there;
        open_yet = earned.unit.open_yet;
        others = λ literal inside. earned.unit.others literal (within literal inside);
      })
      | inr failed ↦ earned.closed.none_failed earlier here failed
    ]
