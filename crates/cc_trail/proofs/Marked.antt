-- What the marks of variables tell of their steps, and how they stay right.
use Rattle.std.proofs.Common.{◌≡◌, ◌≢◌, ◌∙◌, ℕ, ◌+◌, ◌-◌, ◌*◌, ◌/◌, ◌%◌, ◌<◌, ◌≤◌, zero, suc, inl, inr, Bool, true, false, List, [], ◌∷◌, ◌++◌, length, get_or, set, replicate, Option, Some, None, refl, sym, ap, arith, length-set}
use Rattle.std.specs.Prelude.{if◌then◌else◌, not, option_map}
use Rattle.std.proofs.lemmas.Bool.Decides.{eqb_tells}
use Rattle.std.proofs.lemmas.List.{length-replicate, get_or-set_other, get_or-set_same}
use Rattle.cc_defs.specs.Clauses.{Literal, opposite, IsIn}
use Rattle.cc_trail.specs.declared.entries.Step.{Step}
use Rattle.cc_trail.specs.Steps.{step_of, AreApart}
use Rattle.cc_trail.specs.EntryParts.{mark_of, AreMarked}
use Rattle.cc_trail.specs.Trails.{level_of_step}
use Rattle.cc_trail.specs.EntrySteps.{is_true_by, IsValued}
use Rattle.cc_trail.proofs.Codes.{same_literal}
use Rattle.cc_trail.proofs.StepLists.{step_found, none_of, of_none, apart_pop}

step_other : (steps : List Step) (last : Step) (variable : ℕ) → last.lit.variable ≢ variable → step_of (steps ++ last ∷ []) variable ≡ step_of steps variable
step_other [] last variable other = elim (eqb_tells last.lit.variable variable) [
  | inl same ↦ absurd (other (same.1))
  | inr apart ↦ rw (apart.0) refl
]
step_other (step ∷ steps) last variable other = elim (eqb_tells step.lit.variable variable) [
  | inl same ↦ rw (same.0) refl
  | inr apart ↦ rw (apart.0) (step_other steps last variable other)
]

step_last : (steps : List Step) (last : Step) → ((step : Step) → IsIn steps step → step.lit.variable ≢ last.lit.variable) → step_of (steps ++ last ∷ []) last.lit.variable ≡ Some last
step_last [] last fresh = elim (eqb_tells last.lit.variable last.lit.variable) [
  | inl same ↦ rw (same.0) refl
  | inr apart ↦ absurd (apart.1 refl)
]
step_last (step ∷ steps) last fresh = elim (eqb_tells step.lit.variable last.lit.variable) [
  | inl same ↦ absurd (fresh step (inl refl) (same.1))
  | inr apart ↦ rw (apart.0) (step_last steps last (λ s here. fresh s (inr here)))
]

module _ (variables : ℕ) (steps : List Step) (last : Step) (within : last.lit.variable ≤ variables) where
  pub marked_push : (marks : List ℕ) (mark : ℕ) → AreMarked variables steps marks → step_of steps last.lit.variable ≡ None → mark ≡ mark_of (Some last) →
      AreMarked variables (steps ++ last ∷ []) (set marks last.lit.variable mark)
  marked_push marks mark marked none mark_is = record {
    count = length-set marks last.lit.variable mark ∙ marked.count;
    marks_are = λ variable low. elim (eqb_tells variable last.lit.variable) [
      | inl same ↦
          let count = marked.count in
          rw (same.1) (get_or-set_same marks last.lit.variable mark 0 (omega arith) ∙ mark_is ∙ ap mark_of (sym (step_last steps last (none_of steps last.lit.variable none))))
      | inr other ↦
          get_or-set_other marks last.lit.variable variable mark 0 (other.1) ∙ marked.marks_are variable low ∙
          ap mark_of (sym (step_other steps last variable (λ e. other.1 (sym e))))
    ];
  }

  pub marked_pop : (marks : List ℕ) → AreMarked variables (steps ++ last ∷ []) marks → AreApart (steps ++ last ∷ []) → AreMarked variables steps (set marks last.lit.variable 0)
  marked_pop marks marked apart = record {
    count = length-set marks last.lit.variable 0 ∙ marked.count;
    marks_are = λ variable low. elim (eqb_tells variable last.lit.variable) [
      | inl same ↦
          let count = marked.count in
          rw (same.1) (get_or-set_same marks last.lit.variable 0 0 (omega arith) ∙ ap mark_of (sym (of_none steps last.lit.variable ((apart_pop steps last apart).1))))
      | inr other ↦
          get_or-set_other marks last.lit.variable variable 0 0 (other.1) ∙ marked.marks_are variable low ∙
          ap mark_of (step_other steps last variable (λ e. other.1 (sym e)))
    ];
  }

pub marked_none : (variables : ℕ) (marks : List ℕ) → marks ≡ replicate (variables + 1) 0 → AreMarked variables [] marks
marked_none variables marks is = record {
  count = ap length is ∙ length-replicate (variables + 1) 0;
  marks_are = λ variable low. rw is (all_zero (variables + 1) variable);
}
  where
    all_zero : (n k : ℕ) → get_or {A = ℕ} (replicate n 0) k 0 ≡ 0
    all_zero zero k = refl
    all_zero (suc n) zero = refl
    all_zero (suc n) (suc k) = all_zero n k

-- ---- what a mark tells of a literal

valued : (steps : List Step) (literal : Literal) (step : Step) → IsIn steps step → step.lit.variable ≡ literal.variable → (p q : Bool) → literal.positive ≡ p → step.lit.positive ≡ q →
    (mark : ℕ) → mark ≡ 2 * (step.level + 1) + (if q then 1 else 0) → IsValued steps literal (mark / 2 - 1) (is_true_by mark p)
valued steps literal step here variable true true p_is q_is mark mark_is = elim (eqb_tells (mark % 2) 1) [
  | inl yes_it ↦ rw (yes_it.0) (step, here, same_literal step.lit literal variable (q_is ∙ sym p_is), omega arith)
  | inr differs ↦ let odd : mark % 2 ≡ 1 = omega arith in absurd (differs.1 odd)
]
valued steps literal step here variable true false p_is q_is mark mark_is = elim (eqb_tells (mark % 2) 1) [
  | inl odd ↦ let is_odd : mark % 2 ≡ 1 = odd.1 in absurd (omega arith)
  | inr differs ↦ rw (differs.0) (step, here, same_literal step.lit (opposite literal) variable (q_is ∙ ap not (sym p_is)), omega arith)
]
valued steps literal step here variable false true p_is q_is mark mark_is = elim (eqb_tells (mark % 2) 0) [
  | inl even ↦ let is_even : mark % 2 ≡ 0 = even.1 in absurd (omega arith)
  | inr differs ↦ rw (differs.0) (step, here, same_literal step.lit (opposite literal) variable (q_is ∙ ap not (sym p_is)), omega arith)
]
valued steps literal step here variable false false p_is q_is mark mark_is = elim (eqb_tells (mark % 2) 0) [
  | inl even ↦ rw (even.0) (step, here, same_literal step.lit literal variable (q_is ∙ sym p_is), omega arith)
  | inr differs ↦ let even : mark % 2 ≡ 0 = omega arith in absurd (differs.1 even)
]

pub stands_by : (steps : List Step) (literal : Literal) (mark : ℕ) (found : Option Step) → step_of steps literal.variable ≡ found → mark ≡ mark_of found → 2 ≤ mark →
    IsValued steps literal (mark / 2 - 1) (is_true_by mark literal.positive)
stands_by steps literal mark None found_is mark_is high = absurd (omega arith)
stands_by steps literal mark (Some step) found_is mark_is high =
    let there = step_found steps literal.variable step found_is in
    valued steps literal step (there.0) (there.1) literal.positive step.lit.positive refl refl mark mark_is

pub open_by : (steps : List Step) (literal : Literal) (mark : ℕ) (found : Option Step) → step_of steps literal.variable ≡ found → mark ≡ mark_of found → mark < 2 →
    step_of steps literal.variable ≡ None
open_by steps literal mark None found_is mark_is low = found_is
open_by steps literal mark (Some step) found_is mark_is low = absurd (past step.lit.positive mark_is)
  where
    past : (q : Bool) → mark ≡ 2 * (step.level + 1) + (if q then 1 else 0) → ⊥
    past true e = absurd (omega arith)
    past false e = absurd (omega arith)

-- ---- what a mark tells of a variable

pub no_level_by : (mark : ℕ) (found : Option Step) → mark ≡ mark_of found → mark < 2 → None ≡ option_map level_of_step found
no_level_by mark None is low = refl
no_level_by mark (Some step) is low = absurd (omega arith)

pub level_by : (mark : ℕ) (found : Option Step) → mark ≡ mark_of found → 2 ≤ mark → Some (mark / 2 - 1) ≡ option_map level_of_step found
level_by mark None is high = absurd (omega arith)
level_by mark (Some step) is high = ap (λ (n : ℕ). Some n) (level step.lit.positive is)
  where
    level : (q : Bool) → mark ≡ 2 * (step.level + 1) + (if q then 1 else 0) → mark / 2 - 1 ≡ step.level
    level true e = omega arith
    level false e = omega arith
