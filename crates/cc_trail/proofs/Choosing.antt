-- What a look-up of a literal tells, and which literal of a clause is best to watch.
use Rattle.std.proofs.Common.{◌≡◌, ◌≢◌, ◌∙◌, ℕ, ◌+◌, ◌<◌, ◌≤◌, zero, suc, inl, inr, eqb, Bool, true, false, not, List, [], ◌∷◌, length, get_or, take, None, refl, sym, subst, ap, arith}
use Rattle.std.specs.Prelude.{◌⊎◌, All, Contains}
use Rattle.std.proofs.lemmas.Bool.Decides.{eqb_tells}
use Rattle.std.proofs.lemmas.List.Elements.{All-contains, All-nil, All-cons, All-weaker, All-more}
use Rattle.cc_defs.specs.Clauses.{Literal, opposite, IsIn}
use Rattle.cc_trail.specs.declared.entries.Step.{Step}
use Rattle.cc_trail.specs.Links.{code_of}
use Rattle.cc_trail.specs.Steps.{AreApart, AreSteps, step_of}
use Rattle.cc_trail.specs.Watches.{IsTrueBy, IsFalseBy}
use Rattle.cc_trail.specs.EntrySteps.{IsValued}
use Rattle.cc_trail.specs.Visits.{IsFalseAt, IsFalseBut, IsBest, IsValue}
use Rattle.cc_trail.proofs.Codes.{code_injective}
use Rattle.cc_trail.proofs.StepLists.{levels_most, same_step, none_of}
use Rattle.cc_trail.proofs.Growing.{not_opposite}

false_true : false ≡ true → ⊥
false_true e = cc

pub codes_same : (a b : Literal) (r : Bool) → r ≡ eqb (code_of a) (code_of b) → r ≡ true → a ≡ b
codes_same a b r is holds = elim (eqb_tells (code_of a) (code_of b)) [
  | inl same ↦ code_injective a b (same.1)
  | inr other ↦ absurd (false_true (sym (other.0) ∙ sym is ∙ holds))
]

pub codes_apart : (a b : Literal) (r : Bool) → r ≡ eqb (code_of a) (code_of b) → r ≡ false → a ≢ b
codes_apart a b r is fails = elim (eqb_tells (code_of a) (code_of b)) [
  | inl same ↦ absurd (false_true (sym fails ∙ is ∙ same.0))
  | inr other ↦ λ e. other.1 (ap code_of e)
]

pub not_true : (b : Bool) → not b ≡ true → b ≡ false
not_true true e = cc
not_true false e = refl

pub not_false : (b : Bool) → not b ≡ false → b ≡ true
not_false true e = refl
not_false false e = cc

-- ---- what a look-up finds

module _ (steps : List Step) (literal : Literal) (variable : ℕ) (variable_is : variable ≡ literal.variable) where
  pub open_yet : None ≡ step_of steps variable → step_of steps literal.variable ≡ None
  open_yet none = ap (λ (n : ℕ). step_of steps n) (sym variable_is) ∙ sym none

  pub open_not_false : None ≡ step_of steps variable → IsFalseBy steps literal → ⊥
  open_not_false none (step, here, is) = none_of steps literal.variable (open_yet none) step here (ap (λ (l : Literal). l.variable) is)

pub value_true : (steps : List Step) (level : ℕ) (literal : Literal) (r : Bool) → r ≡ true → IsValue steps level literal r → IsTrueBy steps literal level
value_true steps level literal r holds is = subst (λ (b : Bool). IsValue steps level literal b) holds is

pub value_false : (steps : List Step) (level : ℕ) (literal : Literal) (r : Bool) → r ≡ false → IsValue steps level literal r → IsFalseBy steps literal
value_false steps level literal r fails is = subst (λ (b : Bool). IsValue steps level literal b) fails is

-- what stands of a literal
pub valued_true : (steps : List Step) (literal : Literal) (level : ℕ) (r : Bool) → r ≡ true → IsValued steps literal level r →
    (step : Step) × IsIn steps step × (step.lit ≡ literal) × (step.level ≡ level)
valued_true steps literal level r holds is = subst (λ (b : Bool). IsValued steps literal level b) holds is

pub valued_false : (steps : List Step) (literal : Literal) (level : ℕ) (r : Bool) → r ≡ false → IsValued steps literal level r →
    (step : Step) × IsIn steps step × (step.lit ≡ opposite literal) × (step.level ≡ level)
valued_false steps literal level r fails is = subst (λ (b : Bool). IsValued steps literal level b) fails is

pub valued_value : (variables count level : ℕ) (steps : List Step) (literal : Literal) (r : Bool) → AreSteps variables steps count → IsValued steps literal level r → IsValue steps count literal r
valued_value variables count level steps literal true are (step, here, is, at) =
    let low = levels_most 0 steps are.rising step here in
    let levels = are.levels in
    (step, here, is, omega (arith, low, levels))
valued_value variables count level steps literal false are (step, here, is, at) = (step, here, is)

pub valued_not_false : (steps : List Step) → AreApart steps → (literal : Literal) (level : ℕ) (r : Bool) → r ≡ true → IsValued steps literal level r → IsFalseBy steps literal → ⊥
valued_not_false steps apart literal level r holds is (other, here, other_is) =
    let step = valued_true steps literal level r holds is in
    let same = same_step steps apart other (step.0) here (step.1) (ap (λ (l : Literal). l.variable) other_is ∙ sym (ap (λ (l : Literal). l.variable) (step.2))) in
    not_opposite literal (sym (step.2) ∙ ap (λ (s : Step). s.lit) (sym same) ∙ other_is)

-- ---- the best literal

pub best_open : (steps : List Step) (clause : List Literal) (except literal : Literal) (level : ℕ) (r : Bool) → r ≡ false → IsBest steps clause except literal level r →
    IsFalseBy steps literal → ⊥
best_open steps clause except literal level r fails is = subst (λ (b : Bool). IsBest steps clause except literal level b) fails is

pub best_false : (steps : List Step) (clause : List Literal) (except literal : Literal) (level : ℕ) (r : Bool) → r ≡ true → IsBest steps clause except literal level r →
    IsFalseAt steps literal level × All (IsFalseBut steps except level) clause
best_false steps clause except literal level r holds is = subst (λ (b : Bool). IsBest steps clause except literal level b) holds is

higher : (steps : List Step) (except : Literal) (low high : ℕ) → low ≤ high → (literal : Literal) → IsFalseBut steps except low literal → IsFalseBut steps except high literal
higher steps except low high up literal (inl same) = inl same
higher steps except low high up literal (inr (step, here, is, step_low)) = let below : step.level ≤ low = step_low in inr (step, here, is, omega arith)

pub others_false : (steps : List Step) (clause : List Literal) (except : Literal) (level : ℕ) → All (IsFalseBut steps except level) clause →
    (literal : Literal) → Contains clause literal → (literal ≡ except) ⊎ IsFalseBy steps literal
others_false steps clause except level all literal here = elim (All-contains (IsFalseBut steps except level) clause literal all here) [
  | inl same ↦ inl same
  | inr fallen ↦ inr (fallen.0, fallen.1, fallen.2)
]

pub best_more : (steps : List Step) (clause : List Literal) (index : ℕ) (except literal : Literal) (low high : ℕ) → index < length clause → literal ≡ get_or clause index literal →
    low ≤ high → All (IsFalseBut steps except low) (take index clause) → IsFalseBut steps except high literal → All (IsFalseBut steps except high) (take (index + 1) clause)
best_more steps clause index except literal low high within is up all one =
    All-more (IsFalseBut steps except high) clause index literal within
    (All-weaker (IsFalseBut steps except low) (IsFalseBut steps except high) (higher steps except low high up) (take index clause) all)
    (subst (λ (l : Literal). IsFalseBut steps except high l) is one)

-- a clause of two literals has no other one
pub best_of_two : (steps : List Step) (clause : List Literal) (start except : Literal) (level : ℕ) → length clause ≤ 2 → Contains clause start → Contains clause except → start ≢ except →
    IsFalseAt steps start level → All (IsFalseBut steps except level) clause
best_of_two steps [] start except level few there other apart fallen = All-nil (IsFalseBut steps except level)
best_of_two steps (a ∷ []) start except level few there other apart fallen = absurd (apart (sym (only there) ∙ only other))
  where
    only : {literal : Literal} → Contains (a ∷ []) literal → a ≡ literal
    only (zero, within, is) = is
    only (suc k, within, is) = absurd (omega (arith, within))
best_of_two steps (a ∷ b ∷ []) start except level few there other apart fallen =
    All-cons (IsFalseBut steps except level) a (b ∷ []) (one there other) (All-cons (IsFalseBut steps except level) b [] (two there other) (All-nil (IsFalseBut steps except level)))
  where
    start_is : IsFalseBut steps except level start
    start_is = let (step, here, is, at) = fallen in inr (step, here, is, omega (arith, at))

    one : Contains (a ∷ b ∷ []) start → Contains (a ∷ b ∷ []) except → IsFalseBut steps except level a
    one (zero, within, is) (k, other_within, other_is) = subst (λ (l : Literal). IsFalseBut steps except level l) (sym is) start_is
    one (suc k, within, is) (zero, other_within, other_is) = inl other_is
    one (suc zero, within, is) (suc zero, other_within, other_is) = absurd (apart (sym is ∙ other_is))
    one (suc (suc k), within, is) (j, other_within, other_is) = absurd (omega (arith, within))
    one (k, within, is) (suc (suc j), other_within, other_is) = absurd (omega (arith, other_within))

    two : Contains (a ∷ b ∷ []) start → Contains (a ∷ b ∷ []) except → IsFalseBut steps except level b
    two (suc zero, within, is) (k, other_within, other_is) = subst (λ (l : Literal). IsFalseBut steps except level l) (sym is) start_is
    two (zero, within, is) (suc zero, other_within, other_is) = inl other_is
    two (zero, within, is) (zero, other_within, other_is) = absurd (apart (sym is ∙ other_is))
    two (suc (suc k), within, is) (j, other_within, other_is) = absurd (omega (arith, within))
    two (k, within, is) (suc (suc j), other_within, other_is) = absurd (omega (arith, other_within))
best_of_two steps (a ∷ b ∷ c ∷ clause) start except level few there other apart fallen = absurd (omega arith)
