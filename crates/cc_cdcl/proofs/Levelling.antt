-- Judging a clause by the levels of its literals: when analysis is done, and to which level a block goes back.
use Rattle.std.proofs.Common.{◌≡◌, ◌≢◌, ◌∙◌, ℕ, ◌<◌, ◌≤◌, min, zero, suc, inl, inr, eqb, true, false, List, [], ◌∷◌, length, get_or, Option, Some, None, refl, sym, subst, ap, arith}
use Rattle.std.specs.Prelude.{◌⊎◌, Contains, unwrap_or}
use Rattle.std.specs.Bool.{MatchBool}
use Rattle.std.proofs.lemmas.Bool.Decides.{eqb_tells, leb_tells}
use Rattle.cc_defs.specs.Assignments.{IsFailed}
use Rattle.cc_defs.specs.Clauses.{Literal, IsBefore, IsClause, IsOver}
use Rattle.cc_trail.specs.declared.entries.Step.{Step}
use Rattle.cc_trail.specs.Steps.{AreApart, AreSteps, steps_to, values_of, values_to}
use Rattle.cc_trail.specs.Trails.{KeepsSettled}
use Rattle.cc_cdcl.specs.Analysis.{HasOneOf, IsFinal, IsUnfinished, first_level, is_level, level_count_in, level_of, level_or_zero, second_level}
use Rattle.cc_cdcl.proofs.Counts.{at_level, head_before, none_of, not_before_itself, rest_is, two_of, up_to_last}
use Rattle.cc_clauses.proofs.Denials.{eqb_itself}
use Rattle.cc_cdcl.proofs.Learning.{one_level}
use Rattle.cc_cdcl.proofs.Levels.{none_back}
use Rattle.cc_cdcl.proofs.Picking.{in_more}

pub over_at : (variables : ℕ) (clause : List Literal) (index : ℕ) (literal : Literal) → IsOver variables clause → index < length clause →
    literal ≡ get_or clause index literal → (0 < literal.variable) × (literal.variable ≤ variables)
over_at variables [] index literal over low is = absurd (omega arith)
over_at variables (first ∷ clause) zero literal over low is = subst (λ (l : Literal). (0 < l.variable) × (l.variable ≤ variables)) (sym is) (over.0, over.1)
over_at variables (first ∷ clause) (suc index) literal over low is = over_at variables clause index literal over.2 (omega arith) is

pub count_some : (steps : List Step) (level : ℕ) (clause : List Literal) → HasOneOf steps level clause → level_count_in steps level clause ≢ 0
count_some steps level clause (literal, here, at) none = tests (none_of steps level clause none literal here) (ap (is_level level) at ∙ eqb_itself level)
  where
    tests : at_level steps level literal ≡ false → at_level steps level literal ≡ true → ⊥
    tests e f = cc

pub final_or_not : (steps : List Step) (level : ℕ) (clause : List Literal) → IsClause clause → (level ≡ 0) ⊎ HasOneOf steps level clause → level ≢ 0 → (count : ℕ) →
    count ≡ level_count_in steps level clause → MatchBool (eqb count 1) (IsFinal steps level clause) (IsUnfinished steps level clause)
final_or_not steps level clause is left some count count_is = elim (eqb_tells count 1) [
  | inl one ↦ rw (one.0) (inr (omega arith, sym count_is ∙ one.1))
  | inr other ↦ rw (other.0) (elim left [
    | inl zero_is ↦ absurd (some zero_is)
    | inr one_of ↦ inr (two_of steps level clause is
        (let many : level_count_in steps level clause ≢ 0 = count_some steps level clause one_of in let apart : count ≢ 1 = other.1 in omega arith))
  ])
]

-- where no level was opened, each literal of a false clause is of level 0
pub empty_or_not : (variables : ℕ) (steps : List Step) (level : ℕ) (clause : List Literal) → AreSteps variables steps level → IsFailed (values_of steps) clause → level ≡ 0 →
    (count : ℕ) → count ≡ level_count_in steps level clause → MatchBool (eqb count 0) (IsFinal steps level clause) (IsUnfinished steps level clause)
empty_or_not variables steps level [] are failed zero_is count count_is = rw count_is (inl (zero_is, refl))
empty_or_not variables steps level (first ∷ clause) are failed zero_is count count_is = elim (eqb_tells count 0) [
  | inr other ↦ rw (other.0) (inl (zero_is, (λ e. let long : length (first ∷ clause) ≡ 0 = ap length e in omega arith)))
  | inl none ↦ absurd (by (up_to_last variables steps level (first ∷ clause) are failed first (0, omega arith, refl)) (none.1))
]
  where
    by : (other : ℕ) × (other ≤ level) × (level_of steps first.variable ≡ Some other) → count ≡ 0 → ⊥
    by (other, low, at) none =
        let same : other ≡ level = omega arith in
        count_some steps level (first ∷ clause) (first, (0, omega arith, refl), at ∙ ap (λ (n : ℕ). Some n) same) (sym count_is ∙ none)

-- ---- the highest level but one

-- a literal's level is this one or a higher one
abbrev IsUp : List Step → ℕ → Literal → Type 0
IsUp steps least literal = (level : ℕ) × (least ≤ level) × (level_of steps literal.variable ≡ Some level)

abbrev HasOneUp : List Step → ℕ → List Literal → Type 0
HasOneUp steps least clause = (literal : Literal) × Contains clause literal × IsUp steps least literal

abbrev HasTwoUp : List Step → ℕ → List Literal → Type 0
HasTwoUp steps least clause =
    (one : Literal) × (two : Literal) × (one ≢ two) × Contains clause one × Contains clause two × IsUp steps least one × IsUp steps least two

level_there : (least : ℕ) (value : Option ℕ) → 0 < least → least ≤ unwrap_or value 0 → (level : ℕ) × (least ≤ level) × (value ≡ Some level)
level_there least None some low = absurd (omega arith)
level_there least (Some level) some low = (level, low, refl)

module _ (steps : List Step) (least : ℕ) (some : 0 < least) where
  one_up : (clause : List Literal) → least ≤ first_level steps clause → HasOneUp steps least clause
  one_up [] low = absurd (omega arith)
  one_up (first ∷ clause) low = elim (leb_tells least (level_or_zero steps first.variable)) [
    | inl up ↦ (first, (0, omega arith, refl), level_there least (level_of steps first.variable) some (up.1))
    | inr below ↦
        let lower : level_or_zero steps first.variable < least = below.1 in
        let (literal, here, up) = one_up clause (omega arith) in (literal, in_more first clause literal here, up)
  ]

  two_up : (clause : List Literal) → IsClause clause → least ≤ second_level steps clause → HasTwoUp steps least clause
  two_up [] is low = absurd (omega arith)
  two_up (first ∷ clause) is low = elim (leb_tells least (min (level_or_zero steps first.variable) (first_level steps clause))) [
    | inl up ↦
        let both : least ≤ min (level_or_zero steps first.variable) (first_level steps clause) = up.1 in
        let (literal, here, literal_up) = one_up clause (omega arith) in (
          first,
          literal,
          (λ e. not_before_itself literal (subst (λ (l : Literal). IsBefore l literal) e (head_before first clause is literal here))),
          (0, omega arith, refl),
          in_more first clause literal here,
          level_there least (level_of steps first.variable) some (omega arith),
          literal_up,
        )
    | inr below ↦
        let lower : min (level_or_zero steps first.variable) (first_level steps clause) < least = below.1 in
        let (one, two, apart, one_in, two_in, one_up, two_up) = two_up clause (rest_is first clause is) (omega arith) in
        (one, two, apart, in_more first clause one one_in, in_more first clause two two_in, one_up, two_up)
  ]

pub second_low : (variables : ℕ) (steps : List Step) (level_count : ℕ) (clause : List Literal) → AreSteps variables steps level_count → IsClause clause →
    IsFailed (values_of steps) clause → (back : ℕ) → back ≡ second_level steps clause → back ≤ level_count
second_low variables steps level_count clause are is failed back back_is = elim (eqb_tells back 0) [
  | inl none ↦ omega (arith, none.1)
  | inr other ↦ let some : back ≢ 0 = other.1 in by (two_up steps back (omega arith) clause is (omega arith))
]
  where
    by : HasTwoUp steps back clause → back ≤ level_count
    by (one, two, apart, one_in, two_in, (level, high, at), two_up) =
        let (other, low, other_at) = up_to_last variables steps level_count clause are failed one one_in in
        let same = one_level level other (level_of steps one.variable) at other_at in omega arith

-- it leaves two literals without a value up to each level below
pub second_mild : (steps : List Step) → AreApart steps → (clause : List Literal) → IsClause clause → (back : ℕ) → back ≡ second_level steps clause →
    KeepsSettled (steps_to back steps) back clause
second_mild steps apart clause is back back_is level low =
    let (one, two, differ, one_in, two_in, one_up, two_up) = two_up steps (suc level) (omega arith) clause is (omega arith) in
    inr (one, two, differ, one_in, two_in, open_at one one_up, open_at two two_up)
  where
    open_at : (literal : Literal) → IsUp steps (suc level) literal → values_to level (steps_to back steps) literal.variable ≡ None
    open_at literal (k, high, at) = none_back level back k steps literal.variable apart at (omega arith)
