-- A false clause by the number of its literals of the last level: two of them, or the one of a learned clause.
use Rattle.std.proofs.Common.{◌≡◌, ◌≢◌, ◌∙◌, ℕ, ◌<◌, ◌≤◌, max, zero, suc, inl, inr, eqb, Bool, true, false, not, List, [], ◌∷◌, Option, Some, None, refl, sym, subst, ap, arith}
use Rattle.std.specs.Prelude.{◌⊎◌, Contains, if◌then◌else◌}
use Rattle.std.proofs.lemmas.Bool.Decides.{eqb_tells, leb_tells}
use Rattle.cc_defs.specs.Assignments.{IsFailed}
use Rattle.cc_defs.specs.Clauses.{Literal, IsBefore, IsClause}
use Rattle.cc_trail.specs.declared.entries.Step.{Step}
use Rattle.cc_trail.specs.Steps.{AreSteps, values_of}
use Rattle.cc_cdcl.specs.Analysis.{HasOneOf, HasTwoOf, IsLearned, highest_but, is_level, level_but, level_count_in, level_of}
use Rattle.cc_cdcl.proofs.Learning.{level_is, one_level, within}
use Rattle.cc_cdcl.proofs.Levels.{has_step}
use Rattle.cc_cdcl.proofs.Picking.{in_more}

-- ---- the literals of a clause are different

before_trans : (a b c : Literal) → IsBefore a b → IsBefore b c → IsBefore a c
before_trans a b c (inl low) (inl high) = inl (omega arith)
before_trans a b c (inl low) (inr (same, f, t)) = inl (omega arith)
before_trans a b c (inr (same, f, t)) (inl high) = inl (omega arith)
before_trans a b c (inr (same, f, t)) (inr (equal, g, u)) = absurd (signs b.positive t g)
  where
    signs : (p : Bool) → p ≡ true → p ≡ false → ⊥
    signs p e f = cc

pub not_before_itself : (a : Literal) → IsBefore a a → ⊥
not_before_itself a (inl low) = omega arith
not_before_itself a (inr (same, f, t)) = signs a.positive t f
  where
    signs : (p : Bool) → p ≡ true → p ≡ false → ⊥
    signs p e f = cc

pub rest_is : (a : Literal) (clause : List Literal) → IsClause (a ∷ clause) → IsClause clause
rest_is a [] is = tt
rest_is a (b ∷ clause) is = is.1

pub head_before : (a : Literal) (clause : List Literal) → IsClause (a ∷ clause) → (literal : Literal) → Contains clause literal → IsBefore a literal
head_before a [] is literal (k, low, same) = absurd (omega arith)
head_before a (b ∷ clause) is literal (zero, low, same) = subst (λ (l : Literal). IsBefore a l) same is.0
head_before a (b ∷ clause) is literal (suc k, low, same) = before_trans a b literal is.0 (head_before b clause is.1 literal (k, omega arith, same))

-- ---- by the number of literals of a level

module _ (steps : List Step) (level : ℕ) where
  abbrev pub at_level : Literal → Bool
  at_level literal = is_level level (level_of steps literal.variable)

  is_at : (value : Option ℕ) → is_level level value ≡ true → value ≡ Some level
  is_at None e = cc
  is_at (Some other) e = elim (eqb_tells other level) [
    | inl same ↦ ap (λ (n : ℕ). Some n) (same.1)
    | inr differ ↦ absurd (tests e (differ.0))
  ]
    where
      tests : eqb other level ≡ true → eqb other level ≡ false → ⊥
      tests e f = cc

  abbrev counted : Literal → ℕ
  counted literal = if at_level literal then 1 else 0

  count_cases : (literal : Literal) → ((at_level literal ≡ true) × (level_of steps literal.variable ≡ Some level) × (counted literal ≡ 1))
      ⊎ ((at_level literal ≡ false) × (counted literal ≡ 0))
  count_cases literal = by (at_level literal) refl
    where
      by : (b : Bool) → at_level literal ≡ b → ((at_level literal ≡ true) × (level_of steps literal.variable ≡ Some level) × (counted literal ≡ 1))
          ⊎ ((at_level literal ≡ false) × (counted literal ≡ 0))
      by true e = inl (e, is_at (level_of steps literal.variable) e, rw e refl)
      by false e = inr (e, rw e refl)

  some_of : (clause : List Literal) → 0 < level_count_in steps level clause → HasOneOf steps level clause
  some_of [] many = absurd (omega arith)
  some_of (first ∷ clause) many = elim (count_cases first) [
    | inl (is, at, one) ↦ (first, (0, omega arith, refl), at)
    | inr (no_is, none) ↦ let (literal, here, at) = some_of clause (omega arith) in (literal, in_more first clause literal here, at)
  ]

  pub two_of : (clause : List Literal) → IsClause clause → 1 < level_count_in steps level clause → HasTwoOf steps level clause
  two_of [] is many = absurd (omega arith)
  two_of (first ∷ clause) is many = elim (count_cases first) [
    | inl (there, at, one) ↦
        let (literal, here, level_at) = some_of clause (omega arith) in (
          first,
          literal,
          (λ e. not_before_itself literal (subst (λ (l : Literal). IsBefore l literal) e (head_before first clause is literal here))),
          (0, omega arith, refl),
          in_more first clause literal here,
          at,
          level_at,
        )
    | inr (no_is, none) ↦
        let (one, two, apart, one_in, two_in, one_at, two_at) = two_of clause (rest_is first clause is) (omega arith) in
        (one, two, apart, in_more first clause one one_in, in_more first clause two two_in, one_at, two_at)
  ]

  pub none_of : (clause : List Literal) → level_count_in steps level clause ≡ 0 → (literal : Literal) → Contains clause literal → at_level literal ≡ false
  none_of [] none literal (k, low, same) = absurd (omega arith)
  none_of (first ∷ clause) none literal here = elim (count_cases first) [
    | inl (there, at, one) ↦ absurd (omega arith)
    | inr (no_is, zero_is) ↦ by no_is here (none_of clause (omega arith) literal)
  ]
    where
      by : at_level first ≡ false → Contains (first ∷ clause) literal → (Contains clause literal → at_level literal ≡ false) → at_level literal ≡ false
      by no_is (zero, low, same) rest = subst (λ (l : Literal). at_level l ≡ false) same no_is
      by no_is (suc k, low, same) rest = rest (k, omega arith, same)

  -- one is of the level, and the others are not
  abbrev pub OneAlone : List Literal → Type 0
  OneAlone clause = (left : Literal) × Contains clause left × (level_of steps left.variable ≡ Some level) ×
      ((literal : Literal) → Contains clause literal → (literal ≡ left) ⊎ (at_level literal ≡ false))

  pub one_of : (clause : List Literal) → level_count_in steps level clause ≡ 1 → OneAlone clause
  one_of [] one = absurd (omega arith)
  one_of (first ∷ clause) one = elim (count_cases first) [
    | inl (there, at, one_is) ↦ (first, (0, omega arith, refl), at, alone (none_of clause (omega arith)))
    | inr (no_is, none) ↦ behind no_is (one_of clause (omega arith))
  ]
    where
      alone : ((literal : Literal) → Contains clause literal → at_level literal ≡ false) → (literal : Literal) → Contains (first ∷ clause) literal →
          (literal ≡ first) ⊎ (at_level literal ≡ false)
      alone rest literal (zero, low, same) = inl (sym same)
      alone rest literal (suc k, low, same) = inr (rest literal (k, omega arith, same))

      others_too : (left : Literal) → at_level first ≡ false → ((literal : Literal) → Contains clause literal → (literal ≡ left) ⊎ (at_level literal ≡ false)) →
          (literal : Literal) → Contains (first ∷ clause) literal → (literal ≡ left) ⊎ (at_level literal ≡ false)
      others_too left no_is rest literal (zero, low, same) = inr (subst (λ (l : Literal). at_level l ≡ false) same no_is)
      others_too left no_is rest literal (suc k, low, same) = rest literal (k, omega arith, same)

      behind : at_level first ≡ false → OneAlone clause → OneAlone (first ∷ clause)
      behind no_is (left, here, at, others) = (left, in_more first clause left here, at, others_too left no_is others)

  -- ---- the highest other level

  not_at : (k : ℕ) → eqb k level ≡ false → level_but level (Some k) ≡ k
  not_at k e = rw e refl

  below_highest : (clause : List Literal) (literal : Literal) (k : ℕ) → Contains clause literal → level_of steps literal.variable ≡ Some k → at_level literal ≡ false →
      k ≤ highest_but steps level clause
  below_highest [] literal k (j, low, same) at no_is = absurd (omega arith)
  below_highest (first ∷ clause) literal k (zero, low, same) at no_is =
      let is : level_but level (level_of steps first.variable) ≡ k =
      ap (λ (l : Literal). level_but level (level_of steps l.variable)) same ∙ ap (level_but level) at ∙
      not_at k (ap (is_level level) (sym at) ∙ no_is) in omega arith
  below_highest (first ∷ clause) literal k (suc j, low, same) at no_is =
      let rest = below_highest clause literal k (j, omega arith, same) at no_is in omega arith

  but_cases : (value : Option ℕ) → (level_but level value ≡ 0) ⊎ ((value ≡ Some (level_but level value)) × (level_but level value ≢ level))
  but_cases None = inl refl
  but_cases (Some k) = elim (eqb_tells k level) [
    | inl same ↦ inl (rw (same.0) refl)
    | inr other ↦ inr (rw (other.0) (refl, other.1))
  ]

  abbrev pub Reached : ℕ → List Literal → Type 0
  Reached highest clause = (highest ≡ 0) ⊎ (HasOneOf steps highest clause × (highest ≢ level))

  one_of_two : (a b : ℕ) → (max a b ≡ a) ⊎ (max a b ≡ b)
  one_of_two a b = elim (leb_tells a b) [
    | inl low ↦ let less : a ≤ b = low.1 in inr (omega arith)
    | inr high ↦ let more : b < a = high.1 in inl (omega arith)
  ]

  highest_reached : (clause : List Literal) → Reached (highest_but steps level clause) clause
  highest_reached [] = inl refl
  highest_reached (first ∷ clause) = by (one_of_two (level_but level (level_of steps first.variable)) (highest_but steps level clause)) (highest_reached clause)
    where
      by : (highest_but steps level (first ∷ clause) ≡ level_but level (level_of steps first.variable)) ⊎ (highest_but steps level (first ∷ clause) ≡ highest_but steps level clause) →
          Reached (highest_but steps level clause) clause → Reached (highest_but steps level (first ∷ clause)) (first ∷ clause)
      by (inl is) rest = subst (λ (n : ℕ). Reached n (first ∷ clause)) (sym is) (elim (but_cases (level_of steps first.variable)) [
        | inl none ↦ inl none
        | inr (at, other) ↦ inr ((first, (0, omega arith, refl), at), other)
      ])
      by (inr is) (inl none) = inl (is ∙ none)
      by (inr is) (inr ((literal, here, at), other)) =
          subst (λ (n : ℕ). Reached n (first ∷ clause)) (sym is) (inr ((literal, in_more first clause literal here, at), other))

-- the levels of a clause's literals are at most this one
abbrev pub AreUpTo : List Step → ℕ → List Literal → Type 0
AreUpTo steps top clause = (literal : Literal) → Contains clause literal → (level : ℕ) × (level ≤ top) × (level_of steps literal.variable ≡ Some level)

pub up_to_last : (variables : ℕ) (steps : List Step) (level_count : ℕ) (clause : List Literal) → AreSteps variables steps level_count → IsFailed (values_of steps) clause →
    AreUpTo steps level_count clause
up_to_last variables steps level_count clause are failed literal here =
    let (step, inside, at, variable, sign) = has_step steps literal.variable (not literal.positive) (failed literal here) in
    (step.level, within variables steps level_count are step inside, level_is steps literal.variable step at)

pub learned_from : (steps : List Step) (top : ℕ) (clause : List Literal) → IsFailed (values_of steps) clause → AreUpTo steps top clause → 0 < top →
    level_count_in steps top clause ≡ 1 → IsLearned steps top clause (highest_but steps top clause)
learned_from steps top clause failed up_to some one = by (one_of steps top clause one) (highest_reached steps top clause)
  where
    others_low : (left : Literal) → ((literal : Literal) → Contains clause literal → (literal ≡ left) ⊎ (at_level steps top literal ≡ false)) →
        (literal : Literal) → Contains clause literal → (literal ≡ left) ⊎ ((level : ℕ) × (level ≤ highest_but steps top clause) × (level_of steps literal.variable ≡ Some level))
    others_low left others literal here = elim (others literal here) [
      | inl same ↦ inl same
      | inr no_is ↦ let (level, most, at) = up_to literal here in inr (level, below_highest steps top clause literal level here at no_is, at)
    ]

    lower : Reached steps top (highest_but steps top clause) clause → highest_but steps top clause < top
    lower (inl zero_is) = omega arith
    lower (inr ((literal, here, at), other)) =
        let (level, most, level_at) = up_to literal here in
        let same = one_level (highest_but steps top clause) level (level_of steps literal.variable) at level_at in omega arith

    reaches : Reached steps top (highest_but steps top clause) clause →
        (highest_but steps top clause ≡ 0) ⊎ HasOneOf steps (highest_but steps top clause) clause
    reaches (inl zero_is) = inl zero_is
    reaches (inr (there, other)) = inr there

    by : OneAlone steps top clause → Reached steps top (highest_but steps top clause) clause →
        IsLearned steps top clause (highest_but steps top clause)
    by (left, member, last, others) reached = record {
      failed = failed;
      left = left;
      member = member;
      last = last;
      others = others_low left others;
      lower = lower reached;
      reached = reaches reached;
    }
