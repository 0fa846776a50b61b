-- Of two kinds of literals in a clause: all are of the first kind, or one is of the second, or two are.
use Rattle.std.proofs.Common.{◌≡◌, ◌≢◌, ◌∙◌, zero, suc, inl, inr, Bool, true, false, List, [], ◌∷◌, refl, sym, subst, ap, arith}
use Rattle.std.specs.Prelude.{◌⊎◌, Contains}
use Rattle.std.proofs.lemmas.Bool.Decides.{eqb_tells}
use Rattle.cc_defs.specs.Clauses.{Literal}
use Rattle.cc_cdcl.proofs.Levels.{same_literal}

pub same_or : (x y : Bool) → (x ≡ y) ⊎ (x ≢ y)
same_or true true = inl refl
same_or true false = inr (λ e. absurd cc)
same_or false true = inr (λ e. absurd cc)
same_or false false = inl refl

pub literals_same_or : (a b : Literal) → (a ≡ b) ⊎ (a ≢ b)
literals_same_or a b = elim (eqb_tells a.variable b.variable) [
  | inr other ↦ inr (λ e. other.1 (ap (λ (l : Literal). l.variable) e))
  | inl same ↦ elim (same_or a.positive b.positive) [
    | inl alike ↦ inl (same_literal a b (same.1) alike)
    | inr differ ↦ inr (λ e. differ (ap (λ (l : Literal). l.positive) e))
  ]
]

pub in_more : {X : Type 0} (first : X) (xs : List X) (x : X) → Contains xs x → Contains (first ∷ xs) x
in_more first xs x (k, within, is) = (suc k, omega arith, is)

module _ (P Q : Literal → Type 0) where
  abbrev pub AllFirst : List Literal → Type 0
  AllFirst clause = (literal : Literal) → Contains clause literal → P literal

  abbrev pub OneSecond : List Literal → Type 0
  OneSecond clause = (left : Literal) × Contains clause left × Q left × ((literal : Literal) → Contains clause literal → (literal ≡ left) ⊎ P literal)

  abbrev pub TwoSecond : List Literal → Type 0
  TwoSecond clause = (one : Literal) × (two : Literal) × (one ≢ two) × Contains clause one × Contains clause two × Q one × Q two

  first_too : (first : Literal) (clause : List Literal) (R : Literal → Type 0) → R first → ((literal : Literal) → Contains clause literal → R literal) →
      (literal : Literal) → Contains (first ∷ clause) literal → R literal
  first_too first clause R here rest literal (zero, within, is) = subst R is here
  first_too first clause R here rest literal (suc k, within, is) = rest literal (k, omega arith, is)

  more : (first : Literal) (clause : List Literal) → TwoSecond clause → TwoSecond (first ∷ clause)
  more first clause (one, two, apart, one_in, two_in, one_is, two_is) = (one, two, apart, in_more first clause one one_in, in_more first clause two two_in, one_is, two_is)

  with_first : (first : Literal) (clause : List Literal) → P first ⊎ Q first → AllFirst clause ⊎ OneSecond clause ⊎ TwoSecond clause →
      AllFirst (first ∷ clause) ⊎ OneSecond (first ∷ clause) ⊎ TwoSecond (first ∷ clause)
  with_first first clause (inl p) (inl all) = inl (first_too first clause P p all)
  with_first first clause (inl p) (inr (inl (left, inside, q, others))) =
      inr (inl (left, in_more first clause left inside, q, first_too first clause (λ l. (l ≡ left) ⊎ P l) (inr p) others))
  with_first first clause (inr q) (inl all) =
      inr (inl (first, (0, omega arith, refl), q, first_too first clause (λ l. (l ≡ first) ⊎ P l) (inl refl) (λ l inside. inr (all l inside))))
  with_first first clause (inr q) (inr (inl (left, inside, left_q, others))) = elim (literals_same_or first left) [
    | inl same ↦ inr (inl (
      first,
      (0, omega arith, refl),
      q,
      first_too first clause (λ l. (l ≡ first) ⊎ P l) (inl refl)
          (λ l here. elim (others l here) [ inl is ↦ inl (is ∙ sym same) | inr p ↦ inr p ]),
    ))
    | inr apart ↦ inr (inr (first, left, apart, (0, omega arith, refl), in_more first clause left inside, q, left_q))
  ]
  with_first first clause (inl p) (inr (inr two)) = inr (inr (more first clause two))
  with_first first clause (inr q) (inr (inr two)) = inr (inr (more first clause two))

  pub pick : (clause : List Literal) → ((literal : Literal) → Contains clause literal → P literal ⊎ Q literal) → AllFirst clause ⊎ OneSecond clause ⊎ TwoSecond clause
  pick [] each = inl (λ literal (k, within, is). absurd (omega arith))
  pick (first ∷ clause) each = with_first first clause (each first (0, omega arith, refl)) (pick clause (λ literal here. each literal (in_more first clause literal here)))
