-- A resolvent is met by each assignment that meets both parents, and there is one resolvent.
use Rattle.std.proofs.Common.{◌≡◌, ◌∙◌, ℕ, inl, inr, Bool, true, false, not, List, [], ◌∷◌, refl, subst, ap}
use Rattle.std.specs.List.{Contains, list_any}
use Rattle.std.proofs.lemmas.Bool.{or_cases, or_left, or_right, cases_eq}
use Rattle.cc_defs.specs.Clauses.{Literal, HasAlone, is_made_true, IsIn}
use Rattle.cc_clauses.specs.Laws.{ResolventsAreSound, ResolventsAreUnique}
use Rattle.cc_clauses.proofs.Literals.{among, contained, same_literal, same_members}

any_gives : (p : Literal → Bool) (xs : List Literal) → list_any p xs ≡ true → (literal : Literal) × IsIn xs literal × (p literal ≡ true)
any_gives p [] h = cc
any_gives p (x ∷ xs) h = elim (or_cases (p x) (list_any p xs) h) [
  | inl here ↦ (x, inl refl, here)
  | inr later ↦ let more = any_gives p xs later in (more.0, inr (more.1), more.2)
]

any_from : (p : Literal → Bool) (xs : List Literal) (literal : Literal) → IsIn xs literal → p literal ≡ true → list_any p xs ≡ true
any_from p [] literal h passes = absurd h
any_from p (x ∷ xs) literal (inl is) passes = or_left (p x) (list_any p xs) (ap p is ∙ passes)
any_from p (x ∷ xs) literal (inr later) passes = or_right (p x) (list_any p xs) (any_from p xs literal later passes)

-- a literal of the clause on its lone variable has the sign of that variable there
lone_sign : (clause : List Literal) (pivot : ℕ) (sign positive : Bool) → HasAlone clause (record { variable = pivot; positive = sign }) →
    Contains clause (record { variable = pivot; positive = positive }) → positive ≡ sign
lone_sign clause pivot true true alone c = refl
lone_sign clause pivot true false alone c = absurd (alone.1 c)
lone_sign clause pivot false true alone c = absurd (alone.1 c)
lone_sign clause pivot false false alone c = refl

not_both : (sign value : Bool) → is_made_true (λ _. value) (record { variable = 0; positive = sign }) ≡ true →
    is_made_true (λ _. value) (record { variable = 0; positive = not sign }) ≡ true → ⊥
not_both true true one other = cc
not_both true false one other = cc
not_both false true one other = cc
not_both false false one other = cc

-- what makes a clause true on its lone variable
lone_true : (assignment : ℕ → Bool) (clause : List Literal) (pivot : ℕ) (sign : Bool) (literal : Literal) →
    HasAlone clause (record { variable = pivot; positive = sign }) → IsIn clause literal → is_made_true assignment literal ≡ true →
    literal.variable ≡ pivot → is_made_true assignment (record { variable = pivot; positive = sign }) ≡ true
lone_true assignment clause pivot sign literal alone c made same =
    let is : literal ≡ record { variable = pivot; positive = literal.positive } = same_literal literal (record { variable = pivot; positive = literal.positive }) same refl in
    let sign_is = lone_sign clause pivot sign literal.positive alone (contained clause _ (subst (IsIn clause) is c)) in
    let is_pivot : literal ≡ record { variable = pivot; positive = sign } = same_literal literal (record { variable = pivot; positive = sign }) same sign_is in
    subst (λ (z : Literal). is_made_true assignment z ≡ true) is_pivot made

pub sound : ResolventsAreSound
sound a b pivot r is assignment meets_a meets_b =
    let one = any_gives (is_made_true assignment) a meets_a in
    let other = any_gives (is_made_true assignment) b meets_b in
    elim (cases_eq (one.0).variable pivot) [
      | inr differs ↦ any_from (is_made_true assignment) r (one.0)
          (among r (one.0) ((is.members (one.0)).1 (inl (contained a (one.0) (one.1)), differs))) (one.2)
      | inl same ↦ elim (cases_eq (other.0).variable pivot) [
        | inr differs ↦ any_from (is_made_true assignment) r (other.0)
            (among r (other.0) ((is.members (other.0)).1 (inr (contained b (other.0) (other.1)), differs))) (other.2)
        | inl tied ↦
            absurd (not_both (is.clash.0) (assignment pivot)
            (lone_true assignment a pivot (is.clash.0) (one.0) (is.clash.1) (one.1) (one.2) same)
            (lone_true assignment b pivot (not (is.clash.0)) (other.0) (is.clash.2) (other.1) (other.2) tied))
      ]
    ]

pub unique : ResolventsAreUnique
unique a b pivot one other is_one is_other =
    same_members one other is_one.clause is_other.clause
    (λ literal c. among other literal ((is_other.members literal).1 ((is_one.members literal).0 (contained one literal c))))
    (λ literal c. among one literal ((is_one.members literal).1 ((is_other.members literal).0 (contained other literal c))))
