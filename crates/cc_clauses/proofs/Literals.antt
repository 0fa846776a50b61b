-- Lists of literals: their members, and their order by code.
use Rattle.std.proofs.Common.{◌≡◌, ◌∙◌, ℕ, ◌<◌, ◌≤◌, zero, suc, inl, inr, Bool, true, false, List, [], ◌∷◌, refl, sym, subst, ap, arith}
use Rattle.std.specs.Prelude.{if◌then◌else◌}
use Rattle.std.specs.List.{Contains}
use Rattle.std.proofs.lemmas.Bool.{cases_lt}
use Rattle.cc_defs.specs.Clauses.{Literal, IsBefore, IsClause, IsIn}
use Rattle.cc_clauses.specs.Laws.{SameLiteralsAreOneClause}
use Rattle.cc_clauses.specs.Merging.{code}

pub among : (xs : List Literal) (literal : Literal) → Contains xs literal → IsIn xs literal
among [] literal (k, below, is) = absurd (omega arith)
among (x ∷ xs) literal (zero, below, is) = inl is
among (x ∷ xs) literal (suc k, below, is) = inr (among xs literal (k, (omega arith), is))

pub contained : (xs : List Literal) (literal : Literal) → IsIn xs literal → Contains xs literal
contained [] literal h = absurd h
contained (x ∷ xs) literal (inl is) = (zero, (omega arith), is)
contained (x ∷ xs) literal (inr later) =
    let more : Contains xs literal = contained xs literal later in
    (suc (more.0), (omega arith), more.2)

abbrev sign : Bool → ℕ
sign positive = if positive then 1 else 0

sign_small : (positive : Bool) → sign positive ≤ 1
sign_small true = omega arith
sign_small false = omega arith

sign_same : (p q : Bool) → sign p ≡ sign q → p ≡ q
sign_same true true h = refl
sign_same true false h = absurd (omega arith)
sign_same false true h = absurd (omega arith)
sign_same false false h = refl

sign_less : (p q : Bool) → sign p < sign q → (p ≡ false) × (q ≡ true)
sign_less true true h = absurd (omega arith)
sign_less true false h = absurd (omega arith)
sign_less false true h = (refl, refl)
sign_less false false h = absurd (omega arith)

pub less_code : (a b : Literal) → IsBefore a b → code a < code b
less_code a b (inl less) = omega (arith, sign_small a.positive, sign_small b.positive)
less_code a b (inr (same, low, high)) =
    let zero_sign : sign a.positive ≡ 0 = ap sign low in
    let one_sign : sign b.positive ≡ 1 = ap sign high in
    omega arith

pub before_from_code : (a b : Literal) → code a < code b → IsBefore a b
before_from_code a b h = elim (cases_lt a.variable b.variable) [
  | inl less ↦ inl less
  | inr least ↦
      let same : a.variable ≡ b.variable = omega (arith, sign_small a.positive, sign_small b.positive) in
      let less : sign a.positive < sign b.positive = omega arith in
      let signs = sign_less a.positive b.positive less in
      inr (same, signs.0, signs.1)
]

make : ℕ → Bool → Literal
make variable positive = record { variable = variable; positive = positive }

pub same_literal : (a b : Literal) → a.variable ≡ b.variable → a.positive ≡ b.positive → a ≡ b
unfolding make
same_literal a b same signs =
    let is : make a.variable a.positive ≡ make b.variable b.positive = cc in is

pub same_from_code : (a b : Literal) → code a ≡ code b → a ≡ b
same_from_code a b h =
    let same : a.variable ≡ b.variable = omega (arith, sign_small a.positive, sign_small b.positive) in
    let signs : sign a.positive ≡ sign b.positive = omega arith in
    same_literal a b same (sign_same a.positive b.positive signs)

-- it comes before each of these
abbrev pub IsLow : Literal → List Literal → Type 0
IsLow x ys = (literal : Literal) → IsIn ys literal → code x < code literal

pub clause_low : (x : Literal) (xs : List Literal) → IsClause (x ∷ xs) → IsLow x xs
clause_low x [] h literal later = absurd later
clause_low x (y ∷ ys) h literal (inl is) = subst (λ (z : Literal). code x < code z) is (less_code x y h.0)
clause_low x (y ∷ ys) h literal (inr later) =
    let first : code x < code y = less_code x y h.0 in
    let more : code y < code literal = clause_low y ys h.1 literal later in
    omega arith

pub clause_rest : (x : Literal) (xs : List Literal) → IsClause (x ∷ xs) → IsClause xs
clause_rest x [] h = tt
clause_rest x (y ∷ ys) h = h.1

pub clause_cons : (x : Literal) (xs : List Literal) → IsLow x xs → IsClause xs → IsClause (x ∷ xs)
clause_cons x [] low h = tt
clause_cons x (y ∷ ys) low h = (before_from_code x y (low y (inl refl)), h)

same_heads : (x : Literal) (xs : List Literal) (y : Literal) (ys : List Literal) → IsClause (x ∷ xs) → IsClause (y ∷ ys) →
    IsIn (y ∷ ys) x → IsIn (x ∷ xs) y → x ≡ y
same_heads x xs y ys hx hy (inl is) right = sym is
same_heads x xs y ys hx hy (inr left) (inl is) = is
same_heads x xs y ys hx hy (inr left) (inr right) =
    let one : code y < code x = clause_low y ys hy x left in
    let other : code x < code y = clause_low x xs hx y right in
    absurd (omega arith)

tail_within : (x : Literal) (xs : List Literal) (y : Literal) (ys : List Literal) → IsClause (x ∷ xs) → x ≡ y →
    ((literal : Literal) → IsIn (x ∷ xs) literal → IsIn (y ∷ ys) literal) →
    (literal : Literal) → IsIn xs literal → IsIn ys literal
tail_within x xs y ys hx same each literal h = elim (each literal (inr h)) [
  | inl is ↦
      let low : code x < code literal = clause_low x xs hx literal h in
      let tie : code x ≡ code literal = ap code (same ∙ is) in
      absurd (omega arith)
  | inr later ↦ later
]

-- two clauses with the same members are one
pub same_members : (xs ys : List Literal) → IsClause xs → IsClause ys →
    ((literal : Literal) → IsIn xs literal → IsIn ys literal) →
    ((literal : Literal) → IsIn ys literal → IsIn xs literal) → xs ≡ ys
same_members [] [] hx hy left right = refl
same_members [] (y ∷ ys) hx hy left right = absurd (right y (inl refl))
same_members (x ∷ xs) [] hx hy left right = absurd (left x (inl refl))
same_members (x ∷ xs) (y ∷ ys) hx hy left right =
    let same : x ≡ y = same_heads x xs y ys hx hy (left x (inl refl)) (right y (inl refl)) in
    let rest : xs ≡ ys = same_members xs ys (clause_rest x xs hx) (clause_rest y ys hy)
    (tail_within x xs y ys hx same left) (tail_within y ys x xs hy (sym same) right) in
    cc

pub one_clause : SameLiteralsAreOneClause
one_clause one other is_one is_other same = same_members one other is_one is_other (λ literal h. (same literal).0 h) (λ literal h. (same literal).1 h)
