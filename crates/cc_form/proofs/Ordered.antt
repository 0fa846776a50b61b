-- Lists of literals: their members, and their order by code.
use Rattle.std.proofs.Common.{◌≡◌, ℕ, ◌+◌, ◌*◌, ◌<◌, ◌≤◌, ◌⊎◌, zero, suc, inl, inr, Bool, true, false, not, ◌&&◌, ◌||◌, List, [], ◌∷◌, nat_lt, refl, sym, subst, ap, arith}
use Rattle.std.specs.Prelude.{if◌then◌else◌, ◌==◌}
use Rattle.std.specs.Bool.{beq}
use Rattle.std.specs.List.{Contains}
use Rattle.std.proofs.lemmas.Bool.{cases_lt, lt-ltb, ltb-true, eqb-true, eq-eqb}
use Rattle.cc_defs.specs.ClauseForms.{in_order, is_before, put, same_literal}
use Rattle.cc_defs.specs.Clauses.{Literal, IsBefore, IsClause, IsIn}

pub among : {X : Type 0} (xs : List X) (x : X) → Contains xs x → IsIn xs x
among [] x (k, below, is) = absurd (omega arith)
among (y ∷ xs) x (zero, below, is) = inl is
among (y ∷ xs) x (suc k, below, is) = inr (among xs x (k, (omega arith), is))

pub contained : {X : Type 0} (xs : List X) (x : X) → IsIn xs x → Contains xs x
contained [] x h = absurd h
contained (y ∷ xs) x (inl is) = (zero, (omega arith), is)
contained (y ∷ xs) x (inr later) =
    let more : Contains xs x = contained xs x later in
    (suc (more.0), (omega arith), more.2)

-- ---- codes

abbrev sign : Bool → ℕ
sign positive = if positive then 1 else 0

abbrev pub code : Literal → ℕ
code literal = 2 * literal.variable + sign literal.positive

sign_small : (positive : Bool) → sign positive ≤ 1
sign_small true = omega arith
sign_small false = omega arith

sign_same : (p q : Bool) → sign p ≡ sign q → p ≡ q
sign_same true true h = refl
sign_same true false h = absurd (omega arith)
sign_same false true h = absurd (omega arith)
sign_same false false h = refl

sign_less : (p q : Bool) → sign p < sign q → (p ≡ false) × (q ≡ true)
sign_less true true h = absurd (omega arith)
sign_less true false h = absurd (omega arith)
sign_less false true h = (refl, refl)
sign_less false false h = absurd (omega arith)

pub less_code : (a b : Literal) → IsBefore a b → code a < code b
less_code a b (inl less) = omega (arith, sign_small a.positive, sign_small b.positive)
less_code a b (inr (same, low, high)) =
    let zero_sign : sign a.positive ≡ 0 = ap sign low in
    let one_sign : sign b.positive ≡ 1 = ap sign high in
    omega arith

pub before_from_code : (a b : Literal) → code a < code b → IsBefore a b
before_from_code a b h = elim (cases_lt a.variable b.variable) [
  | inl less ↦ inl less
  | inr least ↦
      let same : a.variable ≡ b.variable = omega (arith, sign_small a.positive, sign_small b.positive) in
      let less : sign a.positive < sign b.positive = omega arith in
      let signs = sign_less a.positive b.positive less in
      inr (same, signs.0, signs.1)
]

make : ℕ → Bool → Literal
make variable positive = record { variable = variable; positive = positive }

pub literals_same : (a b : Literal) → a.variable ≡ b.variable → a.positive ≡ b.positive → a ≡ b
unfolding make
literals_same a b same signs =
    let is : make a.variable a.positive ≡ make b.variable b.positive = cc in is

pub same_from_code : (a b : Literal) → code a ≡ code b → a ≡ b
same_from_code a b h =
    let same : a.variable ≡ b.variable = omega (arith, sign_small a.positive, sign_small b.positive) in
    let signs : sign a.positive ≡ sign b.positive = omega arith in
    literals_same a b same (sign_same a.positive b.positive signs)

-- ---- ascending lists

-- it comes before each of these
abbrev pub IsLow : Literal → List Literal → Type 0
IsLow x ys = (literal : Literal) → IsIn ys literal → code x < code literal

pub clause_low : (x : Literal) (xs : List Literal) → IsClause (x ∷ xs) → IsLow x xs
clause_low x [] h literal later = absurd later
clause_low x (y ∷ ys) h literal (inl is) = subst (λ (z : Literal). code x < code z) is (less_code x y h.0)
clause_low x (y ∷ ys) h literal (inr later) =
    let first : code x < code y = less_code x y h.0 in
    let more : code y < code literal = clause_low y ys h.1 literal later in
    omega arith

pub clause_rest : (x : Literal) (xs : List Literal) → IsClause (x ∷ xs) → IsClause xs
clause_rest x [] h = tt
clause_rest x (y ∷ ys) h = h.1

pub clause_cons : (x : Literal) (xs : List Literal) → IsLow x xs → IsClause xs → IsClause (x ∷ xs)
clause_cons x [] low h = tt
clause_cons x (y ∷ ys) low h = (before_from_code x y (low y (inl refl)), h)

-- ---- the tests of literals

-- what a test says
pub cases_test : (b : Bool) → (b ≡ true) ⊎ (b ≡ false)
cases_test true = inl refl
cases_test false = inr refl

pub both_true : (a b : Bool) → (a && b) ≡ true → (a ≡ true) × (b ≡ true)
both_true true true e = (refl, refl)
both_true true false e = absurd cc
both_true false b e = absurd cc

beq_true : (a b : Bool) → beq a b ≡ true → a ≡ b
beq_true true true e = refl
beq_true true false e = absurd cc
beq_true false true e = absurd cc
beq_true false false e = refl

beq_same : (a : Bool) → beq a a ≡ true
beq_same true = refl
beq_same false = refl

pub same_is : (a b : Literal) → same_literal a b ≡ true → a ≡ b
same_is a b e =
    let both = both_true (a.variable == b.variable) (beq a.positive b.positive) e in
    literals_same a b (eqb-true a.variable b.variable both.0) (beq_true a.positive b.positive both.1)

pub is_same : (a b : Literal) → a ≡ b → same_literal a b ≡ true
is_same a b e = subst (λ (c : Literal). same_literal a c ≡ true) e (rw (eq-eqb a.variable a.variable refl, beq_same a.positive) refl)

before_less : (a b : Literal) → is_before a b ≡ true → code a < code b
before_less a b e = less_code a b (elim (cases_test (nat_lt a.variable b.variable)) [
  | inl is ↦ inl (ltb-true a.variable b.variable is)
  | inr isnt ↦
      let rest : ((a.variable == b.variable) && (not a.positive && b.positive)) ≡ true = subst (λ (t : Bool). (t || ((a.variable == b.variable) && (not a.positive && b.positive))) ≡ true) isnt e in
      let both = both_true (a.variable == b.variable) (not a.positive && b.positive) rest in
      let signs = both_true (not a.positive) b.positive both.1 in
      inr (eqb-true a.variable b.variable both.0, negative a.positive signs.0, signs.1)
])
  where
    negative : (p : Bool) → not p ≡ true → p ≡ false
    negative true e = absurd cc
    negative false e = refl

is_before_true : (a b : Literal) → IsBefore a b → is_before a b ≡ true
is_before_true a b (inl less) = rw (lt-ltb a.variable b.variable less) refl
is_before_true a b (inr (same, low, high)) = or_true (nat_lt a.variable b.variable) ((a.variable == b.variable) && (not a.positive && b.positive))
    (rw (eq-eqb a.variable b.variable same, low, high) refl)
  where
    or_true : (p q : Bool) → q ≡ true → (p || q) ≡ true
    or_true true q e = refl
    or_true false q e = e

not_before : (a b : Literal) → is_before a b ≡ false → code b ≤ code a
not_before a b e = elim (cases_lt (code a) (code b)) [
  | inl less ↦ let is = is_before_true a b (before_from_code a b less) in absurd cc
  | inr most ↦ most
]

-- ---- literals in order

put_case : (literal first : Literal) (others : List Literal) → Type 0
put_case literal first others =
    ((literal ≡ first) × (put literal (first ∷ others) ≡ first ∷ others))
    ⊎ (((code literal < code first) × (put literal (first ∷ others) ≡ literal ∷ first ∷ others))
    ⊎ ((code first < code literal) × (put literal (first ∷ others) ≡ first ∷ put literal others)))

put_cases : (literal first : Literal) (others : List Literal) → put_case literal first others
unfolding put_case
put_cases literal first others = elim (cases_test (same_literal literal first)) [
  | inl same ↦ inl (same_is literal first same, (rw same refl))
  | inr other ↦ elim (cases_test (is_before literal first)) [
    | inl before ↦ inr (inl (before_less literal first before, (rw (other, before) refl)))
    | inr behind ↦ inr (inr (
      (elim (cases_lt (code first) (code literal)) [
        | inl less ↦ less
        | inr most ↦ let least = not_before literal first behind in
            let wrong = is_same literal first (same_from_code literal first (omega arith)) in absurd cc
      ]),
      (rw (other, behind) refl),
    ))
  ]
]

pub put_has : (literal : Literal) (xs : List Literal) → IsIn (put literal xs) literal
unfolding put_case
put_has literal [] = inl refl
put_has literal (x ∷ xs) = elim (put_cases literal x xs) [
  | inl (same, is) ↦ subst (λ (l : List Literal). IsIn l literal) (sym is) (inl (sym same))
  | inr (inl (less, is)) ↦ subst (λ (l : List Literal). IsIn l literal) (sym is) (inl refl)
  | inr (inr (more, is)) ↦ subst (λ (l : List Literal). IsIn l literal) (sym is) (inr (put_has literal xs))
]

pub put_keeps : (literal : Literal) (xs : List Literal) (other : Literal) → IsIn xs other → IsIn (put literal xs) other
unfolding put_case
put_keeps literal [] other h = absurd h
put_keeps literal (x ∷ xs) other h = elim (put_cases literal x xs) [
  | inl (same, is) ↦ subst (λ (l : List Literal). IsIn l other) (sym is) h
  | inr (inl (less, is)) ↦ subst (λ (l : List Literal). IsIn l other) (sym is) (inr h)
  | inr (inr (more, is)) ↦ subst (λ (l : List Literal). IsIn l other) (sym is) (later (put_keeps literal xs other) h)
]
  where
    later : (IsIn xs other → IsIn (put literal xs) other) → IsIn (x ∷ xs) other → IsIn (x ∷ put literal xs) other
    later keeps (inl e) = inl e
    later keeps (inr more) = inr (keeps more)

pub put_from : (literal : Literal) (xs : List Literal) (other : Literal) → IsIn (put literal xs) other → (literal ≡ other) ⊎ IsIn xs other
unfolding put_case
put_from literal [] other (inl e) = inl e
put_from literal [] other (inr h) = absurd h
put_from literal (x ∷ xs) other h = elim (put_cases literal x xs) [
  | inl (same, is) ↦ inr (subst (λ (l : List Literal). IsIn l other) is h)
  | inr (inl (less, is)) ↦ subst (λ (l : List Literal). IsIn l other) is h
  | inr (inr (more, is)) ↦ later (put_from literal xs other) (subst (λ (l : List Literal). IsIn l other) is h)
]
  where
    later : (IsIn (put literal xs) other → (literal ≡ other) ⊎ IsIn xs other) → IsIn (x ∷ put literal xs) other → (literal ≡ other) ⊎ IsIn (x ∷ xs) other
    later back (inl e) = inr (inl e)
    later back (inr more) = elim (back more) [
      | inl e ↦ inl e
      | inr deep ↦ inr (inr deep)
    ]

put_clause : (literal : Literal) (xs : List Literal) → IsClause xs → IsClause (put literal xs)
unfolding put_case
put_clause literal [] h = tt
put_clause literal (x ∷ xs) h = elim (put_cases literal x xs) [
  | inl (same, is) ↦ subst IsClause (sym is) h
  | inr (inl (less, is)) ↦ subst IsClause (sym is) (before_from_code literal x less, h)
  | inr (inr (more, is)) ↦ subst IsClause (sym is) (clause_cons x (put literal xs) (low more) (put_clause literal xs (clause_rest x xs h)))
]
  where
    low : code x < code literal → IsLow x (put literal xs)
    low more other inside = elim (put_from literal xs other inside) [
      | inl e ↦ subst (λ (l : Literal). code x < code l) e more
      | inr deep ↦ clause_low x xs h other deep
    ]

pub ordered_clause : (xs : List Literal) → IsClause (in_order xs)
ordered_clause [] = tt
ordered_clause (x ∷ xs) = put_clause x (in_order xs) (ordered_clause xs)

pub ordered_has : (xs : List Literal) (literal : Literal) → IsIn xs literal → IsIn (in_order xs) literal
ordered_has [] literal h = absurd h
ordered_has (x ∷ xs) literal (inl e) = subst (IsIn (in_order (x ∷ xs))) e (put_has x (in_order xs))
ordered_has (x ∷ xs) literal (inr h) = put_keeps x (in_order xs) literal (ordered_has xs literal h)

pub ordered_from : (xs : List Literal) (literal : Literal) → IsIn (in_order xs) literal → IsIn xs literal
ordered_from [] literal h = absurd h
ordered_from (x ∷ xs) literal h = elim (put_from x (in_order xs) literal h) [
  | inl e ↦ inl e
  | inr deep ↦ inr (ordered_from xs literal deep)
]
