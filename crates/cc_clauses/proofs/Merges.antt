-- A merge has the members of both lists, and ascends.
use Rattle.std.proofs.Common.{◌≡◌, ◌∙◌, ℕ, ◌<◌, ◌⊎◌, inl, inr, Bool, true, false, cond, List, [], ◌∷◌, refl, sym, subst, ap, arith}
use Rattle.std.specs.List.{filter}
use Rattle.std.specs.Ordering.{nat_cmp}
use Rattle.std.proofs.lemmas.Bool.{cases_order, cond_both, lt-ltb, le-ltb, eq-eqb, ne_eqb}
use Rattle.cc_defs.specs.Clauses.{Literal, IsClause, IsIn}
use Rattle.cc_clauses.specs.Merging.{code, by_order, weave, merge}
use Rattle.cc_clauses.proofs.Literals.{IsLow, clause_low, clause_rest, clause_cons, same_from_code, same_members}

pub record IsUnion (xs ys zs : List Literal) : Type 0 where
  pub clause : IsClause zs
  pub among : (literal : Literal) → IsIn zs literal → IsIn xs literal ⊎ IsIn ys literal
  pub left : (literal : Literal) → IsIn xs literal → IsIn zs literal
  pub right : (literal : Literal) → IsIn ys literal → IsIn zs literal

swapped : {A B : Type 0} → A ⊎ B → B ⊎ A
swapped (inl a) = inr a
swapped (inr b) = inl b

swap_union : (xs ys zs : List Literal) → IsUnion xs ys zs → IsUnion ys xs zs
swap_union xs ys zs h = record { clause = h.clause; among = λ literal c. swapped (h.among literal c); left = h.right; right = h.left }

take_left : (x : Literal) (xs ys zs : List Literal) → IsLow x xs → IsLow x ys → IsUnion xs ys zs → IsUnion (x ∷ xs) ys (x ∷ zs)
take_left x xs ys zs low_xs low_ys h = record {
  clause = clause_cons x zs
      (λ literal c. elim (h.among literal c) [ inl of_xs ↦ low_xs literal of_xs | inr of_ys ↦ low_ys literal of_ys ]) h.clause;
  among = λ literal c. elim c [ inl is ↦ inl (inl is) | inr later ↦ elim (h.among literal later) [ inl of_xs ↦ inl (inr of_xs) | inr of_ys ↦ inr of_ys ] ];
  left = λ literal c. elim c [ inl is ↦ inl is | inr later ↦ inr (h.left literal later) ];
  right = λ literal c. inr (h.right literal c);
}

take_both : (x y : Literal) (xs ys zs : List Literal) → x ≡ y → IsLow x xs → IsLow x ys → IsUnion xs ys zs →
    IsUnion (x ∷ xs) (y ∷ ys) (x ∷ zs)
take_both x y xs ys zs same low_xs low_ys h =
    let more = take_left x xs ys zs low_xs low_ys h in
    record {
      clause = more.clause;
      among = λ literal c. elim (more.among literal c) [ inl of_xs ↦ inl of_xs | inr of_ys ↦ inr (inr of_ys) ];
      left = more.left;
      right = λ literal c. elim c [ inl is ↦ inl (same ∙ is) | inr later ↦ more.right literal later ];
    }

low_from : (x y : Literal) (ys : List Literal) → code x < code y → IsClause (y ∷ ys) → IsLow x (y ∷ ys)
low_from x y ys less h literal (inl is) = subst (λ (z : Literal). code x < code z) is less
low_from x y ys less h literal (inr later) =
    let more : code y < code literal = clause_low y ys h literal later in
    omega arith

order_cases : (P : List Literal → Type 0) (m n : ℕ) (less equal greater : List Literal) → (m < n → P less) →
    (m ≡ n → P equal) → (n < m → P greater) → P (by_order (nat_cmp m n) less equal greater)
order_cases P m n less equal greater on_less on_equal on_greater = elim (cases_order m n) [
  | inl same ↦ rw (le-ltb m n (omega arith), eq-eqb m n same) (on_equal same)
  | inr (inl below) ↦ rw (lt-ltb m n below) (on_less below)
  | inr (inr above) ↦ rw (le-ltb m n (omega arith), ne_eqb m n (λ same. omega arith)) (on_greater above)
]

weave_union : (x : Literal) (rest : List Literal → List Literal) (xs : List Literal) → IsClause (x ∷ xs) →
    ((ys : List Literal) → IsClause ys → IsUnion xs ys (rest ys)) →
    (ys : List Literal) → IsClause ys → IsUnion (x ∷ xs) ys (weave x rest ys)
weave_union x rest xs hx each [] hy = take_left x xs [] (rest []) (clause_low x xs hx) (λ literal c. absurd c) (each [] tt)
weave_union x rest xs hx each (y ∷ ys) hy =
    order_cases (IsUnion (x ∷ xs) (y ∷ ys)) (code x) (code y) (x ∷ rest (y ∷ ys)) (x ∷ rest ys) (y ∷ weave x rest ys)
    (λ less. take_left x xs (y ∷ ys) (rest (y ∷ ys)) (clause_low x xs hx) (low_from x y ys less hy) (each (y ∷ ys) hy))
    (λ tie.
    let same : x ≡ y = same_from_code x y tie in
    take_both x y xs ys (rest ys) same (clause_low x xs hx) (subst (λ (z : Literal). IsLow z ys) (sym same) (clause_low y ys hy))
    (each ys (clause_rest y ys hy)))
    (λ above. swap_union (y ∷ ys) (x ∷ xs) (y ∷ weave x rest ys)
    (take_left y ys (x ∷ xs) (weave x rest ys) (clause_low y ys hy) (low_from y x xs above hx)
    (swap_union (x ∷ xs) ys (weave x rest ys) (weave_union x rest xs hx each ys (clause_rest y ys hy)))))

pub merge_union : (xs ys : List Literal) → IsClause xs → IsClause ys → IsUnion xs ys (merge xs ys)
merge_union [] ys hx hy = record { clause = hy; among = λ literal c. inr c; left = λ literal c. absurd c; right = λ literal c. c }
merge_union (x ∷ xs) ys hx hy =
    weave_union x (merge xs) xs hx (λ zs hz. merge_union xs zs (clause_rest x xs hx) hz) ys hy

kept_cases : (kept : Bool) (x : Literal) (ys : List Literal) (literal : Literal) → IsIn (cond kept (x ∷ ys) ys) literal →
    ((x ≡ literal) × (kept ≡ true)) ⊎ IsIn ys literal
kept_cases true x ys literal (inl is) = inl (is, refl)
kept_cases true x ys literal (inr later) = inr later
kept_cases false x ys literal later = inr later

module _ (p : Literal → Bool) where
  pub filter_among : (xs : List Literal) (literal : Literal) → IsIn (filter p xs) literal → IsIn xs literal × (p literal ≡ true)
  filter_among [] literal h = absurd h
  filter_among (x ∷ xs) literal h = elim (kept_cases (p x) x (filter p xs) literal h) [
    | inl (is, passes) ↦ (inl is, subst (λ (z : Literal). p z ≡ true) is passes)
    | inr later ↦ let more = filter_among xs literal later in (inr (more.0), more.1)
  ]

  pub among_filter : (xs : List Literal) (literal : Literal) → IsIn xs literal → p literal ≡ true → IsIn (filter p xs) literal
  among_filter [] literal h passes = absurd h
  among_filter (x ∷ xs) literal (inl is) passes =
      let passed : p x ≡ true = ap p is ∙ passes in
      rw passed (inl is)
  among_filter (x ∷ xs) literal (inr later) passes =
      let more = among_filter xs literal later passes in
      cond_both (p x) (x ∷ filter p xs) (filter p xs) (λ ys. IsIn ys literal) (λ _. inr more) (λ _. more)

  pub filter_clause : (xs : List Literal) → IsClause xs → IsClause (filter p xs)
  filter_clause [] h = tt
  filter_clause (x ∷ xs) h =
      let more = filter_clause xs (clause_rest x xs h) in
      cond_both (p x) (x ∷ filter p xs) (filter p xs) IsClause
      (λ _. clause_cons x (filter p xs) (λ literal c. clause_low x xs h literal ((filter_among xs literal c).0)) more) (λ _. more)

pub merge_commutes : (xs ys : List Literal) → IsClause xs → IsClause ys → merge xs ys ≡ merge ys xs
merge_commutes xs ys hx hy =
    let one = merge_union xs ys hx hy in
    let other = swap_union ys xs (merge ys xs) (merge_union ys xs hy hx) in
    same_members (merge xs ys) (merge ys xs) one.clause other.clause
    (λ literal c. elim (one.among literal c) [ inl of_xs ↦ other.left literal of_xs | inr of_ys ↦ other.right literal of_ys ])
    (λ literal c. elim (other.among literal c) [ inl of_xs ↦ one.left literal of_xs | inr of_ys ↦ one.right literal of_ys ])
