-- What two clauses have on lower variables and on higher ones, merged, is their resolvent.
use Rattle.std.proofs.Common.{◌≡◌, ℕ, ◌<◌, ◌⊎◌, inl, inr, List, [], ◌∷◌, ◌++◌, Result, Ok, Err, refl, arith}
use Rattle.std.specs.Prelude.{◌≢◌, OnOk}
use Rattle.std.specs.List.{Contains}
use Rattle.std.proofs.lemmas.Bool.{cases_order, lt-ltb}
use borrow.Author.Tests.{ltb-true}
use Rattle.cc_defs.specs.Clauses.{Literal, IsClause, Clash, IsResolvent, IsIn}
use Rattle.cc_clauses.specs.Merging.{code, merge, lower, higher, is_lower, is_higher, resolvent}
use Rattle.cc_clauses.proofs.Literals.{among, contained, IsLow, clause_low, clause_rest, clause_cons, less_code}
use Rattle.cc_clauses.proofs.Merges.{IsUnion, merge_union, filter_among, among_filter, filter_clause}

pub among_append : (xs ys : List Literal) (literal : Literal) → IsIn (xs ++ ys) literal → IsIn xs literal ⊎ IsIn ys literal
among_append [] ys literal h = inr h
among_append (x ∷ xs) ys literal (inl is) = inl (inl is)
among_append (x ∷ xs) ys literal (inr later) = elim (among_append xs ys literal later) [ inl of_xs ↦ inl (inr of_xs) | inr of_ys ↦ inr of_ys ]

pub among_front : (xs ys : List Literal) (literal : Literal) → IsIn xs literal → IsIn (xs ++ ys) literal
among_front [] ys literal h = absurd h
among_front (x ∷ xs) ys literal (inl is) = inl is
among_front (x ∷ xs) ys literal (inr later) = inr (among_front xs ys literal later)

pub among_back : (xs ys : List Literal) (literal : Literal) → IsIn ys literal → IsIn (xs ++ ys) literal
among_back [] ys literal h = h
among_back (x ∷ xs) ys literal h = inr (among_back xs ys literal h)

below_above : (low high : Literal) (pivot : ℕ) → low.variable < pivot → pivot < high.variable → code low < code high
below_above low high pivot below above = less_code low high (inl (omega arith))

-- two clauses of which one lies below the other are one
clause_append : (xs ys : List Literal) → IsClause xs → IsClause ys → ((literal : Literal) → IsIn xs literal → IsLow literal ys) → IsClause (xs ++ ys)
clause_append [] ys hx hy low = hy
clause_append (x ∷ xs) ys hx hy low =
    clause_cons x (xs ++ ys)
    (λ literal c. elim (among_append xs ys literal c) [
      | inl of_xs ↦ clause_low x xs hx literal of_xs
      | inr of_ys ↦ low x (inl refl) literal of_ys
    ])
    (clause_append xs ys (clause_rest x xs hx) hy (λ literal c. low literal (inr c)))

module _ (a b : List Literal) (pivot : ℕ) (ha : IsClause a) (hb : IsClause b) where
  low_union : IsUnion (lower pivot a) (lower pivot b) (merge (lower pivot a) (lower pivot b))
  low_union = merge_union (lower pivot a) (lower pivot b) (filter_clause (is_lower pivot) a ha) (filter_clause (is_lower pivot) b hb)

  high_union : IsUnion (higher pivot a) (higher pivot b) (merge (higher pivot a) (higher pivot b))
  high_union = merge_union (higher pivot a) (higher pivot b) (filter_clause (is_higher pivot) a ha) (filter_clause (is_higher pivot) b hb)

  from_low : (literal : Literal) → IsIn (merge (lower pivot a) (lower pivot b)) literal → (IsIn a literal ⊎ IsIn b literal) × (literal.variable < pivot)
  from_low literal c = elim (low_union.among literal c) [
    | inl of_a ↦ let kept = filter_among (is_lower pivot) a literal of_a in (inl (kept.0), ltb-true literal.variable pivot kept.1)
    | inr of_b ↦ let kept = filter_among (is_lower pivot) b literal of_b in (inr (kept.0), ltb-true literal.variable pivot kept.1)
  ]

  from_high : (literal : Literal) → IsIn (merge (higher pivot a) (higher pivot b)) literal → (IsIn a literal ⊎ IsIn b literal) × (pivot < literal.variable)
  from_high literal c = elim (high_union.among literal c) [
    | inl of_a ↦ let kept = filter_among (is_higher pivot) a literal of_a in (inl (kept.0), ltb-true pivot literal.variable kept.1)
    | inr of_b ↦ let kept = filter_among (is_higher pivot) b literal of_b in (inr (kept.0), ltb-true pivot literal.variable kept.1)
  ]

  to_low : (literal : Literal) → IsIn a literal ⊎ IsIn b literal → literal.variable < pivot → IsIn (merge (lower pivot a) (lower pivot b)) literal
  to_low literal (inl of_a) less = low_union.left literal (among_filter (is_lower pivot) a literal of_a (lt-ltb literal.variable pivot less))
  to_low literal (inr of_b) less = low_union.right literal (among_filter (is_lower pivot) b literal of_b (lt-ltb literal.variable pivot less))

  to_high : (literal : Literal) → IsIn a literal ⊎ IsIn b literal → pivot < literal.variable → IsIn (merge (higher pivot a) (higher pivot b)) literal
  to_high literal (inl of_a) less = high_union.left literal (among_filter (is_higher pivot) a literal of_a (lt-ltb pivot literal.variable less))
  to_high literal (inr of_b) less = high_union.right literal (among_filter (is_higher pivot) b literal of_b (lt-ltb pivot literal.variable less))

  among_resolvent : (literal : Literal) → IsIn a literal ⊎ IsIn b literal → literal.variable ≢ pivot → IsIn (resolvent a b pivot) literal
  among_resolvent literal either differs = elim (cases_order literal.variable pivot) [
    | inl same ↦ absurd (differs same)
    | inr (inl below) ↦ among_front (merge (lower pivot a) (lower pivot b)) (merge (higher pivot a) (higher pivot b)) literal (to_low literal either below)
    | inr (inr above) ↦ among_back (merge (lower pivot a) (lower pivot b)) (merge (higher pivot a) (higher pivot b)) literal (to_high literal either above)
  ]

  among_parents : (literal : Literal) → IsIn (resolvent a b pivot) literal → (IsIn a literal ⊎ IsIn b literal) × (literal.variable ≢ pivot)
  among_parents literal c = elim (among_append (merge (lower pivot a) (lower pivot b)) (merge (higher pivot a) (higher pivot b)) literal c) [
    | inl low ↦ let found = from_low literal low in (found.0, (λ same. let less = found.1 in absurd (omega arith)))
    | inr high ↦ let found = from_high literal high in (found.0, (λ same. let less = found.1 in absurd (omega arith)))
  ]

  ascends : IsClause (resolvent a b pivot)
  ascends = clause_append (merge (lower pivot a) (lower pivot b)) (merge (higher pivot a) (higher pivot b)) low_union.clause high_union.clause
      (λ low c high d. below_above low high pivot ((from_low low c).1) ((from_high high d).1))

  where_contained : (literal : Literal) → IsIn a literal ⊎ IsIn b literal → Contains a literal ⊎ Contains b literal
  where_contained literal (inl of_a) = inl (contained a literal of_a)
  where_contained literal (inr of_b) = inr (contained b literal of_b)

  where_among : (literal : Literal) → Contains a literal ⊎ Contains b literal → IsIn a literal ⊎ IsIn b literal
  where_among literal (inl of_a) = inl (among a literal of_a)
  where_among literal (inr of_b) = inr (among b literal of_b)

  pub resolvent_is : Clash a b pivot → IsResolvent a b pivot (resolvent a b pivot)
  resolvent_is clash = record {
    clash = clash;
    clause = ascends;
    members = λ literal. (
      (λ c.
          let found = among_parents literal (among (resolvent a b pivot) literal c) in
          (where_contained literal (found.0), found.1)),
      (λ h. contained (resolvent a b pivot) literal (among_resolvent literal (where_among literal (h.0)) (h.1))),
    );
  }

  -- what both parts leave, one after the other, in a list that was empty
  pub written_resolvent : Clash a b pivot → {E : Type 0} (result : Result (Unit {0}) E) (none half whole : List Literal)
      (low_a low_b high_a high_b : List Literal) → none ≡ [] → half ≡ none ++ merge low_a low_b → OnOk result (whole ≡ half ++ merge high_a high_b) →
      low_a ≡ lower pivot a → low_b ≡ lower pivot b → high_a ≡ higher pivot a → high_b ≡ higher pivot b → OnOk result (IsResolvent a b pivot whole)
  written_resolvent clash (Ok done) none half whole low_a low_b high_a high_b none_is half_is whole_is la lb ka kb =
      rw (whole_is, half_is, none_is, la, lb, ka, kb) (resolvent_is clash)
  written_resolvent clash (Err fault) none half whole low_a low_b high_a high_b none_is half_is whole_is la lb ka kb = tt
