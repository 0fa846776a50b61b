-- Chains of resolution: what they reach stays reached, and follows from the axioms and blocks.
use Rattle.std.proofs.Common.{◌≡◌, ◌∙◌, ℕ, ◌-◌, ◌<◌, ◌≤◌, ◌⊎◌, inl, inr, zero, suc, Bool, true, List, [], ◌∷◌, ◌++◌, length, map, take, Option, Some, None, refl, sym, subst, ap, arith}
use Rattle.std.specs.Prelude.{slice_get, IsTrue, option_map, IfSome}
use Rattle.std.specs.List.{list_all}
use Rattle.std.proofs.lemmas.Bool.{and_parts, and_from, cases_Bool, both_ways}
use Rattle.std.proofs.lemmas.Option.{slice_get-map, slice_get_within, slice_get_cases, MatchOption-at_some, same_Some, none-some}
use Rattle.std.proofs.lemmas.List.{take-append-le, take_all}
use Rattle.std.proofs.Math.Seq.{take-nil}
use Rattle.cc_clauses.specs.Laws.{ResolventsAreSound}
use Rattle.cc_defs.specs.Clauses.{Literal, Follows, IsResolvent, IsNumbered, ReachesFrom, Reaches, meets}
use Rattle.cc_kernel.specs.declared.kernel.Origin.{Origin}
use Rattle.cc_kernel.specs.declared.kernel.Origin.TheVariants as origins
use Rattle.cc_kernel.specs.Kernels.{Entry, AreAxioms, DerivedFollow, is_given, is_given_origin, given_of}

pub get_kept : {A : Type 0} (xs ys : List A) (k : ℕ) (x : A) → slice_get xs k ≡ Some x → slice_get (xs ++ ys) k ≡ Some x
get_kept [] ys k x is = cc
get_kept (y ∷ xs) ys zero x is = is
get_kept (y ∷ xs) ys (suc k) x is = get_kept xs ys k x is

module _ (clauses more : List (List Literal)) where
  pub reaches_from_more : (from : List Literal) (chain : List ℕ) (clause : List Literal) → ReachesFrom clauses from chain clause →
      ReachesFrom (clauses ++ more) from chain clause
  reaches_from_more from [] clause h = h
  reaches_from_more from (pivot ∷ []) clause h = h
  reaches_from_more from (pivot ∷ number ∷ chain) clause (other, next, (some, is), resolvent, rest) =
      (other, next, (some, get_kept clauses more (number - 1) other is), resolvent, reaches_from_more next chain clause rest)

  pub reaches_more : (chain : List ℕ) (clause : List Literal) → Reaches clauses chain clause → Reaches (clauses ++ more) chain clause
  reaches_more [] clause h = h
  reaches_more (number ∷ chain) clause (first, (some, is), rest) =
      (first, (some, get_kept clauses more (number - 1) first is), reaches_from_more first chain clause rest)

module _ (clauses : List (List Literal)) (pivot number : ℕ) (clause other r : List Literal)
    (numbered : IsNumbered clauses number other) (resolvent : IsResolvent clause other pivot r) where
  reaches_from_step : (from : List Literal) (chain : List ℕ) → ReachesFrom clauses from chain clause →
      ReachesFrom clauses from (chain ++ pivot ∷ number ∷ []) r
  reaches_from_step from [] h =
      (other, r, numbered, subst (λ (start : List Literal). IsResolvent start other pivot r) h resolvent, refl)
  reaches_from_step from (first ∷ []) h = absurd h
  reaches_from_step from (first ∷ second ∷ chain) (by, next, is, step, rest) = (by, next, is, step, reaches_from_step next chain rest)

  pub reaches_step : (chain : List ℕ) → Reaches clauses chain clause → Reaches clauses (chain ++ pivot ∷ number ∷ []) r
  reaches_step [] h = absurd h
  reaches_step (start ∷ chain) (first, is, rest) = (first, is, reaches_from_step first chain rest)

module _ (sound : ResolventsAreSound) (assignment : ℕ → Bool) where
  abbrev AreMet : List (List Literal) → Type 0
  AreMet clauses = IsTrue (list_all (meets assignment) clauses)

  -- what is met of an entry and those after it, if it is given and if not
  met_parts : (entry : Entry) (entries : List Entry) → AreMet (given_of (entry ∷ entries)) →
      (is_given entry ≡ true → IsTrue (meets assignment entry.clause)) × AreMet (given_of entries)
  met_parts entry entries met = elim (cases_Bool (is_given entry)) [
    | inl given ↦
        let all : AreMet (entry.clause ∷ given_of entries) = rw given at met in
        let parts = and_parts (meets assignment entry.clause) (list_all (meets assignment) (given_of entries)) all in
        ((λ _. parts.0), parts.1)
    | inr other ↦ ((λ given. absurd (both_ways (is_given entry) other given)), rw other at met)
  ]

  met_cons : (entry : Entry) (entries : List Entry) → (is_given entry ≡ true → IsTrue (meets assignment entry.clause)) →
      AreMet (given_of entries) → AreMet (given_of (entry ∷ entries))
  met_cons entry entries here rest = elim (cases_Bool (is_given entry)) [
    | inl given ↦ rw given (and_from (meets assignment entry.clause) (list_all (meets assignment) (given_of entries)) (here given) rest)
    | inr other ↦ rw other rest
  ]

  met_front : (entries : List Entry) (n : ℕ) → AreMet (given_of entries) → AreMet (given_of (take n entries))
  met_front [] n met = rw (take-nil {A = Entry} n) refl
  met_front (entry ∷ entries) zero met = refl
  met_front (entry ∷ entries) (suc n) met =
      let parts = met_parts entry entries met in
      met_cons entry (take n entries) (parts.0) (met_front entries n (parts.1))

  met_given : (entries : List Entry) (k : ℕ) (entry : Entry) → AreMet (given_of entries) → slice_get entries k ≡ Some entry →
      is_given entry ≡ true → IsTrue (meets assignment entry.clause)
  met_given [] k entry met is given = cc
  met_given (first ∷ entries) zero entry met is given =
      let same : first ≡ entry = cc in
      let here : IsTrue (meets assignment first.clause) = (met_parts first entries met).0 (ap is_given same ∙ given) in
      subst (λ (e : Entry). IsTrue (meets assignment e.clause)) same here
  met_given (first ∷ entries) (suc k) entry met is given = met_given entries k entry (met_parts first entries met).1 is given

  origin_cases : (origin : Origin) → (is_given_origin origin ≡ true) ⊎ (origin ≡ origins.Derived)
  origin_cases origins.Axiom = inl refl
  origin_cases origins.Block = inl refl
  origin_cases origins.Derived = inr refl

  -- each clause is met where the axioms and blocks are
  met_at : (entries : List Entry) (k : ℕ) (entry : Entry) → DerivedFollow entries → AreMet (given_of entries) →
      slice_get entries k ≡ Some entry → IsTrue (meets assignment entry.clause)
  met_at entries k entry follow met is = elim (origin_cases entry.origin) [
    | inl given ↦ met_given entries k entry met is given
    | inr derived ↦
        let by = MatchOption-at_some _ (λ (e : Entry). e.origin ≡ origins.Derived → Follows (given_of (take k entries)) e.clause) entry is
        (follow k (slice_get_within entries k entry is)) in
        by derived assignment (met_front entries k met)
  ]

  -- and each clause by its number
  met_number : (entries : List Entry) (number : ℕ) (clause : List Literal) → DerivedFollow entries → AreMet (given_of entries) →
      IsNumbered (map (λ entry. entry.clause) entries) number clause → IsTrue (meets assignment clause)
  met_number entries number clause follow met (some, is) =
      elim (slice_get_cases entries (number - 1)).1 [
        | inl (entry, below, here, same) ↦
            let clause_is : entry.clause ≡ clause =
            same_Some _ _ (sym (ap (option_map (λ (e : Entry). e.clause)) here) ∙ sym (slice_get-map (λ (e : Entry). e.clause) entries (number - 1)) ∙ is) in
            subst (λ (c : List Literal). IsTrue (meets assignment c)) clause_is (met_at entries (number - 1) entry follow met here)
        | inr (past, none) ↦
            absurd (none-some clause (sym (ap (option_map (λ (e : Entry). e.clause)) none) ∙ sym (slice_get-map (λ (e : Entry). e.clause) entries (number - 1)) ∙ is))
      ]

  met_chain : (clauses : List (List Literal)) → ((number : ℕ) (clause : List Literal) → IsNumbered clauses number clause → IsTrue (meets assignment clause)) →
      (from : List Literal) (chain : List ℕ) (clause : List Literal) → IsTrue (meets assignment from) → ReachesFrom clauses from chain clause → IsTrue (meets assignment clause)
  met_chain clauses each from [] clause met h = subst (λ (c : List Literal). IsTrue (meets assignment c)) (sym h) met
  met_chain clauses each from (pivot ∷ []) clause met h = absurd h
  met_chain clauses each from (pivot ∷ number ∷ chain) clause met (other, next, is, resolvent, rest) =
      met_chain clauses each next chain clause (sound from other pivot next resolvent assignment met (each number other is)) rest

  met_reached : (entries : List Entry) (chain : List ℕ) (clause : List Literal) → DerivedFollow entries → AreMet (given_of entries) →
      Reaches (map (λ entry. entry.clause) entries) chain clause → IsTrue (meets assignment clause)
  met_reached entries [] clause follow met h = absurd h
  met_reached entries (number ∷ chain) clause follow met (first, is, rest) =
      met_chain (map (λ entry. entry.clause) entries) (λ n c numbered. met_number entries n c follow met numbered)
      first chain clause (met_number entries number first follow met is) rest

-- what a chain reaches follows from the axioms and blocks
pub reached_follows : ResolventsAreSound → (entries : List Entry) (chain : List ℕ) (clause : List Literal) → DerivedFollow entries →
    Reaches (map (λ entry. entry.clause) entries) chain clause → Follows (given_of entries) clause
reached_follows sound entries chain clause follow reaches assignment met = met_reached sound assignment entries chain clause follow met reaches

get_push_cases : {A : Type 0} (xs : List A) (x : A) (k : ℕ) (y : A) → slice_get (xs ++ x ∷ []) k ≡ Some y →
    ((slice_get xs k ≡ Some y) × (k < length xs)) ⊎ ((k ≡ length xs) × (x ≡ y))
get_push_cases [] x zero y is = inr (refl, same_Some x y is)
get_push_cases [] x (suc k) y is = absurd (none-some y is)
get_push_cases (z ∷ xs) x zero y is = inl (is, omega arith)
get_push_cases (z ∷ xs) x (suc k) y is = elim (get_push_cases xs x k y is) [
  | inl (here, below) ↦ inl (here, omega arith)
  | inr (last, same) ↦ inr (omega arith, same)
]

IfSome-from : {A : Type 0} (o : Option A) (P : A → Type 0) → ((x : A) → o ≡ Some x → P x) → IfSome o P
IfSome-from None P each = tt
IfSome-from (Some x) P each = each x refl

take_kept : {A : Type 0} (xs : List A) (x : A) (k : ℕ) → k ≤ length xs → take k (xs ++ x ∷ []) ≡ take k xs
take_kept xs x k below = take-append-le k xs (x ∷ []) below

pub follow_push : (entries : List Entry) (entry : Entry) → DerivedFollow entries →
    (entry.origin ≡ origins.Derived → Follows (given_of entries) entry.clause) → DerivedFollow (entries ++ entry ∷ [])
follow_push entries entry follow last k below = IfSome-from (slice_get (entries ++ entry ∷ []) k) _ (λ found is.
    elim (get_push_cases entries entry k found is) [
      | inl (here, within) ↦
          rw (take_kept entries entry k (omega arith))
          (MatchOption-at_some _ (λ (e : Entry). e.origin ≡ origins.Derived → Follows (given_of (take k entries)) e.clause) found here (follow k within))
      | inr (at_end, same) ↦
          λ derived.
          let all : take k (entries ++ entry ∷ []) ≡ entries = take_kept entries entry k (omega arith) ∙ take_all k entries (omega arith) in
          rw all (subst (λ (e : Entry). Follows (given_of entries) e.clause) same (last (ap (λ (e : Entry). e.origin) same ∙ derived)))
    ])

axiom_origin : (entries : List Entry) (k : ℕ) (entry : Entry) → AreAxioms entries → slice_get entries k ≡ Some entry → entry.origin ≡ origins.Axiom
axiom_origin [] k entry h is = cc
axiom_origin (first ∷ entries) zero entry h is = let same : first ≡ entry = cc in subst (λ (e : Entry). e.origin ≡ origins.Axiom) same h.0
axiom_origin (first ∷ entries) (suc k) entry h is = axiom_origin entries k entry h.1 is

not_both : (origin : Origin) → origin ≡ origins.Axiom → origin ≡ origins.Derived → ⊥
not_both origin one other = let same : origins.Axiom ≡ origins.Derived = sym one ∙ other in cc

-- axioms alone have nothing derived
pub none_follows : (entries : List Entry) → AreAxioms entries → DerivedFollow entries
none_follows entries axioms k below = IfSome-from (slice_get entries k) _
    (λ entry is derived. absurd (not_both entry.origin (axiom_origin entries k entry axioms is) derived))
