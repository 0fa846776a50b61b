-- What is kept when a clause comes behind others.
use Rattle.std.proofs.Common.{inl, inr, leb, ◌≡◌, ◌∙◌, ℕ, ◌+◌, ◌<◌, ◌≤◌, Bool, true, false, not, List, [], ◌∷◌, ◌++◌, length, min, nat_lt, Result, Ok, Err, OnOk, refl, sym, ap, subst, arith, length-append, append_assoc, append-nil}
use Rattle.std.proofs.lemmas.Bool.{lt-ltb, le-ltb, lt-leb, le-leb, cases_lt}
use Rattle.std.proofs.lemmas.List.Sums.{sum_by-cons}
use Rattle.std.specs.Prelude.{sum_by}
use Rattle.std.specs.Prelude.{if◌then◌else◌}
use Rattle.cc_defs.specs.ClauseForms.{in_order, is_tautology, written}
use Rattle.cc_defs.specs.Clauses.{Literal}
use Rattle.cc_form.specs.declared.store.Kept.{Kept}
use Rattle.cc_form.specs.Store.{Gives, Holds, IsKept, literal_count_of}

pub counted_together : (clauses : List (List Literal)) → sum_by (λ clause. length clause) clauses ≡ literal_count_of clauses
counted_together [] = refl
counted_together (clause ∷ clauses) = sum_by-cons (λ (c : List Literal). length c) clause clauses ∙ ap (λ (n : ℕ). length clause + n) (counted_together clauses)

pub counted_behind : (xs ys : List (List Literal)) → literal_count_of (xs ++ ys) ≡ literal_count_of xs + literal_count_of ys
counted_behind [] ys = omega arith
counted_behind (x ∷ xs) ys = let more = counted_behind xs ys in omega arith

counted_one : (xs : List (List Literal)) (clause : List Literal) → literal_count_of (xs ++ clause ∷ []) ≡ literal_count_of xs + length clause
counted_one xs clause = let more = counted_behind xs (clause ∷ []) in omega arith

long_one : (xs : List (List Literal)) (clause : List Literal) → length (xs ++ clause ∷ []) ≡ length xs + 1
long_one xs clause = length-append xs (clause ∷ [])

-- ---- parts one behind the other

pub gives_none : (kept : Kept) → Gives kept kept []
gives_none kept = record { each = λ clauses holds. subst (Holds kept) (sym (append-nil clauses)) holds }

pub gives_more : (old between new : Kept) (first second : List (List Literal)) → Gives old between first → Gives between new second → Gives old new (first ++ second)
gives_more old between new first second one other = record {
  each = λ clauses holds. subst (Holds new) (append_assoc clauses first second) (other.each (clauses ++ first) (one.each clauses holds));
}

-- ---- more clauses than their limit stay so

pub gives_full : (kept : Kept) (part : List (List Literal)) → 8000000 < kept.count → Gives kept kept part
gives_full kept part many = record {
  each = λ clauses holds.
      let count = holds.count in
      let long = length-append clauses part in
      record { count = omega arith; within = λ few. absurd (omega arith) };
}

-- ---- one clause more

room_is : (count : ℕ) → not (nat_lt 40000000 count) ≡ true → count ≤ 40000000
room_is count e = elim (cases_lt 40000000 count) [
  | inl less ↦ let is : nat_lt 40000000 count ≡ true = lt-ltb 40000000 count less in absurd (let wrong : not true ≡ true = subst (λ (b : Bool). not b ≡ true) is e in cc)
  | inr most ↦ most
]

no_room : (count : ℕ) → not (nat_lt 40000000 count) ≡ false → 40000000 < count
no_room count e = elim (cases_lt 40000000 count) [
  | inl less ↦ less
  | inr most ↦ let is : nat_lt 40000000 count ≡ false = le-ltb 40000000 count most in absurd (let wrong : not false ≡ false = subst (λ (b : Bool). not b ≡ false) is e in cc)
]

module _ (old : Kept) (clause : List Literal) (few : old.count ≤ 8000000) where
  abbrev one_more : List (List Literal) → Bool → Kept
  one_more arena is_long = record { arena = arena; count = old.count + 1; is_long = is_long }

  counts : (clauses : List (List Literal)) → Holds old clauses → old.count + 1 ≡ min (length (clauses ++ clause ∷ [])) 8000001
  counts clauses holds = let count = holds.count in let long = long_one clauses clause in omega arith

  is_long_still : (is_long : Bool) → is_long ≡ true → (clauses : List (List Literal)) → IsKept is_long old.arena clauses → IsKept is_long old.arena (clauses ++ clause ∷ [])
  is_long_still true e clauses is = let more = counted_one clauses clause in omega arith
  is_long_still false e clauses is = absurd cc

  pub gives_long : old.is_long ≡ true → Gives old (one_more old.arena old.is_long) (clause ∷ [])
  gives_long is_long = record {
    each = λ clauses holds. record { count = counts clauses holds; within = λ more. is_long_still old.is_long is_long clauses (holds.within few) };
  }

  pub gives_many : 8000000 < old.count + 1 → (arena : List (List Literal)) (is_long : Bool) → Gives old (one_more arena is_long) (clause ∷ [])
  gives_many many arena is_long = record { each = λ clauses holds. record { count = counts clauses holds; within = λ more. absurd (omega arith) } }

  kept_whole : (is_long : Bool) → is_long ≡ false → (clauses : List (List Literal)) → IsKept is_long old.arena clauses → (old.arena ≡ clauses) × (literal_count_of clauses ≤ 40000000)
  kept_whole true e clauses is = absurd cc
  kept_whole false e clauses is = is

  pub gives_too_long : old.is_long ≡ false → not (nat_lt 40000000 (literal_count_of old.arena + length clause)) ≡ false → Gives old (one_more old.arena true) (clause ∷ [])
  gives_too_long whole room = record {
    each = λ clauses holds. record {
      count = counts clauses holds;
      within = λ more.
          let kept = kept_whole old.is_long whole clauses (holds.within few) in
          let same : literal_count_of old.arena ≡ literal_count_of clauses = ap literal_count_of kept.0 in
          let above = no_room (literal_count_of old.arena + length clause) room in
          let count = counted_one clauses clause in
          omega arith;
    };
  }

  pub gives_pushed : {T E : Type 0} (result : Result T E) (arena : List (List Literal)) → old.is_long ≡ false → not (nat_lt 40000000 (literal_count_of old.arena + length clause)) ≡ true →
      OnOk result (arena ≡ old.arena ++ clause ∷ []) → OnOk result (Gives old (one_more arena old.is_long) (clause ∷ []))
  gives_pushed (Err e) arena whole room pushed = tt
  gives_pushed (Ok x) arena whole room pushed = record {
    each = λ clauses holds.
        let kept = kept_whole old.is_long whole clauses (holds.within few) in
        record {
          count = counts clauses holds;
          within = λ more. subst (λ (b : Bool). IsKept b arena (clauses ++ clause ∷ [])) (sym whole) (
            pushed ∙ ap (λ (a : List (List Literal)). a ++ clause ∷ []) kept.0,
            (let same : literal_count_of old.arena ≡ literal_count_of clauses = ap literal_count_of kept.0 in
                let below = room_is (literal_count_of old.arena + length clause) room in
                let count = counted_one clauses clause in
                omega arith),
          );
        };
  }

pub room_test : (literals clause most sum : ℕ) → most ≡ 40000000 → sum ≡ min (literals + clause) 18446744073709551615 → leb sum most ≡ not (nat_lt 40000000 (literals + clause))
room_test literals clause most sum is summed = elim (cases_lt 40000000 (literals + clause)) [
  | inl less ↦ let above : most < sum = omega arith in rw (lt-ltb 40000000 (literals + clause) less, lt-leb sum most above) refl
  | inr fits ↦ let below : sum ≤ most = omega arith in rw (le-ltb 40000000 (literals + clause) fits, le-leb sum most below) refl
]

pub gives_nothing_written : (kept : Kept) (staged : List Literal) → is_tautology staged ≡ true → Gives kept kept (written staged)
gives_nothing_written kept staged e = subst (λ (b : Bool). Gives kept kept (if b then [] else in_order staged ∷ [])) (sym e) (gives_none kept)

pub gives_written : {T E : Type 0} (result : Result T E) (old new : Kept) (staged clause : List Literal) → is_tautology staged ≡ false → clause ≡ in_order staged →
    OnOk result (Gives old new (clause ∷ [])) → OnOk result (Gives old new (written staged))
gives_written result old new staged clause e same given = subst (λ (b : Bool). OnOk result (Gives old new (if b then [] else in_order staged ∷ []))) (sym e)
    (subst (λ (l : List Literal). OnOk result (Gives old new (l ∷ []))) same given)
