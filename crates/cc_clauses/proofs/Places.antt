-- The clauses between the places of an arena: reading one, and adding one.
use Rattle.std.proofs.Common.{◌≡◌, ℕ, ◌+◌, ◌<◌, ◌≤◌, zero, suc, List, [], ◌∷◌, ◌++◌, length, get_or, Some, refl, ap, sym, ◌∙◌, arith, length-append}
use Rattle.std.specs.Prelude.{slice_get, slice_range, sum_by}
use Rattle.std.proofs.lemmas.List.Sums.{sum_by-cons}
use Rattle.std.proofs.lemmas.Grind.{common_steps}
use Rattle.cc_defs.specs.Clauses.{Literal}
use Rattle.cc_clauses.specs.Parts.{AreEnds, clauses_between}

range_kept : {A : Type 0} (xs ys : List A) (i j : ℕ) → i ≤ j → j ≤ length xs → slice_range (xs ++ ys) i j ≡ slice_range xs i j
range_kept xs ys i j low high = grind (arith, common_steps)

range_last : {A : Type 0} (xs ys : List A) → slice_range (xs ++ ys) (length xs) (length (xs ++ ys)) ≡ ys
range_last xs ys = grind (arith, common_steps)

length_range : {A : Type 0} (xs : List A) (i j : ℕ) → i ≤ j → j ≤ length xs → length (slice_range xs i j) + i ≡ j
length_range xs i j low high = grind (arith, common_steps)

pub ends_rise : (start : ℕ) (ends : List ℕ) (last : ℕ) → AreEnds start ends last → start ≤ last
ends_rise start [] last h = omega arith
ends_rise start (end ∷ ends) last h = let more : end ≤ last = ends_rise end ends last h.1 in omega arith

pub ends_push : (start : ℕ) (ends : List ℕ) (last next : ℕ) → AreEnds start ends last → last ≤ next → AreEnds start (ends ++ next ∷ []) next
ends_push start [] last next h more = ((omega arith), refl)
ends_push start (end ∷ ends) last next h more = (h.0, ends_push end ends last next h.1 more)

pub length_of_clauses : (all : List Literal) (start : ℕ) (ends : List ℕ) → length (clauses_between all start ends) ≡ length ends
length_of_clauses all start [] = refl
length_of_clauses all start (end ∷ ends) = let rest = length_of_clauses all end ends in omega arith

pub literals_together : (all : List Literal) (start : ℕ) (ends : List ℕ) → AreEnds start ends (length all) →
    sum_by (λ clause. length clause) (clauses_between all start ends) + start ≡ length all
literals_together all start [] h = omega arith
literals_together all start (end ∷ ends) h =
    let rest = literals_together all end ends h.1 in
    let here = length_range all start end h.0 (ends_rise end ends (length all) h.1) in
    let together : sum_by (λ clause. length clause) (clauses_between all start (end ∷ ends)) ≡
    length (slice_range all start end) + sum_by (λ clause. length clause) (clauses_between all end ends) =
    sum_by-cons (λ (clause : List Literal). length clause) (slice_range all start end) (clauses_between all end ends) in
    omega arith

pub clauses_push : (all clause : List Literal) (start : ℕ) (ends : List ℕ) → AreEnds start ends (length all) →
    clauses_between (all ++ clause) start (ends ++ length (all ++ clause) ∷ []) ≡ clauses_between all start ends ++ clause ∷ []
clauses_push all clause start [] h = rw h (ap (λ (c : List Literal). c ∷ []) (range_last all clause))
clauses_push all clause start (end ∷ ends) h =
    let first = range_kept all clause start end h.0 (ends_rise end ends (length all) h.1) in
    let rest = clauses_push all clause end ends h.1 in
    cc

pub place_bounds : (start : ℕ) (ends : List ℕ) (last k d : ℕ) → AreEnds start ends last → k < length ends →
    (get_or (start ∷ ends) k d ≤ get_or ends k d) × (get_or ends k d ≤ last)
place_bounds start [] last k d h below = absurd (omega arith)
place_bounds start (end ∷ ends) last zero d h below = (h.0, ends_rise end ends last h.1)
place_bounds start (end ∷ ends) last (suc k) d h below = place_bounds end ends last k d h.1 (omega arith)

pub clause_between : (all : List Literal) (start : ℕ) (ends : List ℕ) (k d : ℕ) → k < length ends →
    slice_get (clauses_between all start ends) k ≡ Some (slice_range all (get_or (start ∷ ends) k d) (get_or ends k d))
clause_between all start [] k d below = absurd (omega arith)
clause_between all start (end ∷ ends) zero d below = refl
clause_between all start (end ∷ ends) (suc k) d below = clause_between all end ends k d (omega arith)

module _ (all clause now : List Literal) (ends ends_now : List ℕ) (end : ℕ) (inside : AreEnds 0 ends (length all)) (now_is : now ≡ all ++ clause)
    (ends_are : ends_now ≡ ends ++ end ∷ []) (end_is : end ≡ length all + length clause) where
  ends_there : end ≡ length now
  ends_there = end_is ∙ sym (ap length now_is ∙ length-append all clause)

  pub pushed_ends : AreEnds 0 ends_now (length now)
  pushed_ends =
      let longer : length all ≤ length now = omega (arith, ap length now_is, length-append all clause) in
      rw (ends_are, ends_there) (ends_push 0 ends (length all) (length now) inside longer)

  pub pushed_clauses : clauses_between now 0 ends_now ≡ clauses_between all 0 ends ++ clause ∷ []
  pushed_clauses = rw (ends_are, ends_there, now_is) (clauses_push all clause 0 ends inside)
