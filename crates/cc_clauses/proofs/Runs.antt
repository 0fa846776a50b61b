-- A run that lies below the head of the other list goes into a merge as it is, and a search by halves finds such runs.
use Rattle.std.proofs.Common.{◌≡◌, ◌∙◌, ℕ, ◌<◌, ◌≤◌, inl, inr, zero, suc, List, [], ◌∷◌, ◌++◌, length, get_or, take, drop, refl, sym, subst, ap, arith}
use Rattle.std.specs.Ordering.{nat_cmp}
use Rattle.std.specs.declared.cmp.Ordering.TheVariants.{Greater}
use Rattle.std.proofs.lemmas.List.{take-append-drop}
use Rattle.cc_defs.specs.Clauses.{Literal, IsClause, IsIn}
use Rattle.cc_clauses.specs.Merging.{code, merge}
use Rattle.cc_clauses.proofs.Literals.{among, IsLow, clause_low, clause_rest}
use Rattle.cc_clauses.proofs.Orders.{less, equal, greater}

-- each of the run comes before the literal
abbrev pub IsRun : List Literal → Literal → Type 0
IsRun run x = (y : Literal) → IsIn run y → code y < code x

pub merge_run : (x : Literal) (xs run rest : List Literal) → IsRun run x → merge (x ∷ xs) (run ++ rest) ≡ run ++ merge (x ∷ xs) rest
merge_run x xs [] rest low = refl
merge_run x xs (y ∷ run) rest low =
    let above : nat_cmp (code x) (code y) ≡ Greater = greater (code x) (code y) (low y (inl refl)) in
    let more : merge (x ∷ xs) (run ++ rest) ≡ run ++ merge (x ∷ xs) rest = merge_run x xs run rest (λ z c. low z (inr c)) in
    rw above (ap (λ (zs : List Literal). y ∷ zs) more)

merge_below : (x : Literal) (xs rest : List Literal) → IsLow x rest → merge (x ∷ xs) rest ≡ x ∷ merge xs rest
merge_below x xs [] low = refl
merge_below x xs (y ∷ ys) low = rw (less (code x) (code y) (low y (inl refl))) refl

merge_same : (x : Literal) (xs rest : List Literal) → merge (x ∷ xs) (x ∷ rest) ≡ x ∷ merge xs rest
merge_same x xs rest = rw (equal (code x)) refl

pub clause_drop : (n : ℕ) (xs : List Literal) → IsClause xs → IsClause (drop n xs)
clause_drop zero xs h = h
clause_drop (suc n) [] h = h
clause_drop (suc n) (x ∷ xs) h = clause_drop n xs (clause_rest x xs h)

module _ (literal : Literal) where
  run_from : (clause : List Literal) (i : ℕ) → ((k : ℕ) → k < i → code (get_or clause k literal) < code literal) → IsRun (take i clause) literal
  run_from clause zero each y c = absurd c
  run_from [] (suc i) each y c = absurd c
  run_from (x ∷ xs) (suc i) each y (inl is) = subst (λ (z : Literal). code z < code literal) is (each zero (omega arith))
  run_from (x ∷ xs) (suc i) each y (inr later) = run_from xs i (λ k h. each (suc k) (omega arith)) y later

  low_whole : (clause : List Literal) → ((k : ℕ) → k < length clause → code literal < code (get_or clause k literal)) → IsLow literal clause
  low_whole [] each y c = absurd c
  low_whole (x ∷ xs) each y (inl is) = subst (λ (z : Literal). code literal < code z) is (each zero (omega arith))
  low_whole (x ∷ xs) each y (inr later) = low_whole xs (λ k h. each (suc k) (omega arith)) y later

  low_from : (clause : List Literal) (i : ℕ) → ((k : ℕ) → i ≤ k → k < length clause → code literal < code (get_or clause k literal)) → IsLow literal (drop i clause)
  low_from clause zero each y c = low_whole clause (λ k h. each k (omega arith) h) y c
  low_from [] (suc i) each y c = absurd c
  low_from (x ∷ xs) (suc i) each y c = low_from xs i (λ k h b. each (suc k) (omega arith) (omega arith)) y c

  found_parts : (clause : List Literal) (i : ℕ) → IsClause clause → i < length clause → get_or clause i literal ≡ literal →
      (clause ≡ take i clause ++ literal ∷ drop (suc i) clause) × IsRun (take i clause) literal
  found_parts [] i h below is = absurd (omega arith)
  found_parts (x ∷ xs) zero h below is = (ap (λ (z : Literal). z ∷ xs) is, (λ y c. absurd c))
  found_parts (x ∷ xs) (suc i) h below is =
      let within : i < length xs = omega arith in
      let rest = found_parts xs i (clause_rest x xs h) within is in (
        ap (λ (zs : List Literal). x ∷ zs) (rest.0),
        (λ y c. elim c [
          | inl same ↦ subst (λ (z : Literal). code z < code literal) same (clause_low x xs h literal (among xs literal (i, within, is)))
          | inr later ↦ rest.1 y later
        ]),
      )

  pub merge_found : (clause : List Literal) (i : ℕ) → IsClause clause → i < length clause → get_or clause i literal ≡ literal →
      (others : List Literal) → merge (literal ∷ others) clause ≡ take i clause ++ literal ∷ merge others (drop (suc i) clause)
  merge_found clause i h below is others =
      let parts = found_parts clause i h below is in
      ap (λ (zs : List Literal). merge (literal ∷ others) zs) (parts.0) ∙
      merge_run literal others (take i clause) (literal ∷ drop (suc i) clause) (parts.1) ∙
      ap (λ (zs : List Literal). take i clause ++ zs) (merge_same literal others (drop (suc i) clause))

  pub merge_missed : (clause : List Literal) (i : ℕ) → ((k : ℕ) → k < i → code (get_or clause k literal) < code literal) →
      ((k : ℕ) → i ≤ k → k < length clause → code literal < code (get_or clause k literal)) →
      (others : List Literal) → merge (literal ∷ others) clause ≡ take i clause ++ literal ∷ merge others (drop i clause)
  merge_missed clause i before behind others =
      ap (λ (zs : List Literal). merge (literal ∷ others) zs) (sym (take-append-drop i clause)) ∙
      merge_run literal others (take i clause) (drop i clause) (run_from clause i before) ∙
      ap (λ (zs : List Literal). take i clause ++ zs) (merge_below literal others (drop i clause) (low_from clause i behind))
