-- The text of a clause list, piece by piece.
use Rattle.std.proofs.Common.{◌≡◌, ◌∙◌, ℕ, zero, suc, ◌+◌, ◌-◌, List, [], ◌∷◌, ◌++◌, codes, drop, flat_map, slice_get, Some, sym, ap, subst, arith, append_assoc, add-one}
use Rattle.cc_defs.specs.Clauses.{Literal}
use Rattle.cc_dimacs.specs.CnfTexts.{clause_line}

pub heading_as : (old horizon variables count one two three four five six : List ℕ) → one ≡ old ++ codes "c ccalc horizon " → two ≡ one ++ horizon → three ≡ two ++ codes "\np cnf " → four ≡ three ++ variables →
    five ≡ four ++ codes " " → six ≡ five ++ count →
    six ++ 10 ∷ [] ≡ old ++ (codes "c ccalc horizon " ++ horizon ++ 10 ∷ [] ++ codes "p cnf " ++ variables ++ codes " " ++ count ++ 10 ∷ [])
heading_as old horizon variables count one two three four five six a b c d e f =
    rw (f, e, d, c, b, a) (simp append_assoc)

line_left : (clauses : List (List Literal)) (i : ℕ) (clause : List Literal) → slice_get clauses i ≡ Some clause → flat_map clause_line (drop i clauses) ≡ clause_line clause ++ flat_map clause_line (drop (suc i) clauses)
line_left [] i clause is = absurd cc
line_left (c ∷ clauses) zero clause is = let same : c ≡ clause = cc in ap (λ (x : List Literal). clause_line x ++ flat_map clause_line clauses) same
line_left (c ∷ clauses) (suc i) clause is = line_left clauses i clause is

pub one_line : (clauses : List (List Literal)) (i : ℕ) (clause : List Literal) (old new whole : List ℕ) → slice_get clauses (i + 1 - 1) ≡ Some clause → old ++ flat_map clause_line (drop i clauses) ≡ whole → new ≡ old ++ clause_line clause →
    new ++ flat_map clause_line (drop (i + 1) clauses) ≡ whole
one_line clauses i clause old new whole at so_far is =
    let same : i + 1 - 1 ≡ i = omega arith in
    let left = line_left clauses i clause (subst (λ (k : ℕ). slice_get clauses k ≡ Some clause) same at) in
    ap (λ (t : List ℕ). t ++ flat_map clause_line (drop (i + 1) clauses)) is ∙ append_assoc old (clause_line clause) (flat_map clause_line (drop (i + 1) clauses))
    ∙ ap (λ (k : ℕ). old ++ (clause_line clause ++ flat_map clause_line (drop k clauses))) (add-one i)
    ∙ ap (λ (t : List ℕ). old ++ t) (sym left) ∙ so_far
