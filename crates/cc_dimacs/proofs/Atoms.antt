-- Literals of variables as those of atoms, and clauses of them behind others.
use Rattle.std.proofs.Common.{◌≡◌, ◌∙◌, ℕ, zero, suc, ◌+◌, ◌*◌, ◌<◌, ◌≤◌, List, [], ◌∷◌, ◌++◌, map, take, slice_get, Some, refl, sym, ap, subst, arith, append_assoc, append-nil, add-one, IfOk, Result, Ok, Err}
use Rattle.std.specs.List.{AllByRecursion}
use Rattle.std.proofs.lemmas.Bool.{le-ltb, lt-ltb}
use Rattle.std.proofs.lemmas.List.Sums.{sum_by-cons}
use Rattle.cc_defs.specs.declared.refusal.LimitAt.TheVariants as limits
use Rattle.cc_defs.specs.Refusals.{past}
use Rattle.cc_defs.specs.ClauseForms.{all_written, true_variable, written}
use Rattle.cc_defs.specs.ClauseLists.{Asserted}
use Rattle.cc_defs.specs.Sections.{Axioms}
use Rattle.cc_clauses.specs.Tells.{Tells}
use Rattle.cc_form.specs.Building.{count_refusal}
use Rattle.cc_defs.specs.Clauses.{Literal, IsLiteralOver}
use Rattle.cc_form.specs.declared.writer.Writer.{Writer}
use Rattle.cc_form.specs.Drafts.{IsDraft, with_clause}
use Rattle.cc_dimacs.specs.Cnfs.{PlainCnf, AreOver, IsModelOf, atom_of, cnf_axioms, cnf_refusal, sizes_of, twos, with_clauses}
use Rattle.cc_dimacs.proofs.Models.{axioms_tell_models}

two_more : (n : ℕ) → twos n ++ 2 ∷ [] ≡ twos (suc n)
two_more zero = refl
two_more (suc n) = ap (λ (l : List ℕ). 2 ∷ l) (two_more n)

pub twos_more : (n : ℕ) → twos n ++ 2 ∷ [] ≡ twos (n + 1)
twos_more n = rw add-one (two_more n)

-- as many as the values of the positions, and T
pub twos_true : (n : ℕ) → true_variable (twos n) ≡ 2 * n + 1
twos_true zero = refl
twos_true (suc n) = let more = twos_true n in let sum = sum_by-cons (λ (k : ℕ). k) 2 (twos n) in omega arith

-- ---- literals

pub atoms_over : (variables top : ℕ) (clause : List Literal) → top ≡ 2 * variables + 1 → AllByRecursion (IsLiteralOver variables) clause → AllByRecursion (IsLiteralOver top) (map atom_of clause)
atoms_over variables top [] is over = tt
atoms_over variables top (x ∷ clause) is over = (((let h = over.0.0 in omega arith), (let h = over.0.1 in omega arith)), atoms_over variables top clause is over.1)

-- ---- clauses

own : {X : Type 0} {x y : X} → Some x ≡ Some y → x ≡ y
own e = cc

pub clause_at : (variables : ℕ) (clauses : List (List Literal)) (i : ℕ) (clause : List Literal) → AreOver variables clauses → slice_get clauses i ≡ Some clause → AllByRecursion (IsLiteralOver variables) clause
clause_at variables [] i clause over is = absurd cc
clause_at variables (c ∷ clauses) zero clause over is = subst (AllByRecursion (IsLiteralOver variables)) (own is) over.0
clause_at variables (c ∷ clauses) (suc i) clause over is = clause_at variables clauses i clause over.1 is

nil : (l : List (List Literal)) → l ++ [] ≡ l
nil l = append-nil l

taken_next : (clauses : List (List Literal)) (i : ℕ) (clause : List Literal) → slice_get clauses i ≡ Some clause →
    all_written (map (map atom_of) (take (suc i) clauses)) ≡ all_written (map (map atom_of) (take i clauses)) ++ written (map atom_of clause)
taken_next [] i clause is = absurd cc
taken_next (c ∷ clauses) zero clause is = ap (λ (x : List Literal). written (map atom_of x) ++ []) (own is) ∙ nil (written (map atom_of clause))
taken_next (c ∷ clauses) (suc i) clause is =
    ap (λ (l : List (List Literal)). written (map atom_of c) ++ l) (taken_next clauses i clause is)
    ∙ sym (append_assoc (written (map atom_of c)) (all_written (map (map atom_of) (take i clauses))) (written (map atom_of clause)))

taken_more : (clauses : List (List Literal)) (i : ℕ) (clause : List Literal) → slice_get clauses i ≡ Some clause →
    all_written (map (map atom_of) (take (i + 1) clauses)) ≡ all_written (map (map atom_of) (take i clauses)) ++ written (map atom_of clause)
taken_more clauses i clause is = rw add-one (taken_next clauses i clause is)

with_more : (made : Asserted) (clauses : List (List Literal)) (i : ℕ) (clause : List Literal) → slice_get clauses i ≡ Some clause →
    with_clause (with_clauses made (take i clauses)) (map atom_of clause) ≡ with_clauses made (take (i + 1) clauses)
with_more made clauses i clause is =
    ap (λ (l : List (List Literal)). let a : Asserted = record { last = made.last; clauses = l } in a)
    (append_assoc made.clauses (all_written (map (map atom_of) (take i clauses))) (written (map atom_of clause))
    ∙ ap (λ (l : List (List Literal)). made.clauses ++ l) (sym (taken_more clauses i clause is)))

-- a draft, with the first of the clauses behind it
abbrev pub IsWithFirst : Writer → Writer → List (List Literal) → ℕ → Type 0
IsWithFirst old new clauses count = (sizes : List ℕ) (made : Asserted) → IsDraft sizes old made → IsDraft sizes new (with_clauses made (take count clauses))

pub one_more : (old between new : Writer) (clauses : List (List Literal)) (i : ℕ) (clause atoms : List Literal) → slice_get clauses i ≡ Some clause → atoms ≡ map atom_of clause → IsWithFirst old between clauses i →
    ((sizes : List ℕ) (made : Asserted) → IsDraft sizes between made → IsDraft sizes new (with_clause made atoms)) → IsWithFirst old new clauses (i + 1)
one_more old between new clauses i clause atoms at are before step sizes made is =
    subst (IsDraft sizes new) (ap (with_clause (with_clauses made (take i clauses))) are ∙ with_more made clauses i clause at)
    (step sizes (with_clauses made (take i clauses)) (before sizes made is))

-- ---- the whole list

abbrev pub IsBegun : List ℕ → Writer → Type 0
IsBegun sizes draft = IsDraft sizes draft (record { last = true_variable sizes; clauses = [] })

pub told_so : {E : Type 0} (cnf : PlainCnf) (result : Result Axioms E) → AreOver cnf.variables cnf.clauses → IfOk result (λ form. form ≡ cnf_axioms cnf) → IfOk result (λ form. Tells form (IsModelOf cnf))
told_so cnf (Err e) over is = tt
told_so cnf (Ok form) over is = subst (λ (f : Axioms). Tells f (IsModelOf cnf)) (sym is) (axioms_tell_models cnf over)

-- where the variables are within their limit
pub few_refusal : (cnf : PlainCnf) → cnf.variables ≤ 1999999 → cnf_refusal cnf ≡ count_refusal (cnf_axioms cnf).clauses
few_refusal cnf few = let all = twos_true cnf.variables in rw (le-ltb 4000000 (true_variable (sizes_of cnf)) (omega arith)) refl

pub many_refusal : (cnf : PlainCnf) → 1999999 < cnf.variables → cnf_refusal cnf ≡ Some (past limits.Variables)
many_refusal cnf many = let all = twos_true cnf.variables in rw (lt-ltb 4000000 (true_variable (sizes_of cnf)) (omega arith)) refl
