-- The entries of a kernel: reading one, and adding one.
use Rattle.std.proofs.Common.{◌≡◌, ◌∙◌, ℕ, ◌+◌, ◌-◌, ◌≤◌, zero, suc, List, [], ◌∷◌, ◌++◌, length, map, Option, Some, refl, sym, subst, ap, arith, length-append, add-zero}
use Rattle.std.specs.Prelude.{slice_get, All}
use Rattle.std.proofs.lemmas.List.{length-map}
use Rattle.cc_defs.specs.Clauses.{Literal, IsClause, IsOver}
use Rattle.cc_kernel.specs.declared.kernel.Origin.TheVariants as origins
use Rattle.cc_kernel.specs.declared.kernel.Later.{Later}
use Rattle.cc_kernel.specs.declared.kernel.Later.TheVariants as laters
use Rattle.cc_kernel.specs.Kernels.{Entry, axiom_of, axioms_of, AreClauses, AreAxioms, first_empty, number_if_empty, empty_after}
use Rattle.cc_kernel.specs.Parts.{origin_of, entries_from, entries_of}

pub map_push : {A B : Type 0} (f : A → B) (xs : List A) (x : A) → map f (xs ++ x ∷ []) ≡ map f xs ++ f x ∷ []
map_push f [] x = refl
map_push f (y ∷ ys) x = let rest = map_push f ys x in cc

pub clauses_are : (clauses : List (List Literal)) (axioms : ℕ) (later : List Later) → map (λ (entry : Entry). entry.clause) (entries_from clauses axioms later) ≡ clauses
clauses_are [] axioms later = refl
clauses_are (clause ∷ clauses) (suc axioms) later = ap (λ (rest : List (List Literal)). clause ∷ rest) (clauses_are clauses axioms later)
clauses_are (clause ∷ clauses) zero (first ∷ later) = ap (λ (rest : List (List Literal)). clause ∷ rest) (clauses_are clauses zero later)
clauses_are (clause ∷ clauses) zero [] = ap (λ (rest : List (List Literal)). clause ∷ rest) (clauses_are clauses zero [])

pub length_of_entries : (clauses : List (List Literal)) (later : List Later) → length (entries_of clauses later) ≡ length clauses
length_of_entries clauses later =
    sym (length-map (entries_of clauses later) (λ (entry : Entry). entry.clause)) ∙ ap length (clauses_are clauses (length clauses - length later) later)

from_push : (clauses : List (List Literal)) (axioms : ℕ) (later : List Later) (clause : List Literal) (origin : Later) →
    length clauses ≡ axioms + length later →
    entries_from (clauses ++ clause ∷ []) axioms (later ++ origin ∷ []) ≡
    entries_from clauses axioms later ++ (record { clause = clause; origin = origin_of origin }) ∷ []
from_push [] zero [] clause origin count = refl
from_push [] zero (first ∷ later) clause origin count = absurd (omega arith)
from_push [] (suc axioms) later clause origin count = absurd (omega arith)
from_push (first ∷ clauses) (suc axioms) later clause origin count =
    ap (λ (rest : List Entry). axiom_of first ∷ rest) (from_push clauses axioms later clause origin (omega arith))
from_push (first ∷ clauses) zero (one ∷ later) clause origin count =
    ap (λ (rest : List Entry). (record { clause = first; origin = origin_of one }) ∷ rest) (from_push clauses zero later clause origin (omega arith))
from_push (first ∷ clauses) zero [] clause origin count = absurd (omega arith)

-- one more clause that is no axiom
later_added : (clauses : List (List Literal)) (later : List Later) (clause : List Literal) (origin : Later) → length later ≤ length clauses →
    entries_of (clauses ++ clause ∷ []) (later ++ origin ∷ []) ≡ entries_of clauses later ++ (record { clause = clause; origin = origin_of origin }) ∷ []
later_added clauses later clause origin few =
    let pushed = from_push clauses (length clauses - length later) later clause origin (omega arith) in
    let count : length (clauses ++ clause ∷ []) - length (later ++ origin ∷ []) ≡ length clauses - length later =
    omega (arith, length-append clauses (clause ∷ []), length-append later (origin ∷ [])) in
    ap (λ (n : ℕ). entries_from (clauses ++ clause ∷ []) n (later ++ origin ∷ [])) count ∙ pushed

pub later_entries : (clauses now : List (List Literal)) (later later_now : List Later) (clause : List Literal) (origin : Later) → length later ≤ length clauses →
    now ≡ clauses ++ clause ∷ [] → later_now ≡ later ++ origin ∷ [] →
    (length later_now ≤ length now) × (entries_of now later_now ≡ entries_of clauses later ++ (record { clause = clause; origin = origin_of origin }) ∷ [])
later_entries clauses now later later_now clause origin few now_is later_is = (
  omega (arith, ap length now_is, ap length later_is, length-append clauses (clause ∷ []), length-append later (origin ∷ [])),
  rw (now_is, later_is) (later_added clauses later clause origin few),
)

all_axioms : (clauses : List (List Literal)) (axioms : ℕ) → entries_from clauses axioms [] ≡ axioms_of clauses
all_axioms [] axioms = refl
all_axioms (clause ∷ clauses) (suc axioms) = ap (λ (rest : List Entry). axiom_of clause ∷ rest) (all_axioms clauses axioms)
all_axioms (clause ∷ clauses) zero = ap (λ (rest : List Entry). axiom_of clause ∷ rest) (all_axioms clauses zero)

pub entries_of_axioms : (clauses : List (List Literal)) → entries_of clauses [] ≡ axioms_of clauses
entries_of_axioms clauses = all_axioms clauses (length clauses - 0)

no_axiom : (origin : Later) → origin_of origin ≡ origins.Axiom → ⊥
no_axiom laters.Block h = cc
no_axiom laters.Derived h = cc

from_axioms : (clauses : List (List Literal)) (axioms : ℕ) (later : List Later) → length clauses ≡ axioms + length later →
    AreAxioms (entries_from clauses axioms later) → later ≡ []
from_axioms [] axioms [] count h = refl
from_axioms [] axioms (first ∷ later) count h = absurd (omega arith)
from_axioms (clause ∷ clauses) (suc axioms) later count h = from_axioms clauses axioms later (omega arith) h.1
from_axioms (clause ∷ clauses) zero (first ∷ later) count h = absurd (no_axiom first h.0)
from_axioms (clause ∷ clauses) zero [] count h = refl

-- where all are axioms, nothing else has been added
pub none_later : (clauses : List (List Literal)) (later : List Later) → length later ≤ length clauses → AreAxioms (entries_of clauses later) → later ≡ []
none_later clauses later few h = from_axioms clauses (length clauses - length later) later (omega arith) h

-- one more axiom
pub axiom_added : (clauses : List (List Literal)) (clause : List Literal) →
    entries_of (clauses ++ clause ∷ []) [] ≡ entries_of clauses [] ++ axiom_of clause ∷ []
axiom_added clauses clause =
    entries_of_axioms (clauses ++ clause ∷ []) ∙ map_push axiom_of clauses clause ∙
    ap (λ (entries : List Entry). entries ++ axiom_of clause ∷ []) (sym (entries_of_axioms clauses))

pub are_axioms : (clauses : List (List Literal)) → AreAxioms (axioms_of clauses)
are_axioms [] = tt
are_axioms (clause ∷ clauses) = (refl, are_axioms clauses)

pub axioms_are_clauses : (variables : ℕ) (clauses : List (List Literal)) → All IsClause clauses → All (IsOver variables) clauses →
    AreClauses variables (axioms_of clauses)
axioms_are_clauses variables [] each over = tt
axioms_are_clauses variables (clause ∷ clauses) each over = (
  each zero clause (omega arith),
  over zero clause (omega arith),
  axioms_are_clauses variables clauses (λ k d h. each (suc k) d (omega arith)) (λ k d h. over (suc k) d (omega arith)),
)

pub clause_of_entry : (variables : ℕ) (entries : List Entry) (k : ℕ) (clause : List Literal) → AreClauses variables entries →
    slice_get (map (λ (entry : Entry). entry.clause) entries) k ≡ Some clause → IsClause clause × IsOver variables clause
clause_of_entry variables [] k clause h is = cc
clause_of_entry variables (first ∷ entries) zero clause h is =
    let same : first.clause ≡ clause = cc in
    subst (λ (c : List Literal). IsClause c × IsOver variables c) same (h.0, h.1)
clause_of_entry variables (first ∷ entries) (suc k) clause h is = clause_of_entry variables entries k clause h.2 is

pub clauses_push : (variables : ℕ) (entries : List Entry) (entry : Entry) → AreClauses variables entries → IsClause entry.clause →
    IsOver variables entry.clause → AreClauses variables (entries ++ entry ∷ [])
clauses_push variables [] entry h clause over = (clause, over, tt)
clauses_push variables (first ∷ entries) entry h clause over = (h.0, h.1, clauses_push variables entries entry h.2 clause over)

pub axioms_push : (entries : List Entry) (entry : Entry) → AreAxioms entries → entry.origin ≡ origins.Axiom → AreAxioms (entries ++ entry ∷ [])
axioms_push [] entry h is = (is, tt)
axioms_push (first ∷ entries) entry h is = (h.0, axioms_push entries entry h.1 is)

after_cases : (clause added : List Literal) (number last : ℕ) (later : Option ℕ) →
    number_if_empty clause number (empty_after later added last) ≡ empty_after (number_if_empty clause number later) added last
after_cases [] added number last later = refl
after_cases (literal ∷ clause) added number last later = refl

pub first_empty_push : (number : ℕ) (entries : List Entry) (entry : Entry) →
    first_empty number (entries ++ entry ∷ []) ≡ empty_after (first_empty number entries) entry.clause (number + length entries)
first_empty_push number [] entry = rw add-zero refl
first_empty_push number (first ∷ entries) entry =
    let rest = first_empty_push (number + 1) entries entry in
    let count : (number + 1) + length entries ≡ number + length (first ∷ entries) = omega arith in
    let cases = after_cases first.clause entry.clause number (number + length (first ∷ entries)) (first_empty (number + 1) entries) in
    ap (number_if_empty first.clause number) (rest ∙ ap (empty_after (first_empty (number + 1) entries) entry.clause) count) ∙ cases
