-- Items of lists; the theory of a query; the clauses of a search that begins.
use Rattle.std.proofs.Common.{◌≡◌, ◌∙◌, ℕ, zero, suc, List, [], ◌∷◌, map, Some, refl, sym, subst, ap}
use Rattle.std.specs.Prelude.{Contains, slice_get}
use Rattle.std.specs.List.{AllByRecursion}
use Rattle.std.proofs.lemmas.Option.{same_Some}
use Rattle.cc_defs.specs.ClauseLists.{positions_from}
use Rattle.cc_defs.specs.Clauses.{Literal}
use Rattle.cc_defs.specs.GroundLaws.{PlainGroundQuery}
use Rattle.cc_defs.specs.Signatures.{Signature}
use Rattle.cc_form.specs.Queries.{IsQueryAt}
use Rattle.cc_kernel.specs.Kernels.{Entry, KernelView, axiom_of, axioms_of, clauses_of}

-- what holds of each item holds of one
pub one_of : {A B : Type 0} (P : B → Type 0) (f : A → B) (xs : List A) (i : ℕ) (x : A) → slice_get xs i ≡ Some x → AllByRecursion P (map f xs) → P (f x)
one_of P f [] i x there all = absurd cc
one_of P f (first ∷ xs) zero x there all = subst (λ y. P (f y)) (same_Some _ _ there) all.0
one_of P f (first ∷ xs) (suc i) x there all = one_of P f xs i x there all.1

-- a query is one of a theory's horizon
pub asked_of : (signature made : Signature) (horizon at : ℕ) (query : PlainGroundQuery) → made ≡ signature → at ≡ horizon → IsQueryAt signature horizon query → IsQueryAt made at query
asked_of signature made horizon at query signature_is horizon_is asked =
    subst (λ (s : Signature). IsQueryAt s at query) (sym signature_is) (subst (λ (h : ℕ). IsQueryAt signature h query) (sym horizon_is) asked)

axioms_are : (clauses : List (List Literal)) → map (λ (entry : Entry). entry.clause) (map axiom_of clauses) ≡ clauses
axioms_are [] = refl
axioms_are (clause ∷ clauses) = ap (λ (l : List (List Literal)). clause ∷ l) (axioms_are clauses)

-- the clauses on positions are among those of the kernel
pub positions_there : (sizes others : List ℕ) (clauses arena : List (List Literal)) (kernel : KernelView) → sizes ≡ others → kernel.entries ≡ axioms_of arena → arena ≡ clauses →
    ((clause : List Literal) → Contains (positions_from 1 others) clause → Contains clauses clause) →
    (clause : List Literal) → Contains (positions_from 1 sizes) clause → Contains (clauses_of kernel) clause
positions_there sizes others clauses arena kernel sizes_are entries arena_is choices clause within =
    subst (λ (l : List (List Literal)). Contains l clause)
    (sym (ap (λ (l : List Entry). map (λ entry. entry.clause) l) entries ∙ axioms_are arena ∙ arena_is))
    (choices clause (subst (λ (l : List ℕ). Contains (positions_from 1 l) clause) sizes_are within))
