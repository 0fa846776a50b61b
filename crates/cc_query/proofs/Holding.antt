-- What a kernel holds behind the steps of a section.
use Rattle.std.proofs.Common.{◌≡◌, ◌∙◌, ℕ, ◌+◌, ◌≤◌, suc, cond, List, [], ◌∷◌, ◌++◌, length, map, refl, sym, subst, ap, arith, append_assoc}
use Rattle.std.specs.Prelude.{Contains, not}
use Rattle.std.proofs.lemmas.List.{map-append}
use Rattle.std.proofs.lemmas.List.Sums.{sum_by-cons}
use Rattle.std.proofs.lemmas.List.Elements.{Contains-append_right}
use Rattle.cc_cdcl.specs.Solvers.{SolverView, AddsDerived}
use Rattle.cc_defs.specs.Clauses.{Literal}
use Rattle.cc_defs.specs.Runs.{Step, Derive, Tell, counted_in}
use Rattle.cc_defs.specs.Sections.{Axioms, HasNoEmpty, row_denial}
use Rattle.cc_kernel.specs.declared.kernel.Origin.TheVariants as origins
use Rattle.cc_kernel.specs.Kernels.{Entry, KernelView, added, axiom_of, clauses_of, derived_count, is_given}
use Rattle.cc_lists.specs.Sections.{rows_in}
use Rattle.cc_lists.proofs.Members.{in_first, in_rest}
use Rattle.cc_query.specs.Parts.{clause_added, clauses_behind}
use Rattle.cc_query.specs.Sessions.{Holds, entry_of}

abbrev clause_in : Entry → List Literal
clause_in entry = entry.clause

pub axioms_are : (clauses : List (List Literal)) → map clause_in (map axiom_of clauses) ≡ clauses
axioms_are [] = refl
axioms_are (clause ∷ clauses) = ap (λ (l : List (List Literal)). clause ∷ l) (axioms_are clauses)

steps_are : (sizes : List ℕ) (steps : List Step) → map clause_in (map (entry_of sizes) steps) ≡ map (clause_added sizes) steps
steps_are sizes [] = refl
steps_are sizes (Derive clause chain ∷ steps) = ap (λ (l : List (List Literal)). clause ∷ l) (steps_are sizes steps)
steps_are sizes (Tell row ∷ steps) = ap (λ (l : List (List Literal)). row_denial sizes row ∷ l) (steps_are sizes steps)

pub clauses_held : (form : Axioms) (steps : List Step) (solver : SolverView) → Holds form steps solver → clauses_of solver.kernel ≡ clauses_behind form steps
clauses_held form steps solver holds =
    ap (λ (l : List Entry). map clause_in l) holds.entries ∙ map-append clause_in (map axiom_of form.clauses) (map (entry_of form.sizes) steps)
    ∙ ap (λ (l : List (List Literal)). l ++ map clause_in (map (entry_of form.sizes) steps)) (axioms_are form.clauses)
    ∙ ap (λ (l : List (List Literal)). form.clauses ++ l) (steps_are form.sizes steps)

-- ---- one clause more

entries_more : (form : Axioms) (steps : List Step) (step : Step) (old : List Entry) → old ≡ map axiom_of form.clauses ++ map (entry_of form.sizes) steps →
    old ++ entry_of form.sizes step ∷ [] ≡ map axiom_of form.clauses ++ map (entry_of form.sizes) (steps ++ step ∷ [])
entries_more form steps step old is =
    ap (λ (l : List Entry). l ++ entry_of form.sizes step ∷ []) is
    ∙ append_assoc (map axiom_of form.clauses) (map (entry_of form.sizes) steps) (entry_of form.sizes step ∷ [])
    ∙ ap (λ (l : List Entry). map axiom_of form.clauses ++ l) (sym (map-append (entry_of form.sizes) steps (step ∷ [])))

pub holds_line : (form : Axioms) (steps : List Step) (old new : SolverView) (clause : List Literal) → Holds form steps old → new.sizes ≡ old.sizes →
    AddsDerived old.kernel new.kernel clause → Holds form (steps ++ Derive clause new.kernel.chain ∷ []) new
holds_line form steps old new clause holds sizes adds = record {
  sizes = sizes ∙ holds.sizes;
  variables = adds.variables ∙ holds.variables;
  few = holds.few;
  entries = adds.entries ∙ entries_more form steps (Derive clause new.kernel.chain) old.kernel.entries holds.entries;
}

pub holds_block : (form : Axioms) (steps : List Step) (old new : SolverView) (row : List ℕ) → Holds form steps old → new.sizes ≡ old.sizes →
    new.kernel ≡ added old.kernel (row_denial old.sizes row) origins.Block → Holds form (steps ++ Tell row ∷ []) new
holds_block form steps old new row holds sizes blocked = record {
  sizes = sizes ∙ holds.sizes;
  variables = ap (λ (k : KernelView). k.variables) blocked ∙ holds.variables;
  few = holds.few;
  entries = ap (λ (k : KernelView). k.entries) blocked
      ∙ ap (λ (s : List ℕ). old.kernel.entries ++ (record { clause = row_denial s row; origin = origins.Block }) ∷ []) holds.sizes
      ∙ entries_more form steps (Tell row) old.kernel.entries holds.entries;
}

-- ---- how many are derived

abbrev derived_in : List Step → ℕ
derived_in [] = 0
derived_in (Derive clause chain ∷ steps) = suc (derived_in steps)
derived_in (Tell row ∷ steps) = derived_in steps

count_behind : (clauses : List (List Literal)) (entries : List Entry) → derived_count (map axiom_of clauses ++ entries) ≡ derived_count entries
count_behind [] entries = refl
count_behind (clause ∷ clauses) entries = count_behind clauses entries

count_steps : (sizes : List ℕ) (steps : List Step) → derived_count (map (entry_of sizes) steps) ≡ derived_in steps
count_steps sizes [] = refl
count_steps sizes (Derive clause chain ∷ steps) =
    let more : derived_count (map (entry_of sizes) (Derive clause chain ∷ steps)) ≡ 1 + derived_count (map (entry_of sizes) steps) =
    sum_by-cons (λ (entry : Entry). cond (not (is_given entry)) 1 0) (entry_of sizes (Derive clause chain)) (map (entry_of sizes) steps) in
    let rest = count_steps sizes steps in omega arith
count_steps sizes (Tell row ∷ steps) = count_steps sizes steps

counted_few : (steps : List Step) → counted_in steps ≤ derived_in steps
counted_few [] = omega arith
counted_few (Derive [] chain ∷ steps) = let rest = counted_few steps in omega arith
counted_few (Derive (literal ∷ literals) chain ∷ steps) = let rest = counted_few steps in omega arith
counted_few (Tell row ∷ steps) = let rest = counted_few steps in omega arith

counted_all : (sizes : List ℕ) (steps : List Step) → HasNoEmpty (map (clause_added sizes) steps) → counted_in steps ≡ derived_in steps
counted_all sizes [] none = refl
counted_all sizes (Derive [] chain ∷ steps) none = absurd (none (in_first [] (map (clause_added sizes) steps)))
counted_all sizes (Derive (literal ∷ literals) chain ∷ steps) none =
    let rest = counted_all sizes steps (λ there. none (in_rest (literal ∷ literals) [] (map (clause_added sizes) steps) there)) in omega arith
counted_all sizes (Tell row ∷ steps) none =
    let rest = counted_all sizes steps (λ there. none (in_rest (row_denial sizes row) [] (map (clause_added sizes) steps) there)) in omega arith

derived_are : (form : Axioms) (steps : List Step) (solver : SolverView) → Holds form steps solver → derived_count solver.kernel.entries ≡ derived_in steps
derived_are form steps solver holds =
    ap (λ (l : List Entry). derived_count l) holds.entries ∙ count_behind form.clauses (map (entry_of form.sizes) steps) ∙ count_steps form.sizes steps

no_steps : (steps : List Step) → derived_in steps ≡ 0 → 0 ≡ length (rows_in steps) → steps ≡ []
no_steps [] none silent = refl
no_steps (Derive clause chain ∷ steps) none silent = absurd (omega arith)
no_steps (Tell row ∷ steps) none silent = absurd (omega arith)

-- a solver that has derived nothing, and whose steps tell no row, has the axioms alone
pub axioms_alone : (form : Axioms) (steps : List Step) (solver : SolverView) → Holds form steps solver → derived_count solver.kernel.entries ≡ 0 →
    0 ≡ length (rows_in steps) → solver.kernel.entries ≡ map axiom_of form.clauses ++ []
axioms_alone form steps solver holds none silent =
    holds.entries ∙ ap (λ (l : List Step). map axiom_of form.clauses ++ map (entry_of form.sizes) l)
    (no_steps steps (sym (derived_are form steps solver holds) ∙ none) silent)

pub counted_within : (form : Axioms) (steps : List Step) (solver : SolverView) → Holds form steps solver → counted_in steps ≤ derived_count solver.kernel.entries
counted_within form steps solver holds = let few = counted_few steps in let same = derived_are form steps solver holds in omega arith

pub counted_as_derived : (form : Axioms) (steps : List Step) (solver : SolverView) → Holds form steps solver → HasNoEmpty (clauses_of solver.kernel) →
    counted_in steps ≡ derived_count solver.kernel.entries
counted_as_derived form steps solver holds none =
    counted_all form.sizes steps (λ there. none (subst (λ (l : List (List Literal)). Contains l []) (sym (clauses_held form steps solver holds))
    (Contains-append_right form.clauses (map (clause_added form.sizes) steps) [] there)))
    ∙ sym (derived_are form steps solver holds)
