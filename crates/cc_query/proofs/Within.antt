-- How many clauses a solver has behind its axioms.
use Rattle.std.proofs.Common.{◌≡◌, ◌∙◌, ℕ, ◌+◌, ◌<◌, ◌≤◌, cond, List, [], ◌∷◌, ◌++◌, length, map, refl, sym, subst, ap, arith}
use Rattle.std.specs.Prelude.{not, Some, slice_get, sum}
use Rattle.std.proofs.lemmas.List.{length_push}
use Rattle.std.proofs.lemmas.List.Sums.{sum_by-append}
use Rattle.cc_cdcl.specs.Solvers.{SolverView, AddsDerived}
use Rattle.cc_defs.specs.declared.log.LogLine.{LogLine}
use Rattle.cc_defs.specs.declared.log.LogLine.TheVariants as lines
use Rattle.cc_defs.specs.Clauses.{Literal, IsNumbered}
use Rattle.cc_defs.specs.Rows.{IsRow}
use Rattle.cc_defs.specs.Runs.{Ask}
use Rattle.cc_defs.specs.Sections.{row_denial}
use Rattle.cc_kernel.specs.declared.kernel.Origin.TheVariants as origins
use Rattle.cc_kernel.specs.Kernels.{Entry, KernelView, added, clauses_of, derived_count, is_given}
use Rattle.cc_clauses.proofs.Denials.{denial_over}
use Rattle.cc_query.specs.Sessions.{IsWithin}
use Rattle.cc_query.proofs.Shortness.{line_over, over_more}

counted_one : (entries : List Entry) (entry : Entry) → derived_count (entries ++ entry ∷ []) ≡ derived_count entries + derived_count (entry ∷ [])
counted_one entries entry = sum_by-append (λ (e : Entry). cond (not (is_given e)) 1 0) entries (entry ∷ [])

pub few_entries : (ask : Ask) (solver : SolverView) (denied : ℕ) → ask.budget ≤ 2000000 → IsWithin ask solver denied → length solver.kernel.entries < 4000000000
few_entries ask solver denied budget within = let a = within.derived in let b = within.few in let c = within.denied_few in omega arith

pub one_more : (listed most : ℕ) → listed ≤ 100000000 → most ≡ 100000000 → (listed ≡ most → ⊥) → listed + 1 ≤ 100000000
one_more listed most low most_is other = omega arith

positions_kept : (old new : SolverView) → new.sizes ≡ old.sizes → new.kernel.variables ≡ old.kernel.variables → sum old.sizes ≤ old.kernel.variables →
    sum new.sizes ≤ new.kernel.variables
positions_kept old new sizes variables low =
    subst (λ (n : ℕ). sum new.sizes ≤ n) (sym variables) (subst (λ (l : List ℕ). sum l ≤ old.kernel.variables) (sym sizes) low)

pub line_within : (ask : Ask) (old new : SolverView) (denied : ℕ) (clause : List Literal) → ask.budget ≤ 2000000 → IsWithin ask old denied →
    AddsDerived old.kernel new.kernel clause → derived_count new.kernel.entries ≤ ask.budget → new.sizes ≡ old.sizes → IsWithin ask new denied
line_within ask old new denied clause budget within adds most sizes =
    let count : derived_count new.kernel.entries ≡ derived_count old.kernel.entries + 1 =
    ap (λ (l : List Entry). derived_count l) adds.entries ∙ counted_one old.kernel.entries (record { clause = clause; origin = origins.Derived }) in
    let long : length new.kernel.entries ≡ length old.kernel.entries + 1 =
    ap (λ (l : List Entry). length l) adds.entries ∙ length_push old.kernel.entries (record { clause = clause; origin = origins.Derived }) in
    let few = within.few in
    record {
      derived = most;
      few = omega arith;
      denied_few = within.denied_few;
      over = over_more old.kernel new.kernel (record { clause = clause; origin = origins.Derived }) adds.variables adds.entries within.over
          (line_over ask old new denied clause budget within adds);
      variables = subst (λ (n : ℕ). n ≤ 4000000) (sym adds.variables) within.variables;
      positions = positions_kept old new sizes adds.variables within.positions;
    }

pub block_within : (ask : Ask) (old new : SolverView) (denied : ℕ) (row : List ℕ) → IsWithin ask old denied → denied + 1 ≤ 100000000 → IsRow old.sizes row →
    new.sizes ≡ old.sizes → new.kernel ≡ added old.kernel (row_denial old.sizes row) origins.Block → IsWithin ask new (denied + 1)
block_within ask old new denied row within low is_row sizes is =
    let count : derived_count new.kernel.entries ≡ derived_count old.kernel.entries + 0 =
    ap (λ (k : KernelView). derived_count k.entries) is ∙ counted_one old.kernel.entries (record { clause = row_denial old.sizes row; origin = origins.Block }) in
    let long : length new.kernel.entries ≡ length old.kernel.entries + 1 =
    ap (λ (k : KernelView). length k.entries) is ∙ length_push old.kernel.entries (record { clause = row_denial old.sizes row; origin = origins.Block }) in
    let variables : new.kernel.variables ≡ old.kernel.variables = ap (λ (k : KernelView). k.variables) is in
    let few = within.few in let derived = within.derived in let positions = within.positions in
    record {
      derived = omega arith;
      few = omega arith;
      denied_few = low;
      over = over_more old.kernel new.kernel (record { clause = row_denial old.sizes row; origin = origins.Block }) variables
          (ap (λ (k : KernelView). k.entries) is) within.over (denial_over old.kernel.variables 1 old.sizes row (omega arith) (omega arith) is_row);
      variables = subst (λ (n : ℕ). n ≤ 4000000) (sym variables) within.variables;
      positions = positions_kept old new sizes variables within.positions;
    }

-- the clause that was derived has the last number
last_of : (entries : List Entry) (entry : Entry) → slice_get (map (λ (e : Entry). e.clause) (entries ++ entry ∷ [])) (length entries) ≡ Some entry.clause
last_of [] entry = refl
last_of (first ∷ entries) entry = last_of entries entry

pub last_numbered : (old new : KernelView) (clause : List Literal) → AddsDerived old new clause → IsNumbered (clauses_of new) (length new.entries) clause
last_numbered old new clause adds =
    let long : length new.entries ≡ length old.entries + 1 =
    ap (λ (l : List Entry). length l) adds.entries ∙ length_push old.entries (record { clause = clause; origin = origins.Derived }) in (
      omega arith,
      subst (λ (n : ℕ). slice_get (clauses_of new) n ≡ Some clause) (omega arith)
          (subst (λ (l : List Entry). slice_get (map (λ (e : Entry). e.clause) l) (length old.entries) ≡ Some clause) (sym adds.entries)
          (last_of old.entries (record { clause = clause; origin = origins.Derived }))),
    )

-- the line of a clause, where the kernel was read
pub line_of_kernel : (line : LogLine) (read kernel : KernelView) (clause : List Literal) → read ≡ kernel →
    ((given : List Literal) → IsNumbered (clauses_of read) (length read.entries) given → line ≡ lines.Derived given read.chain) →
    IsNumbered (clauses_of kernel) (length kernel.entries) clause → line ≡ lines.Derived clause kernel.chain
line_of_kernel line read kernel clause same told is =
    told clause (subst (λ (k : KernelView). IsNumbered (clauses_of k) (length k.entries) clause) (sym same) is)
    ∙ ap (λ (k : KernelView). lines.Derived clause k.chain) same
