-- The lines of a session's log have short numbers.
use Rattle.std.proofs.Common.{◌≡◌, ℕ, ◌+◌, ◌*◌, ◌-◌, ◌<◌, ◌≤◌, zero, suc, inl, inr, List, [], ◌∷◌, ◌++◌, length, map, Some, refl, sym, subst, ap, arith}
use Rattle.std.specs.Prelude.{Contains, slice_get, sum}
use Rattle.std.specs.List.{AllByRecursion}
use Rattle.std.proofs.lemmas.List.Sums.{sum_by-cons}
use Rattle.cc_cdcl.specs.Solvers.{SolverView, AddsDerived}
use Rattle.cc_defs.specs.declared.log.LogLine.TheVariants as lines
use Rattle.cc_defs.specs.Clauses.{Literal, IsOver, IsResolvent, Reaches, ReachesFrom}
use Rattle.cc_defs.specs.LogTexts.{IsFormed, IsOdd, IsShort, IsShortLiteral}
use Rattle.cc_defs.specs.Rows.{IsRow}
use Rattle.cc_defs.specs.Runs.{Ask}
use Rattle.cc_kernel.specs.Kernels.{Entry, KernelView, clauses_of}
use Rattle.cc_lists.proofs.Members.{in_cases, in_first, in_none, in_rest}
use Rattle.cc_query.specs.Sessions.{IsWithin}

-- ---- clauses over variables

over_in : (variables : ℕ) (clause : List Literal) (literal : Literal) → IsOver variables clause → Contains clause literal →
    (0 < literal.variable) × (literal.variable ≤ variables)
over_in variables [] literal over there = absurd (in_none literal there)
over_in variables (first ∷ clause) literal over there = elim (in_cases first literal clause there) [
  | inl same ↦ subst (λ (l : Literal). (0 < l.variable) × (l.variable ≤ variables)) same (over.0, over.1)
  | inr rest ↦ over_in variables clause literal over.2 rest
]

over_from : (variables : ℕ) (clause : List Literal) →
    ((literal : Literal) → Contains clause literal → (0 < literal.variable) × (literal.variable ≤ variables)) → IsOver variables clause
over_from variables [] each = tt
over_from variables (literal ∷ clause) each =
    let here = each literal (in_first literal clause) in
    (here.0, here.1, over_from variables clause (λ other there. each other (in_rest literal other clause there)))

numbered_over : (variables : ℕ) (clauses : List (List Literal)) (k : ℕ) (clause : List Literal) → AllByRecursion (IsOver variables) clauses →
    slice_get clauses k ≡ Some clause → IsOver variables clause × (k < length clauses)
numbered_over variables [] k clause all is = absurd cc
numbered_over variables (first ∷ clauses) zero clause all is =
    let same : first ≡ clause = cc in
    (subst (λ (c : List Literal). IsOver variables c) same all.0, omega arith)
numbered_over variables (first ∷ clauses) (suc k) clause all is =
    let rest = numbered_over variables clauses k clause all.1 is in
    let low = rest.1 in (rest.0, omega arith)

resolvent_over : (variables pivot : ℕ) (from other next : List Literal) → IsOver variables from → IsOver variables other → IsResolvent from other pivot next →
    IsOver variables next × (pivot ≤ variables)
resolvent_over variables pivot from other next from_over other_over is = (
  over_from variables next (λ literal there. elim ((is.members literal).0 there).0 [
    | inl of ↦ over_in variables from literal from_over of
    | inr of ↦ over_in variables other literal other_over of
  ]),
  (over_in variables from (record { variable = pivot; positive = is.clash.0 }) from_over is.clash.1.0).1,
)

-- ---- what a chain reaches

chain_from : (variables : ℕ) (clauses : List (List Literal)) → AllByRecursion (IsOver variables) clauses → length clauses ≤ 999999999 → variables ≤ 4000000 →
    (from : List Literal) (chain : List ℕ) (clause : List Literal) → IsOver variables from → ReachesFrom clauses from chain clause →
    AllByRecursion IsShort chain × ((pairs : ℕ) × (length chain ≡ 2 * pairs)) × IsOver variables clause
chain_from variables clauses all few low from [] clause over is = (tt, (0, refl), subst (λ (c : List Literal). IsOver variables c) (sym is) over)
chain_from variables clauses all few low from (pivot ∷ []) clause over is = absurd is
chain_from variables clauses all few low from (pivot ∷ number ∷ chain) clause over (other, next, (some, is), resolvent, rest) =
    let there = numbered_over variables clauses (number - 1) other all is in
    let step = resolvent_over variables pivot from other next over there.0 resolvent in
    let more = chain_from variables clauses all few low next chain clause step.0 rest in
    let pivot_low : pivot ≤ variables = step.1 in
    let number_low : number - 1 < length clauses = there.1 in
    let long : length chain ≡ 2 * more.1.0 = more.1.1 in
    ((omega arith, (omega arith, more.0)), (suc more.1.0, omega arith), more.2)

pub chain_short : (variables : ℕ) (clauses : List (List Literal)) → AllByRecursion (IsOver variables) clauses → length clauses ≤ 999999999 → variables ≤ 4000000 →
    (chain : List ℕ) (clause : List Literal) → Reaches clauses chain clause → AllByRecursion IsShort chain × IsOdd (length chain) × IsOver variables clause
chain_short variables clauses all few low [] clause is = absurd is
chain_short variables clauses all few low (number ∷ chain) clause (first, (some, is), rest) =
    let there = numbered_over variables clauses (number - 1) first all is in
    let more = chain_from variables clauses all few low first chain clause there.0 rest in
    let number_low : number - 1 < length clauses = there.1 in
    let long : length chain ≡ 2 * more.1.0 = more.1.1 in
    ((omega arith, more.0), (more.1.0, omega arith), more.2)

literals_short : (variables : ℕ) (clause : List Literal) → variables ≤ 4000000 → IsOver variables clause → AllByRecursion IsShortLiteral clause
literals_short variables [] low over = tt
literals_short variables (literal ∷ clause) low over =
    let most : literal.variable ≤ variables = over.1 in
    ((over.0, omega arith), literals_short variables clause low over.2)

-- ---- derived lines

clause_count : (entries : List Entry) → length (map (λ (e : Entry). e.clause) entries) ≡ length entries
clause_count [] = refl
clause_count (entry ∷ entries) = ap suc (clause_count entries)

-- what the clauses of a solver and its chain give
reached : (ask : Ask) (old new : SolverView) (denied : ℕ) (clause : List Literal) → ask.budget ≤ 2000000 → IsWithin ask old denied → AddsDerived old.kernel new.kernel clause →
    AllByRecursion IsShort new.kernel.chain × IsOdd (length new.kernel.chain) × IsOver old.kernel.variables clause
reached ask old new denied clause budget within adds =
    let derived = within.derived in let few = within.few in let denied_few = within.denied_few in
    let count : length (clauses_of old.kernel) ≡ length old.kernel.entries = clause_count old.kernel.entries in
    chain_short old.kernel.variables (clauses_of old.kernel) within.over (omega arith) within.variables new.kernel.chain clause adds.reached

pub line_short : (ask : Ask) (old new : SolverView) (denied : ℕ) (clause : List Literal) → ask.budget ≤ 2000000 → IsWithin ask old denied → AddsDerived old.kernel new.kernel clause →
    IsFormed (lines.Derived clause new.kernel.chain)
line_short ask old new denied clause budget within adds =
    let there = reached ask old new denied clause budget within adds in
    (literals_short old.kernel.variables clause within.variables there.2, there.0, there.1)

pub line_over : (ask : Ask) (old new : SolverView) (denied : ℕ) (clause : List Literal) → ask.budget ≤ 2000000 → IsWithin ask old denied → AddsDerived old.kernel new.kernel clause →
    IsOver old.kernel.variables clause
line_over ask old new denied clause budget within adds = (reached ask old new denied clause budget within adds).2

over_push : (variables : ℕ) (entries : List Entry) (entry : Entry) → AllByRecursion (IsOver variables) (map (λ (e : Entry). e.clause) entries) → IsOver variables entry.clause →
    AllByRecursion (IsOver variables) (map (λ (e : Entry). e.clause) (entries ++ entry ∷ []))
over_push variables [] entry all over = (over, tt)
over_push variables (first ∷ entries) entry all over = (all.0, over_push variables entries entry all.1 over)

-- one clause more
pub over_more : (old new : KernelView) (entry : Entry) → new.variables ≡ old.variables → new.entries ≡ old.entries ++ entry ∷ [] →
    AllByRecursion (IsOver old.variables) (clauses_of old) → IsOver old.variables entry.clause → AllByRecursion (IsOver new.variables) (clauses_of new)
over_more old new entry variables entries all over =
    subst (λ (n : ℕ). AllByRecursion (IsOver n) (clauses_of new)) (sym variables)
    (subst (λ (l : List Entry). AllByRecursion (IsOver old.variables) (map (λ (e : Entry). e.clause) l)) (sym entries) (over_push old.variables old.entries entry all over))

-- ---- rows

pub row_short : (variables : ℕ) (sizes row : List ℕ) → variables ≤ 4000000 → sum sizes ≤ variables → IsRow sizes row → AllByRecursion IsShort row
row_short variables [] [] low few is = tt
row_short variables [] (index ∷ row) low few is = absurd is
row_short variables (size ∷ sizes) [] low few is = absurd is
row_short variables (size ∷ sizes) (index ∷ row) low few is =
    let all : sum (size ∷ sizes) ≡ size + sum sizes = sum_by-cons (λ (n : ℕ). n) size sizes in
    let below : index < size = is.0 in
    (omega arith, row_short variables sizes row low (omega arith) is.1)
