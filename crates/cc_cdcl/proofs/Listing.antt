-- The clauses of a search: what is true of them at the start, as one more is added, and how few derived ones there are.
use Rattle.std.proofs.Common.{◌≡◌, ◌≢◌, ◌∙◌, ℕ, ◌+◌, ◌^◌, ◌<◌, ◌≤◌, zero, suc, true, false, List, [], ◌∷◌, ◌++◌, map, filter, refl, sym, subst, ap, arith, append_assoc, append-nil}
use Rattle.std.specs.Prelude.{Contains, is_some}
use Rattle.std.specs.List.{AllByRecursion, sum}
use Rattle.std.proofs.lemmas.List.{map-append}
use Rattle.std.proofs.lemmas.List.Elements.{Contains-append_left, Contains-append_right}
use Rattle.std.proofs.lemmas.List.Sums.{sum_by-append, sum_by-cons}
use Rattle.cc_defs.specs.Assignments.{IsEarned, HasOpen}
use Rattle.cc_defs.specs.ClauseForms.{positive}
use Rattle.cc_defs.specs.ClauseLists.{position_variables, positions_from}
use Rattle.cc_defs.specs.Clauses.{Literal, IsClause, IsOver}
use Rattle.cc_kernel.specs.declared.kernel.Origin.{Origin}
use Rattle.cc_kernel.specs.declared.kernel.Origin.TheVariants as origins
use Rattle.cc_kernel.specs.Kernels.{Entry, KernelView, AreAxioms, AreClauses, clauses_of, derived_count, first_empty, number_if_empty}
use Rattle.cc_cdcl.specs.Earned.{AreEarnedBehind, Derived, Given, Line, earned_count}
use Rattle.cc_cdcl.specs.Laws.{EarnedLinesAreFew}
use Rattle.cc_cdcl.specs.Searches.{HasAxiomsFirst, IsSection, KeepsEntries}
use Rattle.cc_cdcl.specs.Solvers.{AreEarnedAfter, HasPositions, axiom_clauses, is_axiom, is_axiom_origin}
use Rattle.cc_cdcl.proofs.Choosing.{first_there}
use Rattle.cc_cdcl.proofs.Closed.{member_over}
use Rattle.cc_cdcl.proofs.Deriving.{clauses_added}
use Rattle.cc_cdcl.proofs.Exactly.{variable_in}
use Rattle.cc_cdcl.specs.declared.solver.Step.TheVariants as answers

abbrev clause_in : Entry → List Literal
clause_in entry = entry.clause

-- ---- clauses over the variables

pub all_over : (variables : ℕ) (entries : List Entry) → AreClauses variables entries → AllByRecursion (IsOver variables) (map clause_in entries)
all_over variables [] are = tt
all_over variables (entry ∷ entries) are = (are.1, all_over variables entries are.2)

over_in : (variables : ℕ) (entries : List Entry) → AreClauses variables entries → (clause : List Literal) → Contains (map clause_in entries) clause → IsOver variables clause
over_in variables [] are clause (k, low, is) = absurd (omega arith)
over_in variables (entry ∷ entries) are clause (zero, low, is) = subst (IsOver variables) is are.1
over_in variables (entry ∷ entries) are clause (suc k, low, is) = over_in variables entries are.2 clause (k, omega arith, is)

clauses_push : (variables : ℕ) (entries : List Entry) (entry : Entry) → AreClauses variables entries → IsClause entry.clause → IsOver variables entry.clause →
    AreClauses variables (entries ++ entry ∷ [])
clauses_push variables [] entry are is over = (is, over, tt)
clauses_push variables (first ∷ entries) entry are is over = (are.0, are.1, clauses_push variables entries entry are.2 is over)

clauses_behind : (variables : ℕ) (front entries : List Entry) → AreClauses variables (front ++ entries) → AreClauses variables front × AreClauses variables entries
clauses_behind variables [] entries are = (tt, are)
clauses_behind variables (first ∷ front) entries are = let rest = clauses_behind variables front entries are.2 in ((are.0, are.1, rest.0), rest.1)

-- ---- the variables of the positions

positions_within : (variables first : ℕ) (sizes : List ℕ) (clauses : List (List Literal)) → ((clause : List Literal) → Contains clauses clause → IsOver variables clause) →
    ((clause : List Literal) → Contains (positions_from first sizes) clause → Contains clauses clause) → first ≤ suc variables → first + sum sizes ≤ suc variables
positions_within variables first [] clauses over all most = omega arith
positions_within variables first (zero ∷ sizes) clauses over all most =
    let whole : sum (0 ∷ sizes) ≡ 0 + sum sizes = sum_by-cons (λ (n : ℕ). n) 0 sizes in
    let rest = positions_within variables (first + 0) sizes clauses over (first_there clauses first 0 sizes all).1 (omega arith) in omega arith
positions_within variables first (suc k ∷ sizes) clauses over all most =
    let whole : sum (suc k ∷ sizes) ≡ suc k + sum sizes = sum_by-cons (λ (n : ℕ). n) (suc k) sizes in
    let there = first_there clauses first (suc k) sizes all in
    let last = member_over variables (position_variables first (suc k)) (over (position_variables first (suc k)) there.0) (positive (first + k))
    (variable_in first (suc k) k (omega arith)) in
    let rest = positions_within variables (first + suc k) sizes clauses over there.1 (omega (arith, last.1)) in omega arith

pub sum_within : (sizes : List ℕ) (kernel : KernelView) → IsSection sizes kernel → sum sizes ≤ kernel.variables
sum_within sizes kernel section =
    let most = positions_within kernel.variables 1 sizes (clauses_of kernel) (over_in kernel.variables kernel.entries section.clauses) section.positions (omega arith) in omega arith

-- ---- earned ones

earned_push : (before : List (List Literal)) (entries : List Entry) (entry : Entry) → AreEarnedAfter before entries →
    (entry.origin ≡ origins.Derived → entry.clause ≢ [] → IsEarned (before ++ map clause_in entries) entry.clause) → AreEarnedAfter before (entries ++ entry ∷ [])
earned_push before [] entry earned next = ((λ e f. subst (λ (cs : List (List Literal)). IsEarned cs entry.clause) (append-nil before) (next e f)), tt)
earned_push before (first ∷ entries) entry earned next = (
  earned.0,
  earned_push (before ++ first.clause ∷ []) entries entry earned.1
      (λ e f. subst (λ (cs : List (List Literal)). IsEarned cs entry.clause) (sym (append_assoc before (first.clause ∷ []) (map clause_in entries))) (next e f)),
)

not_derived : (origin : Origin) → origin ≡ origins.Axiom → origin ≡ origins.Derived → ⊥
not_derived origin e f = cc

axioms_earned : (before : List (List Literal)) (entries : List Entry) → AreAxioms entries → AreEarnedAfter before entries
axioms_earned before [] are = tt
axioms_earned before (entry ∷ entries) are = ((λ e f. absurd (not_derived entry.origin are.0 e)), axioms_earned (before ++ entry.clause ∷ []) entries are.1)

others_push : (entries : List Entry) (entry : Entry) → AllByRecursion (λ e. e.origin ≢ origins.Axiom) entries → entry.origin ≢ origins.Axiom →
    AllByRecursion (λ e. e.origin ≢ origins.Axiom) (entries ++ entry ∷ [])
others_push [] entry others next = (next, tt)
others_push (first ∷ entries) entry others next = (others.0, others_push entries entry others.1 next)

pub section_new : (sizes : List ℕ) (kernel : KernelView) → AreAxioms kernel.entries → HasPositions sizes kernel → AreClauses kernel.variables kernel.entries → IsSection sizes kernel
section_new sizes kernel are positions clauses = record {
  positions = positions;
  clauses = clauses;
  first = record { axioms = kernel.entries; later = []; split = sym (append-nil kernel.entries); are = are; others = tt };
  earned = axioms_earned [] kernel.entries are;
}

pub section_added : (sizes : List ℕ) (old new : KernelView) (entry : Entry) → IsSection sizes old → new.variables ≡ old.variables → new.entries ≡ old.entries ++ entry ∷ [] →
    IsClause entry.clause → IsOver old.variables entry.clause → entry.origin ≢ origins.Axiom →
    (entry.origin ≡ origins.Derived → entry.clause ≢ [] → IsEarned (clauses_of old) entry.clause) → IsSection sizes new
section_added sizes old new entry section variables entries is over other next = record {
  positions = λ clause here. subst (λ (cs : List (List Literal)). Contains cs clause) (sym (clauses_added old new.entries entry entries))
      (Contains-append_left (clauses_of old) (entry.clause ∷ []) clause (section.positions clause here));
  clauses = rw (variables, entries) (clauses_push old.variables old.entries entry section.clauses is over);
  first = record {
    axioms = section.first.axioms;
    later = section.first.later ++ entry ∷ [];
    split = entries ∙ ap (λ (es : List Entry). es ++ entry ∷ []) section.first.split ∙ append_assoc section.first.axioms section.first.later (entry ∷ []);
    are = section.first.are;
    others = others_push section.first.later entry section.first.others other;
  };
  earned = rw entries (earned_push [] old.entries entry section.earned next);
}

pub section_kept : (sizes : List ℕ) (old new : KernelView) → IsSection sizes old → KeepsEntries old new → IsSection sizes new
section_kept sizes old new section kept = record {
  positions = λ clause here. subst (λ (es : List Entry). Contains (map clause_in es) clause) (sym kept.entries) (section.positions clause here);
  clauses = rw (kept.variables, kept.entries) section.clauses;
  first = subst HasAxiomsFirst (sym kept.entries) section.first;
  earned = subst (AreEarnedAfter []) (sym kept.entries) section.earned;
}

-- ---- empty clauses

pub empty_there : (entries : List Entry) (number : ℕ) → is_some (first_empty number entries) ≡ true → Contains (map clause_in entries) []
empty_there [] number is = cc
empty_there (entry ∷ entries) number is = by entry.clause refl is (empty_there entries (number + 1))
  where
    behind : Contains (map clause_in entries) [] → Contains (map clause_in (entry ∷ entries)) []
    behind (k, low, same) = (suc k, omega arith, same)

    by : (clause : List Literal) → entry.clause ≡ clause → is_some (number_if_empty clause number (first_empty (number + 1) entries)) ≡ true →
        (is_some (first_empty (number + 1) entries) ≡ true → Contains (map clause_in entries) []) → Contains (map clause_in (entry ∷ entries)) []
    by [] e found rest = (0, omega arith, e)
    by (l ∷ ls) e found rest = behind (rest found)

pub empty_not_there : (entries : List Entry) (number : ℕ) → is_some (first_empty number entries) ≡ false → Contains (map clause_in entries) [] → ⊥
empty_not_there [] number is (k, low, same) = absurd (omega arith)
empty_not_there (entry ∷ entries) number is here = by entry.clause refl is (empty_not_there entries (number + 1)) here
  where
    by : (clause : List Literal) → entry.clause ≡ clause → is_some (number_if_empty clause number (first_empty (number + 1) entries)) ≡ false →
        (is_some (first_empty (number + 1) entries) ≡ false → Contains (map clause_in entries) [] → ⊥) → Contains (map clause_in (entry ∷ entries)) [] → ⊥
    by [] e found rest there = cc
    by (l ∷ ls) e found rest (zero, low, same) = let empty : entry.clause ≡ [] = same in cc
    by (l ∷ ls) e found rest (suc k, low, same) = rest found (k, omega arith, same)

-- ---- how many are derived

count_at : (xs ys : List Entry) → derived_count (xs ++ ys) ≡ derived_count xs + derived_count ys
count_at xs ys = sum_by-append _ xs ys

pub count_derived : (entries : List Entry) (clause : List Literal) → derived_count (entries ++ (record { clause = clause; origin = origins.Derived }) ∷ []) ≡ derived_count entries + 1
count_derived entries clause = count_at entries _

pub count_block : (entries : List Entry) (clause : List Literal) → derived_count (entries ++ (record { clause = clause; origin = origins.Block }) ∷ []) ≡ derived_count entries
count_block entries clause =
    let all : derived_count (entries ++ (record { clause = clause; origin = origins.Block }) ∷ []) ≡ derived_count entries + 0 = count_at entries _ in omega arith

abbrev line_of_origin : Origin → List Literal → Line
line_of_origin origins.Axiom clause = Given clause
line_of_origin origins.Block clause = Given clause
line_of_origin origins.Derived clause = Derived clause

abbrev line_of : Entry → Line
line_of entry = line_of_origin entry.origin entry.clause

lines_earned : (variables : ℕ) (before : List (List Literal)) (entries : List Entry) → AreClauses variables entries → AreEarnedAfter before entries →
    AreEarnedBehind variables before (map line_of entries)
lines_earned variables before [] are earned = tt
lines_earned variables before (entry ∷ entries) are earned = by entry.origin refl entry.clause refl (lines_earned variables (before ++ entry.clause ∷ []) entries are.2 earned.1)
  where
    by : (origin : Origin) → entry.origin ≡ origin → (clause : List Literal) → entry.clause ≡ clause →
        AreEarnedBehind variables (before ++ entry.clause ∷ []) (map line_of entries) → AreEarnedBehind variables before (line_of entry ∷ map line_of entries)
    by origins.Axiom e clause f rest = rw e (are.1, tt, rest)
    by origins.Block e clause f rest = rw e (are.1, tt, rest)
    by origins.Derived e [] f rest = rw (e, f) (tt, tt, rw f at rest)
    by origins.Derived e (l ∷ ls) f rest = rw (e, f) (rw f at are.1, rw f at (earned.0 e (λ none. let same = f in cc)), rw f at rest)

line_count : (entries : List Entry) → (Contains (map clause_in entries) [] → ⊥) → earned_count (map line_of entries) ≡ derived_count entries
line_count [] none = refl
line_count (entry ∷ entries) none =
    let all : derived_count (entry ∷ entries) ≡ derived_count (entry ∷ []) + derived_count entries = count_at (entry ∷ []) entries in
    let rest = line_count entries (λ (k, low, same). none (suc k, omega arith, same)) in
    let here = by entry.origin refl entry.clause refl in omega arith
  where
    by : (origin : Origin) → entry.origin ≡ origin → (clause : List Literal) → entry.clause ≡ clause →
        earned_count (line_of entry ∷ map line_of entries) ≡ derived_count (entry ∷ []) + earned_count (map line_of entries)
    by origins.Axiom e clause f = rw e (omega arith)
    by origins.Block e clause f = rw e (omega arith)
    by origins.Derived e [] f = absurd (none (0, omega arith, f))
    by origins.Derived e (l ∷ ls) f = rw (e, f) (omega arith)

-- ---- the axioms

axioms_filtered_none : (later : List Entry) → AllByRecursion (λ e. e.origin ≢ origins.Axiom) later → filter is_axiom later ≡ []
axioms_filtered_none [] others = refl
axioms_filtered_none (entry ∷ later) others = by entry.origin refl (axioms_filtered_none later others.1)
  where
    by : (origin : Origin) → entry.origin ≡ origin → filter is_axiom later ≡ [] → filter is_axiom (entry ∷ later) ≡ []
    by origins.Axiom e rest = absurd (others.0 e)
    by origins.Block e rest = let no : is_axiom entry ≡ false = ap is_axiom_origin e in rw no rest
    by origins.Derived e rest = let no : is_axiom entry ≡ false = ap is_axiom_origin e in rw no rest

axioms_filtered : (axioms later : List Entry) → AreAxioms axioms → AllByRecursion (λ e. e.origin ≢ origins.Axiom) later → filter is_axiom (axioms ++ later) ≡ axioms
axioms_filtered [] later are others = axioms_filtered_none later others
axioms_filtered (entry ∷ axioms) later are others =
    let yes : is_axiom entry ≡ true = ap is_axiom_origin are.0 in rw yes (ap (λ (es : List Entry). entry ∷ es) (axioms_filtered axioms later are.1 others))

axioms_count : (entries : List Entry) → AreAxioms entries → derived_count entries ≡ 0
axioms_count [] are = refl
axioms_count (entry ∷ entries) are =
    let all : derived_count (entry ∷ entries) ≡ derived_count (entry ∷ []) + derived_count entries = count_at (entry ∷ []) entries in
    let here : derived_count (entry ∷ []) ≡ 0 = rw (are.0) refl in
    let rest = axioms_count entries are.1 in omega arith

earned_behind : (before : List (List Literal)) (axioms later : List Entry) → AreEarnedAfter before (axioms ++ later) → AreEarnedAfter (before ++ map clause_in axioms) later
earned_behind before [] later earned = subst (λ (cs : List (List Literal)). AreEarnedAfter cs later) (sym (append-nil before)) earned
earned_behind before (entry ∷ axioms) later earned =
    subst (λ (cs : List (List Literal)). AreEarnedAfter cs later) (append_assoc before (entry.clause ∷ []) (map clause_in axioms))
    (earned_behind (before ++ entry.clause ∷ []) axioms later earned.1)

-- without an empty clause, fewer clauses are derived than the power of 3
pub one_more : (now before old derived budget : ℕ) → now ≡ before + 1 → before ≡ old → derived ≡ before → old ≤ budget → derived ≢ budget → now ≤ budget
one_more now before old derived budget count same so_far most apart = omega arith

pub few_derived : (law : EarnedLinesAreFew) (sizes : List ℕ) (kernel : KernelView) → IsSection sizes kernel → (Contains (clauses_of kernel) [] → ⊥) → (opens : ℕ) →
    HasOpen kernel.variables (axiom_clauses kernel) opens → derived_count kernel.entries < 3 ^ opens
few_derived law sizes kernel section none opens open_are =
    let both = clauses_behind kernel.variables section.first.axioms section.first.later
    (subst (AreClauses kernel.variables) section.first.split section.clauses) in
    let low = law kernel.variables (map clause_in section.first.axioms) (map line_of section.first.later) opens (all_over kernel.variables section.first.axioms both.0)
    (lines_earned kernel.variables (map clause_in section.first.axioms) section.first.later both.1
    (earned_behind [] section.first.axioms section.first.later (subst (AreEarnedAfter []) section.first.split section.earned)))
    (subst (λ (cs : List (List Literal)). HasOpen kernel.variables cs opens) axioms_are open_are) in
    let count : earned_count (map line_of section.first.later) ≡ derived_count section.first.later = line_count section.first.later none_later in
    let whole : derived_count kernel.entries ≡ derived_count (section.first.axioms ++ section.first.later) = ap derived_count section.first.split in
    let parts : derived_count (section.first.axioms ++ section.first.later) ≡ derived_count section.first.axioms + derived_count section.first.later =
    count_at section.first.axioms section.first.later in
    let zero_is = axioms_count section.first.axioms section.first.are in omega arith
  where
    axioms_are : axiom_clauses kernel ≡ map clause_in section.first.axioms
    axioms_are = ap (λ (es : List Entry). map clause_in (filter is_axiom es)) section.first.split ∙
        ap (map clause_in) (axioms_filtered section.first.axioms section.first.later section.first.are section.first.others)

    none_later : Contains (map clause_in section.first.later) [] → ⊥
    none_later here = none (subst (λ (es : List Entry). Contains (map clause_in es) []) (sym section.first.split)
        (subst (λ (cs : List (List Literal)). Contains cs []) (sym (map-append clause_in section.first.axioms section.first.later))
        (Contains-append_right (map clause_in section.first.axioms) (map clause_in section.first.later) [] here)))

pub none_derived : (kernel : KernelView) → AreAxioms kernel.entries → 0 ≡ derived_count kernel.entries
none_derived kernel are = sym (axioms_count kernel.entries are)

-- what was done is not that the budget is spent
pub line_not_spent : answers.Line ≡ answers.Spent → ⊥
line_not_spent e = cc

pub refuted_not_spent : answers.Refuted ≡ answers.Spent → ⊥
refuted_not_spent e = cc

pub found_not_spent : answers.Found ≡ answers.Spent → ⊥
found_not_spent e = cc
