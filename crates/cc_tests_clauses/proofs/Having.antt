-- Clauses that are tested literal by literal, and the clauses of positions, one behind the other.
use Rattle.std.proofs.Common.{◌≡◌, ◌∙◌, ℕ, zero, suc, ◌+◌, ◌-◌, ◌<◌, ◌≤◌, List, [], ◌∷◌, ◌++◌, length, map, drop, get_or, slice_get, Some, refl, sym, ap, subst, arith, inl, inr}
use Rattle.std.specs.Prelude.{Contains, min}
use Rattle.std.proofs.lemmas.List.{map-append}
use Rattle.std.proofs.lemmas.List.Elements.{Contains-append_cases}
use Rattle.std.proofs.lemmas.List.Sums.{sum_by-append}
use Rattle.cc_defs.specs.ClauseForms.{positive}
use Rattle.cc_defs.specs.ClauseLists.{exactly_one, pairs_denied, position_variables, positions_from}
use Rattle.cc_defs.specs.Clauses.{Literal, IsClause, IsNumbered, IsOver, opposite}
use Rattle.cc_defs.specs.Rules.{upto}
use Rattle.cc_defs.specs.Sections.{row_denial}
use Rattle.cc_kernel.specs.declared.kernel.Origin.TheVariants as origins
use Rattle.cc_kernel.specs.Kernels.{Entry, AreAxioms, added, derived_count}
use Rattle.cc_cdcl.specs.declared.solver.Step.{Step}
use Rattle.cc_cdcl.specs.declared.solver.Step.TheVariants as steps
use Rattle.cc_cdcl.specs.Solvers.{SolverView, IsStep, Found, Ready}

map_push : {A B : Type 0} (f : A → B) (xs : List A) (x : A) → map f (xs ++ x ∷ []) ≡ map f xs ++ f x ∷ []
map_push f xs x = map-append f xs (x ∷ [])

-- ---- how many entries are derived

count_at : (xs ys : List Entry) → derived_count (xs ++ ys) ≡ derived_count xs + derived_count ys
count_at xs ys = sum_by-append _ xs ys

count_block : (entries : List Entry) (clause : List Literal) → derived_count (entries ++ (record { clause = clause; origin = origins.Block }) ∷ []) ≡ derived_count entries
count_block entries clause =
    let all : derived_count (entries ++ (record { clause = clause; origin = origins.Block }) ∷ []) ≡ derived_count entries + 0 = count_at entries _ in omega arith

pub none_derived : (entries : List Entry) → AreAxioms entries → derived_count entries ≡ 0
none_derived [] are = refl
none_derived (entry ∷ entries) are =
    let all : derived_count (entry ∷ entries) ≡ derived_count (entry ∷ []) + derived_count entries = count_at (entry ∷ []) entries in
    let here : derived_count (entry ∷ []) ≡ 0 = rw (are.0) refl in
    let rest = none_derived entries are.1 in omega arith

-- ---- a clause with a number is there

pub contains_numbered : (clauses : List (List Literal)) (number : ℕ) (clause : List Literal) → IsNumbered clauses number clause → Contains clauses clause
contains_numbered clauses number clause is = at clauses (number - 1) is.1
  where
    at : (clauses : List (List Literal)) (k : ℕ) → slice_get clauses k ≡ Some clause → Contains clauses clause
    at [] k e = cc
    at (first ∷ clauses) zero e = let same : first ≡ clause = cc in (0, omega arith, same)
    at (first ∷ clauses) (suc k) e = let (j, low, same) = at clauses k e in (suc j, omega arith, same)

-- ---- ascending variables

abbrev pub Ascend : ℕ → ℕ → List Literal → Type 0
Ascend variables last [] = Unit {0}
Ascend variables last (literal ∷ literals) = (last < literal.variable) × (literal.variable ≤ variables) × Ascend variables literal.variable literals

pub ascend_clause : (variables last : ℕ) (literals : List Literal) → Ascend variables last literals → IsClause literals
ascend_clause variables last [] h = tt
ascend_clause variables last (a ∷ []) h = tt
ascend_clause variables last (a ∷ b ∷ literals) h = (inl h.2.0, ascend_clause variables a.variable (b ∷ literals) h.2)

pub ascend_over : (variables last : ℕ) (literals : List Literal) → Ascend variables last literals → IsOver variables literals
ascend_over variables last [] h = tt
ascend_over variables last (literal ∷ literals) h = let above : last < literal.variable = h.0 in (omega arith, h.1, ascend_over variables literal.variable literals h.2)

pub ascend_all : (variables last : ℕ) (literals : List Literal) (i : ℕ) → length literals ≤ i → (Ascend variables last (drop i literals) → Ascend variables 0 literals) → Ascend variables 0 literals
ascend_all variables last literals i most so_far = so_far (subst (Ascend variables last) (sym (none literals i most)) tt)
  where
    none : (xs : List Literal) (k : ℕ) → length xs ≤ k → drop k xs ≡ []
    none [] zero low = refl
    none [] (suc k) low = refl
    none (x ∷ xs) zero low = absurd (omega arith)
    none (x ∷ xs) (suc k) low = none xs k (omega arith)

-- ---- all of these are among those

abbrev pub HasEach : List (List Literal) → List (List Literal) → Type 0
HasEach clauses wanted = (clause : List Literal) → Contains wanted clause → Contains clauses clause

pub each_none : (clauses wanted : List (List Literal)) → wanted ≡ [] → HasEach clauses wanted
each_none clauses wanted none clause (k, within, is) = let low : k < length wanted = within in let e : length wanted ≡ 0 = ap length none in absurd (omega arith)

pub each_join : (clauses one other : List (List Literal)) → HasEach clauses one → HasEach clauses other → HasEach clauses (one ++ other)
each_join clauses one other a b clause here = elim (Contains-append_cases one other clause here) [
  | inl is ↦ a clause is
  | inr is ↦ b clause is
]

pub each_one : (clauses : List (List Literal)) (x : List Literal) → Contains clauses x → HasEach clauses (x ∷ [])
each_one clauses x is clause (zero, within, same) = subst (Contains clauses) same is
each_one clauses x is clause (suc k, within, same) = absurd (omega arith)

-- ---- the variables of a position

pub variables_next : (first variable : ℕ) → first ≤ variable → position_variables first (variable + 1 - first) ≡ position_variables first (variable - first) ++ positive variable ∷ []
variables_next first variable above =
    let n = variable - first in
    ap (position_variables first) (let e : variable + 1 - first ≡ suc n = omega arith in e)
    ∙ map_push (λ value. positive (first + value)) (upto n) n
    ∙ ap (λ (v : ℕ). position_variables first n ++ positive v ∷ []) (let e : first + n ≡ variable = omega arith in e)

pub values_more : (first variable : ℕ) (old new : List Literal) (literal : Literal) → first ≤ variable → literal ≡ positive variable → old ≡ position_variables first (variable - first) → new ≡ old ++ literal ∷ [] →
    new ≡ position_variables first (variable + 1 - first)
values_more first variable old new literal above same before after =
    after ∙ ap (λ (l : List Literal). l ++ literal ∷ []) before ∙ ap (λ (l : Literal). position_variables first (variable - first) ++ l ∷ []) same ∙ sym (variables_next first variable above)

variables_front : (first n : ℕ) → position_variables first (suc n) ≡ positive first ∷ position_variables (first + 1) n
variables_front first zero = ap (λ (v : ℕ). positive v ∷ []) (let e : first + 0 ≡ first = omega arith in e)
variables_front first (suc n) =
    map_push (λ value. positive (first + value)) (upto (suc n)) (suc n)
    ∙ ap (λ (l : List Literal). l ++ positive (first + suc n) ∷ []) (variables_front first n)
    ∙ ap (λ (v : ℕ). positive first ∷ (position_variables (first + 1) n ++ positive v ∷ [])) (let e : first + suc n ≡ first + 1 + n = omega arith in e)
    ∙ ap (λ (l : List Literal). positive first ∷ l) (sym (map_push (λ value. positive (first + 1 + value)) (upto n) n))

pub pair_next : (clauses : List (List Literal)) (low high : ℕ) (f : Literal → List Literal) → low + 1 ≤ high →
    HasEach clauses (map f (position_variables (low + 1) (high - (low + 1)))) → Contains clauses (f (positive high)) → HasEach clauses (map f (position_variables (low + 1) (high + 1 - (low + 1))))
pair_next clauses low high f above before here =
    subst (HasEach clauses)
    (sym (ap (map f) (variables_next (low + 1) high above) ∙ map_push f (position_variables (low + 1) (high - (low + 1))) (positive high)))
    (each_join clauses (map f (position_variables (low + 1) (high - (low + 1)))) (f (positive high) ∷ []) before (each_one clauses (f (positive high)) here))

pub pairs_front : (low end : ℕ) → low < end → pairs_denied (position_variables low (end - low))
    ≡ map (λ v. opposite (positive low) ∷ opposite v ∷ []) (position_variables (low + 1) (end - (low + 1))) ++ pairs_denied (position_variables (low + 1) (end - (low + 1)))
pairs_front low end less =
    ap (λ (n : ℕ). pairs_denied (position_variables low n)) (let e : end - low ≡ suc (end - (low + 1)) = omega arith in e)
    ∙ ap pairs_denied (variables_front low (end - (low + 1)))

pub no_pairs : (low end : ℕ) → end ≤ low → pairs_denied (position_variables low (end - low)) ≡ []
no_pairs low end most = ap (λ (n : ℕ). pairs_denied (position_variables low n)) (let e : end - low ≡ 0 = omega arith in e)

-- what is left to be there makes the whole be there
pub left_front : (clauses before part rest whole : List (List Literal)) → before ≡ part ++ rest → (HasEach clauses before → HasEach clauses whole) → HasEach clauses part → HasEach clauses rest → HasEach clauses whole
left_front clauses before part rest whole e so_far here later = so_far (subst (HasEach clauses) (sym e) (each_join clauses part rest here later))

-- ---- positions

pub positions_front : (first : ℕ) (sizes : List ℕ) (i : ℕ) → i < length sizes →
    positions_from first (drop i sizes) ≡ exactly_one (position_variables first (get_or sizes i 0)) ++ positions_from (first + get_or sizes i 0) (drop (i + 1) sizes)
positions_front first [] i less = absurd (omega arith)
positions_front first (s ∷ sizes) zero less = refl
positions_front first (s ∷ sizes) (suc i) less = positions_front first sizes i (omega arith)
    ∙ ap (λ (n : ℕ). exactly_one (position_variables first (get_or sizes i 0)) ++ positions_from (first + get_or sizes i 0) (drop n (s ∷ sizes))) (let e : suc (i + 1) ≡ suc i + 1 = omega arith in e)

pub no_positions : (first : ℕ) (sizes : List ℕ) (i : ℕ) → length sizes ≤ i → positions_from first (drop i sizes) ≡ []
no_positions first [] zero most = refl
no_positions first [] (suc i) most = refl
no_positions first (s ∷ sizes) zero most = absurd (omega arith)
no_positions first (s ∷ sizes) (suc i) most = no_positions first sizes i (omega arith)

pub positions_next : (clauses : List (List Literal)) (sizes : List ℕ) (i first end : ℕ) → i < length sizes → end ≡ first + get_or sizes i 0 →
    (HasEach clauses (positions_from first (drop i sizes)) → HasEach clauses (positions_from 1 sizes)) →
    Contains clauses (position_variables first (end - first)) → HasEach clauses (pairs_denied (position_variables first (end - first))) →
    HasEach clauses (positions_from end (drop (i + 1) sizes)) → HasEach clauses (positions_from 1 sizes)
positions_next clauses sizes i first end within end_is so_far values pairs =
    let size_is : end - first ≡ get_or sizes i 0 = omega arith in
    let here : HasEach clauses (exactly_one (position_variables first (get_or sizes i 0))) = subst (λ (n : ℕ). HasEach clauses (exactly_one (position_variables first n))) size_is
    (each_join clauses (position_variables first (end - first) ∷ []) (pairs_denied (position_variables first (end - first))) (each_one clauses (position_variables first (end - first)) values) pairs) in
    subst (λ (n : ℕ). HasEach clauses (positions_from n (drop (i + 1) sizes)) → HasEach clauses (positions_from 1 sizes)) (sym end_is)
    (left_front clauses (positions_from first (drop i sizes)) (exactly_one (position_variables first (get_or sizes i 0))) (positions_from (first + get_or sizes i 0) (drop (i + 1) sizes)) (positions_from 1 sizes)
    (positions_front first sizes i within) so_far here)

pub positions_all : (clauses : List (List Literal)) (sizes : List ℕ) (i first : ℕ) → length sizes ≤ i →
    (HasEach clauses (positions_from first (drop i sizes)) → HasEach clauses (positions_from 1 sizes)) → HasEach clauses (positions_from 1 sizes)
positions_all clauses sizes i first most so_far = so_far (each_none clauses (positions_from first (drop i sizes)) (no_positions first sizes i most))

pub saturated : (x r : ℕ) → r ≡ min x 4294967295 → r ≤ 4000001 → r ≡ x
saturated x r is low = omega arith

-- ---- a row that is found and denied

pub turned : (budget : ℕ) (old between new : SolverView) (step : Step) → IsStep budget old between step → step ≡ steps.Found →
    ((row : List ℕ) → between.standing ≡ Found row → new ≡ record between { kernel = added between.kernel (row_denial between.sizes row) origins.Block; standing = Ready }) →
    derived_count old.kernel.entries ≤ budget → (new.standing ≡ Ready) × (derived_count new.kernel.entries ≤ budget)
turned budget old between new step is found blocked low =
    let (row, least, between_is) = subst (IsStep budget old between) found is in
    let new_is = blocked row (ap (λ (s : SolverView). s.standing) between_is) in
    let same : derived_count new.kernel.entries ≡ derived_count old.kernel.entries =
    ap (λ (s : SolverView). derived_count s.kernel.entries) new_is ∙ count_block between.kernel.entries (row_denial between.sizes row) ∙ ap (λ (s : SolverView). derived_count s.kernel.entries) between_is in
    (ap (λ (s : SolverView). s.standing) new_is, omega arith)
