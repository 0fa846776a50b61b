-- A step of resolution by the number of literals of a level: what is staged then is what was, without the pivot's literal, and what
-- the other clause brings.
use Rattle.std.proofs.Common.{◌≡◌, ◌≢◌, ◌∙◌, ℕ, ◌+◌, ◌-◌, ◌*◌, ◌<◌, ◌≤◌, ◌||◌, suc, inl, inr, Bool, true, false, not, List, [], ◌∷◌, length, filter, Option, Some, None, refl, sym, subst, ap, arith, eqb-true, eq-eqb}
use Rattle.std.specs.Prelude.{◌⊎◌, ◌↔◌, ◌==◌, IsSome, IsTrue, IfSome, Contains, if◌then◌else◌}
use Rattle.std.proofs.lemmas.Bool.Decides.{eqb_tells}
use Rattle.cc_clauses.specs.Merging.{code}
use Rattle.cc_clauses.proofs.Literals.{among, clause_cons, clause_low, clause_rest, contained, same_from_code, same_literal, same_members}
use Rattle.cc_defs.specs.Clauses.{Literal, IsClause, IsIn, IsNumbered, IsOver, IsResolvent, Reaches, opposite}
use Rattle.cc_defs.specs.Limits.{most_variables}
use Rattle.cc_kernel.specs.Kernels.{KernelView, ClashesWith, IsStepped, StageIsReached, clauses_of}
use Rattle.cc_stage.proofs.Sorting.{filtered_in, in_filter}
use Rattle.cc_trail.specs.declared.entries.Step.{Step}
use Rattle.cc_cdcl.specs.Analysis.{is_level, level_count_in, level_of}
use Rattle.cc_cdcl.specs.Brought.{IsCounted, fresh_of, has_literal, is_fresh}
use Rattle.cc_cdcl.proofs.Closed.{member_over}
use Rattle.cc_cdcl.proofs.Deriving.{one_clause, some_same}

-- ---- tests of literals

cases_of : (b : Bool) → (b ≡ true) ⊎ (b ≡ false)
cases_of true = inl refl
cases_of false = inr refl

not_both : (b : Bool) → b ≡ true → b ≡ false → ⊥
not_both b e f = cc

pub has_in : (clause : List Literal) (literal : Literal) → has_literal clause literal ≡ true → IsIn clause literal
has_in [] literal e = cc
has_in (first ∷ clause) literal e = elim (eqb_tells (code first) (code literal)) [
  | inl same ↦ inl (same_from_code first literal (same.1))
  | inr other ↦ inr (has_in clause literal (rw (other.0) at e))
]

pub in_has : (clause : List Literal) (literal : Literal) → IsIn clause literal → has_literal clause literal ≡ true
in_has [] literal none = absurd none
in_has (first ∷ clause) literal (inl is) = rw (eq-eqb (code first) (code literal) (ap code is)) refl
in_has (first ∷ clause) literal (inr later) = or_true (code first == code literal) (has_literal clause literal) (in_has clause literal later)
  where
    or_true : (p q : Bool) → q ≡ true → (p || q) ≡ true
    or_true true q e = refl
    or_true false q e = e

pub has_is : (kernel : Option (List Literal)) (staged : List Literal) (literal : Literal) (r : Bool) → kernel ≡ Some staged →
    IfSome kernel (λ clause. IsTrue r ↔ Contains clause literal) → r ≡ has_literal staged literal
has_is kernel staged literal r is says = by (rw is at says)
  where
    by : IsTrue r ↔ Contains staged literal → r ≡ has_literal staged literal
    by tells = elim (cases_of r) [
      | inl yes_ ↦ yes_ ∙ sym (in_has staged literal (among staged literal (tells.0 yes_)))
      | inr no_ ↦ elim (cases_of (has_literal staged literal)) [
        | inl there ↦ absurd (not_both r (tells.1 (contained staged literal (has_in staged literal there))) no_)
        | inr lacks ↦ no_ ∙ sym lacks
      ]
    ]

fresh_parts : (pivot : ℕ) (staged : List Literal) (literal : Literal) → is_fresh pivot staged literal ≡ true →
    (literal.variable ≢ pivot) × (IsIn staged literal → ⊥)
fresh_parts pivot staged literal e = elim (eqb_tells literal.variable pivot) [
  | inl same ↦ let wrong = rw (same.0) at e in cc
  | inr other ↦ elim (cases_of (has_literal staged literal)) [
    | inl there ↦ let wrong = rw (other.0, there) at e in cc
    | inr lacks ↦ (other.1, (λ here. not_both (has_literal staged literal) (in_has staged literal here) lacks))
  ]
]

fresh_from : (pivot : ℕ) (staged : List Literal) (literal : Literal) → literal.variable ≢ pivot → has_literal staged literal ≡ false → is_fresh pivot staged literal ≡ true
fresh_from pivot staged literal apart lacks = elim (eqb_tells literal.variable pivot) [
  | inl same ↦ absurd (apart (same.1))
  | inr other ↦ rw (other.0, lacks) refl
]

filter_clause : (test : Literal → Bool) (xs : List Literal) → IsClause xs → IsClause (filter test xs)
filter_clause test [] is = tt
filter_clause test (x ∷ xs) is = elim (cases_of (test x)) [
  | inl yes_ ↦ rw yes_ (clause_cons x (filter test xs) (λ literal here. clause_low x xs is literal ((in_filter test xs literal here).0))
      (filter_clause test xs (clause_rest x xs is)))
  | inr no_ ↦ rw no_ (filter_clause test xs (clause_rest x xs is))
]

-- ---- a clause by its parts

-- a clause has just the literals of two others, which share none
pub record IsSplit (r a f : List Literal) : Type 0 where
  pub there : (literal : Literal) → IsIn r literal → IsIn a literal ⊎ IsIn f literal
  pub left : (literal : Literal) → IsIn a literal → IsIn r literal
  pub right : (literal : Literal) → IsIn f literal → IsIn r literal
  pub apart : (literal : Literal) → IsIn a literal → IsIn f literal → ⊥

swapped : (r a f : List Literal) → IsSplit r a f → IsSplit r f a
swapped r a f split = record {
  there = λ literal here. elim (split.there literal here) [ inl one ↦ inr one | inr other ↦ inl other ];
  left = split.right;
  right = split.left;
  apart = λ literal one other. split.apart literal other one;
}

-- the first literal of a clause is the first of the part that has it
first_of : (x : Literal) (r a : List Literal) → IsClause (x ∷ r) → IsClause a → IsIn a x → ((literal : Literal) → IsIn a literal → IsIn (x ∷ r) literal) →
    (rest : List Literal) × (a ≡ x ∷ rest)
first_of x r [] is is_a here each = absurd here
first_of x r (y ∷ rest) is is_a (inl same) each = (rest, ap (λ (l : Literal). l ∷ rest) same)
first_of x r (y ∷ rest) is is_a (inr later) each = elim (each y (inl refl)) [
  | inl same ↦ (rest, ap (λ (l : Literal). l ∷ rest) (sym same))
  | inr behind ↦
      let low : code y < code x = clause_low y rest is_a x later in
      let high : code x < code y = clause_low x r is y behind in absurd (omega arith)
]

not_again : (x : Literal) (xs : List Literal) → IsClause (x ∷ xs) → (literal : Literal) → x ≡ literal → IsIn xs literal → ⊥
not_again x xs is literal same here =
    let low : code x < code literal = clause_low x xs is literal here in
    let tie : code x ≡ code literal = ap code same in omega arith

split_rest : (x : Literal) (r rest f : List Literal) → IsClause (x ∷ r) → IsClause (x ∷ rest) → IsSplit (x ∷ r) (x ∷ rest) f → IsSplit r rest f
split_rest x r rest f is is_a split = record {
  there = λ literal here. elim (split.there literal (inr here)) [
    | inl (inl same) ↦ absurd (not_again x r is literal same here)
    | inl (inr one) ↦ inl one
    | inr other ↦ inr other
  ];
  left = λ literal here. elim (split.left literal (inr here)) [
    | inl same ↦ absurd (not_again x rest is_a literal same here)
    | inr later ↦ later
  ];
  right = λ literal here. elim (split.right literal here) [
    | inl same ↦ absurd (split.apart literal (inl same) here)
    | inr later ↦ later
  ];
  apart = λ literal one other. split.apart literal (inr one) other;
}

module _ (steps : List Step) (level : ℕ) where
  abbrev counted : Literal → ℕ
  counted literal = if is_level level (level_of steps literal.variable) then 1 else 0

  step_left : (x : Literal) (r a f : List Literal) → IsClause (x ∷ r) → IsClause a → IsSplit (x ∷ r) a f → IsIn a x →
      ((rest : List Literal) → IsClause rest → IsSplit r rest f → level_count_in steps level r ≡ level_count_in steps level rest + level_count_in steps level f) →
      level_count_in steps level (x ∷ r) ≡ level_count_in steps level a + level_count_in steps level f
  step_left x r a f is is_a split here goes_on = by (first_of x r a is is_a here split.left)
    where
      by : (rest : List Literal) × (a ≡ x ∷ rest) → level_count_in steps level (x ∷ r) ≡ level_count_in steps level a + level_count_in steps level f
      by (rest, a_is) =
          let is_then = subst IsClause a_is is_a in
          let split_then = subst (λ (c : List Literal). IsSplit (x ∷ r) c f) a_is split in
          let more = goes_on rest (clause_rest x rest is_then) (split_rest x r rest f is is_then split_then) in
          let count : level_count_in steps level a ≡ counted x + level_count_in steps level rest = ap (level_count_in steps level) a_is in
          omega arith

  pub count_split : (r a f : List Literal) → IsClause r → IsClause a → IsClause f → IsSplit r a f →
      level_count_in steps level r ≡ level_count_in steps level a + level_count_in steps level f
  count_split [] [] [] is is_a is_f split = refl
  count_split [] (x ∷ a) f is is_a is_f split = absurd (split.left x (inl refl))
  count_split [] [] (x ∷ f) is is_a is_f split = absurd (split.right x (inl refl))
  count_split (x ∷ r) a f is is_a is_f split = elim (split.there x (inl refl)) [
    | inl one ↦ step_left x r a f is is_a split one (λ rest is_rest split_rest. count_split r rest f (clause_rest x r is) is_rest is_f split_rest)
    | inr other ↦
        let back = step_left x r f a is is_f (swapped (x ∷ r) a f split) other
        (λ rest is_rest split_rest. let more = count_split r a rest (clause_rest x r is) is_a is_rest (swapped r rest a split_rest) in omega arith) in omega arith
  ]

  -- ---- a step of resolution

  module _ (staged other r : List Literal) (pivot : ℕ) (is_staged : IsClause staged) (is_other : IsClause other) (is : IsResolvent staged other pivot r) where
    abbrev on : Literal → Bool
    on literal = literal.variable == pivot

    abbrev off : Literal → Bool
    off literal = not (literal.variable == pivot)

    off_apart : (literal : Literal) → off literal ≡ true → literal.variable ≢ pivot
    off_apart literal e = elim (eqb_tells literal.variable pivot) [
      | inl same ↦ let wrong = rw (same.0) at e in cc
      | inr differ ↦ differ.1
    ]

    apart_off : (literal : Literal) → literal.variable ≢ pivot → off literal ≡ true
    apart_off literal apart = elim (eqb_tells literal.variable pivot) [
      | inl same ↦ absurd (apart (same.1))
      | inr differ ↦ rw (differ.0) refl
    ]

    -- what is staged is off the pivot, or on it
    by_pivot : IsSplit staged (filter off staged) (filter on staged)
    by_pivot = record {
      there = λ literal here. elim (eqb_tells literal.variable pivot) [
        | inl same ↦ inr (filtered_in on staged literal here (same.0))
        | inr differ ↦ inl (filtered_in off staged literal here (apart_off literal (differ.1)))
      ];
      left = λ literal here. (in_filter off staged literal here).0;
      right = λ literal here. (in_filter on staged literal here).0;
      apart = λ literal one two. off_apart literal ((in_filter off staged literal one).1) (eqb-true literal.variable pivot ((in_filter on staged literal two).1));
    }

    -- what is staged then is what was off the pivot, or brought
    by_source : IsSplit r (filter off staged) (fresh_of pivot staged other)
    by_source = record {
      there = λ literal here. from literal ((is.members literal).0 (contained r literal here));
      left = λ literal here.
          let (inside, apart) = in_filter off staged literal here in
          among r literal ((is.members literal).1 (inl (contained staged literal inside), off_apart literal apart));
      right = λ literal here.
          let (inside, fresh) = in_filter (is_fresh pivot staged) other literal here in
          among r literal ((is.members literal).1 (inr (contained other literal inside), (fresh_parts pivot staged literal fresh).0));
      apart = λ literal one two.
          (fresh_parts pivot staged literal ((in_filter (is_fresh pivot staged) other literal two).1)).1 ((in_filter off staged literal one).0);
    }
      where
        from : (literal : Literal) → (Contains staged literal ⊎ Contains other literal) × (literal.variable ≢ pivot) →
            IsIn (filter off staged) literal ⊎ IsIn (fresh_of pivot staged other) literal
        from literal (inl one, apart) = inl (filtered_in off staged literal (among staged literal one) (apart_off literal apart))
        from literal (inr two, apart) = elim (cases_of (has_literal staged literal)) [
          | inl there ↦ inl (filtered_in off staged literal (has_in staged literal there) (apart_off literal apart))
          | inr lacks ↦ inr (filtered_in (is_fresh pivot staged) other literal (among other literal two) (fresh_from pivot staged literal apart lacks))
        ]

    abbrev pivot_literal : Literal
    pivot_literal = record { variable = pivot; positive = is.clash.0 }

    -- one literal is on the pivot
    on_pivot : filter on staged ≡ pivot_literal ∷ []
    on_pivot = same_members (filter on staged) (pivot_literal ∷ []) (filter_clause on staged is_staged) tt
        (λ literal here.
        let (inside, same) = in_filter on staged literal here in
        inl (sym (alone literal inside (eqb-true literal.variable pivot same))))
        (λ literal here. elim here [
          | inl same ↦ subst (λ (l : Literal). IsIn (filter on staged) l) same
              (filtered_in on staged pivot_literal (among staged pivot_literal (is.clash.1.0)) (eq-eqb pivot pivot refl))
          | inr none ↦ absurd none
        ])
      where
        signs : (p q : Bool) → (p ≡ q) ⊎ (p ≡ not q)
        signs true true = inl refl
        signs true false = inr refl
        signs false true = inr refl
        signs false false = inl refl

        alone : (literal : Literal) → IsIn staged literal → literal.variable ≡ pivot → literal ≡ pivot_literal
        alone literal inside same = elim (signs literal.positive (is.clash.0)) [
          | inl equal ↦ same_literal literal pivot_literal same equal
          | inr differ ↦ absurd (is.clash.1.1 (subst (λ (l : Literal). Contains staged l)
              (same_literal literal (opposite pivot_literal) same differ) (contained staged literal inside)))
        ]

    pub count_resolvent : level_count_in steps level r + (if is_level level (level_of steps pivot) then 1 else 0) ≡
        level_count_in steps level staged + level_count_in steps level (fresh_of pivot staged other)
    count_resolvent =
        let before = count_split staged (filter off staged) (filter on staged) is_staged (filter_clause off staged is_staged) (filter_clause on staged is_staged) by_pivot in
        let after = count_split r (filter off staged) (fresh_of pivot staged other) is.clause (filter_clause off staged is_staged)
        (filter_clause (is_fresh pivot staged) other is_other) by_source in
        let one : level_count_in steps level (filter on staged) ≡ (if is_level level (level_of steps pivot) then 1 else 0) + 0 = ap (level_count_in steps level) on_pivot in
        omega arith

-- ---- that counts are small

code_some : (variables : ℕ) (x : Literal) (xs : List Literal) → IsOver variables (x ∷ xs) → (2 ≤ code x) × (code x ≤ 2 * variables + 1)
code_some variables x xs over = by x.positive (over.0) (over.1)
  where
    by : (sign : Bool) → 0 < x.variable → x.variable ≤ variables → (2 ≤ 2 * x.variable + (if sign then 1 else 0)) × (2 * x.variable + (if sign then 1 else 0) ≤ 2 * variables + 1)
    by true low most = (omega arith, omega arith)
    by false low most = (omega arith, omega arith)

many_from : (variables : ℕ) (x : Literal) (xs : List Literal) → IsClause (x ∷ xs) → IsOver variables (x ∷ xs) → length xs + code x ≤ 2 * variables + 1
many_from variables x [] is over = let most = (code_some variables x [] over).1 in omega arith
many_from variables x (y ∷ ys) is over =
    let less : code x < code y = clause_low x (y ∷ ys) is y (inl refl) in
    let more = many_from variables y ys is.1 over.2 in omega arith

pub many : (variables : ℕ) (clause : List Literal) → IsClause clause → IsOver variables clause → length clause ≤ 2 * variables
many variables [] is over = omega arith
many variables (x ∷ xs) is over = let most = many_from variables x xs is over in let some = (code_some variables x xs over).0 in omega arith

pub count_few : (steps : List Step) (level : ℕ) (clause : List Literal) → level_count_in steps level clause ≤ length clause
count_few steps level [] = omega arith
count_few steps level (literal ∷ clause) = by (is_level level (level_of steps literal.variable)) (count_few steps level clause)
  where
    by : (b : Bool) → level_count_in steps level clause ≤ length clause → (if b then 1 else 0) + level_count_in steps level clause ≤ suc (length clause)
    by true few = omega arith
    by false few = omega arith

-- ---- the staged clause of a kernel

pub stage_here : (kernel : KernelView) (staged : List Literal) → StageIsReached kernel → kernel.staged ≡ Some staged → IsClause staged × IsOver kernel.variables staged
stage_here kernel staged reached staged_is = let facts = rw staged_is at reached in (facts.1, facts.2)

-- a literal that is staged is over the variables
pub staged_over : (kernel : KernelView) (variables : ℕ) (literal : Literal) (is_staged : Bool) → variables ≡ kernel.variables → IsSome kernel.staged → StageIsReached kernel →
    IfSome kernel.staged (λ clause. IsTrue is_staged ↔ Contains clause literal) → is_staged ≡ true → literal.variable ≤ variables
staged_over kernel variables literal is_staged same some reached stages holds = by kernel.staged some reached stages
  where
    by : (staged : Option (List Literal)) → IsSome staged →
        IfSome staged (λ clause. Reaches (clauses_of kernel) kernel.chain clause × IsClause clause × IsOver kernel.variables clause) →
        IfSome staged (λ clause. IsTrue is_staged ↔ Contains clause literal) → literal.variable ≤ variables
    by None some reached stages = absurd cc
    by (Some clause) some reached stages = let over = member_over kernel.variables clause reached.2 literal (stages.0 holds) in omega (arith, over.1)

-- there is one where a clause clashes with it
pub some_staged : (kernel : KernelView) (pivot id : ℕ) → ClashesWith kernel pivot id → IsSome kernel.staged
some_staged kernel pivot id (staged, other, staged_is, numbered, clash) = rw staged_is refl

module _ (steps : List Step) (level : ℕ) (old new : KernelView) (pivot id held brought lost : ℕ) (clause : List Literal) (reached : StageIsReached old) (is_clause : IsClause clause)
    (numbered : IsNumbered (clauses_of old) id clause) (counts : IsCounted steps level old held)
    (brings : (staged : List Literal) → old.staged ≡ Some staged → brought ≡ level_count_in steps level (fresh_of pivot staged clause))
    (lost_is : lost ≡ (if is_level level (level_of steps pivot) then 1 else 0)) where
  -- the sum by which a step counts
  count_then : (staged other r : List Literal) → old.staged ≡ Some staged → IsNumbered (clauses_of old) id other → IsResolvent staged other pivot r →
      level_count_in steps level r + lost ≡ held + brought
  count_then staged other r staged_is other_is resolvent =
      let same : other ≡ clause = one_clause (clauses_of old) id other clause other_is numbered in
      let held_is = counts staged staged_is in
      let brought_is = brings staged staged_is in
      let sum = count_resolvent steps level staged clause r pivot ((stage_here old staged reached staged_is).0) is_clause
      (subst (λ (c : List Literal). IsResolvent staged c pivot r) same resolvent) in omega arith

  pub lost_few : IsStepped old new pivot id → lost ≤ held + brought
  lost_few (staged, other, r, staged_is, other_is, resolvent, new_is) = let sum = count_then staged other r staged_is other_is resolvent in omega arith

  pub counted_then : IsStepped old new pivot id → IsCounted steps level new (held + brought - lost)
  counted_then (staged, other, r, staged_is, other_is, resolvent, new_is) now now_is =
      let sum = count_then staged other r staged_is other_is resolvent in
      let same : now ≡ r = some_same now r new.staged now_is (ap (λ (k : KernelView). k.staged) new_is) in
      let count : level_count_in steps level now ≡ level_count_in steps level r = ap (level_count_in steps level) same in omega arith

pub sum_few : (steps : List Step) (level : ℕ) (kernel : KernelView) (pivot id held brought : ℕ) (clause : List Literal) → StageIsReached kernel → kernel.variables ≤ most_variables →
    ClashesWith kernel pivot id → IsCounted steps level kernel held → IsClause clause → IsOver kernel.variables clause → brought ≤ length clause → held + brought ≤ 16000000
sum_few steps level kernel pivot id held brought clause reached most (staged, other, staged_is, numbered, clash) counts is_clause over few =
    let facts = stage_here kernel staged reached staged_is in
    let held_is = counts staged staged_is in
    let held_few = count_few steps level staged in
    let staged_few = many kernel.variables staged facts.0 facts.1 in
    let clause_few = many kernel.variables clause is_clause over in
    let limit : kernel.variables ≤ 4000000 = most in omega arith
