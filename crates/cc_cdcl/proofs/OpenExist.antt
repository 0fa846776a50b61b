-- Whatever the axioms are, propagation from nothing comes to a false clause, or to what each closed assignment gives; so the
-- variables that some closed assignment leaves without a value can be listed.
use Rattle.std.proofs.Common.{◌≡◌, ◌≢◌, ◌∙◌, ℕ, ◌+◌, ◌<◌, ◌≤◌, zero, suc, inl, inr, eqb, Bool, true, false, not, List, [], ◌∷◌, Option, Some, None, length, refl, sym, subst, ap, arith}
use Rattle.std.specs.Prelude.{◌⊎◌, Contains}
use Rattle.std.specs.Cmp.{nat_cmp_is}
use Rattle.std.specs.List.{AllByRecursion}
use Rattle.std.specs.List.Sorted.{IsStrictlySortedBy}
use Rattle.std.specs.Ordering.{nat_cmp}
use Rattle.std.specs.declared.cmp.Ordering.TheVariants.{Less}
use Rattle.std.proofs.lemmas.Bool.Decides.{eqb_tells}
use Rattle.cc_defs.specs.Assignments.{Values, IsTrueIn, IsFalseIn, HasNoValue, IsFailed, IsUnit, IsClosed, IsOpen, AreOpen}
use Rattle.cc_defs.specs.Clauses.{Literal}
use Rattle.cc_cdcl.specs.Laws.{OpenVariablesExist}
use Rattle.cc_cdcl.proofs.Closed.{forced}
use Rattle.cc_cdcl.proofs.Picking.{in_more, literals_same_or}

-- ---- a clause is false, or unit, or neither

none_in_empty : {X : Type 0} (x : X) → Contains [] x → ⊥
none_in_empty x (k, low, same) = omega arith

in_cases : {X : Type 0} (first : X) (xs : List X) (x : X) → Contains (first ∷ xs) x → (first ≡ x) ⊎ Contains xs x
in_cases first xs x (zero, low, same) = inl same
in_cases first xs x (suc k, low, same) = inr (k, omega arith, same)

sign_of : (value : Option Bool) (sign : Bool) → (value ≡ Some (not sign)) ⊎ ((value ≡ Some sign) ⊎ (value ≡ None))
sign_of None sign = inr (inr refl)
sign_of (Some true) true = inr (inl refl)
sign_of (Some false) false = inr (inl refl)
sign_of (Some true) false = inl refl
sign_of (Some false) true = inl refl

not_both : (value : Option Bool) (sign : Bool) → value ≡ Some sign → value ≡ Some (not sign) → ⊥
not_both value true is other = signs (sym is ∙ other)
  where
    signs : ◌≡◌ {A = Option Bool} (Some true) (Some false) → ⊥
    signs e = cc
not_both value false is other = signs (sym is ∙ other)
  where
    signs : ◌≡◌ {A = Option Bool} (Some false) (Some true) → ⊥
    signs e = cc

none_some : (value : Option Bool) (sign : Bool) → value ≡ None → value ≡ Some sign → ⊥
none_some value sign none some = cc

module _ (values : Values) where
  -- each literal is this one, or false
  abbrev IsFalseBut : Literal → List Literal → Type 0
  IsFalseBut left clause = (literal : Literal) → Contains clause literal → (literal ≡ left) ⊎ IsFalseIn values literal

  false_or : (literal : Literal) → IsFalseIn values literal ⊎ (IsFalseIn values literal → ⊥)
  false_or literal = elim (sign_of (values literal.variable) literal.positive) [
    | inl is ↦ inl is
    | inr (inl is) ↦ inr (λ other. not_both (values literal.variable) literal.positive is other)
    | inr (inr none) ↦ inr (λ other. none_some (values literal.variable) (not literal.positive) none other)
  ]

  one_or : (left literal : Literal) → ((literal ≡ left) ⊎ IsFalseIn values literal) ⊎ ((literal ≡ left) ⊎ IsFalseIn values literal → ⊥)
  one_or left literal = by (literals_same_or literal left) (false_or literal)
    where
      by : (literal ≡ left) ⊎ (literal ≢ left) → IsFalseIn values literal ⊎ (IsFalseIn values literal → ⊥) →
          ((literal ≡ left) ⊎ IsFalseIn values literal) ⊎ ((literal ≡ left) ⊎ IsFalseIn values literal → ⊥)
      by (inl same) any = inl (inl same)
      by (inr other) (inl is) = inl (inr is)
      by (inr other) (inr no_is) = inr (λ either. elim either [ inl same ↦ other same | inr is ↦ no_is is ])

  false_but_or : (left : Literal) (clause : List Literal) → IsFalseBut left clause ⊎ (IsFalseBut left clause → ⊥)
  false_but_or left [] = inl (λ literal here. absurd (none_in_empty literal here))
  false_but_or left (first ∷ clause) = by (one_or left first) (false_but_or left clause)
    where
      all : (first ≡ left) ⊎ IsFalseIn values first → IsFalseBut left clause → IsFalseBut left (first ∷ clause)
      all at rest literal here = elim (in_cases first clause literal here) [
        | inl same ↦ subst (λ (l : Literal). (l ≡ left) ⊎ IsFalseIn values l) same at
        | inr later ↦ rest literal later
      ]

      by : ((first ≡ left) ⊎ IsFalseIn values first) ⊎ ((first ≡ left) ⊎ IsFalseIn values first → ⊥) → IsFalseBut left clause ⊎ (IsFalseBut left clause → ⊥) →
          IsFalseBut left (first ∷ clause) ⊎ (IsFalseBut left (first ∷ clause) → ⊥)
      by (inr no_is) any = inr (λ each. no_is (each first (0, omega arith, refl)))
      by (inl at) (inr no_rest) = inr (λ each. no_rest (λ literal here. each literal (in_more first clause literal here)))
      by (inl at) (inl rest) = inl (all at rest)

  abbrev IsNeither : List Literal → Type 0
  IsNeither clause = (IsFailed values clause → ⊥) × (IsUnit values clause → ⊥)

  -- with a false literal more it is as it was
  false_more : (first : Literal) (clause : List Literal) → IsFalseIn values first → IsFailed values clause ⊎ (IsUnit values clause ⊎ IsNeither clause) →
      IsFailed values (first ∷ clause) ⊎ (IsUnit values (first ∷ clause) ⊎ IsNeither (first ∷ clause))
  false_more first clause is (inl failed) = inl (λ literal here. elim (in_cases first clause literal here) [
    | inl same ↦ subst (IsFalseIn values) same is
    | inr later ↦ failed literal later
  ])
  false_more first clause is (inr (inl unit)) = inr (inl (record {
    left = unit.left;
    member = in_more first clause unit.left unit.member;
    open_yet = unit.open_yet;
    others = λ literal here. elim (in_cases first clause literal here) [
      | inl same ↦ inr (subst (IsFalseIn values) same is)
      | inr later ↦ unit.others literal later
    ];
  }))
  false_more first clause is (inr (inr neither)) = inr (inr (
    (λ failed. neither.0 (λ literal here. failed literal (in_more first clause literal here))),
    (λ unit. neither.1 (record {
      left = unit.left;
      member = behind unit (in_cases first clause unit.left unit.member);
      open_yet = unit.open_yet;
      others = λ literal here. unit.others literal (in_more first clause literal here);
    })),
  ))
    where
      behind : (unit : IsUnit values (first ∷ clause)) → (first ≡ unit.left) ⊎ Contains clause unit.left → Contains clause unit.left
      behind unit (inl same) = absurd (none_some (values unit.left.variable) (not unit.left.positive) unit.open_yet (subst (IsFalseIn values) same is))
      behind unit (inr later) = later

  true_more : (first : Literal) (clause : List Literal) → IsTrueIn values first → IsNeither (first ∷ clause)
  true_more first clause is = (
    (λ failed. not_both (values first.variable) first.positive is (failed first (0, omega arith, refl))),
    (λ unit. elim (unit.others first (0, omega arith, refl)) [
      | inl same ↦ none_some (values unit.left.variable) unit.left.positive unit.open_yet (subst (IsTrueIn values) same is)
      | inr false_is ↦ not_both (values first.variable) first.positive is false_is
    ]),
  )

  open_more : (first : Literal) (clause : List Literal) → HasNoValue values first → IsFalseBut first clause ⊎ (IsFalseBut first clause → ⊥) →
      IsUnit values (first ∷ clause) ⊎ IsNeither (first ∷ clause)
  open_more first clause none (inl others) = inl (record {
    left = first;
    member = (0, omega arith, refl);
    open_yet = none;
    others = λ literal here. elim (in_cases first clause literal here) [
      | inl same ↦ inl (sym same)
      | inr later ↦ others literal later
    ];
  })
  open_more first clause none (inr no_others) = inr (
    (λ failed. none_some (values first.variable) (not first.positive) none (failed first (0, omega arith, refl))),
    (λ unit. elim (unit.others first (0, omega arith, refl)) [
      | inl same ↦ no_others (λ literal here.
          subst (λ (l : Literal). (literal ≡ l) ⊎ IsFalseIn values literal) (sym same) (unit.others literal (in_more first clause literal here)))
      | inr false_is ↦ none_some (values first.variable) (not first.positive) none false_is
    ]),
  )

  clause_cases : (clause : List Literal) → IsFailed values clause ⊎ (IsUnit values clause ⊎ IsNeither clause)
  clause_cases [] = inl (λ literal here. absurd (none_in_empty literal here))
  clause_cases (first ∷ clause) = elim (sign_of (values first.variable) first.positive) [
    | inl is ↦ false_more first clause is (clause_cases clause)
    | inr (inl is) ↦ inr (inr (true_more first clause is))
    | inr (inr none) ↦ inr (open_more first clause none (false_but_or first clause))
  ]

  -- one of the clauses is false, or one is unit, or they are closed
  abbrev SomeFailed : List (List Literal) → Type 0
  SomeFailed clauses = (clause : List Literal) × Contains clauses clause × IsFailed values clause

  abbrev SomeUnit : List (List Literal) → Type 0
  SomeUnit clauses = (clause : List Literal) × Contains clauses clause × IsUnit values clause

  closed_cases : (clauses : List (List Literal)) → SomeFailed clauses ⊎ (SomeUnit clauses ⊎ IsClosed values clauses)
  closed_cases [] = inr (inr (record {
    none_failed = λ clause here failed. none_in_empty clause here;
    none_unit = λ clause here unit. none_in_empty clause here;
  }))
  closed_cases (first ∷ clauses) = by (clause_cases first) (closed_cases clauses)
    where
      both : IsNeither first → IsClosed values clauses → IsClosed values (first ∷ clauses)
      both neither closed = record {
        none_failed = λ clause here failed. elim (in_cases first clauses clause here) [
          | inl same ↦ neither.0 (subst (IsFailed values) (sym same) failed)
          | inr later ↦ closed.none_failed clause later failed
        ];
        none_unit = λ clause here unit. elim (in_cases first clauses clause here) [
          | inl same ↦ neither.1 (subst (IsUnit values) (sym same) unit)
          | inr later ↦ closed.none_unit clause later unit
        ];
      }

      by : IsFailed values first ⊎ (IsUnit values first ⊎ IsNeither first) → SomeFailed clauses ⊎ (SomeUnit clauses ⊎ IsClosed values clauses) →
          SomeFailed (first ∷ clauses) ⊎ (SomeUnit (first ∷ clauses) ⊎ IsClosed values (first ∷ clauses))
      by (inl failed) rest = inl (first, (0, omega arith, refl), failed)
      by (inr (inl unit)) rest = inr (inl (first, (0, omega arith, refl), unit))
      by (inr (inr neither)) (inl (clause, here, failed)) = inl (clause, in_more first clauses clause here, failed)
      by (inr (inr neither)) (inr (inl (clause, here, unit))) = inr (inl (clause, in_more first clauses clause here, unit))
      by (inr (inr neither)) (inr (inr closed)) = inr (inr (both neither closed))

-- ---- one literal more

abbrev value_more : Bool → Literal → Option Bool → Option Bool
value_more true literal value = Some literal.positive
value_more false literal value = value

abbrev with_literal : Values → Literal → Values
with_literal values literal variable = value_more (eqb variable literal.variable) literal (values variable)

at_literal : (values : Values) (literal : Literal) → IsTrueIn (with_literal values literal) literal
at_literal values literal = elim (eqb_tells literal.variable literal.variable) [
  | inl same ↦ ap (λ (b : Bool). value_more b literal (values literal.variable)) (same.0)
  | inr other ↦ absurd (other.1 refl)
]

-- each value of the second is one of the first
abbrev IsAbove : Values → Values → Type 0
IsAbove above below = (variable : ℕ) (sign : Bool) → below variable ≡ Some sign → above variable ≡ Some sign

above_more : (above below : Values) (literal : Literal) → IsAbove above below → IsTrueIn above literal → IsAbove above (with_literal below literal)
above_more above below literal over is variable sign given = elim (eqb_tells variable literal.variable) [
  | inl same ↦
      let there : ◌≡◌ {A = Option Bool} (Some literal.positive) (Some sign) =
      sym (ap (λ (b : Bool). value_more b literal (below variable)) (same.0)) ∙ given in
      subst (λ (n : ℕ). above n ≡ Some sign) (sym (same.1)) (is ∙ there)
  | inr other ↦ over variable sign (sym (ap (λ (b : Bool). value_more b literal (below variable)) (other.0)) ∙ given)
]

-- ---- how many literals have no value

abbrev open_count : Option Bool → ℕ
open_count None = 1
open_count (Some sign) = 0

abbrev open_in : Values → List Literal → ℕ
open_in values [] = 0
open_in values (literal ∷ clause) = open_count (values literal.variable) + open_in values clause

abbrev open_all : Values → List (List Literal) → ℕ
open_all values [] = 0
open_all values (clause ∷ clauses) = open_in values clause + open_all values clauses

module _ (values : Values) (added : Literal) (none : HasNoValue values added) where
  abbrev more : Values
  more = with_literal values added

  fewer_one : (variable : ℕ) → open_count (more variable) ≤ open_count (values variable)
  fewer_one variable = by (eqb variable added.variable) refl
    where
      by : (b : Bool) → eqb variable added.variable ≡ b → open_count (more variable) ≤ open_count (values variable)
      by true e = let is : open_count (more variable) ≡ 0 = ap (λ (b : Bool). open_count (value_more b added (values variable))) e in omega arith
      by false e =
          let is : open_count (more variable) ≡ open_count (values variable) = ap (λ (b : Bool). open_count (value_more b added (values variable))) e in omega arith

  fewer_at : open_count (more added.variable) < open_count (values added.variable)
  fewer_at =
      let one : open_count (values added.variable) ≡ 1 = ap open_count none in
      let zero_is : open_count (more added.variable) ≡ 0 = ap open_count (at_literal values added) in omega arith

  fewer_in : (clause : List Literal) → open_in more clause ≤ open_in values clause
  fewer_in [] = omega arith
  fewer_in (literal ∷ clause) = let here = fewer_one literal.variable in let rest = fewer_in clause in omega arith

  less_in : (clause : List Literal) → Contains clause added → open_in more clause < open_in values clause
  less_in [] here = absurd (none_in_empty added here)
  less_in (literal ∷ clause) (zero, low, same) =
      let at : open_count (more literal.variable) < open_count (values literal.variable) =
      subst (λ (l : Literal). open_count (more l.variable) < open_count (values l.variable)) (sym same) fewer_at in
      let rest = fewer_in clause in omega arith
  less_in (literal ∷ clause) (suc k, low, same) =
      let at = fewer_one literal.variable in let rest = less_in clause (k, omega arith, same) in omega arith

  fewer_all : (clauses : List (List Literal)) → open_all more clauses ≤ open_all values clauses
  fewer_all [] = omega arith
  fewer_all (clause ∷ clauses) = let here = fewer_in clause in let rest = fewer_all clauses in omega arith

  less_all : (clauses : List (List Literal)) (clause : List Literal) → Contains clauses clause → Contains clause added → open_all more clauses < open_all values clauses
  less_all [] clause here member = absurd (none_in_empty clause here)
  less_all (first ∷ clauses) clause (zero, low, same) member =
      let at = less_in first (subst (λ (c : List Literal). Contains c added) (sym same) member) in let rest = fewer_all clauses in omega arith
  less_all (first ∷ clauses) clause (suc k, low, same) member =
      let at = fewer_in first in let rest = less_all clauses clause (k, omega arith, same) member in omega arith

-- ---- propagation from nothing

-- there is a least closed assignment, or none at all
abbrev LeastClosed : List (List Literal) → Type 0
LeastClosed axioms = ((values : Values) → IsClosed values axioms → ⊥) ⊎
    ((least : Values) × IsClosed least axioms × ((values : Values) → IsClosed values axioms → IsAbove values least))

module _ (axioms : List (List Literal)) where
  forced_above : (below : Values) (clause : List Literal) → Contains axioms clause → (unit : IsUnit below clause) → (values : Values) → IsClosed values axioms →
      IsAbove values below → IsTrueIn values unit.left
  forced_above below clause here unit values closed above = forced values axioms clause unit.left closed here unit.member
      (λ literal member. elim (unit.others literal member) [
        | inl same ↦ inl same
        | inr is ↦ inr (above literal.variable (not literal.positive) is)
      ])

  propagated : (fuel : ℕ) (below : Values) → open_all below axioms < fuel → ((values : Values) → IsClosed values axioms → IsAbove values below) → LeastClosed axioms
  propagated zero below low above = absurd (omega arith)
  propagated (suc fuel) below low above = elim (closed_cases below axioms) [
    | inl (clause, here, failed) ↦ inl (λ values closed.
        closed.none_failed clause here (λ literal member. above values closed literal.variable (not literal.positive) (failed literal member)))
    | inr (inl (clause, here, unit)) ↦
        let less = less_all below unit.left unit.open_yet axioms clause here unit.member in
        propagated fuel (with_literal below unit.left) (omega arith)
        (λ values closed. above_more values below unit.left (above values closed) (forced_above below clause here unit values closed (above values closed)))
    | inr (inr closed) ↦ inr (below, closed, above)
  ]

  least_closed : LeastClosed axioms
  least_closed = propagated (suc (open_all (λ variable. None) axioms)) (λ variable. None) (omega arith) (λ values closed variable sign none_is. absurd cc)

-- ---- the variables without a value, in order

abbrev open_before : Option Bool → ℕ → List ℕ → List ℕ
open_before None variable others = variable ∷ others
open_before (Some sign) variable others = others

abbrev open_from : Values → (first count : ℕ) → List ℕ
open_from values first zero = []
open_from values first (suc count) = open_before (values first) first (open_from values (suc first) count)

module _ (values : Values) where
  abbrev IsOpenFrom : (first count variable : ℕ) → Type 0
  IsOpenFrom first count variable = (first ≤ variable) × (variable < first + count) × (values variable ≡ None)

  open_in_cases : (value : Option Bool) (first : ℕ) (others : List ℕ) (variable : ℕ) → Contains (open_before value first others) variable →
      ((value ≡ None) × (first ≡ variable)) ⊎ Contains others variable
  open_in_cases None first others variable here = elim (in_cases first others variable here) [
    | inl same ↦ inl (refl, same)
    | inr later ↦ inr later
  ]
  open_in_cases (Some sign) first others variable here = inr here

  open_later : (value : Option Bool) (first : ℕ) (others : List ℕ) (variable : ℕ) → Contains others variable → Contains (open_before value first others) variable
  open_later None first others variable here = in_more first others variable here
  open_later (Some sign) first others variable here = here

  open_here : (value : Option Bool) (first : ℕ) (others : List ℕ) → value ≡ None → Contains (open_before value first others) first
  open_here None first others none = (0, omega arith, refl)
  open_here (Some sign) first others none = absurd cc

  told_open : (first count variable : ℕ) → Contains (open_from values first count) variable → IsOpenFrom first count variable
  told_open first zero variable here = absurd (none_in_empty variable here)
  told_open first (suc count) variable here = elim (open_in_cases (values first) first (open_from values (suc first) count) variable here) [
    | inl (none, same) ↦ (omega arith, omega arith, subst (λ (n : ℕ). values n ≡ None) same none)
    | inr later ↦ let rest = told_open (suc first) count variable later in (omega (arith, rest.0), omega (arith, rest.1), rest.2)
  ]

  open_told : (first count variable : ℕ) → first ≤ variable → variable < first + count → values variable ≡ None → Contains (open_from values first count) variable
  open_told first zero variable low most none = absurd (omega arith)
  open_told first (suc count) variable low most none = elim (eqb_tells first variable) [
    | inl same ↦
        let is : first ≡ variable = same.1 in
        subst (λ (n : ℕ). Contains (open_from values first (suc count)) n) is
        (open_here (values first) first (open_from values (suc first) count) (subst (λ (n : ℕ). values n ≡ None) (sym is) none))
    | inr other ↦
        let apart : first ≢ variable = other.1 in
        open_later (values first) first (open_from values (suc first) count) variable (open_told (suc first) count variable (omega arith) (omega arith) none)
  ]

  all_above : (bound first count : ℕ) → bound < first → AllByRecursion (λ y. nat_cmp bound y ≡ Less) (open_from values first count)
  all_above bound first zero low = tt
  all_above bound first (suc count) low = by (values first) (all_above bound (suc first) count (omega arith))
    where
      by : (value : Option Bool) → AllByRecursion (λ y. nat_cmp bound y ≡ Less) (open_from values (suc first) count) →
          AllByRecursion (λ y. nat_cmp bound y ≡ Less) (open_before value first (open_from values (suc first) count))
      by None rest = (sym (nat_cmp_is bound first Less low), rest)
      by (Some sign) rest = rest

  ascending : (first count : ℕ) → IsStrictlySortedBy nat_cmp (open_from values first count)
  unfolding IsStrictlySortedBy
  ascending first zero = tt
  ascending first (suc count) = ascends (values first) (all_above first (suc first) count (omega arith)) (ascending (suc first) count)
    where
      ascends : (value : Option Bool) → AllByRecursion (λ y. nat_cmp first y ≡ Less) (open_from values (suc first) count) →
          IsStrictlySortedBy nat_cmp (open_from values (suc first) count) →
          IsStrictlySortedBy nat_cmp (open_before value first (open_from values (suc first) count))
      ascends None above rest = (above, rest)
      ascends (Some sign) above rest = rest

none_ascending : IsStrictlySortedBy nat_cmp []
unfolding IsStrictlySortedBy
none_ascending = tt

open_none : (variables : ℕ) (axioms : List (List Literal)) → ((values : Values) → IsClosed values axioms → ⊥) → AreOpen variables axioms []
open_none variables axioms never = record {
  ascending = none_ascending;
  members = λ variable. (
    (λ here. absurd (none_in_empty variable here)),
    (λ (some, most, is_open). absurd (never is_open.values is_open.closed)),
  );
}

open_least : (variables : ℕ) (axioms : List (List Literal)) (least : Values) → IsClosed least axioms → ((values : Values) → IsClosed values axioms → IsAbove values least) →
    AreOpen variables axioms (open_from least 1 variables)
open_least variables axioms least closed below = record {
  ascending = ascending least 1 variables;
  members = λ variable. (
    (λ here. let is = told_open least 1 variables variable here in
        (omega (arith, is.0), omega (arith, is.1), record { values = least; closed = closed; none = is.2 })),
    (λ (some, most, is_open). open_told least 1 variables variable (omega arith) (omega arith) (no_value variable is_open (least variable) refl)),
  );
}
  where
    no_value : (variable : ℕ) → (is_open : IsOpen axioms variable) → (value : Option Bool) → least variable ≡ value → least variable ≡ None
    no_value variable is_open None is = is
    no_value variable is_open (Some sign) is =
        absurd (none_some (is_open.values variable) sign is_open.none (below is_open.values is_open.closed variable sign is))

pub open_exist : OpenVariablesExist
open_exist variables axioms = elim (least_closed axioms) [
  | inl never ↦ (0, ([], open_none variables axioms never, refl))
  | inr (least, closed, below) ↦ (length (open_from least 1 variables), (open_from least 1 variables, open_least variables axioms least closed below, refl))
]
