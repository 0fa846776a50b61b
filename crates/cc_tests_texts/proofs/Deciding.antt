-- Tests that decide claims about finite clauses and assignments, so that each claim about given ones is a computation.
use Rattle.std.proofs.Common.{◌≡◌, ◌<◌, ◌≤◌, ℕ, zero, suc, ◌-◌, ◌==◌, Bool, true, false, not, ◌&&◌, ◌||◌, ◌⊎◌, inl, inr, nat_lt, List, [], ◌∷◌, ◌++◌, slice_get, if◌then◌else◌, Option, Some, None, refl, sym, ap, ap₂, ◌∙◌, subst, arith}
use Rattle.std.specs.Bool.{IsTrue, Decides, beq}
use Rattle.std.specs.Cmp.{booleans_Decides}
use Rattle.std.specs.List.{AllByRecursion, Contains, filter, list_all, list_any}
use Rattle.std.specs.declared.cmp.Ordering.{Ordering}
use Rattle.std.specs.declared.cmp.Ordering.TheVariants.{Less, Equal, Greater}
use Rattle.std.proofs.lemmas.Bool.Decides.{Decides-eqb, Decides-ltb, Decides-and, Decides-or, Decides-not, Decides-like, Decides-by_and, Decides-by_or}
use Rattle.std.proofs.lemmas.List.Elements.{All-contains, All-contains_itself, All-weaker, Contains-from_at, at_from_Contains}
use Rattle.std.specs.List.Sorted.{IsStrictlySortedBy}
use Rattle.std.specs.Ordering.{nat_cmp}
use Rattle.cc_defs.specs.Assignments.{Values, IsTrueIn, HasNoValue, IsFailed, IsUnit, IsClosed, IsEarned, AreOpen}
use Rattle.cc_defs.specs.ClauseForms.{same_literal, is_before, in_order}
use Rattle.cc_defs.specs.Clauses.{Literal, opposite, IsBefore, IsClause, HasAlone, IsResolvent, IsNumbered, Reaches, ReachesFrom}
use Rattle.cc_defs.specs.Sections.{HasNoEmpty}

-- ---- lists

pub each_decides : {X : Type 0} (p : X → Bool) (P : X → Type 0) → ((x : X) → Decides (p x) (P x)) → (xs : List X) →
    Decides (list_all p xs) ((x : X) → Contains xs x → P x)
each_decides p P each xs =
    Decides-like (list_all p xs) (λ all x c. All-contains P xs x all c)
    (λ holds. All-weaker (Contains xs) P holds xs (All-contains_itself xs))
    (Decides-by_and p P (list_all p) each refl (λ _ _. refl) xs)

-- ---- literals

literal_of : (a b : Literal) → a.variable ≡ b.variable → a.positive ≡ b.positive → a ≡ b
literal_of a b e f = ap₂ (λ (v : ℕ) (p : Bool). let l : Literal = record { variable = v; positive = p } in l) e f

pub same_literal-Decides : (a b : Literal) → Decides (same_literal a b) (a ≡ b)
same_literal-Decides a b =
    Decides-like (same_literal a b) (λ h. literal_of a b h.0 h.1) (λ e. (ap (λ (l : Literal). l.variable) e, ap (λ (l : Literal). l.positive) e))
    (Decides-and (a.variable == b.variable) (beq a.positive b.positive) (Decides-eqb a.variable b.variable) (booleans_Decides a.positive b.positive))

abbrev pub has : List Literal → Literal → Bool
has clause literal = list_any (λ other. same_literal other literal) clause

pub has-Decides : (clause : List Literal) (literal : Literal) → Decides (has clause literal) (Contains clause literal)
has-Decides clause literal =
    Decides-like (has clause literal) (Contains-from_at clause literal) (at_from_Contains clause literal)
    (Decides-by_or (λ other. same_literal other literal) (λ other. other ≡ literal) (λ others. has others literal) (λ other. same_literal-Decides other literal) refl (λ _ _. refl) clause)

-- ---- clauses

before-Decides : (a b : Literal) → Decides (is_before a b) (IsBefore a b)
before-Decides a b =
    Decides-or (nat_lt a.variable b.variable) ((a.variable == b.variable) && (not a.positive && b.positive)) (Decides-ltb a.variable b.variable)
    (Decides-like ((a.variable == b.variable) && (not a.positive && b.positive)) (λ h. (h.0, h.1.0, h.1.1)) (λ h. (h.0, (h.1, h.2)))
    (Decides-and (a.variable == b.variable) (not a.positive && b.positive) (Decides-eqb a.variable b.variable)
    (Decides-and (not a.positive) b.positive (is_no a.positive) ((λ h. h), (λ h. h)))))
  where
    is_no : (p : Bool) → Decides (not p) (p ≡ false)
    is_no true = ((λ h. absurd cc), (λ h. absurd cc))
    is_no false = ((λ h. refl), (λ h. refl))

abbrev pub ascends : List Literal → Bool
ascends [] = true
ascends (a ∷ []) = true
ascends (a ∷ b ∷ literals) = is_before a b && ascends (b ∷ literals)

pub ascends-Decides : (clause : List Literal) → Decides (ascends clause) (IsClause clause)
ascends-Decides [] = ((λ h. tt), (λ h. refl))
ascends-Decides (a ∷ []) = ((λ h. tt), (λ h. refl))
ascends-Decides (a ∷ b ∷ literals) = Decides-and (is_before a b) (ascends (b ∷ literals)) (before-Decides a b) (ascends-Decides (b ∷ literals))

-- ---- resolvents

abbrev pub has_alone : List Literal → Literal → Bool
has_alone clause literal = has clause literal && not (has clause (opposite literal))

alone-Decides : (clause : List Literal) (literal : Literal) → Decides (has_alone clause literal) (HasAlone clause literal)
alone-Decides clause literal =
    Decides-and (has clause literal) (not (has clause (opposite literal))) (has-Decides clause literal) (Decides-not (has clause (opposite literal)) (has-Decides clause (opposite literal)))

abbrev signed : ℕ → Bool → Literal
signed variable positive = record { variable = variable; positive = positive }

-- with the pivot in this sign in the first clause
abbrev pub clashes : Bool → List Literal → List Literal → ℕ → Bool
clashes sign a b pivot = has_alone a (signed pivot sign) && has_alone b (signed pivot (not sign))

abbrev is_kept : List Literal → ℕ → Literal → Bool
is_kept r pivot literal = (literal.variable == pivot) || has r literal

abbrev is_got : List Literal → List Literal → ℕ → Literal → Bool
is_got a b pivot literal = (has a literal || has b literal) && not (literal.variable == pivot)

abbrev pub resolves : Bool → List Literal → List Literal → ℕ → List Literal → Bool
resolves sign a b pivot r =
    clashes sign a b pivot && (ascends r && (list_all (is_got a b pivot) r && (list_all (is_kept r pivot) a && list_all (is_kept r pivot) b)))

and_of : (a b : Bool) → IsTrue (a && b) → IsTrue a × IsTrue b
and_of true true h = (refl, refl)
and_of true false h = absurd cc
and_of false b h = absurd cc

kept : (r : List Literal) (pivot : ℕ) (literals : List Literal) → IsTrue (list_all (is_kept r pivot) literals) →
    (literal : Literal) → Contains literals literal → (literal.variable ≡ pivot → ⊥) → Contains r literal
kept r pivot literals all literal c other =
    elim ((each_decides (is_kept r pivot) (λ l. (l.variable ≡ pivot) ⊎ Contains r l)
    (λ l. Decides-or (l.variable == pivot) (has r l) (Decides-eqb l.variable pivot) (has-Decides r l)) literals).0 all literal c) [
      | inl same ↦ absurd (other same)
      | inr there ↦ there
    ]

got : (a b : List Literal) (pivot : ℕ) (r : List Literal) → IsTrue (list_all (is_got a b pivot) r) →
    (literal : Literal) → Contains r literal → (Contains a literal ⊎ Contains b literal) × (literal.variable ≡ pivot → ⊥)
got a b pivot r all =
    (each_decides (is_got a b pivot) (λ l. (Contains a l ⊎ Contains b l) × (l.variable ≡ pivot → ⊥))
    (λ l. Decides-and (has a l || has b l) (not (l.variable == pivot)) (Decides-or (has a l) (has b l) (has-Decides a l) (has-Decides b l))
    (Decides-not (l.variable == pivot) (Decides-eqb l.variable pivot))) r).0 all

pub resolved : (sign : Bool) (a b : List Literal) (pivot : ℕ) (r : List Literal) → IsTrue (resolves sign a b pivot r) → IsResolvent a b pivot r
resolved sign a b pivot r passes =
    let one = and_of (clashes sign a b pivot) _ passes in
    let two = and_of (ascends r) _ one.1 in
    let three = and_of (list_all (is_got a b pivot) r) _ two.1 in
    let four = and_of (list_all (is_kept r pivot) a) (list_all (is_kept r pivot) b) three.1 in
    let clash = and_of (has_alone a (signed pivot sign)) (has_alone b (signed pivot (not sign))) one.0 in
    record {
      clash = (sign, (alone-Decides a (signed pivot sign)).0 clash.0, (alone-Decides b (signed pivot (not sign))).0 clash.1);
      clause = (ascends-Decides r).0 two.0;
      members = λ literal. (
        got a b pivot r three.0 literal,
        λ h. elim h.0 [ inl in_a ↦ kept r pivot a four.0 literal in_a h.1 | inr in_b ↦ kept r pivot b four.1 literal in_b h.1 ],
      );
    }

-- ---- closed assignments

-- a literal of the clause is true, or two are left without a value
pub data IsSettled (values : Values) (clause : List Literal) : Type 0 where
  Holds : (literal : Literal) → Contains clause literal → IsTrueIn values literal → IsSettled values clause
  Waits : (one other : Literal) → Contains clause one → Contains clause other → (one ≡ other → ⊥) → HasNoValue values one → HasNoValue values other →
      IsSettled values clause

true_and_false : (v : Option Bool) (p : Bool) → v ≡ Some p → v ≡ Some (not p) → ⊥
true_and_false v true e f = let same : Some true ≡ Some false = sym e ∙ f in absurd cc
true_and_false v false e f = let same : Some false ≡ Some true = sym e ∙ f in absurd cc

settled_not_failed : (values : Values) (clause : List Literal) → IsSettled values clause → IsFailed values clause → ⊥
settled_not_failed values clause (Holds literal c is) failed = true_and_false (values literal.variable) literal.positive is (failed literal c)
settled_not_failed values clause (Waits one other c d differ open_one open_other) failed =
    let same : None ≡ Some (not one.positive) = sym open_one ∙ failed one c in absurd cc

is_left : (values : Values) (clause : List Literal) (unit : IsUnit values clause) (literal : Literal) → Contains clause literal → HasNoValue values literal → literal ≡ unit.left
is_left values clause unit literal c is_open = elim (unit.others literal c) [
  | inl same ↦ same
  | inr is_false ↦ (let same : None ≡ Some (not literal.positive) = sym is_open ∙ is_false in absurd cc)
]

settled_not_unit : (values : Values) (clause : List Literal) → IsSettled values clause → IsUnit values clause → ⊥
settled_not_unit values clause (Holds literal c is) unit = elim (unit.others literal c) [
  | inl same ↦ (let clash : None ≡ Some literal.positive = sym (ap (λ (l : Literal). values l.variable) same ∙ unit.open_yet) ∙ is in absurd cc)
  | inr is_false ↦ true_and_false (values literal.variable) literal.positive is is_false
]
settled_not_unit values clause (Waits one other c d differ open_one open_other) unit =
    differ (is_left values clause unit one c open_one ∙ sym (is_left values clause unit other d open_other))

abbrev pub is_some_sign : Option Bool → Bool → Bool
is_some_sign None sign = false
is_some_sign (Some b) sign = beq b sign

abbrev pub is_open : Option Bool → Bool
is_open None = true
is_open (Some b) = false

abbrev pub is_true_in : Values → Literal → Bool
is_true_in values literal = is_some_sign (values literal.variable) literal.positive

abbrev pub is_open_in : Values → Literal → Bool
is_open_in values literal = is_open (values literal.variable)

sign-Decides : (v : Option Bool) (sign : Bool) → Decides (is_some_sign v sign) (v ≡ Some sign)
sign-Decides None sign = ((λ h. absurd cc), (λ h. absurd cc))
sign-Decides (Some b) sign = Decides-like (beq b sign) (λ e. ap (λ (x : Bool). Some x) e) (λ e. cc) (booleans_Decides b sign)

open-Decides : (v : Option Bool) → Decides (is_open v) (v ≡ None)
open-Decides None = ((λ h. refl), (λ h. refl))
open-Decides (Some b) = ((λ h. absurd cc), (λ h. absurd cc))

abbrev pub waits : Values → List Literal → Bool
waits values [] = false
waits values (literal ∷ literals) =
    (is_open_in values literal && list_any (λ other. is_open_in values other && not (same_literal other literal)) literals) || waits values literals

abbrev pub is_settled : Values → List Literal → Bool
is_settled values clause = list_any (is_true_in values) clause || waits values clause

first_in : (literal : Literal) (literals : List Literal) → Contains (literal ∷ literals) literal
first_in literal literals = (0, omega arith, refl)

rest_in : (first : Literal) (literals : List Literal) (literal : Literal) → Contains literals literal → Contains (first ∷ literals) literal
rest_in first literals literal (k, below, is) = (suc k, omega arith, is)

-- a member that passes
found_any : (p : Literal → Bool) (literals : List Literal) → IsTrue (list_any p literals) → (literal : Literal) × Contains literals literal × IsTrue (p literal)
found_any p [] e = absurd cc
found_any p (first ∷ literals) e = by (p first) refl e (found_any p literals)
  where
    by : (b : Bool) → p first ≡ b → IsTrue (b || list_any p literals) → (IsTrue (list_any p literals) → (literal : Literal) × Contains literals literal × IsTrue (p literal)) →
        (literal : Literal) × Contains (first ∷ literals) literal × IsTrue (p literal)
    by true is e more = (first, first_in first literals, is)
    by false is e more = let rest = more e in (rest.0, rest_in first literals rest.0 rest.1, rest.2)

waits_here : (values : Values) (first : Literal) (literals : List Literal) →
    IsTrue (is_open_in values first && list_any (λ other. is_open_in values other && not (same_literal other first)) literals) → IsSettled values (first ∷ literals)
waits_here values first literals e =
    let parts = and_of (is_open_in values first) (list_any (λ other. is_open_in values other && not (same_literal other first)) literals) e in
    let other = found_any (λ other. is_open_in values other && not (same_literal other first)) literals parts.1 in
    let of_other = and_of (is_open_in values other.0) (not (same_literal other.0 first)) other.2 in
    Waits first other.0 (first_in first literals) (rest_in first literals other.0 other.1)
    (λ same. (Decides-not (same_literal other.0 first) (same_literal-Decides other.0 first)).0 of_other.1 (sym same))
    ((open-Decides (values first.variable)).0 parts.0) ((open-Decides (values other.0.variable)).0 of_other.0)

later : (values : Values) (first : Literal) (literals : List Literal) → IsSettled values literals → IsSettled values (first ∷ literals)
later values first literals (Holds literal c is) = Holds literal (rest_in first literals literal c) is
later values first literals (Waits one other c d differ open_one open_other) =
    Waits one other (rest_in first literals one c) (rest_in first literals other d) differ open_one open_other

waits_settle : (values : Values) (clause : List Literal) → IsTrue (waits values clause) → IsSettled values clause
waits_settle values [] e = absurd cc
waits_settle values (first ∷ literals) e = by (is_open_in values first && list_any (λ other. is_open_in values other && not (same_literal other first)) literals) refl e (waits_settle values literals)
  where
    by : (b : Bool) → (is_open_in values first && list_any (λ other. is_open_in values other && not (same_literal other first)) literals) ≡ b → IsTrue (b || waits values literals) →
        (IsTrue (waits values literals) → IsSettled values literals) → IsSettled values (first ∷ literals)
    by true is e more = waits_here values first literals is
    by false is e more = later values first literals (more e)

settles : (values : Values) (clause : List Literal) → IsTrue (is_settled values clause) → IsSettled values clause
settles values clause e = by (list_any (is_true_in values) clause) refl e
  where
    by : (b : Bool) → list_any (is_true_in values) clause ≡ b → IsTrue (b || waits values clause) → IsSettled values clause
    by true is e = let found = found_any (is_true_in values) clause is in
        Holds found.0 found.1 ((sign-Decides (values found.0.variable) found.0.positive).0 found.2)
    by false is e = waits_settle values clause e

all_settle : (values : Values) (clauses : List (List Literal)) → IsTrue (list_all (is_settled values) clauses) →
    (clause : List Literal) → Contains clauses clause → IsTrue (is_settled values clause)
all_settle values clauses passes = (each_decides (is_settled values) (λ clause. IsTrue (is_settled values clause)) (λ clause. ((λ h. h), (λ h. h))) clauses).0 passes

pub closed : (values : Values) (clauses : List (List Literal)) → IsTrue (list_all (is_settled values) clauses) → IsClosed values clauses
closed values clauses passes = record {
  none_failed = λ clause c. settled_not_failed values clause (settles values clause (all_settle values clauses passes clause c));
  none_unit = λ clause c. settled_not_unit values clause (settles values clause (all_settle values clauses passes clause c));
}

-- A variable with a clause of its own literal alone has a value in every closed assignment.
pub alone_has_value : (values : Values) (clauses : List (List Literal)) (literal : Literal) → IsClosed values clauses → Contains clauses (literal ∷ []) →
    HasNoValue values literal → ⊥
alone_has_value values clauses literal is c none = is.none_unit (literal ∷ []) c (record {
  left = literal;
  member = first_in literal [];
  open_yet = none;
  others = λ other d. inl (only other d);
})
  where
    only : (other : Literal) → Contains (literal ∷ []) other → other ≡ literal
    only other (zero, below, is) = sym is
    only other (suc k, below, is) = absurd (omega arith)

only_one : (literal other : Literal) → Contains (literal ∷ []) other → other ≡ literal
only_one literal other (zero, below, is) = sym is
only_one literal other (suc k, below, is) = absurd (omega arith)

-- a clause of one literal that has no value is unit
pub alone_is_unit : (values : Values) (literal : Literal) → HasNoValue values literal → IsUnit values (literal ∷ [])
alone_is_unit values literal none = record {
  left = literal;
  member = first_in literal [];
  open_yet = none;
  others = λ other c. inl (only_one literal other c);
}

-- A clause that is there already is not earned.
pub there_is_not_earned : (clauses : List (List Literal)) (clause : List Literal) → Contains clauses clause → IsEarned clauses clause → ⊥
there_is_not_earned clauses clause c earned = earned.closed.none_unit clause c earned.unit

-- ---- open variables

-- by the clauses of one literal: one of this variable is there
abbrev pub has_alone_clause : List (List Literal) → ℕ → Bool
has_alone_clause [] variable = false
has_alone_clause ((literal ∷ []) ∷ clauses) variable = (literal.variable == variable) || has_alone_clause clauses variable
has_alone_clause ([] ∷ clauses) variable = has_alone_clause clauses variable
has_alone_clause ((a ∷ b ∷ literals) ∷ clauses) variable = has_alone_clause clauses variable

rest_of : (first : List Literal) (clauses : List (List Literal)) (clause : List Literal) → Contains clauses clause → Contains (first ∷ clauses) clause
rest_of first clauses clause (k, below, is) = (suc k, omega arith, is)

abbrev HasAloneClause : List (List Literal) → ℕ → Type 0
HasAloneClause clauses variable = (literal : Literal) × Contains clauses (literal ∷ []) × (literal.variable ≡ variable)

behind_first : (first : List Literal) (clauses : List (List Literal)) (variable : ℕ) → HasAloneClause clauses variable → HasAloneClause (first ∷ clauses) variable
behind_first first clauses variable found = (found.0, rest_of first clauses (found.0 ∷ []) found.1, found.2)

alone_found : (clauses : List (List Literal)) (variable : ℕ) → IsTrue (has_alone_clause clauses variable) → HasAloneClause clauses variable
alone_found [] variable e = absurd cc
alone_found ((literal ∷ []) ∷ clauses) variable e = by (literal.variable == variable) refl e (alone_found clauses variable)
  where
    by : (b : Bool) → (literal.variable == variable) ≡ b → IsTrue (b || has_alone_clause clauses variable) →
        (IsTrue (has_alone_clause clauses variable) → HasAloneClause clauses variable) → HasAloneClause ((literal ∷ []) ∷ clauses) variable
    by true is e more = (literal, (0, omega arith, refl), (Decides-eqb literal.variable variable).0 is)
    by false is e more = behind_first (literal ∷ []) clauses variable (more e)
alone_found ([] ∷ clauses) variable e = behind_first [] clauses variable (alone_found clauses variable e)
alone_found ((a ∷ b ∷ literals) ∷ clauses) variable e = behind_first (a ∷ b ∷ literals) clauses variable (alone_found clauses variable e)

abbrev pub is_among : List ℕ → ℕ → Bool
is_among [] variable = false
is_among (first ∷ found) variable = (first == variable) || is_among found variable

among : (found : List ℕ) (variable : ℕ) → IsTrue (is_among found variable) → Contains found variable
among found variable e =
    Contains-from_at found variable ((Decides-by_or (λ first. first == variable) (λ first. first ≡ variable) (λ rest. is_among rest variable)
    (λ first. Decides-eqb first variable) refl (λ _ _. refl) found).0 e)

-- each variable up to a number is one of these, or has a clause of its own
abbrev pub all_told : List (List Literal) → List ℕ → ℕ → Bool
all_told clauses found zero = true
all_told clauses found (suc n) = (is_among found (suc n) || has_alone_clause clauses (suc n)) && all_told clauses found n

told : (clauses : List (List Literal)) (found : List ℕ) (n variable : ℕ) → IsTrue (all_told clauses found n) → 0 < variable → variable ≤ n →
    Contains found variable ⊎ HasAloneClause clauses variable
told clauses found zero variable e some most = absurd (omega arith)
told clauses found (suc n) variable e some most =
    let parts = and_of (is_among found (suc n) || has_alone_clause clauses (suc n)) (all_told clauses found n) e in
    elim (last_or_before variable n most) [
      | inl same ↦ subst (λ (v : ℕ). Contains found v ⊎ HasAloneClause clauses v) (sym same) (by (is_among found (suc n)) refl parts.0)
      | inr before ↦ told clauses found n variable parts.1 some before
    ]
  where
    last_or_before : (variable n : ℕ) → variable ≤ suc n → (variable ≡ suc n) ⊎ (variable ≤ n)
    last_or_before zero n most = inr (omega arith)
    last_or_before (suc v) zero most = inl (omega arith)
    last_or_before (suc v) (suc n) most = elim (last_or_before v n (omega arith)) [ inl e ↦ inl (ap suc e) | inr p ↦ inr (omega arith) ]

    by : (b : Bool) → is_among found (suc n) ≡ b → IsTrue (b || has_alone_clause clauses (suc n)) → Contains found (suc n) ⊎ HasAloneClause clauses (suc n)
    by true is e = inl (among found (suc n) is)
    by false is e = inr (alone_found clauses (suc n) e)

abbrev pub all_open : Values → ℕ → List ℕ → Bool
all_open values n [] = true
all_open values n (first ∷ found) = (nat_lt 0 first && (nat_lt first (suc n) && is_open (values first))) && all_open values n found

one_open : (values : Values) (n : ℕ) (found : List ℕ) → IsTrue (all_open values n found) → (variable : ℕ) → Contains found variable →
    (0 < variable) × (variable < suc n) × (values variable ≡ None)
one_open values n found e variable c =
    All-contains (λ v. (0 < v) × (v < suc n) × (values v ≡ None)) found variable
    ((Decides-by_and (λ v. nat_lt 0 v && (nat_lt v (suc n) && is_open (values v))) (λ v. (0 < v) × (v < suc n) × (values v ≡ None)) (all_open values n)
    (λ v. Decides-like (nat_lt 0 v && (nat_lt v (suc n) && is_open (values v))) (λ h. (h.0, h.1.0, h.1.1)) (λ h. (h.0, (h.1, h.2)))
    (Decides-and (nat_lt 0 v) (nat_lt v (suc n) && is_open (values v)) (Decides-ltb 0 v)
    (Decides-and (nat_lt v (suc n)) (is_open (values v)) (Decides-ltb v (suc n)) (open-Decides (values v))))) refl (λ _ _. refl) found).0 e) c

-- These are the open variables, where one closed assignment leaves them all without a value, and every other variable has a
-- clause of its own.
pub are_open : (values : Values) (n : ℕ) (clauses : List (List Literal)) (found : List ℕ) → IsStrictlySortedBy nat_cmp found →
    IsTrue (list_all (is_settled values) clauses) → IsTrue (all_open values n found) → IsTrue (all_told clauses found n) → AreOpen n clauses found
are_open values n clauses found ascending settled open_all told_all = record {
  ascending = ascending;
  members = λ variable. (
    (λ c. let is = one_open values n found open_all variable c in
        (is.0, omega (arith, is.1), record { values = values; closed = closed values clauses settled; none = is.2 })),
    (λ h. elim (told clauses found n variable told_all h.0 h.1) [
      | inl there ↦ there
      | inr alone ↦ absurd (alone_has_value h.2.values clauses alone.0 h.2.closed alone.1 (ap h.2.values alone.2 ∙ h.2.none))
    ]),
  );
}

-- ---- ascending numbers

abbrev pub is_less : Ordering → Bool
is_less Less = true
is_less Equal = false
is_less Greater = false

less_from : (order : Ordering) → IsTrue (is_less order) → order ≡ Less
less_from Less e = refl
less_from Equal e = absurd cc
less_from Greater e = absurd cc

pub less-Decides : (order : Ordering) → Decides (is_less order) (order ≡ Less)
less-Decides Less = ((λ h. refl), (λ h. refl))
less-Decides Equal = ((λ h. absurd cc), (λ h. absurd cc))
less-Decides Greater = ((λ h. absurd cc), (λ h. absurd cc))

abbrev pub below_all : ℕ → List ℕ → Bool
below_all x [] = true
below_all x (y ∷ ys) = is_less (nat_cmp x y) && below_all x ys

abbrev pub ascend : List ℕ → Bool
ascend [] = true
ascend (x ∷ xs) = below_all x xs && ascend xs

below_each : (x : ℕ) (ys : List ℕ) → IsTrue (below_all x ys) → AllByRecursion (λ y. nat_cmp x y ≡ Less) ys
below_each x [] e = tt
below_each x (y ∷ ys) e = let parts = and_of (is_less (nat_cmp x y)) (below_all x ys) e in (less_from (nat_cmp x y) parts.0, below_each x ys parts.1)

pub ascending : (xs : List ℕ) → IsTrue (ascend xs) → IsStrictlySortedBy nat_cmp xs
unfolding IsStrictlySortedBy
ascending [] e = tt
ascending (x ∷ xs) e = let parts = and_of (below_all x xs) (ascend xs) e in (below_each x xs parts.0, ascending xs parts.1)

-- ---- chains

abbrev pub is_filled : List Literal → Bool
is_filled [] = false
is_filled (literal ∷ literals) = true

filled-Decides : (clause : List Literal) → Decides (is_filled clause) (clause ≡ [] → ⊥)
filled-Decides [] = ((λ h. absurd cc), (λ h. absurd (h refl)))
filled-Decides (literal ∷ literals) = ((λ h e. absurd cc), (λ h. refl))

pub no_empty : (clauses : List (List Literal)) → IsTrue (list_all is_filled clauses) → HasNoEmpty clauses
no_empty clauses e c = (each_decides is_filled (λ clause. clause ≡ [] → ⊥) filled-Decides clauses).0 e [] c refl

-- the resolvent on a pivot, where there is one
abbrev pub got_on : List Literal → List Literal → ℕ → List Literal
got_on a b pivot = in_order (filter (λ literal. not (literal.variable == pivot)) (a ++ b))

abbrev pub next_of : ℕ → List Literal → Option (List Literal) → Option (List Literal)
next_of pivot from None = None
next_of pivot from (Some other) =
    if resolves true from other pivot (got_on from other pivot) || resolves false from other pivot (got_on from other pivot) then Some (got_on from other pivot) else None

abbrev pub clause_at : List (List Literal) → ℕ → Option (List Literal)
clause_at clauses zero = None
clause_at clauses (suc n) = slice_get clauses n

-- what a chain reaches
abbrev pub reach_from : List (List Literal) → Option (List Literal) → List ℕ → Option (List Literal)
reach_from clauses None chain = None
reach_from clauses (Some from) [] = Some from
reach_from clauses (Some from) (pivot ∷ []) = None
reach_from clauses (Some from) (pivot ∷ number ∷ chain) = reach_from clauses (next_of pivot from (clause_at clauses number)) chain

abbrev pub reach : List (List Literal) → List ℕ → Option (List Literal)
reach clauses [] = None
reach clauses (number ∷ chain) = reach_from clauses (clause_at clauses number) chain

numbered : (clauses : List (List Literal)) (number : ℕ) (clause : List Literal) → clause_at clauses number ≡ Some clause → IsNumbered clauses number clause
numbered clauses zero clause e = absurd cc
numbered clauses (suc n) clause e = let same : n ≡ suc n - 1 = omega arith in (omega arith, subst (λ (k : ℕ). slice_get clauses k ≡ Some clause) same e)

reached_from : (clauses : List (List Literal)) (from : List Literal) (chain : List ℕ) (clause : List Literal) →
    reach_from clauses (Some from) chain ≡ Some clause → ReachesFrom clauses from chain clause
reached_from clauses from [] clause e = cc
reached_from clauses from (pivot ∷ []) clause e = absurd cc
reached_from clauses from (pivot ∷ number ∷ chain) clause e = by (clause_at clauses number) refl e (λ rest h. reached_from clauses rest chain clause h)
  where
    by_test : (other next : List Literal) → clause_at clauses number ≡ Some other → next ≡ got_on from other pivot → (b d : Bool) →
        resolves true from other pivot next ≡ b → resolves false from other pivot next ≡ d →
        reach_from clauses (if b || d then Some next else None) chain ≡ Some clause →
        ((rest : List Literal) → reach_from clauses (Some rest) chain ≡ Some clause → ReachesFrom clauses rest chain clause) →
        ReachesFrom clauses from (pivot ∷ number ∷ chain) clause
    by_test other next at is true d yes_true yes_false e more =
        (other, next, numbered clauses number other at, resolved true from other pivot next yes_true, more next e)
    by_test other next at is false true yes_true yes_false e more =
        (other, next, numbered clauses number other at, resolved false from other pivot next yes_false, more next e)
    by_test other next at is false false yes_true yes_false e more = absurd cc

    by : (found : Option (List Literal)) → clause_at clauses number ≡ found → reach_from clauses (next_of pivot from found) chain ≡ Some clause →
        ((rest : List Literal) → reach_from clauses (Some rest) chain ≡ Some clause → ReachesFrom clauses rest chain clause) →
        ReachesFrom clauses from (pivot ∷ number ∷ chain) clause
    by None at e more = absurd cc
    by (Some other) at e more = by_test other (got_on from other pivot) at refl (resolves true from other pivot (got_on from other pivot)) (resolves false from other pivot (got_on from other pivot)) refl refl e more

pub reached : (clauses : List (List Literal)) (chain : List ℕ) (clause : List Literal) → reach clauses chain ≡ Some clause → Reaches clauses chain clause
reached clauses [] clause e = absurd cc
reached clauses (number ∷ chain) clause e = by (clause_at clauses number) refl e
  where
    by : (found : Option (List Literal)) → clause_at clauses number ≡ found → reach_from clauses found chain ≡ Some clause → Reaches clauses (number ∷ chain) clause
    by None at e = absurd cc
    by (Some first) at e = (first, numbered clauses number first at, reached_from clauses first chain clause e)
