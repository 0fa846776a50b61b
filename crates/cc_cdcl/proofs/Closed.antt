-- Closed assignments: literals that must be true, what two give alike, and full ones.
use Rattle.std.proofs.Common.{◌≡◌, ◌≢◌, ◌∙◌, ℕ, ◌<◌, ◌≤◌, zero, suc, inl, inr, Bool, true, false, not, List, [], ◌∷◌, ◌++◌, Option, Some, None, refl, sym, subst, ap, arith}
use Rattle.std.specs.Prelude.{◌⊎◌, Contains, IsTrue, if◌then◌else◌}
use Rattle.std.specs.List.{AllByRecursion}
use Rattle.std.proofs.lemmas.Bool.{or_parts}
use Rattle.std.proofs.lemmas.List.Elements.{All-contains, All-from_recursion, Contains-append_left}
use Rattle.cc_defs.specs.Assignments.{Values, IsClosed, IsFailed, IsUnit, IsTrueIn, IsFalseIn}
use Rattle.cc_defs.specs.Clauses.{Literal, IsOver, is_made_true, meets}
use Rattle.cc_cdcl.specs.Sets.{value_of_both, intersection, assignment_of, IsFull}

-- ---- literals of clauses

pub member_over : (variables : ℕ) (clause : List Literal) → IsOver variables clause → (literal : Literal) → Contains clause literal →
    (0 < literal.variable) × (literal.variable ≤ variables)
member_over variables [] over literal (k, within, is) = absurd (omega arith)
member_over variables (first ∷ clause) over literal (zero, within, is) =
    subst (λ (l : Literal). (0 < l.variable) × (l.variable ≤ variables)) is (over.0, over.1)
member_over variables (first ∷ clause) over literal (suc k, within, is) = member_over variables clause over.2 literal (k, omega arith, is)

pub fewer_closed : (values : Values) (clauses more : List (List Literal)) → IsClosed values (clauses ++ more) → IsClosed values clauses
fewer_closed values clauses more closed = record {
  none_failed = λ clause here. closed.none_failed clause (Contains-append_left clauses more clause here);
  none_unit = λ clause here. closed.none_unit clause (Contains-append_left clauses more clause here);
}

-- ---- a literal whose clause-mates are all false is true

abbrev AreFalseBut : Values → List Literal → Literal → Type 0
AreFalseBut values clause left = (literal : Literal) → Contains clause literal → (literal ≡ left) ⊎ IsFalseIn values literal

all_false : (values : Values) (clause : List Literal) (left : Literal) → AreFalseBut values clause left → IsFalseIn values left → IsFailed values clause
all_false values clause left others is literal here = elim (others literal here) [
  | inl same ↦ subst (λ (l : Literal). IsFalseIn values l) (sym same) is
  | inr false_is ↦ false_is
]

sign_cases : (value : Option Bool) (sign : Bool) → (value ≡ Some sign) ⊎ (value ≡ Some (not sign)) ⊎ (value ≡ None)
sign_cases None sign = inr (inr refl)
sign_cases (Some true) true = inl refl
sign_cases (Some false) false = inl refl
sign_cases (Some true) false = inr (inl refl)
sign_cases (Some false) true = inr (inl refl)

pub forced : (values : Values) (clauses : List (List Literal)) (clause : List Literal) (left : Literal) → IsClosed values clauses → Contains clauses clause →
    Contains clause left → AreFalseBut values clause left → IsTrueIn values left
forced values clauses clause left closed here member others = elim (sign_cases (values left.variable) left.positive) [
  | inl is ↦ is
  | inr (inl is) ↦ absurd (closed.none_failed clause here (all_false values clause left others is))
  | inr (inr none) ↦ absurd (closed.none_unit clause here (record { left = left; member = member; open_yet = none; others = others }))
]

-- ---- what two assignments give alike

alike_left : (a b : Option Bool) (sign : Bool) → value_of_both a b ≡ Some sign → a ≡ Some sign
alike_left None b sign is = cc
alike_left (Some s) None sign is = cc
alike_left (Some true) (Some true) sign is = is
alike_left (Some false) (Some false) sign is = is
alike_left (Some true) (Some false) sign is = cc
alike_left (Some false) (Some true) sign is = cc

alike_right : (a b : Option Bool) (sign : Bool) → value_of_both a b ≡ Some sign → b ≡ Some sign
alike_right None b sign is = cc
alike_right (Some s) None sign is = cc
alike_right (Some true) (Some true) sign is = is
alike_right (Some false) (Some false) sign is = is
alike_right (Some true) (Some false) sign is = cc
alike_right (Some false) (Some true) sign is = cc

both_given : (a b : Option Bool) (sign : Bool) → a ≡ Some sign → b ≡ Some sign → value_of_both a b ≡ Some sign
both_given a b true e f = rw (e, f) refl
both_given a b false e f = rw (e, f) refl

module _ (clauses : List (List Literal)) (a b : Values) (closed_a : IsClosed a clauses) (closed_b : IsClosed b clauses) where
  pub alike_closed : IsClosed (intersection a b) clauses
  alike_closed = record {
    none_failed = λ clause here failed.
        closed_a.none_failed clause here (λ literal member. alike_left (a literal.variable) (b literal.variable) (not literal.positive) (failed literal member));
    none_unit = λ clause here unit. no_unit clause here unit;
  }
    where
      mates : (values : Values) → ((literal : Literal) → IsFalseIn (intersection a b) literal → IsFalseIn values literal) → (clause : List Literal) →
          (unit : IsUnit (intersection a b) clause) → AreFalseBut values clause unit.left
      mates values keeps clause unit literal member = elim (unit.others literal member) [
        | inl same ↦ inl same
        | inr is ↦ inr (keeps literal is)
      ]

      no_unit : (clause : List Literal) → Contains clauses clause → IsUnit (intersection a b) clause → ⊥
      no_unit clause here unit =
          let in_a : IsTrueIn a unit.left = forced a clauses clause unit.left closed_a here unit.member
          (mates a (λ l is. alike_left (a l.variable) (b l.variable) (not l.positive) is) clause unit) in
          let in_b : IsTrueIn b unit.left = forced b clauses clause unit.left closed_b here unit.member
          (mates b (λ l is. alike_right (a l.variable) (b l.variable) (not l.positive) is) clause unit) in
          let both = both_given (a unit.left.variable) (b unit.left.variable) unit.left.positive in_a in_b in
          let none = unit.open_yet in cc

-- ---- full ones

not_met : (value : Option Bool) (literal : Literal) (values : Values) → values literal.variable ≡ value → (value ≢ None) →
    is_made_true (assignment_of values) literal ≡ false → IsFalseIn values literal
not_met None literal values is some wrong = absurd (some refl)
not_met (Some sign) literal values is some wrong = is ∙ by_sign literal.positive (rw is at wrong)
  where
    by_sign : (positive : Bool) → (if positive then sign else not sign) ≡ false → Some sign ≡ Some (not positive)
    by_sign true e = ap (λ (s : Bool). Some s) e
    by_sign false e = signs sign e
      where
        signs : (s : Bool) → not s ≡ false → Some s ≡ Some true
        signs true e = refl
        signs false e = cc

none_met : (values : Values) (clause : List Literal) → ((literal : Literal) → Contains clause literal → values literal.variable ≢ None) →
    meets (assignment_of values) clause ≡ false → IsFailed values clause
none_met values [] some wrong literal (k, within, is) = absurd (omega arith)
none_met values (first ∷ clause) some wrong literal (zero, within, is) =
    subst (λ (l : Literal). IsFalseIn values l) is
    (not_met (values first.variable) first values refl (some first (0, omega arith, refl)) (or_parts (is_made_true (assignment_of values) first) _ wrong).0)
none_met values (first ∷ clause) some wrong literal (suc k, within, is) =
    none_met values clause (λ l (j, low, same). some l (suc j, omega arith, same)) (or_parts (is_made_true (assignment_of values) first) _ wrong).1 literal (k, omega arith, is)

pub full_met : (variables : ℕ) (clauses : List (List Literal)) (values : Values) → AllByRecursion (IsOver variables) clauses → IsFull variables values →
    IsClosed values clauses → (clause : List Literal) → Contains clauses clause → IsTrue (meets (assignment_of values) clause)
full_met variables clauses values over full closed clause here = by (meets (assignment_of values) clause) refl
  where
    by : (met : Bool) → meets (assignment_of values) clause ≡ met → IsTrue met
    by true is = refl
    by false is = absurd (closed.none_failed clause here (none_met values clause
        (λ literal member.
        let low = member_over variables clause (All-contains (IsOver variables) clauses clause (All-from_recursion (IsOver variables) clauses over) here) literal member in
        full literal.variable low.0 low.1) is))
