-- Cursors: what they say under more values, how they move, and the choice that they lead to.
use Rattle.std.proofs.Common.{◌≡◌, ◌≢◌, ◌∙◌, ℕ, ◌+◌, ◌-◌, ◌<◌, ◌≤◌, zero, suc, inl, inr, Bool, true, false, List, [], ◌∷◌, ◌++◌, length, get_or, set, Option, Some, None, refl, sym, subst, ap, arith}
use Rattle.std.specs.Prelude.{Contains, IsTrue}
use Rattle.std.specs.List.{sum}
use Rattle.std.proofs.lemmas.Bool.Decides.{eqb_tells}
use Rattle.std.proofs.lemmas.List.{get_or-set_other, get_or-set_same}
use Rattle.std.proofs.lemmas.List.Sums.{sum_by-cons}
use Rattle.std.proofs.Math.ListN.{length-set}
use Rattle.cc_defs.specs.Assignments.{Values, IsClosed, HasNoValue}
use Rattle.cc_defs.specs.ClauseForms.{positive}
use Rattle.cc_defs.specs.ClauseLists.{position_variables, positions_from}
use Rattle.cc_defs.specs.Clauses.{Literal}
use Rattle.cc_trail.specs.declared.entries.Step.{Step}
use Rattle.cc_trail.specs.Steps.{AreSteps, steps_to, values_of, values_to}
use Rattle.cc_cdcl.specs.declared.choice.Cursor.{Cursor}
use Rattle.cc_cdcl.specs.Choices.{HasTrueValue, IsLeastOpen, IsNextFrom}
use Rattle.cc_cdcl.specs.Cursors.{AreCursors, HaveTrueValues, IsChoice, IsCursor}
use Rattle.cc_cdcl.specs.LeastRows.{true_index}
use Rattle.cc_cdcl.specs.Sets.{assignment_of}
use Rattle.cc_cdcl.proofs.Choosing.{first_there, not_all_false}
use Rattle.cc_cdcl.proofs.Denials.{given_true}
use Rattle.cc_cdcl.proofs.Exactly.{index_true}
use Rattle.cc_cdcl.proofs.Stepping.{GivesMore, none_step, steps_few, values_all, values_grow, values_higher, values_kept, values_last}

-- ---- under more values

true_value_more : (first size : ℕ) (values others : Values) → GivesMore values others → HasTrueValue first size values → HasTrueValue first size others
true_value_more first size values others more (value, low, is) = (value, low, more (first + value) true is)

true_values_more : (first : ℕ) (sizes : List ℕ) (count : ℕ) (values others : Values) (next : ℕ) → GivesMore values others → HaveTrueValues first sizes count values next →
    HaveTrueValues first sizes count others next
true_values_more first sizes zero values others next more have = have
true_values_more first [] (suc count) values others next more have = have
true_values_more first (size ∷ sizes) (suc count) values others next more have =
    (true_value_more first size values others more have.0, true_values_more (first + size) sizes count values others next more have.1)

some_more : (values others : Values) (variable : ℕ) → GivesMore values others → values variable ≢ None → others variable ≢ None
some_more values others variable more some = by (values variable) refl
  where
    by : (value : Option Bool) → values variable ≡ value → others variable ≢ None
    by None is = absurd (some is)
    by (Some sign) is = λ none. let given = more variable sign is in cc

pub cursor_more : (sizes : List ℕ) (variables : ℕ) (values others : Values) (cursor : Cursor) → GivesMore values others → IsCursor sizes variables values cursor →
    IsCursor sizes variables others cursor
cursor_more sizes variables values others cursor more is = record {
  positions = true_values_more 1 sizes cursor.position values others cursor.first more is.positions;
  some = is.some;
  most = is.most;
  before = λ variable some low. some_more values others variable more (is.before variable some low);
}

-- ---- moving on

pub true_values_push : (first : ℕ) (sizes : List ℕ) (count : ℕ) (values : Values) (next more : ℕ) → HaveTrueValues first sizes count values next → count < length sizes →
    HasTrueValue next (get_or sizes count 0) values → more ≡ suc count → HaveTrueValues first sizes more values (next + get_or sizes count 0)
true_values_push first sizes count values next more have low there is =
    subst (λ (n : ℕ). HaveTrueValues first sizes n values (next + get_or sizes count 0)) (sym is) (at first sizes count have low there)
  where
    at : (first : ℕ) (sizes : List ℕ) (count : ℕ) → HaveTrueValues first sizes count values next → count < length sizes → HasTrueValue next (get_or sizes count 0) values →
        HaveTrueValues first sizes (suc count) values (next + get_or sizes count 0)
    at first [] count have low there = absurd (omega arith)
    at first (size ∷ sizes) zero have low there = (subst (λ (n : ℕ). HasTrueValue n size values) have there, ap (λ (n : ℕ). n + size) have)
    at first (size ∷ sizes) (suc count) have low there = (have.0, at (first + size) sizes count have.1 (omega arith) there)

pub position_within : (first : ℕ) (sizes : List ℕ) (count : ℕ) (values : Values) (next : ℕ) → HaveTrueValues first sizes count values next → count < length sizes →
    (first ≤ next) × (next + get_or sizes count 0 ≤ first + sum sizes)
position_within first [] count values next have low = absurd (omega arith)
position_within first (size ∷ sizes) zero values next have low =
    let all : sum (size ∷ sizes) ≡ size + sum sizes = sum_by-cons (λ (n : ℕ). n) size sizes in
    let same : next ≡ first = have in
    (omega arith, omega arith)
position_within first (size ∷ sizes) (suc count) values next have low =
    let all : sum (size ∷ sizes) ≡ size + sum sizes = sum_by-cons (λ (n : ℕ). n) size sizes in
    let rest = position_within (first + size) sizes count values next have.1 (omega arith) in
    (omega arith, omega arith)

pub cursor_moved : (sizes : List ℕ) (variables : ℕ) (values : Values) (cursor : Cursor) → IsCursor sizes variables values cursor → cursor.position < length sizes →
    HasTrueValue cursor.first (get_or sizes cursor.position 0) values →
    IsCursor sizes variables values (record { position = cursor.position + 1; first = cursor.first + get_or sizes cursor.position 0; variable = cursor.variable })
cursor_moved sizes variables values cursor is low there = record {
  positions = true_values_push 1 sizes cursor.position values cursor.first (cursor.position + 1) is.positions low there (omega arith);
  some = is.some;
  most = is.most;
  before = is.before;
}

-- ---- the next choice

pub not_given : {P : Type 0} (b : Bool) → (P → IsTrue b) → b ≡ false → P → ⊥
not_given b given is p = let true_is = given p in cc

pub next_chosen : (first : ℕ) (sizes : List ℕ) (count : ℕ) (values : Values) (next : ℕ) (literal : Literal) → HaveTrueValues first sizes count values next → count < length sizes →
    (HasTrueValue next (get_or sizes count 0) values → ⊥) → IsLeastOpen next (get_or sizes count 0) values literal → IsNextFrom first sizes values literal
next_chosen first [] count values next literal have low none least = absurd (omega arith)
next_chosen first (size ∷ sizes) zero values next literal have low none least =
    inr (subst (λ (n : ℕ). (HasTrueValue n size values → ⊥) × IsLeastOpen n size values literal) have (none, least))
next_chosen first (size ∷ sizes) (suc count) values next literal have low none least =
    inl (have.0, next_chosen (first + size) sizes count values next literal have.1 (omega arith) none least)

pub next_open : (first : ℕ) (sizes : List ℕ) (count : ℕ) (values : Values) (next : ℕ) (literal : Literal) → HaveTrueValues first sizes count values next → length sizes ≤ count →
    HasNoValue values literal → literal.positive ≡ false → IsNextFrom first sizes values literal
next_open first [] count values next literal have all none negative = (none, negative)
next_open first (size ∷ sizes) zero values next literal have all none negative = absurd (omega arith)
next_open first (size ∷ sizes) (suc count) values next literal have all none negative =
    inl (have.0, next_open (first + size) sizes count values next literal have.1 (omega arith) none negative)

position_there : (clauses : List (List Literal)) (first : ℕ) (sizes : List ℕ) (count : ℕ) (values : Values) (next : ℕ) → HaveTrueValues first sizes count values next →
    count < length sizes → ((clause : List Literal) → Contains (positions_from first sizes) clause → Contains clauses clause) →
    Contains clauses (position_variables next (get_or sizes count 0))
position_there clauses first [] count values next have low all = absurd (omega arith)
position_there clauses first (size ∷ sizes) zero values next have low all =
    subst (λ (n : ℕ). Contains clauses (position_variables n size)) (sym have) (first_there clauses first size sizes all).0
position_there clauses first (size ∷ sizes) (suc count) values next have low all =
    position_there clauses (first + size) sizes count values next have.1 (omega arith) (first_there clauses first size sizes all).1

-- some value of the position is not false
pub some_open : (clauses : List (List Literal)) (sizes : List ℕ) (count : ℕ) (values : Values) (next : ℕ) → IsClosed values clauses → HaveTrueValues 1 sizes count values next →
    count < length sizes → ((clause : List Literal) → Contains (positions_from 1 sizes) clause → Contains clauses clause) →
    ((value : ℕ) → value < get_or sizes count 0 → values (next + value) ≡ Some false) → ⊥
some_open clauses sizes count values next closed have low all falsified =
    not_all_false values clauses next (get_or sizes count 0) closed (position_there clauses 1 sizes count values next have low all) falsified

pub open_value : (values : Values) (next size value : ℕ) → value < size → (HasTrueValue next size values → ⊥) → values (next + value) ≢ Some false →
    values (next + value) ≡ None
open_value values next size value low none other = by (values (next + value)) refl
  where
    by : (given : Option Bool) → values (next + value) ≡ given → values (next + value) ≡ None
    by None is = is
    by (Some true) is = absurd (none (value, low, is))
    by (Some false) is = absurd (other is)

-- ---- the first true value

-- what is not true is false, where no value counts as false
not_true : (values : Values) (variable : ℕ) → (values variable ≡ Some true → ⊥) → assignment_of values variable ≡ false
not_true values variable never = by (assignment_of values variable) refl
  where
    by : (b : Bool) → assignment_of values variable ≡ b → assignment_of values variable ≡ false
    by false is = is
    by true is = absurd (never (given_true (values variable) is))

pub index_on : (values : Values) (first size value : ℕ) → value < size → (values (first + value) ≡ Some true → ⊥) →
    true_index (assignment_of values) (first + value) (size - value) ≡ suc (true_index (assignment_of values) (first + (value + 1)) (size - (value + 1)))
index_on values first size value low never =
    let more : size - value ≡ suc (size - (value + 1)) = omega arith in
    let next : first + value + 1 ≡ first + (value + 1) = omega arith in
    ap (λ (n : ℕ). true_index (assignment_of values) (first + value) n) more ∙
    at (size - (value + 1)) ∙ ap (λ (n : ℕ). suc (true_index (assignment_of values) n (size - (value + 1)))) next
  where
    at : (rest : ℕ) → true_index (assignment_of values) (first + value) (suc rest) ≡ suc (true_index (assignment_of values) (first + value + 1) rest)
    at rest = rw (not_true values (first + value) never) refl

pub index_here : (values : Values) (first size value : ℕ) → value < size → values (first + value) ≡ Some true →
    true_index (assignment_of values) (first + value) (size - value) ≡ 0
index_here values first size value low is =
    let more : size - value ≡ suc (size - (value + 1)) = omega arith in
    ap (λ (n : ℕ). true_index (assignment_of values) (first + value) n) more ∙ at (size - (value + 1))
  where
    at : (rest : ℕ) → true_index (assignment_of values) (first + value) (suc rest) ≡ 0
    at rest = let here : assignment_of values (first + value) ≡ true = rw is refl in rw here refl

pub index_none : (values : Values) (first size : ℕ) → true_index (assignment_of values) first size ≡ size → HasTrueValue first size values → ⊥
index_none values first size is (value, low, at) =
    let there = index_true (assignment_of values) size first value low (rw at refl) in
    let less : true_index (assignment_of values) first size < size = there.0 in absurd (omega arith)

pub index_some : (values : Values) (size first : ℕ) → true_index (assignment_of values) first size ≢ size → HasTrueValue first size values
index_some values zero first apart = absurd (apart refl)
index_some values (suc size) first apart = by (assignment_of values first) refl (index_some values size (first + 1))
  where
    on : assignment_of values first ≡ false → true_index (assignment_of values) (first + 1) size ≢ size
    on e is = apart (rw e (ap suc is))

    by : (b : Bool) → assignment_of values first ≡ b → (true_index (assignment_of values) (first + 1) size ≢ size → HasTrueValue (first + 1) size values) →
        HasTrueValue first (suc size) values
    by true e rest = (0, omega arith, ap values (omega arith) ∙ given_true (values first) e)
    by false e rest = let (value, low, is) = rest (on e) in (suc value, omega arith, ap values (omega arith) ∙ is)

-- ---- the cursors of the levels

module _ (sizes : List ℕ) (variables : ℕ) (steps : List Step) (level_count : ℕ) (cursors : List Cursor) (are : AreCursors sizes variables steps level_count cursors) where
  pub cursors_grow : (more : List Step) → AreCursors sizes variables (steps ++ more) level_count cursors
  cursors_grow more = record {
    room = are.room;
    each = λ level other low. cursor_more sizes variables (values_to level steps) (values_to level (steps ++ more)) (get_or cursors level other) (values_grow level steps more)
        (are.each level other low);
  }

  pub cursors_back : (back : ℕ) → back ≤ level_count → AreCursors sizes variables (steps_to back steps) back cursors
  cursors_back back less = record {
    room = are.room;
    each = λ level other low. cursor_more sizes variables (values_to level steps) (values_to level (steps_to back steps)) (get_or cursors level other)
        (values_kept level back steps low) (are.each level other (omega arith));
  }

  -- that of the last level, by all steps
  pub cursor_last : (other : Cursor) → IsCursor sizes variables (values_of steps) (get_or cursors level_count other)
  cursor_last other = cursor_more sizes variables (values_to level_count steps) (values_of steps) (get_or cursors level_count other) (values_all level_count steps)
      (are.each level_count other (omega arith))

  module _ (cursor : Cursor) (is : IsCursor sizes variables (values_of steps) cursor) (all : AreSteps variables steps level_count) where
    pub level_within : level_count < length cursors
    level_within = let few = steps_few variables steps level_count all in let room = are.room in omega (arith, few.0, few.1)

    pub cursors_set : AreCursors sizes variables steps level_count (set cursors level_count cursor)
    cursors_set = record {
      room = length-set cursors level_count cursor ∙ are.room;
      each = λ level other low. elim (eqb_tells level level_count) [
        | inl same ↦ subst (λ (n : ℕ). IsCursor sizes variables (values_to n steps) (get_or (set cursors level_count cursor) n other)) (sym (same.1))
            (subst (λ (c : Cursor). IsCursor sizes variables (values_to level_count steps) c) (sym (get_or-set_same cursors level_count cursor other level_within))
            (cursor_more sizes variables (values_of steps) (values_to level_count steps) cursor (values_last variables steps level_count all) is))
        | inr differ ↦ subst (λ (c : Cursor). IsCursor sizes variables (values_to level steps) c) (sym (get_or-set_other cursors level_count level cursor other (differ.1)))
            (are.each level other low)
      ];
    }

    -- a level more, and the same cursor for it
    pub cursors_decided : (last : Step) → level_count + 1 ≤ variables →
        AreCursors sizes variables (steps ++ last ∷ []) (level_count + 1) (set (set cursors level_count cursor) (level_count + 1) cursor)
    cursors_decided last few = record {
      room = length-set (set cursors level_count cursor) (level_count + 1) cursor ∙ cursors_set.room;
      each = λ level other low. elim (eqb_tells level (level_count + 1)) [
        | inl same ↦ subst (λ (n : ℕ). IsCursor sizes variables (values_to n (steps ++ last ∷ [])) (get_or (set (set cursors level_count cursor) (level_count + 1) cursor) n other)) (sym (same.1))
            (subst (λ (c : Cursor). IsCursor sizes variables (values_to (level_count + 1) (steps ++ last ∷ [])) c)
            (sym (get_or-set_same (set cursors level_count cursor) (level_count + 1) cursor other (let room = cursors_set.room in omega (arith, room))))
            (cursor_more sizes variables (values_of steps) (values_to (level_count + 1) (steps ++ last ∷ [])) cursor up is))
        | inr differ ↦ subst (λ (c : Cursor). IsCursor sizes variables (values_to level (steps ++ last ∷ [])) c)
            (sym (get_or-set_other (set cursors level_count cursor) (level_count + 1) level cursor other (differ.1)))
            (cursor_more sizes variables (values_to level steps) (values_to level (steps ++ last ∷ [])) (get_or (set cursors level_count cursor) level other)
            (values_grow level steps (last ∷ [])) (cursors_set.each level other (let apart : level ≢ level_count + 1 = differ.1 in omega arith)))
      ];
    }
      where
        up : GivesMore (values_of steps) (values_to (level_count + 1) (steps ++ last ∷ []))
        up variable sign given = values_grow (level_count + 1) steps (last ∷ []) variable sign
            (values_higher level_count (level_count + 1) steps (omega arith) variable sign (values_last variables steps level_count all variable sign given))

-- ---- the literal that is decided

none_true : (literal : Literal) (variable : ℕ) (sign : Bool) → literal ≡ record { variable = variable; positive = sign } → (literal.variable ≡ variable) × (literal.positive ≡ sign)
none_true literal variable sign is = (ap (λ (l : Literal). l.variable) is, ap (λ (l : Literal). l.positive) is)

module _ (sizes : List ℕ) (variables : ℕ) (steps : List Step) (cursor : Cursor) (is : IsCursor sizes variables (values_of steps) cursor) where
  pub chosen_value : cursor.position < length sizes → (HasTrueValue cursor.first (get_or sizes cursor.position 0) (values_of steps) → ⊥) → sum sizes ≤ variables →
      (value : ℕ) → value < get_or sizes cursor.position 0 → values_of steps (cursor.first + value) ≢ Some false →
      ((lower : ℕ) → lower < value → values_of steps (cursor.first + lower) ≡ Some false) → (literal : Literal) → literal ≡ positive (cursor.first + value) →
      IsChoice sizes variables steps literal
  chosen_value low none few value within other lower literal literal_is = record {
    next = next_chosen 1 sizes cursor.position (values_of steps) cursor.first literal is.positions low none (value, within, literal_is, unset, lower);
    over = (omega (arith, there.0, variable_is.0), omega (arith, there.1, variable_is.0));
    open_yet = none_step steps literal.variable unset;
  }
    where
      there : (1 ≤ cursor.first) × (cursor.first + get_or sizes cursor.position 0 ≤ 1 + sum sizes)
      there = position_within 1 sizes cursor.position (values_of steps) cursor.first is.positions low

      variable_is : (literal.variable ≡ cursor.first + value) × (literal.positive ≡ true)
      variable_is = none_true literal (cursor.first + value) true literal_is

      unset : HasNoValue (values_of steps) literal
      unset = ap (values_of steps) (variable_is.0) ∙ open_value (values_of steps) cursor.first (get_or sizes cursor.position 0) value within none other

  pub chosen_variable : length sizes ≤ cursor.position → (variable : ℕ) → 1 ≤ variable → variable ≤ variables → values_of steps variable ≡ None → (literal : Literal) →
      literal ≡ record { variable = variable; positive = false } → IsChoice sizes variables steps literal
  chosen_variable all variable some most none literal literal_is = record {
    next = next_open 1 sizes cursor.position (values_of steps) cursor.first literal is.positions all unset (variable_is.1);
    over = (omega (arith, some, variable_is.0), omega (arith, most, variable_is.0));
    open_yet = none_step steps literal.variable unset;
  }
    where
      variable_is : (literal.variable ≡ variable) × (literal.positive ≡ false)
      variable_is = none_true literal variable false literal_is

      unset : HasNoValue (values_of steps) literal
      unset = ap (values_of steps) (variable_is.0) ∙ none
