-- The truth of the term of a formula is that of the formula.
use Rattle.std.proofs.Common.{◌≡◌, ◌∙◌, ℕ, zero, suc, ◌+◌, ◌<◌, Bool, true, false, not, ◌&&◌, ◌||◌, eqb, cond, List, [], ◌∷◌, ◌++◌, nat_eq, position, slice_get, Option, Some, None, inl, inr, refl, sym, ap, arith}
use Rattle.std.proofs.Math.Bool.{or_assoc}
use Rattle.std.specs.Option.{option_map}
use Rattle.std.specs.Prelude.{◌==◌, if◌then◌else◌, is_some, option_and_then}
use Rattle.std.specs.Bool.{beq}
use Rattle.std.specs.List.{AllByRecursion, IsDistinct, position_from}
use Rattle.std.proofs.lemmas.Bool.{cases_eq, eq-eqb, ne_eqb}
use Rattle.std.proofs.lemmas.Iterator.Adapters.{position_from-zero}
use Rattle.cc_arena.specs.Meanings.{head_truth}
use Rattle.cc_defs.specs.declared.node.GroundHead.{GroundHead}
use Rattle.cc_defs.specs.declared.node.GroundHead.TheVariants as heads
use Rattle.cc_defs.specs.declared.signature.Const.{Const}
use Rattle.cc_defs.specs.GroundLaws.{ground_head, head_at, head_of_sides}
use Rattle.cc_defs.specs.Judged.{constants_of, is_sum, judged}
use Rattle.cc_defs.specs.Nodes.{Side, Constant, Value, Absent, side, value_side, constant_side, numbered_side, atom, atom_at, both_have, common_values, equation, term_of}
use Rattle.cc_defs.specs.Resolved.{Term, Terms, Formula, Head, terms_of}
use Rattle.cc_defs.specs.Resolved as resolved
use Rattle.cc_defs.specs.Satisfaction.{Environment, Value as TermValue, added, argument, at_most_value, bind, constant_meant, given_value, less_value, meant, object_given, object_of_value, taken, term_value, same_value, value_at, satisfied, head_satisfied}
use Rattle.cc_defs.specs.Terms.{Ground, Operands, operands_behind, truth, any_true}
use Rattle.cc_defs.specs.Terms as terms
use Rattle.cc_defs.specs.Universe.{Universe, HaveOwnValues, constants_in, objects_of}
use Rattle.cc_arena.proofs.Instances.{all_instances, any_instances, or_false, same_all, same_any}
use Rattle.cc_arena.proofs.Judging.{AsksBoth, WantsBoth, added_wants, at_most_asks, comparison_is_over, judged_tells, less_asks, same_asks, taken_wants}
use Rattle.cc_arena.proofs.Values.{IsWhole, added_whole, none_meant, object_means, same_meant, same_object, taken_whole}

-- ---- the place of a value among different values

-- whether this is the place
abbrev is_place : Option ℕ → ℕ → Bool
is_place (Some place) index = index == place
is_place None index = false

eqb_swap : (m n : ℕ) → eqb m n ≡ eqb n m
eqb_swap m n = elim (cases_eq m n) [
  | inl same ↦ eq-eqb m n same ∙ sym (eq-eqb n m (sym same))
  | inr other ↦ ne_eqb m n other ∙ sym (ne_eqb n m (λ same. other (sym same)))
]

not_before : (test : ℕ → Bool) (n k : ℕ) (values : List ℕ) → k < n → is_place (position_from test n values) k ≡ false
not_before test n k [] p = refl
not_before test n k (value ∷ values) p = elim (test value) as (λ here. is_place (cond here (Some n) (position_from test (n + 1) values)) k ≡ false) [
  | true ↦ ne_eqb k n (λ same. omega arith)
  | false ↦ not_before test (n + 1) k values (omega arith)
]

not_behind : (value other i : ℕ) (values : List ℕ) → value ≡ other → AllByRecursion (λ y. eqb other y ≡ false) values → same_object (slice_get values i) (Some value) ≡ false
not_behind value other i [] same all = refl
not_behind value other zero (y ∷ ys) same all = eqb_swap y value ∙ ap (λ (k : ℕ). eqb k y) same ∙ all.0
not_behind value other (suc i) (y ∷ ys) same all = not_behind value other i ys same all.1

place_tells : (value n i : ℕ) (values : List ℕ) → IsDistinct nat_eq values → is_place (position_from (nat_eq value) n values) (n + i) ≡ same_object (slice_get values i) (Some value)
unfolding IsDistinct
place_tells value n i [] distinct = refl
place_tells value n zero (y ∷ ys) distinct =
    let here : n + 0 ≡ n = omega arith in
    elim (cases_eq value y) [
      | inl same ↦ rw (eq-eqb value y same, here) (eq-eqb n n refl ∙ sym (eq-eqb y value (sym same)))
      | inr other ↦ rw (ne_eqb value y other, here) (not_before (nat_eq value) (n + 1) n ys (omega arith) ∙ sym (ne_eqb y value (λ same. other (sym same))))
    ]
place_tells value n (suc i) (y ∷ ys) distinct = elim (cases_eq value y) [
  | inl same ↦ rw (eq-eqb value y same) (ne_eqb (n + suc i) n (λ e. omega arith) ∙ sym (not_behind value y i ys same distinct.0))
  | inr other ↦
      let next : n + suc i ≡ n + 1 + i = omega arith in
      rw (ne_eqb value y other, next) (place_tells value (n + 1) i ys distinct.1)
]

-- a constant's value is the one whose place its index is
index_tells : (value i : ℕ) (values : List ℕ) → IsDistinct nat_eq values → is_place (position (nat_eq value) values) i ≡ same_object (slice_get values i) (Some value)
index_tells value i values distinct =
    let from : 0 + i ≡ i = omega arith in
    ap (λ (o : Option ℕ). is_place o i) (position_from-zero (nat_eq value) values)
    ∙ ap (λ (k : ℕ). is_place (position_from (nat_eq value) 0 values) k) (sym from)
    ∙ place_tells value 0 i values distinct

swapped : (a b : Option ℕ) → same_object a b ≡ same_object b a
swapped (Some a) (Some b) = eqb_swap a b
swapped (Some a) None = refl
swapped None (Some b) = refl
swapped None None = refl

and_false : (b : Bool) → false ≡ (b && false)
and_false true = refl
and_false false = refl

-- ---- sides

-- a constant's values are different
abbrev IsOwn : Side → Type 0
IsOwn (Constant number values) = IsDistinct nat_eq values
IsOwn other = Unit {0}

own_side : (constants : List Const) (i number : ℕ) → AllByRecursion (λ (c : Const). IsDistinct nat_eq c.domain) constants → IsOwn (constant_side number (slice_get constants i))
own_side [] i number all = tt
own_side (c ∷ cs) zero number all = all.0
own_side (c ∷ cs) (suc i) number all = own_side cs i number all.1

value_own : (o : Option ℕ) → IsOwn (value_side o)
value_own (Some value) = tt
value_own None = tt

sides_own : (u : Universe) → HaveOwnValues u → (env : Environment) (t : Term) → IsOwn (side u env t)
sides_own u own env (resolved.Constant symbol args) = number_own (constant_meant u env symbol args)
  where
    number_own : (o : Option ℕ) → IsOwn (numbered_side u o)
    number_own (Some number) = own_side (constants_in u) number number own.values
    number_own None = tt
sides_own u own env (resolved.Object object) = tt
sides_own u own env (resolved.Variable variable) = value_own (env variable)
sides_own u own env resolved.Nothing = tt
sides_own u own env (resolved.Number number) = value_own (object_given u env (resolved.Number number))
sides_own u own env (resolved.Plus s t) = value_own (object_given u env (resolved.Plus s t))
sides_own u own env (resolved.Minus s t) = value_own (object_given u env (resolved.Minus s t))

module _ (valuation : ℕ → ℕ) where
  abbrev side_value : Side → Option ℕ
  side_value (Constant number values) = slice_get values (valuation number)
  side_value (Value value) = Some value
  side_value Absent = None

  value_of_constant : (number : ℕ) (o : Option Const) → option_and_then (λ (c : Const). slice_get c.domain (valuation number)) o ≡ side_value (constant_side number o)
  value_of_constant number (Some c) = refl
  value_of_constant number None = refl

  value_of_number : (u : Universe) (o : Option ℕ) → option_and_then (value_at (constants_in u) valuation) o ≡ side_value (numbered_side u o)
  value_of_number u (Some number) = value_of_constant number (slice_get (constants_in u) number)
  value_of_number u None = refl

  value_of_value : (o : Option ℕ) → o ≡ side_value (value_side o)
  value_of_value (Some value) = refl
  value_of_value None = refl

  -- ---- equations

  atom_at_tells : (number : ℕ) (o : Option ℕ) → truth valuation (atom_at number o) ≡ is_place o (valuation number)
  atom_at_tells number (Some index) = refl
  atom_at_tells number None = refl

  atom_tells : (number value : ℕ) (values : List ℕ) → IsDistinct nat_eq values → truth valuation (atom number values value) ≡ same_object (slice_get values (valuation number)) (Some value)
  atom_tells number value values distinct =
      atom_at_tells number (position (nat_eq value) values) ∙ index_tells value (valuation number) values distinct

  abbrev common_from : ℕ → ℕ → List ℕ → ℕ → List ℕ → Bool
  common_from number index [] other others = false
  common_from number index (value ∷ values) other others =
      ((valuation number == index) && is_place (position (nat_eq value) others) (valuation other)) || common_from number (index + 1) values other others

  -- with those that both have at this place, if any, before the others
  common_tells : (operands : Operands) (number index other : ℕ) (o : Option ℕ) (rest : List Ground) (more : Bool) →
      ((front : Operands) → any_true valuation (operands_behind front rest) ≡ (any_true valuation front || more)) →
      any_true valuation (operands_behind operands (both_have number index other o ++ rest))
      ≡ (any_true valuation operands || (((valuation number == index) && is_place o (valuation other)) || more))
  common_tells operands number index other (Some place) rest more others =
      let one = terms.All (terms.and_then (terms.and_then terms.nothing (terms.Atom number index)) (terms.Atom other place)) in
      others (terms.and_then operands one) ∙ or_assoc (any_true valuation operands) (truth valuation one) more
  common_tells operands number index other None rest more others =
      others operands ∙ ap (λ (b : Bool). any_true valuation operands || (b || more)) (and_false (valuation number == index))

  commons_tell : (operands : Operands) (number index : ℕ) (values : List ℕ) (other : ℕ) (others : List ℕ) →
      any_true valuation (operands_behind operands (common_values number index values other others)) ≡ (any_true valuation operands || common_from number index values other others)
  commons_tell operands number index [] other others = or_false (any_true valuation operands)
  commons_tell operands number index (value ∷ values) other others =
      common_tells operands number index other (position (nat_eq value) others) (common_values number (index + 1) values other others)
      (common_from number (index + 1) values other others) (λ front. commons_tell front number (index + 1) values other others)

  none_from : (number index : ℕ) (values : List ℕ) (other : ℕ) (others : List ℕ) → valuation number < index → common_from number index values other others ≡ false
  none_from number index [] other others p = refl
  none_from number index (value ∷ values) other others p =
      rw (ne_eqb (valuation number) index (λ same. omega arith)) (none_from number (index + 1) values other others (omega arith))

  from_tells : (number index : ℕ) (values : List ℕ) (other : ℕ) (others : List ℕ) (i : ℕ) → IsDistinct nat_eq others → valuation number ≡ index + i →
      common_from number index values other others ≡ same_object (slice_get values i) (slice_get others (valuation other))
  from_tells number index [] other others i distinct e = refl
  from_tells number index (value ∷ values) other others zero distinct e =
      let here : valuation number ≡ index = omega arith in
      rw (eq-eqb (valuation number) index here) (
      ap (λ (b : Bool). is_place (position (nat_eq value) others) (valuation other) || b) (none_from number (index + 1) values other others (omega arith))
      ∙ sym (or_false (is_place (position (nat_eq value) others) (valuation other)))
      ∙ index_tells value (valuation other) others distinct
      ∙ swapped (slice_get others (valuation other)) (Some value)
      )
  from_tells number index (value ∷ values) other others (suc i) distinct e =
      rw (ne_eqb (valuation number) index (λ same. omega arith)) (from_tells number (index + 1) values other others i distinct (omega arith))

  equation_tells : (p q : Side) → IsOwn p → IsOwn q → truth valuation (equation p q) ≡ same_object (side_value p) (side_value q)
  equation_tells (Constant number values) (Constant other others) p q =
      let from : valuation number ≡ 0 + valuation number = omega arith in
      commons_tell terms.nothing number 0 values other others ∙ from_tells number 0 values other others (valuation number) q from
  equation_tells (Constant number values) (Value value) p q = atom_tells number value values p
  equation_tells (Value value) (Constant number values) p q =
      atom_tells number value values q ∙ swapped (slice_get values (valuation number)) (Some value)
  equation_tells (Value value) (Value other) p q = of_test (value == other)
    where
      of_test : (b : Bool) → truth valuation (if b then terms.Truth else terms.Falsehood) ≡ b
      of_test true = refl
      of_test false = refl
  equation_tells (Constant number values) Absent p q = sym (swapped (slice_get values (valuation number)) None)
  equation_tells (Value value) Absent p q = refl
  equation_tells Absent other p q = refl

  head_tells : (p q : Side) → IsOwn p → (found : GroundHead) → head_of_sides p q ≡ Some found → head_truth valuation found ≡ same_object (side_value p) (side_value q)
  head_tells (Constant constant values) (Value value) p found e =
      at (position (nat_eq value) values) e ∙ index_tells value (valuation constant) values p
    where
      at : (o : Option ℕ) → head_at constant o ≡ Some found → head_truth valuation found ≡ is_place o (valuation constant)
      at (Some place) e =
          let same : heads.Atom constant place ≡ found = cc in
          ap (head_truth valuation) (sym same)
      at None e = absurd cc
  head_tells (Constant constant values) (Constant other others) p found e = absurd cc
  head_tells (Constant constant values) Absent p found e = absurd cc
  head_tells (Value value) q p found e = absurd cc
  head_tells Absent q p found e = absurd cc

-- ---- terms

module _ (u : Universe) (own : HaveOwnValues u) (valuation : ℕ → ℕ) (env : Environment) where
  -- the value of a term that is no sum is what its side means
  value_of_side : (t : Term) → is_sum t ≡ false → term_value u env valuation t ≡ option_map (meant u) (side_value valuation (side u env t))
  value_of_side (resolved.Constant symbol args) e = ap (option_map (meant u)) (value_of_number valuation u (constant_meant u env symbol args))
  value_of_side (resolved.Object object) e = refl
  value_of_side (resolved.Variable variable) e = ap (option_map (meant u)) (value_of_value valuation (env variable))
  value_of_side resolved.Nothing e = ap Some (sym (none_meant u own))
  value_of_side (resolved.Number number) e = absurd cc
  value_of_side (resolved.Plus s t) e = absurd cc
  value_of_side (resolved.Minus s t) e = absurd cc

  sides_tell : (s t : Term) → is_sum s ≡ false → is_sum t ≡ false →
      same_object (side_value valuation (side u env s)) (side_value valuation (side u env t)) ≡ satisfied u valuation env (resolved.Equal s t)
  sides_tell s t lone other =
      sym (same_meant u own (side_value valuation (side u env s)) (side_value valuation (side u env t)))
      ∙ ap (λ (v : Option TermValue). same_value v (option_map (meant u) (side_value valuation (side u env t)))) (sym (value_of_side s lone))
      ∙ ap (λ (v : Option TermValue). same_value (term_value u env valuation s) v) (sym (value_of_side t other))

  -- a sum that has a value without constants has it with them
  sum_has : (join : Option TermValue → Option TermValue → Option TermValue) → WantsBoth join → (a b v w : Option TermValue) → (is_some a ≡ true → v ≡ a) → (is_some b ≡ true → w ≡ b) →
      is_some (join a b) ≡ true → join v w ≡ join a b
  sum_has join wants a b v w first second e =
      let both = wants a b e in
      ap (λ x. join x w) (first both.0) ∙ ap (join a) (second both.1)

  given_has : (t : Term) → is_some (given_value u env t) ≡ true → term_value u env valuation t ≡ given_value u env t
  given_has (resolved.Constant symbol args) e = absurd cc
  given_has (resolved.Object object) e = refl
  given_has (resolved.Variable variable) e = refl
  given_has resolved.Nothing e = refl
  given_has (resolved.Number number) e = refl
  given_has (resolved.Plus s t) e =
      sum_has added added_wants (given_value u env s) (given_value u env t) (term_value u env valuation s) (term_value u env valuation t) (given_has s) (given_has t) e
  given_has (resolved.Minus s t) e =
      sum_has taken taken_wants (given_value u env s) (given_value u env t) (term_value u env valuation s) (term_value u env valuation t) (given_has s) (given_has t) e

  -- a sum that is an object means what it means
  sum_means : (t : Term) → IsWhole (given_value u env t) → (object : ℕ) → option_and_then (object_of_value u) (given_value u env t) ≡ Some object → (w : Option TermValue) →
      same_value w (Some (meant u object)) ≡ same_value w (term_value u env valuation t)
  sum_means t whole object e w =
      sym (object_means u (given_value u env t) whole object e w)
      ∙ ap (same_value w) (sym (given_has t (there (given_value u env t) e)))
    where
      there : (v : Option TermValue) → option_and_then (object_of_value u) v ≡ Some object → is_some v ≡ true
      there (Some value) e = refl
      there None e = absurd cc

-- ---- formulas

module _ (u : Universe) (own : HaveOwnValues u) (valuation : ℕ → ℕ) where
  compared_is : (compare : Option TermValue → Option TermValue → Bool) → AsksBoth compare → (env : Environment) (s t : Term) (formula : Formula) →
      ((other : ℕ → ℕ) → satisfied u other env formula ≡ compare (term_value u env other s) (term_value u env other t)) →
      truth valuation (judged u env formula (constants_of s ++ constants_of t)) ≡ satisfied u valuation env formula
  compared_is compare asks env s t formula is = judged_tells u env formula valuation (constants_of s ++ constants_of t) (comparison_is_over u env compare asks s t formula is)

  equal_is : (env : Environment) (s t : Term) (sum other : Bool) → is_sum s ≡ sum → is_sum t ≡ other →
      truth valuation (if sum || other then judged u env (resolved.Equal s t) (constants_of s ++ constants_of t) else equation (side u env s) (side u env t))
      ≡ satisfied u valuation env (resolved.Equal s t)
  equal_is env s t false false lone single =
      equation_tells valuation (side u env s) (side u env t) (sides_own u own env s) (sides_own u own env t) ∙ sides_tell u own valuation env s t lone single
  equal_is env s t true other is e = compared_is same_value same_asks env s t (resolved.Equal s t) (λ other. refl)
  equal_is env s t false true is e = compared_is same_value same_asks env s t (resolved.Equal s t) (λ other. refl)

  pub truth_is : (env : Environment) (formula : Formula) → truth valuation (term_of u env formula) ≡ satisfied u valuation env formula
  truth_is env resolved.Truth = refl
  truth_is env resolved.Falsehood = refl
  truth_is env (resolved.Equal s t) = equal_is env s t (is_sum s) (is_sum t) refl refl
  truth_is env (resolved.Less s t) = compared_is less_value less_asks env s t (resolved.Less s t) (λ other. refl)
  truth_is env (resolved.AtMost s t) = compared_is at_most_value at_most_asks env s t (resolved.AtMost s t) (λ other. refl)
  truth_is env (resolved.Not f) = ap not (truth_is env f)
  truth_is env (resolved.Both f g) =
      ap (λ (b : Bool). b && truth valuation (term_of u env g)) (truth_is env f) ∙ ap (λ (b : Bool). satisfied u valuation env f && b) (truth_is env g)
  truth_is env (resolved.Either f g) =
      ap (λ (b : Bool). b || truth valuation (term_of u env g)) (truth_is env f) ∙ ap (λ (b : Bool). satisfied u valuation env f || b) (truth_is env g)
  truth_is env (resolved.Implies f g) =
      ap (λ (b : Bool). not b || truth valuation (term_of u env g)) (truth_is env f)
      ∙ ap (λ (b : Bool). not (satisfied u valuation env f) || b) (truth_is env g)
  truth_is env (resolved.Same f g) =
      ap (λ (b : Bool). beq b (truth valuation (term_of u env g))) (truth_is env f) ∙ ap (λ (b : Bool). beq (satisfied u valuation env f) b) (truth_is env g)
  truth_is env (resolved.ForAll variable sort f) =
      all_instances valuation (λ object. term_of u (bind variable object env) f) terms.nothing (objects_of u sort)
      ∙ same_all (λ object. truth valuation (term_of u (bind variable object env) f)) (λ object. satisfied u valuation (bind variable object env) f) (objects_of u sort)
      (λ object. truth_is (bind variable object env) f)
  truth_is env (resolved.Exists variable sort f) =
      any_instances valuation (λ object. term_of u (bind variable object env) f) terms.nothing (objects_of u sort)
      ∙ same_any (λ object. truth valuation (term_of u (bind variable object env) f)) (λ object. satisfied u valuation (bind variable object env) f) (objects_of u sort)
      (λ object. truth_is (bind variable object env) f)

  -- an atom's value, whether it is a sum or not
  module _ (env : Environment) (symbol : ℕ) (args : Terms) (found : GroundHead) where
    abbrev constant : Term
    constant = resolved.Constant symbol args

    abbrev Tells : Term → Type 0
    Tells value = head_of_sides (side u env constant) (side u env value) ≡ Some found → head_truth valuation found ≡ satisfied u valuation env (resolved.Equal constant value)

    lone_tells : (value : Term) → is_sum value ≡ false → Tells value
    lone_tells value none e = head_tells valuation (side u env constant) (side u env value) (sides_own u own env constant) found e ∙ sides_tell u own valuation env constant value refl none

    sum_tells : (value : Term) → IsWhole (given_value u env value) → (o : Option ℕ) → option_and_then (object_of_value u) (given_value u env value) ≡ o →
        head_of_sides (side u env constant) (value_side o) ≡ Some found → head_truth valuation found ≡ satisfied u valuation env (resolved.Equal constant value)
    sum_tells value whole (Some object) is e =
        head_tells valuation (side u env constant) (Value object) (sides_own u own env constant) found e
        ∙ sides_tell u own valuation env constant (resolved.Object object) refl refl
        ∙ sum_means u own valuation env value whole object is (term_value u env valuation constant)
    sum_tells value whole None is e = absurd (absent (side u env constant) e)
      where
        absent : (p : Side) → head_of_sides p Absent ≡ Some found → ⊥
        absent (Constant number values) e = absurd cc
        absent (Value value) e = absurd cc
        absent Absent e = absurd cc

    value_tells : (value : Term) → Tells value
    value_tells (resolved.Constant other more) = lone_tells (resolved.Constant other more) refl
    value_tells (resolved.Object object) = lone_tells (resolved.Object object) refl
    value_tells (resolved.Variable variable) = lone_tells (resolved.Variable variable) refl
    value_tells resolved.Nothing = lone_tells resolved.Nothing refl
    value_tells (resolved.Number number) = sum_tells (resolved.Number number) tt (argument u env (resolved.Number number)) refl
    value_tells (resolved.Plus s t) = sum_tells (resolved.Plus s t) (added_whole (given_value u env s) (given_value u env t)) (argument u env (resolved.Plus s t)) refl
    value_tells (resolved.Minus s t) = sum_tells (resolved.Minus s t) (taken_whole (given_value u env s) (given_value u env t)) (argument u env (resolved.Minus s t)) refl

  pub head_is : (env : Environment) (head : Head) (found : GroundHead) → ground_head u env head ≡ Some found →
      head_truth valuation found ≡ head_satisfied u valuation env head
  head_is env resolved.Falsity found e =
      let same : heads.Falsity ≡ found = cc in
      ap (head_truth valuation) (sym same)
  head_is env (resolved.Atom symbol args value) found e = value_tells env symbol (terms_of args) found value e
