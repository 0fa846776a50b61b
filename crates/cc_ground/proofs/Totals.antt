-- What the pieces of sums come to, and that lists of values are judged by it.
use Rattle.std.proofs.Common.{◌≡◌, ◌∙◌, ℕ, suc, ◌+◌, ◌<◌, Bool, true, false, not, ◌||◌, List, [], ◌∷◌, ◌++◌, length, map, flat_map, drop, filter, get_or, nat_eq, nat_le, nat_lt, Option, Some, None, option_map, is_some, inl, inr, ◌⊎◌, refl, sym, ap, subst, append_assoc, append-nil, arith}
use Rattle.std.specs.Prelude.{◌==◌, if◌then◌else◌, option_and_then}
use Rattle.std.specs.List.{list_any}
use Rattle.std.proofs.lemmas.Bool.{cases_eq, eq-eqb, ne_eqb}
use Rattle.std.proofs.lemmas.List.{at_drop_more, map-id}
use Rattle.cc_defs.specs.Declarations.{firsts}
use Rattle.cc_defs.specs.declared.node.Node.{Node}
use Rattle.cc_defs.specs.declared.node.Node.TheVariants as nodes
use Rattle.cc_defs.specs.Judged.{all_meant, atoms, chosen, constants_of, index_lists, is_sum, judged, judged_over, judged_where, those_meant, truth_of}
use Rattle.cc_defs.specs.Resolved.{Term, Formula}
use Rattle.cc_defs.specs.Resolved as resolved
use Rattle.cc_defs.specs.Satisfaction.{Environment, Value, Whole, Thing, added, taken, constant_meant, meant, meant_as, satisfied, term_value, value_at, same_value, less_value, at_most_value}
use Rattle.cc_defs.specs.Signatures.{number_at}
use Rattle.cc_defs.specs.Terms.{Ground, Operands, all_of, any_of, nothing, and_then, operand_count, operands_behind, postfix, postfixes}
use Rattle.cc_defs.specs.Universe.{Universe, constants_in}
use Rattle.cc_ground.specs.declared.judged.Equation.{Equation}
use Rattle.cc_ground.specs.declared.pieces.Sign.{Sign}
use Rattle.cc_ground.specs.declared.pieces.Sign.TheVariants as signs
use Rattle.cc_ground.specs.declared.pieces.Signed.{Signed}
use Rattle.cc_ground.specs.Pieces.{IsJudged, atom_nodes, constant_piece, formula_of, gathered, holds, holds_at, joined, list_nodes, nodes_over, number_in, number_piece, pieces_between, pieces_of, stands_so, total, universe_at, whole_of}
use Rattle.cc_ground.proofs.Gathering.{all_those}

-- ---- sums of sums

two : (test : ℕ → ℕ → Bool) {a b c d : ℕ} → a ≡ b → c ≡ d → test a c ≡ test b d
two test {a} {b} {c} {d} e f = ap (λ (n : ℕ). test n c) e ∙ ap (test b) f

wholes : {a b c d : ℕ} → a ≡ b → c ≡ d → Some (Whole a c) ≡ Some (Whole b d)
wholes {a} {b} {c} {d} e f = ap (λ (n : ℕ). Some (Whole n c)) e ∙ ap (λ (n : ℕ). Some (Whole b n)) f

add_added : (x y z : Option Value) → added (added x y) z ≡ added x (added y z)
add_added (Some (Whole p m)) (Some (Whole q n)) (Some (Whole r o)) = wholes (omega arith) (omega arith)
add_added (Some (Whole p m)) (Some (Whole q n)) (Some (Thing other)) = refl
add_added (Some (Whole p m)) (Some (Whole q n)) None = refl
add_added (Some (Whole p m)) (Some (Thing object)) z = refl
add_added (Some (Whole p m)) None z = refl
add_added (Some (Thing object)) y z = refl
add_added None y z = refl

take_added : (x y z : Option Value) → taken (taken x y) z ≡ taken x (added y z)
take_added (Some (Whole p m)) (Some (Whole q n)) (Some (Whole r o)) = wholes (omega arith) (omega arith)
take_added (Some (Whole p m)) (Some (Whole q n)) (Some (Thing other)) = refl
take_added (Some (Whole p m)) (Some (Whole q n)) None = refl
take_added (Some (Whole p m)) (Some (Thing object)) z = refl
take_added (Some (Whole p m)) None z = refl
take_added (Some (Thing object)) y z = refl
take_added None y z = refl

add_taken : (x y z : Option Value) → taken (added x y) z ≡ added x (taken y z)
add_taken (Some (Whole p m)) (Some (Whole q n)) (Some (Whole r o)) = wholes (omega arith) (omega arith)
add_taken (Some (Whole p m)) (Some (Whole q n)) (Some (Thing other)) = refl
add_taken (Some (Whole p m)) (Some (Whole q n)) None = refl
add_taken (Some (Whole p m)) (Some (Thing object)) z = refl
add_taken (Some (Whole p m)) None z = refl
add_taken (Some (Thing object)) y z = refl
add_taken None y z = refl

take_taken : (x y z : Option Value) → added (taken x y) z ≡ taken x (taken y z)
take_taken (Some (Whole p m)) (Some (Whole q n)) (Some (Whole r o)) = wholes (omega arith) (omega arith)
take_taken (Some (Whole p m)) (Some (Whole q n)) (Some (Thing other)) = refl
take_taken (Some (Whole p m)) (Some (Whole q n)) None = refl
take_taken (Some (Whole p m)) (Some (Thing object)) z = refl
take_taken (Some (Whole p m)) None z = refl
take_taken (Some (Thing object)) y z = refl
take_taken None y z = refl

join_added : (minus : Bool) (x y z : Option Value) → joined minus (joined minus x y) z ≡ joined minus x (added y z)
join_added false x y z = add_added x y z
join_added true x y z = take_added x y z

join_taken : (minus : Bool) (x y z : Option Value) → joined (not minus) (joined minus x y) z ≡ joined minus x (taken y z)
join_taken false x y z = add_taken x y z
join_taken true x y z = take_taken x y z

-- what is no number makes a sum that is none
thing_added : (x : Option Value) (object : ℕ) → added x None ≡ added x (Some (Thing object))
thing_added (Some (Whole p m)) object = refl
thing_added (Some (Thing other)) object = refl
thing_added None object = refl

thing_taken : (x : Option Value) (object : ℕ) → taken x None ≡ taken x (Some (Thing object))
thing_taken (Some (Whole p m)) object = refl
thing_taken (Some (Thing other)) object = refl
thing_taken None object = refl

join_thing : (minus : Bool) (x : Option Value) (object : ℕ) → joined minus x None ≡ joined minus x (Some (Thing object))
join_thing false x object = thing_added x object
join_thing true x object = thing_taken x object

object_joins : (minus : Bool) (x : Option Value) (object : ℕ) (number : Option ℕ) → joined minus x (whole_of number) ≡ joined minus x (Some (meant_as object number))
object_joins minus x object (Some number) = refl
object_joins minus x object None = join_thing minus x object

-- ---- the total of a term's pieces

module _ (u : Universe) (env : Environment) (valuation : ℕ → ℕ) where
  found_joins : (minus : Bool) (x : Option Value) (found : Option ℕ) → joined minus x (whole_of (option_and_then (number_at u.numbers) found)) ≡ joined minus x (option_map (meant u) found)
  found_joins minus x (Some object) = object_joins minus x object (number_at u.numbers object)
  found_joins minus x None = refl

  number_is : (number : Option ℕ) → number_in u valuation (number_piece number) ≡ number
  number_is (Some number) = refl
  number_is None = refl

  constant_joins : (minus : Bool) (x : Option Value) (found : Option ℕ) →
      joined minus x (whole_of (number_in u valuation (constant_piece found))) ≡ joined minus x (option_map (meant u) (option_and_then (value_at (constants_in u) valuation) found))
  constant_joins minus x (Some constant) = found_joins minus x (value_at (constants_in u) valuation constant)
  constant_joins minus x None = refl

  pub totals : (term : Term) (minus : Bool) (more : List Signed) (x : Option Value) →
      total u valuation (pieces_of u env minus term ++ more) x ≡ total u valuation more (joined minus x (term_value u env valuation term))
  totals (resolved.Constant symbol args) minus more x = ap (total u valuation more) (constant_joins minus x (constant_meant u env symbol args))
  totals (resolved.Object object) minus more x =
      ap (λ (number : Option ℕ). total u valuation more (joined minus x (whole_of number))) (number_is (number_at u.numbers object))
      ∙ ap (total u valuation more) (object_joins minus x object (number_at u.numbers object))
  totals (resolved.Variable variable) minus more x =
      ap (λ (number : Option ℕ). total u valuation more (joined minus x (whole_of number))) (number_is (option_and_then (number_at u.numbers) (env variable)))
      ∙ ap (total u valuation more) (found_joins minus x (env variable))
  totals resolved.Nothing minus more x = ap (total u valuation more) (join_thing minus x _)
  totals (resolved.Number number) minus more x = refl
  totals (resolved.Plus s t) minus more x =
      ap (λ (l : List Signed). total u valuation l x) (append_assoc (pieces_of u env minus s) (pieces_of u env minus t) more)
      ∙ totals s minus (pieces_of u env minus t ++ more) x
      ∙ totals t minus more (joined minus x (term_value u env valuation s))
      ∙ ap (total u valuation more) (join_added minus x (term_value u env valuation s) (term_value u env valuation t))
  totals (resolved.Minus s t) minus more x =
      ap (λ (l : List Signed). total u valuation l x) (append_assoc (pieces_of u env minus s) (pieces_of u env (not minus) t) more)
      ∙ totals s minus (pieces_of u env (not minus) t ++ more) x
      ∙ totals t (not minus) more (joined minus x (term_value u env valuation s))
      ∙ ap (total u valuation more) (join_taken minus x (term_value u env valuation s) (term_value u env valuation t))

  -- ---- both sides

  abbrev between : Option Value → Option Value → Option Value
  between one other = taken (added (Some (Whole 0 0)) one) other

  both_total : (s t : Term) → total u valuation (pieces_between u env s t) (Some (Whole 0 0)) ≡ between (term_value u env valuation s) (term_value u env valuation t)
  both_total s t =
      totals s false (pieces_of u env true t) (Some (Whole 0 0))
      ∙ ap (λ (l : List Signed). total u valuation l (added (Some (Whole 0 0)) (term_value u env valuation s))) (sym (append-nil (pieces_of u env true t)))
      ∙ totals t true [] (added (Some (Whole 0 0)) (term_value u env valuation s))

  less_is : (one other : Option Value) → stands_so signs.Less (between one other) ≡ less_value one other
  less_is (Some (Whole p m)) (Some (Whole q n)) = two nat_lt (omega arith) (omega arith)
  less_is (Some (Whole p m)) (Some (Thing object)) = refl
  less_is (Some (Whole p m)) None = refl
  less_is (Some (Thing object)) other = refl
  less_is None other = refl

  at_most_is : (one other : Option Value) → stands_so signs.AtMost (between one other) ≡ at_most_value one other
  at_most_is (Some (Whole p m)) (Some (Whole q n)) = two nat_le (omega arith) (omega arith)
  at_most_is (Some (Whole p m)) (Some (Thing object)) = refl
  at_most_is (Some (Whole p m)) None = refl
  at_most_is (Some (Thing object)) other = refl
  at_most_is None other = refl

  abbrev IsNoThing : Option Value → Type 0
  IsNoThing (Some (Whole p m)) = Unit {0}
  IsNoThing (Some (Thing object)) = ⊥
  IsNoThing None = Unit {0}

  added_no_thing : (one other : Option Value) → IsNoThing (added one other)
  added_no_thing (Some (Whole p m)) (Some (Whole q n)) = tt
  added_no_thing (Some (Whole p m)) (Some (Thing object)) = tt
  added_no_thing (Some (Whole p m)) None = tt
  added_no_thing (Some (Thing object)) other = tt
  added_no_thing None other = tt

  taken_no_thing : (one other : Option Value) → IsNoThing (taken one other)
  taken_no_thing (Some (Whole p m)) (Some (Whole q n)) = tt
  taken_no_thing (Some (Whole p m)) (Some (Thing object)) = tt
  taken_no_thing (Some (Whole p m)) None = tt
  taken_no_thing (Some (Thing object)) other = tt
  taken_no_thing None other = tt

  sum_no_thing : (term : Term) → is_sum term ≡ true → IsNoThing (term_value u env valuation term)
  sum_no_thing (resolved.Constant symbol args) e = absurd cc
  sum_no_thing (resolved.Object object) e = absurd cc
  sum_no_thing (resolved.Variable variable) e = absurd cc
  sum_no_thing resolved.Nothing e = absurd cc
  sum_no_thing (resolved.Number number) e = tt
  sum_no_thing (resolved.Plus s t) e = added_no_thing (term_value u env valuation s) (term_value u env valuation t)
  sum_no_thing (resolved.Minus s t) e = taken_no_thing (term_value u env valuation s) (term_value u env valuation t)

  equal_is : (one other : Option Value) → IsNoThing one ⊎ IsNoThing other → stands_so signs.Equal (between one other) ≡ same_value one other
  equal_is (Some (Whole p m)) (Some (Whole q n)) none = two (λ (a b : ℕ). a == b) (omega arith) (omega arith)
  equal_is (Some (Whole p m)) (Some (Thing object)) none = refl
  equal_is (Some (Whole p m)) None none = refl
  equal_is (Some (Thing object)) (Some (Whole q n)) none = refl
  equal_is (Some (Thing object)) (Some (Thing other)) (inl none) = absurd none
  equal_is (Some (Thing object)) (Some (Thing other)) (inr none) = absurd none
  equal_is (Some (Thing object)) None none = refl
  equal_is None other none = refl

  one_of : (a b : Bool) → (a || b) ≡ true → (a ≡ true) ⊎ (b ≡ true)
  one_of true b e = inl refl
  one_of false b e = inr e

  some_sum : (s t : Term) → (is_sum s || is_sum t) ≡ true → IsNoThing (term_value u env valuation s) ⊎ IsNoThing (term_value u env valuation t)
  some_sum s t e = elim (one_of (is_sum s) (is_sum t) e) [
    | inl one ↦ inl (sum_no_thing s one)
    | inr other ↦ inr (sum_no_thing t other)
  ]

  pub holds_is : (sign : Sign) (s t : Term) → IsJudged sign s t → holds u sign (pieces_between u env s t) valuation ≡ satisfied u valuation env (formula_of sign s t)
  holds_is signs.Equal s t is = ap (stands_so signs.Equal) (both_total s t) ∙ equal_is (term_value u env valuation s) (term_value u env valuation t) (some_sum s t is)
  holds_is signs.Less s t is = ap (stands_so signs.Less) (both_total s t) ∙ less_is (term_value u env valuation s) (term_value u env valuation t)
  holds_is signs.AtMost s t is = ap (stands_so signs.AtMost) (both_total s t) ∙ at_most_is (term_value u env valuation s) (term_value u env valuation t)

-- a piece more
pub total_none : (u : Universe) (valuation : ℕ → ℕ) (pieces : List Signed) → total u valuation pieces None ≡ None
total_none u valuation [] = refl
total_none u valuation (piece ∷ others) = none_joined piece.minus (total_none u valuation others)
  where
    none_joined : (minus : Bool) → total u valuation others None ≡ None → total u valuation others (joined minus None (whole_of (number_in u valuation piece.piece))) ≡ None
    none_joined false rest = rest
    none_joined true rest = rest

-- where a piece is no number, there is no total
pub no_total : (u : Universe) (valuation : ℕ → ℕ) (sign : Sign) (pieces : List Signed) (i plus minus : ℕ) (d : Signed) (whole : Option Value) → i < length pieces →
    None ≡ number_in u valuation (get_or pieces i d).piece → total u valuation (drop i pieces) (Some (Whole plus minus)) ≡ whole → false ≡ stands_so sign whole
no_total u valuation sign pieces i plus minus d whole within none so_far =
    let rest = drop (i + 1) pieces in
    let piece = get_or pieces i d in
    ap (stands_so sign)
    (sym (total_none u valuation rest)
    ∙ sym (ap (total u valuation rest) (ap (λ (o : Option ℕ). joined piece.minus (Some (Whole plus minus)) (whole_of o)) (sym none) ∙ none_joins piece.minus))
    ∙ sym (at_drop_more (λ (l : List Signed). total u valuation l (Some (Whole plus minus))) pieces i d within) ∙ so_far)
  where
    none_joins : (minus_too : Bool) → joined minus_too (Some (Whole plus minus)) None ≡ None
    none_joins false = refl
    none_joins true = refl

pub more_total : (u : Universe) (valuation : ℕ → ℕ) (pieces : List Signed) (i plus minus now less number : ℕ) (d : Signed) (whole : Option Value) → i < length pieces → Some number ≡ number_in u valuation (get_or pieces i d).piece →
    Some (Whole now less) ≡ joined (get_or pieces i d).minus (Some (Whole plus minus)) (Some (Whole number 0)) → total u valuation (drop i pieces) (Some (Whole plus minus)) ≡ whole → total u valuation (drop (i + 1) pieces) (Some (Whole now less)) ≡ whole
more_total u valuation pieces i plus minus now less number d whole within some is so_far =
    let rest = drop (i + 1) pieces in
    ap (total u valuation rest) (is ∙ ap (λ (o : Option ℕ). joined (get_or pieces i d).minus (Some (Whole plus minus)) (whole_of o)) some)
    ∙ sym (at_drop_more (λ (l : List Signed). total u valuation l (Some (Whole plus minus))) pieces i d within) ∙ so_far

-- ---- constants, each once

-- those of the second list that are not in the first
abbrev left_out : List ℕ → List ℕ → List ℕ
left_out there [] = []
left_out there (x ∷ xs) = if list_any (nat_eq x) there then left_out there xs else x ∷ left_out there xs

any_append : (x : ℕ) (xs : List ℕ) (y : ℕ) → list_any (nat_eq x) (xs ++ y ∷ []) ≡ (list_any (nat_eq x) xs || (x == y))
any_append x [] y = or_false (x == y)
  where
    or_false : (b : Bool) → (b || false) ≡ b
    or_false true = refl
    or_false false = refl
any_append x (z ∷ xs) y = ap (λ (b : Bool). (x == z) || b) (any_append x xs y) ∙ three (x == z) (list_any (nat_eq x) xs) (x == y)
  where
    three : (a b c : Bool) → (a || (b || c)) ≡ ((a || b) || c)
    three true b c = refl
    three false b c = refl

-- a number that is there already is left out of the others
known_out : (there : List ℕ) (number : ℕ) → list_any (nat_eq number) there ≡ true → (xs : List ℕ) → left_out there (filter (λ other. not (other == number)) xs) ≡ left_out there xs
known_out there number known [] = refl
known_out there number known (x ∷ xs) = elim (cases_eq x number) [
  | inl same ↦
      let is : (x == number) ≡ true = eq-eqb x number same in
      let there_too : list_any (nat_eq x) there ≡ true = subst (λ (k : ℕ). list_any (nat_eq k) there ≡ true) (sym same) known in
      ap (λ (b : Bool). left_out there (if not b then x ∷ filter (λ other. not (other == number)) xs else filter (λ other. not (other == number)) xs)) is
      ∙ known_out there number known xs
      ∙ sym (ap (λ (b : Bool). if b then left_out there xs else x ∷ left_out there xs) there_too)
  | inr other ↦
      ap (λ (b : Bool). left_out there (if not b then x ∷ filter (λ other. not (other == number)) xs else filter (λ other. not (other == number)) xs)) (ne_eqb x number other)
      ∙ ap (λ (l : List ℕ). if list_any (nat_eq x) there then l else x ∷ l) (known_out there number known xs)
]

-- and so is one that is put behind
new_out : (there : List ℕ) (number : ℕ) (xs : List ℕ) → left_out there (filter (λ other. not (other == number)) xs) ≡ left_out (there ++ number ∷ []) xs
new_out there number [] = refl
new_out there number (x ∷ xs) = elim (cases_eq x number) [
  | inl same ↦
      let is : (x == number) ≡ true = eq-eqb x number same in
      let there_too : list_any (nat_eq x) (there ++ number ∷ []) ≡ true = any_append x there number ∙ ap (λ (b : Bool). list_any (nat_eq x) there || b) is ∙ or_true (list_any (nat_eq x) there) in
      ap (λ (b : Bool). left_out there (if not b then x ∷ filter (λ other. not (other == number)) xs else filter (λ other. not (other == number)) xs)) is
      ∙ new_out there number xs
      ∙ sym (ap (λ (b : Bool). if b then left_out (there ++ number ∷ []) xs else x ∷ left_out (there ++ number ∷ []) xs) there_too)
  | inr other ↦
      let is : (x == number) ≡ false = ne_eqb x number other in
      let same : list_any (nat_eq x) (there ++ number ∷ []) ≡ list_any (nat_eq x) there = any_append x there number ∙ ap (λ (b : Bool). list_any (nat_eq x) there || b) is ∙ or_none (list_any (nat_eq x) there) in
      ap (λ (b : Bool). left_out there (if not b then x ∷ filter (λ other. not (other == number)) xs else filter (λ other. not (other == number)) xs)) is
      ∙ ap (λ (l : List ℕ). if list_any (nat_eq x) there then l else x ∷ l) (new_out there number xs)
      ∙ sym (ap (λ (b : Bool). if b then left_out (there ++ number ∷ []) xs else x ∷ left_out (there ++ number ∷ []) xs) same)
]
  where
    or_true : (b : Bool) → (b || true) ≡ true
    or_true true = refl
    or_true false = refl

    or_none : (b : Bool) → (b || false) ≡ b
    or_none true = refl
    or_none false = refl

gathered_is : (there numbers : List ℕ) → gathered there numbers ≡ there ++ left_out there (firsts numbers)
gathered_is there [] = sym (append-nil there)
gathered_is there (number ∷ numbers) = here (list_any (nat_eq number) there) refl (gathered_is there numbers) (gathered_is (there ++ number ∷ []) numbers)
  where
    here : (known : Bool) → list_any (nat_eq number) there ≡ known → gathered there numbers ≡ there ++ left_out there (firsts numbers) →
        gathered (there ++ number ∷ []) numbers ≡ (there ++ number ∷ []) ++ left_out (there ++ number ∷ []) (firsts numbers) →
        gathered (if known then there else there ++ number ∷ []) numbers ≡ there ++ (if known then left_out there (filter (λ other. not (other == number)) (firsts numbers)) else number ∷ left_out there (filter (λ other. not (other == number)) (firsts numbers)))
    here true known old more = old ∙ ap (λ (l : List ℕ). there ++ l) (sym (known_out there number known (firsts numbers)))
    here false new old more =
        more
        ∙ append_assoc there (number ∷ []) (left_out (there ++ number ∷ []) (firsts numbers))
        ∙ ap (λ (l : List ℕ). there ++ number ∷ l) (sym (new_out there number (firsts numbers)))

none_out : (xs : List ℕ) → left_out [] xs ≡ xs
none_out [] = refl
none_out (x ∷ xs) = ap (λ (l : List ℕ). x ∷ l) (none_out xs)

pub gathered_firsts : (numbers : List ℕ) → gathered [] numbers ≡ firsts numbers
gathered_firsts numbers = gathered_is [] numbers ∙ none_out (firsts numbers)

-- ---- the nodes of all lists

operands_flat : (operands : Operands) (formulas : List Ground) → postfixes (operands_behind operands formulas) ≡ postfixes operands ++ flat_map postfix formulas
operands_flat operands [] = sym (append-nil (postfixes operands))
operands_flat operands (formula ∷ formulas) = operands_flat (and_then operands formula) formulas ∙ append_assoc (postfixes operands) (postfix formula) (flat_map postfix formulas)

operands_counted : (operands : Operands) (formulas : List Ground) → operand_count (operands_behind operands formulas) ≡ operand_count operands + length formulas
operands_counted operands [] = omega arith
operands_counted operands (formula ∷ formulas) = omega (arith, operands_counted (and_then operands formula) formulas)

counted_there : (formulas : List Ground) → operand_count (operands_behind nothing formulas) ≡ length formulas
counted_there formulas = omega (arith, operands_counted nothing formulas)

atoms_flat : (constants indexes : List ℕ) → flat_map postfix (atoms constants indexes) ≡ atom_nodes constants indexes
atoms_flat [] indexes = refl
atoms_flat (constant ∷ constants) [] = refl
atoms_flat (constant ∷ constants) (index ∷ indexes) = ap (λ (l : List Node). nodes.Atom constant index ∷ l) (atoms_flat constants indexes)

atoms_counted : (constants indexes : List ℕ) → length (atoms constants indexes) ≡ length (atom_nodes constants indexes)
atoms_counted [] indexes = refl
atoms_counted (constant ∷ constants) [] = refl
atoms_counted (constant ∷ constants) (index ∷ indexes) = ap suc (atoms_counted constants indexes)

bracket : (node : ℕ → Node) {xs ys : List Node} {m n : ℕ} → xs ≡ ys → m ≡ n → xs ++ node m ∷ [] ≡ ys ++ node n ∷ []
bracket node {xs} {ys} {m} {n} e f = ap (λ (l : List Node). l ++ node m ∷ []) e ∙ ap (λ (k : ℕ). ys ++ node k ∷ []) f

list_is : (constants indexes : List ℕ) → postfix (all_of (atoms constants indexes)) ≡ atom_nodes constants indexes ++ nodes.All (length (atom_nodes constants indexes)) ∷ []
list_is constants indexes =
    bracket nodes.All (operands_flat nothing (atoms constants indexes) ∙ atoms_flat constants indexes) (counted_there (atoms constants indexes) ∙ atoms_counted constants indexes)

module _ (equation : Equation) (test : List ℕ → Bool) (same : (indexes : List ℕ) → holds_at equation indexes ≡ test indexes) where
  abbrev list_term : List ℕ → Ground
  list_term indexes = all_of (atoms equation.constants.now indexes)

  lists_flat : (lists : List (List ℕ)) → flat_map (list_nodes equation) lists ≡ flat_map postfix (map list_term (filter test lists))
  lists_flat [] = refl
  lists_flat (indexes ∷ lists) =
      let atoms_are = atom_nodes equation.constants.now indexes in
      ap (λ (b : Bool). (if b then atoms_are ++ nodes.All (length atoms_are) ∷ [] else []) ++ flat_map (list_nodes equation) lists) (same indexes)
      ∙ ap (λ (l : List Node). (if test indexes then atoms_are ++ nodes.All (length atoms_are) ∷ [] else []) ++ l) (lists_flat lists)
      ∙ here (test indexes)
    where
      here : (b : Bool) → (if b then atom_nodes equation.constants.now indexes ++ nodes.All (length (atom_nodes equation.constants.now indexes)) ∷ [] else []) ++ flat_map postfix (map list_term (filter test lists))
          ≡ flat_map postfix (map list_term (if b then indexes ∷ filter test lists else filter test lists))
      here true = ap (λ (l : List Node). l ++ flat_map postfix (map list_term (filter test lists))) (sym (list_is equation.constants.now indexes))
      here false = refl

  lists_counted : (lists : List (List ℕ)) → length (filter (holds_at equation) lists) ≡ length (map list_term (filter test lists))
  lists_counted [] = refl
  lists_counted (indexes ∷ lists) =
      ap (λ (b : Bool). length (if b then indexes ∷ filter (holds_at equation) lists else filter (holds_at equation) lists)) (same indexes)
      ∙ here (test indexes) (lists_counted lists)
    where
      here : (b : Bool) → length (filter (holds_at equation) lists) ≡ length (map list_term (filter test lists)) →
          length (if b then indexes ∷ filter (holds_at equation) lists else filter (holds_at equation) lists) ≡ length (map list_term (if b then indexes ∷ filter test lists else filter test lists))
      here true e = ap suc e
      here false e = e

  all_lists : (lists : List (List ℕ)) → flat_map (list_nodes equation) lists ++ nodes.Any (length (filter (holds_at equation) lists)) ∷ [] ≡ postfix (any_of (map list_term (filter test lists)))
  all_lists lists =
      let formulas = map list_term (filter test lists) in
      bracket nodes.Any (lists_flat lists ∙ sym (operands_flat nothing formulas)) (lists_counted lists ∙ sym (counted_there formulas))

over_is : (equation : Equation) (env : Environment) (formula : Formula) (numbers : List ℕ) → equation.constants.now ≡ numbers →
    ((valuation : ℕ → ℕ) → holds (universe_at equation) equation.sign equation.pieces.now valuation ≡ satisfied (universe_at equation) valuation env formula) →
    nodes_over equation numbers ≡ postfix (judged_over (universe_at equation) env formula numbers)
over_is equation env formula [] e each =
    ap (λ (l : List ℕ). postfix (truth_of (holds (universe_at equation) equation.sign equation.pieces.now (chosen l [])))) e
    ∙ ap (λ (b : Bool). postfix (truth_of b)) (each (λ number. 0))
over_is equation env formula (number ∷ numbers) e each =
    let u = universe_at equation in
    let lists = index_lists u (number ∷ numbers) in
    let test : List ℕ → Bool = λ indexes. satisfied u (chosen (number ∷ numbers) indexes) env formula in
    let same : (indexes : List ℕ) → holds_at equation indexes ≡ test indexes = λ indexes.
    each (chosen equation.constants.now indexes) ∙ ap (λ (l : List ℕ). satisfied u (chosen l indexes) env formula) e in
    ap (λ (l : List (List ℕ)). flat_map (list_nodes equation) l ++ nodes.Any (length (filter (holds_at equation) l)) ∷ []) (map-id lists)
    ∙ all_lists equation test same lists
    ∙ ap (λ (l : List ℕ). postfix (any_of (map (λ indexes. all_of (atoms l indexes)) (filter test lists)))) e

pub judged_is : (equation : Equation) (env : Environment) (sign : Sign) (s t : Term) → IsJudged sign s t → equation.sign ≡ sign →
    equation.pieces.now ≡ pieces_between (universe_at equation) env s t →
    equation.constants.now ≡ gathered [] (those_meant (universe_at equation) env (constants_of s ++ constants_of t)) →
    is_some (all_meant (universe_at equation) env (constants_of s ++ constants_of t)) ≡ true →
    nodes_over equation equation.constants.now ≡ postfix (judged (universe_at equation) env (formula_of sign s t) (constants_of s ++ constants_of t))
judged_is equation env sign s t is signed_so pieces_are constants_are all =
    let u = universe_at equation in
    let constants = constants_of s ++ constants_of t in
    let e = constants_are ∙ gathered_firsts (those_meant u env constants) in
    let each : (valuation : ℕ → ℕ) → holds u equation.sign equation.pieces.now valuation ≡ satisfied u valuation env (formula_of sign s t) = λ valuation.
    ap (λ (w : Sign). holds u w equation.pieces.now valuation) signed_so ∙ ap (λ (l : List Signed). holds u sign l valuation) pieces_are ∙ holds_is u env valuation sign s t is in
    ap (nodes_over equation) e
    ∙ over_is equation env (formula_of sign s t) (firsts (those_meant u env constants)) e each
    ∙ sym (ap (λ (o : Option (List ℕ)). postfix (judged_where u env (formula_of sign s t) o)) (all_those u env constants all))

pub not_there : (u : Universe) (env : Environment) (formula : Formula) (constants : List (ℕ × resolved.Terms)) → is_some (all_meant u env constants) ≡ false →
    nodes.False ∷ [] ≡ postfix (judged u env formula constants)
not_there u env formula constants none = here (all_meant u env constants) none
  where
    here : (found : Option (List ℕ)) → is_some found ≡ false → nodes.False ∷ [] ≡ postfix (judged_where u env formula found)
    here None e = refl
    here (Some numbers) e = absurd cc
