-- Values of terms that have no constant: they rest on the numbers of a universe alone.
use Rattle.std.proofs.Common.{◌≡◌, ◌∙◌, ℕ, zero, suc, ◌+◌, ◌<◌, ◌≤◌, Bool, true, false, List, [], ◌∷◌, drop, get_or, length, map, position, Option, Some, None, option_map, cond, inl, inr, refl, sym, ap, arith}
use Rattle.std.specs.Prelude.{option_and_then}
use Rattle.std.specs.List.{position_from}
use Rattle.std.proofs.lemmas.Bool.{cases_eq, eq-eqb, ne_eqb}
use Rattle.std.proofs.lemmas.Iterator.Adapters.{position_from-zero}
use Rattle.std.proofs.lemmas.List.{at_drop_all, at_drop_more, length-map}
use Rattle.cc_defs.specs.DeclarationFaults.{is_that}
use Rattle.cc_defs.specs.Declarations.{Named, Put, first_puts, number_in, sort_names}
use Rattle.cc_defs.specs.Resolved.{Term, Terms}
use Rattle.cc_defs.specs.Resolved as resolved
use Rattle.cc_defs.specs.Satisfaction.{Environment, Value, added, taken, argument, arguments, cons_both, given_value, is_number, meant, object_of_value, term_value, value_at}
use Rattle.cc_defs.specs.Signatures.{Signature, ground_number, number_at}
use Rattle.cc_defs.specs.Universe.{constants_in}
use Rattle.cc_ground.specs.Views.{bare_universe, universe_of}
use Rattle.cc_sorts.specs.Tables.{IsOfDeclarations, TableView}

both_same : (join : Option Value → Option Value → Option Value) {a b c d : Option Value} → a ≡ b → c ≡ d → join a c ≡ join b d
both_same join {a} {b} {c} {d} e f = ap (λ (w : Option Value). join w c) e ∙ ap (join b) f

module _ (table : TableView) (signature : Signature) (env : Environment) where
  pub given_same : (term : Term) → given_value (bare_universe table) env term ≡ given_value (universe_of table signature) env term
  given_same (resolved.Constant symbol args) = refl
  given_same (resolved.Object object) = refl
  given_same (resolved.Variable variable) = refl
  given_same resolved.Nothing = refl
  given_same (resolved.Number number) = refl
  given_same (resolved.Plus s t) = both_same added (given_same s) (given_same t)
  given_same (resolved.Minus s t) = both_same taken (given_same s) (given_same t)

  argument_same : (term : Term) → argument (bare_universe table) env term ≡ argument (universe_of table signature) env term
  argument_same (resolved.Constant symbol args) = refl
  argument_same (resolved.Object object) = refl
  argument_same (resolved.Variable variable) = refl
  argument_same resolved.Nothing = refl
  argument_same (resolved.Number number) = refl
  argument_same (resolved.Plus s t) = ap (option_and_then (object_of_value (bare_universe table))) (given_same (resolved.Plus s t))
  argument_same (resolved.Minus s t) = ap (option_and_then (object_of_value (bare_universe table))) (given_same (resolved.Minus s t))

  pub arguments_same : (terms : Terms) → arguments (bare_universe table) env terms ≡ arguments (universe_of table signature) env terms
  arguments_same resolved.NoTerms = refl
  arguments_same (resolved.MoreTerms first others) =
      ap (λ (w : Option ℕ). cons_both w (arguments (bare_universe table) env others)) (argument_same first)
      ∙ ap (cons_both (argument (universe_of table signature) env first)) (arguments_same others)

-- without constants a term has the value that is given
module _ (table : TableView) (env : Environment) where
  no_constant : (symbol : ℕ) (found : Option (List ℕ)) →
      option_map (meant (bare_universe table)) (option_and_then (value_at (constants_in (bare_universe table)) (λ number. 0)) (option_and_then (ground_number (constants_in (bare_universe table)) symbol) found)) ≡ None
  no_constant symbol (Some args) = refl
  no_constant symbol None = refl

  pub bare_value : (term : Term) → term_value (bare_universe table) env (λ number. 0) term ≡ given_value (bare_universe table) env term
  bare_value (resolved.Constant symbol args) = no_constant symbol (arguments (bare_universe table) env args)
  bare_value (resolved.Object object) = refl
  bare_value (resolved.Variable variable) = refl
  bare_value resolved.Nothing = refl
  bare_value (resolved.Number number) = refl
  bare_value (resolved.Plus s t) = both_same added (bare_value s) (bare_value t)
  bare_value (resolved.Minus s t) = both_same taken (bare_value s) (bare_value t)

-- ---- the object that is a number

-- places by tests that are the same
place_from : (test other : Option ℕ → Bool) → ((o : Option ℕ) → test o ≡ other o) → (n : ℕ) (items : List (Option ℕ)) → position_from test n items ≡ position_from other n items
place_from test other same n [] = refl
place_from test other same n (item ∷ items) =
    ap (λ (b : Bool). cond b (Some n) (position_from test (n + 1) items)) (same item) ∙ ap (λ (o : Option ℕ). cond (other item) (Some n) o) (place_from test other same (n + 1) items)

place_same : (test other : Option ℕ → Bool) → ((o : Option ℕ) → test o ≡ other o) → (items : List (Option ℕ)) → position test items ≡ position other items
place_same test other same items = position_from-zero test items ∙ place_from test other same 0 items ∙ sym (position_from-zero other items)

is_that_less : (plus minus less : ℕ) → less + minus ≡ plus → (o : Option ℕ) → is_that less o ≡ is_number plus minus o
is_that_less plus minus less e None = refl
is_that_less plus minus less e (Some number) = elim (cases_eq number less) [
  | inl same ↦ eq-eqb number less same ∙ sym (eq-eqb plus (number + minus) (omega arith))
  | inr other ↦ ne_eqb number less other ∙ sym (ne_eqb plus (number + minus) (λ same. other (omega arith)))
]

-- a number that is one less another
pub object_less : (plus minus less : ℕ) (numbers : List (Option ℕ)) → less + minus ≡ plus → position (is_that less) numbers ≡ position (is_number plus minus) numbers
object_less plus minus less numbers e = place_same (is_that less) (is_number plus minus) (is_that_less plus minus less e) numbers

-- none is below nothing
none_below : (plus minus : ℕ) → plus < minus → (n : ℕ) (numbers : List (Option ℕ)) → position_from (is_number plus minus) n numbers ≡ None
none_below plus minus less n [] = refl
none_below plus minus less n (None ∷ numbers) = none_below plus minus less (n + 1) numbers
none_below plus minus less n (Some number ∷ numbers) =
    ap (λ (b : Bool). cond b (Some n) (position_from (is_number plus minus) (n + 1) numbers)) (ne_eqb plus (number + minus) (λ same. omega arith)) ∙ none_below plus minus less (n + 1) numbers

pub no_object : (plus minus : ℕ) (numbers : List (Option ℕ)) → plus < minus → None ≡ position (is_number plus minus) numbers
no_object plus minus numbers less = sym (position_from-zero (is_number plus minus) numbers ∙ none_below plus minus less 0 numbers)

-- ---- object by object

number_there : (numbers : List (Option ℕ)) (i : ℕ) → number_at numbers i ≡ get_or numbers i None
number_there [] i = refl
number_there (number ∷ numbers) zero = refl
number_there (number ∷ numbers) (suc i) = number_there numbers i

module _ (plus minus : ℕ) where
  abbrev pub from_object : ℕ → List (Option ℕ) → Option ℕ
  from_object i numbers = position_from (is_number plus minus) i (drop i numbers)

  -- that of the object first
  next_object : (numbers : List (Option ℕ)) (i object : ℕ) (is : Bool) → i < length numbers → object ≡ i → is ≡ is_number plus minus (number_at numbers object) → from_object i numbers ≡ cond is (Some i) (from_object (i + 1) numbers)
  next_object numbers i object is within same e =
      at_drop_more (position_from (is_number plus minus) i) numbers i None within
      ∙ ap (λ (b : Bool). cond b (Some i) (from_object (i + 1) numbers)) (ap (is_number plus minus) (sym (number_there numbers i) ∙ ap (number_at numbers) (sym same)) ∙ sym e)

  pub object_not : (numbers : List (Option ℕ)) (i object : ℕ) (is : Bool) (whole : Option ℕ) → i < length numbers → object ≡ i → is ≡ is_number plus minus (number_at numbers object) → is ≡ false → from_object i numbers ≡ whole →
      from_object (i + 1) numbers ≡ whole
  object_not numbers i object is whole within same e fails so_far =
      sym (ap (λ (b : Bool). cond b (Some i) (from_object (i + 1) numbers)) fails) ∙ sym (next_object numbers i object is within same e) ∙ so_far

  pub object_is : (numbers : List (Option ℕ)) (i object : ℕ) (is : Bool) (whole : Option ℕ) → i < length numbers → object ≡ i → is ≡ is_number plus minus (number_at numbers object) → is ≡ true → from_object i numbers ≡ whole →
      Some object ≡ whole
  object_is numbers i object is whole within same e holds so_far =
      ap Some same ∙ sym (ap (λ (b : Bool). cond b (Some i) (from_object (i + 1) numbers)) holds) ∙ sym (next_object numbers i object is within same e) ∙ so_far

  pub object_none : (numbers : List (Option ℕ)) (i : ℕ) (whole : Option ℕ) → length numbers ≤ i → from_object i numbers ≡ whole → None ≡ whole
  object_none numbers i whole past so_far = sym (at_drop_all (position_from (is_number plus minus) i) numbers i past) ∙ so_far

-- there are as many numbers as objects
pub numbers_counted : (table : TableView) → IsOfDeclarations table → length table.numbers ≡ length table.objects
numbers_counted table (declarations, is) =
    let firsts = first_puts declarations in
    let named : List Named = map (λ put. (put.name, put.sort)) firsts in
    let one = length-map firsts (λ (put : Put). put.number) in
    let two = length-map firsts (λ (put : Put). (put.name, put.sort)) in
    let three = length-map named (λ (entry : Named). (entry.0, number_in (sort_names declarations) entry.1)) in
    ap length is.numbers_are ∙ one ∙ sym two ∙ sym three ∙ sym (ap length is.objects_are)
