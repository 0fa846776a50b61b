-- The term of an equation with sums, or of a comparison, is true exactly where this is: its truth depends on the indexes of its
-- constants alone, and it is false where one of them has no value.
use Rattle.std.proofs.Common.{◌≡◌, ◌∙◌, ℕ, zero, suc, ◌<◌, Bool, true, false, ◌&&◌, ◌||◌, List, [], ◌∷◌, ◌++◌, length, map, filter, slice_get, Option, Some, None, refl, sym, ap, subst, arith}
use Rattle.std.proofs.Math.Bool.{and_assoc}
use Rattle.std.specs.Option.{option_map, option_map_or}
use Rattle.std.specs.Prelude.{◌==◌, if◌then◌else◌, is_some, option_and_then}
use Rattle.std.specs.List.{AllByRecursion, list_any}
use Rattle.cc_defs.specs.declared.signature.Const.{Const}
use Rattle.cc_defs.specs.Declarations.{firsts}
use Rattle.cc_defs.specs.Judged.{all_meant, atoms, chosen, constants_of, index_lists, judged, judged_over, judged_where, size_of, truth_of}
use Rattle.cc_defs.specs.Resolved.{Term, Terms, Formula}
use Rattle.cc_defs.specs.Resolved as resolved
use Rattle.cc_defs.specs.Satisfaction.{Environment, Value, Thing, Whole, added, taken, at_most_value, cons_both, constant_meant, less_value, meant, same_value, satisfied, term_value, value_at}
use Rattle.cc_defs.specs.Terms.{Operands, all_of, any_of, operands_behind, truth, all_true, any_true}
use Rattle.cc_defs.specs.Terms as terms
use Rattle.cc_defs.specs.Universe.{Universe, constants_in}
use Rattle.cc_arena.proofs.Each.{all_append, all_parts}
use Rattle.cc_arena.proofs.IndexLists.{AreIndexes, all_again, all_firsts, chosen_are, has_list, have, lists_are}
use Rattle.cc_arena.proofs.Instances.{and_true, any_instances, same_any}

-- ---- what asks for the values of both sides

-- a sum or difference has a value only where both sides have
abbrev pub WantsBoth : (Option Value → Option Value → Option Value) → Type 0
WantsBoth join = (v w : Option Value) → is_some (join v w) ≡ true → (is_some v ≡ true) × (is_some w ≡ true)

pub added_wants : WantsBoth added
added_wants (Some (Whole p m)) (Some w) e = (refl, refl)
added_wants (Some (Whole p m)) None e = absurd cc
added_wants (Some (Thing object)) w e = absurd cc
added_wants None w e = absurd cc

pub taken_wants : WantsBoth taken
taken_wants (Some (Whole p m)) (Some w) e = (refl, refl)
taken_wants (Some (Whole p m)) None e = absurd cc
taken_wants (Some (Thing object)) w e = absurd cc
taken_wants None w e = absurd cc

-- an equation or comparison is true only there
abbrev pub AsksBoth : (Option Value → Option Value → Bool) → Type 0
AsksBoth compare = (v w : Option Value) → compare v w ≡ true → (is_some v ≡ true) × (is_some w ≡ true)

pub same_asks : AsksBoth same_value
same_asks (Some v) (Some w) e = (refl, refl)
same_asks (Some (Whole p m)) None e = absurd cc
same_asks (Some (Thing object)) None e = absurd cc
same_asks None w e = absurd cc

pub less_asks : AsksBoth less_value
less_asks (Some v) (Some w) e = (refl, refl)
less_asks (Some (Whole p m)) None e = absurd cc
less_asks (Some (Thing object)) None e = absurd cc
less_asks None w e = absurd cc

pub at_most_asks : AsksBoth at_most_value
at_most_asks (Some v) (Some w) e = (refl, refl)
at_most_asks (Some (Whole p m)) None e = absurd cc
at_most_asks (Some (Thing object)) None e = absurd cc
at_most_asks None w e = absurd cc

same_both : {X Y Z : Type 0} (f : X → Y → Z) (x v : X) (y w : Y) → x ≡ v → y ≡ w → f x y ≡ f v w
same_both f x v y w e g = ap (λ z. f z y) e ∙ ap (f v) g

module _ (u : Universe) (env : Environment) where
  -- the value of the constant of this number, where there is one
  abbrev value_of_number : (ℕ → ℕ) → Option ℕ → Option Value
  value_of_number valuation o = option_map (meant u) (option_and_then (value_at (constants_in u) valuation) o)

  abbrev value_of : (ℕ → ℕ) → ℕ × Terms → Option Value
  value_of valuation constant = value_of_number valuation (constant_meant u env constant.0 constant.1)

  -- ---- a term's value is there only where those of its constants are

  module _ (valuation : ℕ → ℕ) where
    abbrev HasValue : ℕ × Terms → Type 0
    HasValue constant = is_some (value_of valuation constant) ≡ true

    abbrev IsWithin : ℕ → Type 0
    IsWithin number = valuation number < size_of u number

    term_has : (t : Term) → is_some (term_value u env valuation t) ≡ true → AllByRecursion HasValue (constants_of t)
    term_has (resolved.Constant symbol args) e = (e, tt)
    term_has (resolved.Object object) e = tt
    term_has (resolved.Variable variable) e = tt
    term_has resolved.Nothing e = tt
    term_has (resolved.Number number) e = tt
    term_has (resolved.Plus s t) e =
        let both = added_wants (term_value u env valuation s) (term_value u env valuation t) e in
        all_append HasValue (constants_of s) (constants_of t) (term_has s both.0) (term_has t both.1)
    term_has (resolved.Minus s t) e =
        let both = taken_wants (term_value u env valuation s) (term_value u env valuation t) e in
        all_append HasValue (constants_of s) (constants_of t) (term_has s both.0) (term_has t both.1)

    -- each of them is there then, with one of its values
    record AreThere (constants : List (ℕ × Terms)) : Type 0 where
      numbers : List ℕ
      meant : all_meant u env constants ≡ Some numbers
      within : AllByRecursion IsWithin numbers

    index_within : (values : List ℕ) (i : ℕ) → is_some (option_map (meant u) (slice_get values i)) ≡ true → i < length values
    index_within [] i e = absurd cc
    index_within (value ∷ values) zero e = omega arith
    index_within (value ∷ values) (suc i) e = omega (arith, index_within values i e)

    constant_within : (i : ℕ) (o : Option Const) → is_some (option_map (meant u) (option_and_then (λ (c : Const). slice_get c.domain i) o)) ≡ true →
        i < option_map_or (λ (c : Const). length c.domain) o 0
    constant_within i (Some c) e = index_within c.domain i e
    constant_within i None e = absurd cc

    number_within : (o : Option ℕ) → is_some (value_of_number valuation o) ≡ true → (number : ℕ) × (o ≡ Some number) × IsWithin number
    number_within (Some number) e = (number, refl, constant_within (valuation number) (slice_get (constants_in u) number) e)
    number_within None e = absurd cc

    are_there : (constants : List (ℕ × Terms)) → AllByRecursion HasValue constants → AreThere constants
    are_there [] all = record { numbers = []; meant = refl; within = tt }
    are_there (constant ∷ constants) all =
        let first = number_within (constant_meant u env constant.0 constant.1) all.0 in
        let rest = are_there constants all.1 in
        record {
          numbers = first.0 ∷ rest.numbers;
          meant = ap (λ o. cons_both o (all_meant u env constants)) first.1 ∙ ap (cons_both (Some first.0)) rest.meant;
          within = (first.2, rest.within);
        }

  -- ---- a term's value depends on the indexes of its constants alone

  module _ (valuation other : ℕ → ℕ) where
    abbrev Agree : ℕ × Terms → Type 0
    Agree constant = value_of valuation constant ≡ value_of other constant

    abbrev AgreeAt : ℕ → Type 0
    AgreeAt number = valuation number ≡ other number

    term_agrees : (t : Term) → AllByRecursion Agree (constants_of t) → term_value u env valuation t ≡ term_value u env other t
    term_agrees (resolved.Constant symbol args) all = all.0
    term_agrees (resolved.Object object) all = refl
    term_agrees (resolved.Variable variable) all = refl
    term_agrees resolved.Nothing all = refl
    term_agrees (resolved.Number number) all = refl
    term_agrees (resolved.Plus s t) all =
        let both = all_parts Agree (constants_of s) (constants_of t) all in
        same_both added (term_value u env valuation s) (term_value u env other s) (term_value u env valuation t) (term_value u env other t) (term_agrees s both.0) (term_agrees t both.1)
    term_agrees (resolved.Minus s t) all =
        let both = all_parts Agree (constants_of s) (constants_of t) all in
        same_both taken (term_value u env valuation s) (term_value u env other s) (term_value u env valuation t) (term_value u env other t) (term_agrees s both.0) (term_agrees t both.1)

    -- what two options of a list are made of
    first_agrees : (o : Option ℕ) (m : Option (List ℕ)) (numbers : List ℕ) → cons_both o m ≡ Some numbers → AllByRecursion AgreeAt numbers →
        (value_of_number valuation o ≡ value_of_number other o) × (rest : List ℕ) × (m ≡ Some rest) × AllByRecursion AgreeAt rest
    first_agrees (Some number) (Some rest) numbers e all =
        let is : numbers ≡ number ∷ rest = cc in
        let both = subst (AllByRecursion AgreeAt) is all in
        (ap (λ i. option_map (meant u) (option_and_then (λ (c : Const). slice_get c.domain i) (slice_get (constants_in u) number))) both.0, rest, refl, both.1)
    first_agrees (Some number) None numbers e all = absurd cc
    first_agrees None m numbers e all = absurd cc

    all_agree : (constants : List (ℕ × Terms)) (numbers : List ℕ) → all_meant u env constants ≡ Some numbers → AllByRecursion AgreeAt numbers → AllByRecursion Agree constants
    all_agree [] numbers e all = tt
    all_agree (constant ∷ constants) numbers e all =
        let parts = first_agrees (constant_meant u env constant.0 constant.1) (all_meant u env constants) numbers e all in
        (parts.0, all_agree constants parts.1 parts.2 parts.3)

  -- ---- formulas whose truth is that of such a comparison

  -- it is true only where its constants have values, and depends on these alone
  pub record IsOver (formula : Formula) (constants : List (ℕ × Terms)) : Type 0 where
    pub has : (valuation : ℕ → ℕ) → satisfied u valuation env formula ≡ true → AllByRecursion (HasValue valuation) constants
    pub agrees : (valuation other : ℕ → ℕ) → AllByRecursion (Agree valuation other) constants → satisfied u valuation env formula ≡ satisfied u other env formula

  pub comparison_is_over : (compare : Option Value → Option Value → Bool) → AsksBoth compare → (s t : Term) (formula : Formula) →
      ((valuation : ℕ → ℕ) → satisfied u valuation env formula ≡ compare (term_value u env valuation s) (term_value u env valuation t)) →
      IsOver formula (constants_of s ++ constants_of t)
  comparison_is_over compare asks s t formula is = record {
    has = λ valuation e.
        let both = asks (term_value u env valuation s) (term_value u env valuation t) (sym (is valuation) ∙ e) in
        all_append (HasValue valuation) (constants_of s) (constants_of t) (term_has valuation s both.0) (term_has valuation t both.1);
    agrees = λ valuation other all.
        let both = all_parts (Agree valuation other) (constants_of s) (constants_of t) all in
        is valuation
        ∙ same_both compare (term_value u env valuation s) (term_value u env other s) (term_value u env valuation t) (term_value u env other t) (term_agrees valuation other s both.0) (term_agrees valuation other t both.1)
        ∙ sym (is other);
  }

-- ---- lists of indexes

module _ (valuation : ℕ → ℕ) where
  atoms_tell : (numbers indexes : List ℕ) (operands : Operands) →
      all_true valuation (operands_behind operands (atoms numbers indexes)) ≡ (all_true valuation operands && have valuation numbers indexes)
  atoms_tell [] indexes operands = and_true (all_true valuation operands)
  atoms_tell (number ∷ numbers) [] operands = and_true (all_true valuation operands)
  atoms_tell (number ∷ numbers) (index ∷ indexes) operands =
      atoms_tell numbers indexes (terms.and_then operands (terms.Atom number index))
      ∙ and_assoc (all_true valuation operands) (valuation number == index) (have valuation numbers indexes)

  -- one more list: where the constants have its values, what it is tested for is what they are tested for
  kept_more : (has passes truth some any : Bool) → (has ≡ true → truth ≡ passes) → some ≡ (any && truth) → (if passes then (has || some) else some) ≡ ((has || any) && truth)
  kept_more true true truth some any same e = sym (same refl)
  kept_more true false truth some any same e = e ∙ ap (λ (b : Bool). any && b) (same refl) ∙ and_no any ∙ sym (same refl)
    where
      and_no : (b : Bool) → (b && false) ≡ false
      and_no true = refl
      and_no false = refl
  kept_more false true truth some any same e = e
  kept_more false false truth some any same e = e

  module _ (u : Universe) (numbers : List ℕ) (test : (ℕ → ℕ) → Bool) (same : (other : ℕ → ℕ) → AllByRecursion (λ number. valuation number ≡ other number) numbers → test valuation ≡ test other) where
    kept_tell : (lists : List (List ℕ)) → AllByRecursion (AreIndexes u numbers) lists →
        list_any (have valuation numbers) (filter (λ indexes. test (chosen numbers indexes)) lists) ≡ (list_any (have valuation numbers) lists && test valuation)
    kept_tell [] are = refl
    kept_tell (indexes ∷ lists) are =
        let kept = filter (λ (others : List ℕ). test (chosen numbers others)) lists in
        any_if (test (chosen numbers indexes)) kept
        ∙ kept_more (have valuation numbers indexes) (test (chosen numbers indexes)) (test valuation) (list_any (have valuation numbers) kept) (list_any (have valuation numbers) lists)
        (λ e. same (chosen numbers indexes) (chosen_are valuation u numbers indexes are.0 e)) (kept_tell lists are.1)
      where
        any_if : (passes : Bool) (kept : List (List ℕ)) → list_any (have valuation numbers) (if passes then indexes ∷ kept else kept)
            ≡ (if passes then (have valuation numbers indexes || list_any (have valuation numbers) kept) else list_any (have valuation numbers) kept)
        any_if true kept = refl
        any_if false kept = refl

    lists_tell : (test valuation ≡ true → AllByRecursion (λ number. valuation number < size_of u number) numbers) →
        truth valuation (any_of (map (λ indexes. all_of (atoms numbers indexes)) (filter (λ indexes. test (chosen numbers indexes)) (index_lists u numbers)))) ≡ test valuation
    lists_tell within =
        let kept = filter (λ (indexes : List ℕ). test (chosen numbers indexes)) (index_lists u numbers) in
        any_instances valuation (λ (indexes : List ℕ). all_of (atoms numbers indexes)) terms.nothing kept
        ∙ same_any (λ (indexes : List ℕ). truth valuation (all_of (atoms numbers indexes))) (have valuation numbers) kept (λ indexes. atoms_tell numbers indexes terms.nothing)
        ∙ kept_tell (index_lists u numbers) (lists_are u numbers)
        ∙ sure (list_any (have valuation numbers) (index_lists u numbers)) (test valuation) (λ e. has_list valuation u numbers (within e))
      where
        sure : (some truth : Bool) → (truth ≡ true → some ≡ true) → (some && truth) ≡ truth
        sure some true is = ap (λ (b : Bool). b && true) (is refl)
        sure true false is = refl
        sure false false is = refl

-- ---- the term

module _ (u : Universe) (env : Environment) (formula : Formula) (valuation : ℕ → ℕ) where
  abbrev holds : (ℕ → ℕ) → Bool
  holds other = satisfied u other env formula

  over_tells : (numbers : List ℕ) → ((other : ℕ → ℕ) → AllByRecursion (λ number. valuation number ≡ other number) numbers → holds valuation ≡ holds other) →
      (holds valuation ≡ true → AllByRecursion (λ number. valuation number < size_of u number) numbers) →
      truth valuation (judged_over u env formula numbers) ≡ holds valuation
  over_tells [] same within = of_test (holds (λ number. 0)) ∙ sym (same (λ number. 0) tt)
    where
      of_test : (b : Bool) → truth valuation (truth_of b) ≡ b
      of_test true = refl
      of_test false = refl
  over_tells (number ∷ numbers) same within = lists_tell valuation u (number ∷ numbers) holds same within

  where_tells : (constants : List (ℕ × Terms)) → IsOver u env formula constants → (o : Option (List ℕ)) → all_meant u env constants ≡ o →
      truth valuation (judged_where u env formula o) ≡ holds valuation
  where_tells constants over (Some numbers) e = over_tells (firsts numbers)
      (λ other all. over.agrees valuation other (all_agree u env valuation other constants numbers e (all_again (λ number. valuation number ≡ other number) numbers all)))
      (λ true_here.
      let there = are_there u env valuation constants (over.has valuation true_here) in
      let same : there.numbers ≡ numbers = cc in
      all_firsts (λ number. valuation number < size_of u number) numbers (subst (AllByRecursion (λ number. valuation number < size_of u number)) same there.within))
  where_tells constants over None e = not_here (holds valuation) (λ true_here. let there = are_there u env valuation constants (over.has valuation true_here) in absurd cc)
    where
      not_here : (b : Bool) → (b ≡ true → ⊥) → false ≡ b
      not_here true never = absurd (never refl)
      not_here false never = refl

  pub judged_tells : (constants : List (ℕ × Terms)) → IsOver u env formula constants → truth valuation (judged u env formula constants) ≡ satisfied u valuation env formula
  judged_tells constants over = where_tells constants over (all_meant u env constants) refl
