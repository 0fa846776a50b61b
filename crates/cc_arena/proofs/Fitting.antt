-- The terms of formulas are of constants with so many values each.
use Rattle.std.proofs.Common.{◌≡◌, ◌∙◌, ℕ, ◌+◌, ◌<◌, Bool, true, false, List, [], ◌∷◌, ◌++◌, length, map, filter, nat_eq, position, slice_get, Option, Some, None, refl, ap, subst, arith}
use Rattle.std.specs.Option.{option_map, option_map_or}
use Rattle.std.specs.Prelude.{◌||◌, ◌==◌, if◌then◌else◌}
use Rattle.std.specs.List.{AllByRecursion}
use Rattle.std.proofs.lemmas.List.Quantifiers.{position-Some}
use Rattle.std.proofs.lemmas.Option.{slice_get-map}
use Rattle.cc_defs.specs.declared.node.Node.TheVariants as nodes
use Rattle.cc_defs.specs.declared.signature.Const.{Const}
use Rattle.cc_defs.specs.Declarations.{firsts}
use Rattle.cc_defs.specs.Description.{domain_sizes}
use Rattle.cc_defs.specs.Forms.{formula_symbols, term_symbols}
use Rattle.cc_defs.specs.Judged.{all_meant, atoms, chosen, constants_of, index_lists, is_sum, judged, judged_over, judged_where, truth_of}
use Rattle.cc_defs.specs.Nodes.{Side, Constant, Value, Absent, side, value_side, constant_side, numbered_side, atom_at, both_have, common_values, equation, term_of}
use Rattle.cc_defs.specs.Resolved.{Term, Terms, Formula}
use Rattle.cc_defs.specs.Resolved as resolved
use Rattle.cc_defs.specs.Satisfaction.{Environment, bind, cons_both, constant_meant, object_given, satisfied}
use Rattle.cc_defs.specs.Terms.{Ground, Operands, Fits, all_of, any_of, operands_behind, postfix, postfixes, operand_count}
use Rattle.cc_defs.specs.Terms as terms
use Rattle.cc_defs.specs.Universe.{Universe, constants_in, objects_of}
use Rattle.cc_arena.proofs.Each.{all_append, all_kept, all_made, all_map, all_parts}
use Rattle.cc_arena.proofs.IndexLists.{AreIndexes, IsIndex, all_firsts, lists_are}

-- the index of a value is below the number of values
pub index_below : (values : List ℕ) (value index : ℕ) → position (nat_eq value) values ≡ Some index → index < length values
index_below values value index e = (position-Some (nat_eq value) values index 0 e).0

-- a constant's number has as its size the number of its values
abbrev pub IsSized : List ℕ → Side → Type 0
IsSized sizes (Constant number values) = slice_get sizes number ≡ Some (length values)
IsSized sizes other = Unit {0}

module _ (sizes : List ℕ) where
  abbrev pub TermFits : Ground → Type 0
  TermFits formula = AllByRecursion (Fits sizes) (postfix formula)

  -- ---- operands

  behind_fit : (operands : Operands) (formulas : List Ground) → AllByRecursion (Fits sizes) (postfixes operands) → AllByRecursion TermFits formulas →
      AllByRecursion (Fits sizes) (postfixes (operands_behind operands formulas))
  behind_fit operands [] front fit = front
  behind_fit operands (formula ∷ formulas) front fit =
      behind_fit (terms.and_then operands formula) formulas (all_append (Fits sizes) (postfixes operands) (postfix formula) front fit.0) fit.1

  all_fits : (formulas : List Ground) → AllByRecursion TermFits formulas → TermFits (all_of formulas)
  all_fits formulas fit =
      let operands = operands_behind terms.nothing formulas in
      all_append (Fits sizes) (postfixes operands) (nodes.All (operand_count operands) ∷ []) (behind_fit terms.nothing formulas tt fit) (tt, tt)

  any_fits : (formulas : List Ground) → AllByRecursion TermFits formulas → TermFits (any_of formulas)
  any_fits formulas fit =
      let operands = operands_behind terms.nothing formulas in
      all_append (Fits sizes) (postfixes operands) (nodes.Any (operand_count operands) ∷ []) (behind_fit terms.nothing formulas tt fit) (tt, tt)

  not_fits : (formula : Ground) → TermFits formula → TermFits (terms.Not formula)
  not_fits formula fit = all_append (Fits sizes) (postfix formula) (nodes.Not ∷ []) fit (tt, tt)

  same_fits : (first second : Ground) → TermFits first → TermFits second → TermFits (terms.Same first second)
  same_fits first second fit other =
      all_append (Fits sizes) (postfix first ++ postfix second) (nodes.Same ∷ []) (all_append (Fits sizes) (postfix first) (postfix second) fit other) (tt, tt)

  pub pair_fits : (first second : Ground) → TermFits first → TermFits second → TermFits (all_of (first ∷ second ∷ []))
  pair_fits first second fit other = all_fits (first ∷ second ∷ []) (fit, (other, tt))

  -- ---- equations

  at_fits : (number : ℕ) (values : List ℕ) (o : Option ℕ) → slice_get sizes number ≡ Some (length values) → ((index : ℕ) → o ≡ Some index → index < length values) →
      TermFits (atom_at number o)
  at_fits number values (Some index) sized below = ((length values, sized, below index refl), tt)
  at_fits number values None sized below = (tt, tt)

  both_fit : (number index : ℕ) (size : ℕ) (other : ℕ) (others : List ℕ) (o : Option ℕ) → slice_get sizes number ≡ Some size → index < size →
      slice_get sizes other ≡ Some (length others) → ((place : ℕ) → o ≡ Some place → place < length others) → AllByRecursion TermFits (both_have number index other o)
  both_fit number index size other others (Some place) sized within also below =
      (pair_fits (terms.Atom number index) (terms.Atom other place) ((size, sized, within), tt) ((length others, also, below place refl), tt), tt)
  both_fit number index size other others None sized within also below = tt

  common_fit : (number index size : ℕ) (values : List ℕ) (other : ℕ) (others : List ℕ) → slice_get sizes number ≡ Some size → index + length values ≡ size →
      slice_get sizes other ≡ Some (length others) → AllByRecursion TermFits (common_values number index values other others)
  common_fit number index size [] other others sized counted also = tt
  common_fit number index size (value ∷ values) other others sized counted also =
      all_append TermFits (both_have number index other (position (nat_eq value) others)) (common_values number (index + 1) values other others)
      (both_fit number index size other others (position (nat_eq value) others) sized (omega arith) also (index_below others value))
      (common_fit number (index + 1) size values other others sized (omega arith) also)

  equation_fits : (p q : Side) → IsSized sizes p → IsSized sizes q → TermFits (equation p q)
  equation_fits (Constant number values) (Constant other others) p q =
      any_fits (common_values number 0 values other others) (common_fit number 0 (length values) values other others p (omega arith) q)
  equation_fits (Constant number values) (Value value) p q = at_fits number values (position (nat_eq value) values) p (index_below values value)
  equation_fits (Value value) (Constant number values) p q = at_fits number values (position (nat_eq value) values) q (index_below values value)
  equation_fits (Value value) (Value other) p q = of_test (value == other)
    where
      of_test : (b : Bool) → TermFits (if b then terms.Truth else terms.Falsehood)
      of_test true = (tt, tt)
      of_test false = (tt, tt)
  equation_fits (Constant number values) Absent p q = (tt, tt)
  equation_fits (Value value) Absent p q = (tt, tt)
  equation_fits Absent other p q = (tt, tt)

  -- ---- equations with sums, and comparisons

  truth_fits : (b : Bool) → TermFits (truth_of b)
  truth_fits true = (tt, tt)
  truth_fits false = (tt, tt)

  module _ (u : Universe) where
    -- an atom of the constant with one of its value indexes fits
    abbrev HasSize : ℕ → Type 0
    HasSize number = (index : ℕ) → IsIndex u number index → TermFits (terms.Atom number index)

    atoms_fit : (numbers indexes : List ℕ) → AllByRecursion HasSize numbers → AreIndexes u numbers indexes → AllByRecursion TermFits (atoms numbers indexes)
    atoms_fit [] indexes sized are = tt
    atoms_fit (number ∷ numbers) [] sized are = tt
    atoms_fit (number ∷ numbers) (index ∷ indexes) sized are = (sized.0 index are.0, atoms_fit numbers indexes sized.1 are.1)

    over_fits : (env : Environment) (formula : Formula) (numbers : List ℕ) → AllByRecursion HasSize numbers → TermFits (judged_over u env formula numbers)
    over_fits env formula [] sized = truth_fits (satisfied u (λ number. 0) env formula)
    over_fits env formula (number ∷ numbers) sized =
        let constants = number ∷ numbers in
        let test = λ (indexes : List ℕ). satisfied u (chosen constants indexes) env formula in
        let kept = filter test (index_lists u constants) in
        any_fits (map (λ (indexes : List ℕ). all_of (atoms constants indexes)) kept)
        (all_made TermFits (AreIndexes u constants) (λ (indexes : List ℕ). all_of (atoms constants indexes)) kept
        (λ indexes are. all_fits (atoms constants indexes) (atoms_fit constants indexes sized are))
        (all_kept (AreIndexes u constants) test (index_lists u constants) (lists_are u constants)))

    sized_at : (number : ℕ) (o : Option Const) → IsSized sizes (constant_side number o) → (index : ℕ) → index < option_map_or (λ (c : Const). length c.domain) o 0 → TermFits (terms.Atom number index)
    sized_at number (Some constant) sized index below = ((length constant.domain, sized, below), tt)
    sized_at number None sized index below = absurd (omega arith)

    has_size : (o : Option ℕ) → IsSized sizes (numbered_side u o) → (number : ℕ) → o ≡ Some number → HasSize number
    has_size (Some other) sized number e =
        let same : other ≡ number = cc in
        subst HasSize same (sized_at other (slice_get (constants_in u) other) sized)
    has_size None sized number e = absurd cc

  -- ---- formulas, each of whose constants is good

  module _ (u : Universe) (Good : ℕ → Type 0) (good : (env : Environment) (symbol : ℕ) (args : Terms) → Good symbol → IsSized sizes (side u env (resolved.Constant symbol args))) where
    value_fits : (o : Option ℕ) → IsSized sizes (value_side o)
    value_fits (Some value) = tt
    value_fits None = tt

    side_fits : (env : Environment) (term : Term) → AllByRecursion Good (term_symbols term) → IsSized sizes (side u env term)
    side_fits env (resolved.Constant symbol args) all = good env symbol args all.0
    side_fits env (resolved.Object object) all = tt
    side_fits env (resolved.Variable variable) all = value_fits (env variable)
    side_fits env resolved.Nothing all = tt
    side_fits env (resolved.Number number) all = value_fits (object_given u env (resolved.Number number))
    side_fits env (resolved.Plus s t) all = value_fits (object_given u env (resolved.Plus s t))
    side_fits env (resolved.Minus s t) all = value_fits (object_given u env (resolved.Minus s t))

    -- ---- the constants of sums

    abbrev GoodConstant : ℕ × Terms → Type 0
    GoodConstant constant = Good constant.0

    good_constants : (t : Term) → AllByRecursion Good (term_symbols t) → AllByRecursion GoodConstant (constants_of t)
    good_constants (resolved.Constant symbol args) all = (all.0, tt)
    good_constants (resolved.Object object) all = tt
    good_constants (resolved.Variable variable) all = tt
    good_constants resolved.Nothing all = tt
    good_constants (resolved.Number number) all = tt
    good_constants (resolved.Plus s t) all =
        let both = all_parts Good (term_symbols s) (term_symbols t) all in
        all_append GoodConstant (constants_of s) (constants_of t) (good_constants s both.0) (good_constants t both.1)
    good_constants (resolved.Minus s t) all =
        let both = all_parts Good (term_symbols s) (term_symbols t) all in
        all_append GoodConstant (constants_of s) (constants_of t) (good_constants s both.0) (good_constants t both.1)

    first_sized : (o : Option ℕ) (m : Option (List ℕ)) → IsSized sizes (numbered_side u o) → ((rest : List ℕ) → m ≡ Some rest → AllByRecursion (HasSize u) rest) →
        (numbers : List ℕ) → cons_both o m ≡ Some numbers → AllByRecursion (HasSize u) numbers
    first_sized (Some number) (Some rest) sized others numbers e =
        let is : number ∷ rest ≡ numbers = cc in
        subst (AllByRecursion (HasSize u)) is (has_size u (Some number) sized number refl, others rest refl)
    first_sized (Some number) None sized others numbers e = absurd cc
    first_sized None m sized others numbers e = absurd cc

    all_sized : (env : Environment) (constants : List (ℕ × Terms)) → AllByRecursion GoodConstant constants → (numbers : List ℕ) → all_meant u env constants ≡ Some numbers →
        AllByRecursion (HasSize u) numbers
    all_sized env [] all numbers e =
        let is : [] ≡ numbers = cc in
        subst (AllByRecursion (HasSize u)) is tt
    all_sized env (constant ∷ constants) all numbers e =
        first_sized (constant_meant u env constant.0 constant.1) (all_meant u env constants) (good env constant.0 constant.1 all.0) (all_sized env constants all.1) numbers e

    where_fits : (env : Environment) (formula : Formula) (constants : List (ℕ × Terms)) → AllByRecursion GoodConstant constants → (o : Option (List ℕ)) → all_meant u env constants ≡ o →
        TermFits (judged_where u env formula o)
    where_fits env formula constants all (Some numbers) e = over_fits u env formula (firsts numbers) (all_firsts (HasSize u) numbers (all_sized env constants all numbers e))
    where_fits env formula constants all None e = (tt, tt)

    judged_fits : (env : Environment) (formula : Formula) (s t : Term) → AllByRecursion Good (term_symbols s ++ term_symbols t) →
        TermFits (judged u env formula (constants_of s ++ constants_of t))
    judged_fits env formula s t all =
        let both = all_parts Good (term_symbols s) (term_symbols t) all in
        where_fits env formula (constants_of s ++ constants_of t)
        (all_append GoodConstant (constants_of s) (constants_of t) (good_constants s both.0) (good_constants t both.1))
        (all_meant u env (constants_of s ++ constants_of t)) refl

    equal_fits : (env : Environment) (s t : Term) (sum : Bool) → AllByRecursion Good (term_symbols s ++ term_symbols t) →
        TermFits (if sum then judged u env (resolved.Equal s t) (constants_of s ++ constants_of t) else equation (side u env s) (side u env t))
    equal_fits env s t true all = judged_fits env (resolved.Equal s t) s t all
    equal_fits env s t false all =
        let both = all_parts Good (term_symbols s) (term_symbols t) all in
        equation_fits (side u env s) (side u env t) (side_fits env s both.0) (side_fits env t both.1)

    pub term_fits : (env : Environment) (formula : Formula) → AllByRecursion Good (formula_symbols formula) → TermFits (term_of u env formula)
    term_fits env resolved.Truth all = (tt, tt)
    term_fits env resolved.Falsehood all = (tt, tt)
    term_fits env (resolved.Equal s t) all = equal_fits env s t (is_sum s || is_sum t) all
    term_fits env (resolved.Less s t) all = judged_fits env (resolved.Less s t) s t all
    term_fits env (resolved.AtMost s t) all = judged_fits env (resolved.AtMost s t) s t all
    term_fits env (resolved.Not f) all = not_fits (term_of u env f) (term_fits env f all)
    term_fits env (resolved.Both f g) all =
        let both = all_parts Good (formula_symbols f) (formula_symbols g) all in
        all_fits (term_of u env f ∷ term_of u env g ∷ []) (term_fits env f both.0, (term_fits env g both.1, tt))
    term_fits env (resolved.Either f g) all =
        let both = all_parts Good (formula_symbols f) (formula_symbols g) all in
        any_fits (term_of u env f ∷ term_of u env g ∷ []) (term_fits env f both.0, (term_fits env g both.1, tt))
    term_fits env (resolved.Implies f g) all =
        let both = all_parts Good (formula_symbols f) (formula_symbols g) all in
        any_fits (terms.Not (term_of u env f) ∷ term_of u env g ∷ []) (not_fits (term_of u env f) (term_fits env f both.0), (term_fits env g both.1, tt))
    term_fits env (resolved.Same f g) all =
        let both = all_parts Good (formula_symbols f) (formula_symbols g) all in
        same_fits (term_of u env f) (term_of u env g) (term_fits env f both.0) (term_fits env g both.1)
    term_fits env (resolved.ForAll variable sort f) all =
        all_fits (map (λ object. term_of u (bind variable object env) f) (objects_of u sort))
        (all_map TermFits (λ object. term_of u (bind variable object env) f) (objects_of u sort) (λ object. term_fits (bind variable object env) f all))
    term_fits env (resolved.Exists variable sort f) all =
        any_fits (map (λ object. term_of u (bind variable object env) f) (objects_of u sort))
        (all_map TermFits (λ object. term_of u (bind variable object env) f) (objects_of u sort) (λ object. term_fits (bind variable object env) f all))

-- ---- any constants of a universe

pub size_at : (constants : List Const) (number : ℕ) (constant : Const) → slice_get constants number ≡ Some constant → slice_get (domain_sizes constants) number ≡ Some (length constant.domain)
size_at constants number constant e =
    slice_get-map (λ (c : Const). length c.domain) constants number ∙ ap (option_map (λ (c : Const). length c.domain)) e

module _ (u : Universe) where
  abbrev AnySymbol : ℕ → Type 0
  AnySymbol symbol = Unit {0}

  any_sized : (env : Environment) (symbol : ℕ) (args : Terms) → AnySymbol symbol → IsSized (domain_sizes (constants_in u)) (side u env (resolved.Constant symbol args))
  any_sized env symbol args any = number_sized (constant_meant u env symbol args)
    where
      at : (number : ℕ) (o : Option Const) → slice_get (constants_in u) number ≡ o → IsSized (domain_sizes (constants_in u)) (constant_side number o)
      at number (Some constant) e = size_at (constants_in u) number constant e
      at number None e = tt

      number_sized : (o : Option ℕ) → IsSized (domain_sizes (constants_in u)) (numbered_side u o)
      number_sized (Some number) = at number (slice_get (constants_in u) number) refl
      number_sized None = tt

  all_any : (symbols : List ℕ) → AllByRecursion AnySymbol symbols
  all_any [] = tt
  all_any (symbol ∷ symbols) = (tt, all_any symbols)

  pub fits_all : (env : Environment) (formula : Formula) → AllByRecursion (Fits (domain_sizes (constants_in u))) (postfix (term_of u env formula))
  fits_all env formula = term_fits (domain_sizes (constants_in u)) u AnySymbol any_sized env formula (all_any (formula_symbols formula))
