-- How many lists of values are walked: counts that stop, and where there are none.
use Rattle.std.proofs.Common.{◌≡◌, ◌∙◌, ℕ, zero, suc, ◌+◌, ◌*◌, ◌<◌, ◌≤◌, Bool, true, false, ◌&&◌, ◌||◌, List, [], ◌∷◌, ◌++◌, length, map, flat_map, filter, get_or, drop, min, Option, Some, None, Result, Ok, Err, IfOk, option_map, inl, inr, refl, sym, ap, append_assoc, append-nil, arith}
use Rattle.std.specs.Prelude.{if◌then◌else◌}
use Rattle.std.specs.List.{sum_by}
use Rattle.std.proofs.lemmas.Bool.{cases_lt}
use Rattle.std.proofs.lemmas.List.{at_drop_all, at_drop_more, map-append, map-id}
use Rattle.std.proofs.lemmas.List.Sums.{sum_by-append, sum_by-cons}
use Rattle.std.proofs.Math.Nat.{mul_assoc}
use Rattle.std.specs.Global.{Box}
use Rattle.cc_defs.specs.declared.formula.Formula as kept
use Rattle.cc_defs.specs.declared.law.Range.{Range}
use Rattle.cc_defs.specs.Environments.{Under, Together, choices, has_instance, instances_from, instances_of, pairs_of, range_values}
use Rattle.cc_defs.specs.Judged.{choices_of, constants_of, is_sum, lists_of, product_of, size_of, those_meant}
use Rattle.cc_defs.specs.declared.law.BaseLaw.{BaseLaw as BaseLawTree}
use Rattle.cc_defs.specs.declared.law.Condition.{Condition as ConditionTree}
use Rattle.cc_defs.specs.declared.law.Query.{Query as QueryTree}
use Rattle.cc_defs.specs.Resolved.{BaseLaw, Condition, Formula, Law, Terms, plain_base_law, plain_condition, plain_formula, plain_query}
use Rattle.cc_defs.specs.Resolved as resolved
use Rattle.cc_defs.specs.Satisfaction.{Environment, bind, giving}
use Rattle.cc_defs.specs.Universe.{Universe, boolean_actions, objects_of}
use Rattle.cc_ground.specs.Bindings.{BindingsView, environment_of, no_bindings}
use Rattle.cc_ground.specs.Choices.{base_choices, bracket_choices, choices_behind, choices_under, choices_with, conditions_choices, has_any, has_lists, has_lists_part, law_choices, laws_choices}
use Rattle.cc_ground.specs.Counting.{choices_of_all, choices_of_query, claim_choices, condition_choices, instance_choices, part_choices}
use Rattle.cc_ground.specs.Pieces.{gathered}
use Rattle.cc_ground.proofs.Meant.{all_is, some_is, two_is}
use Rattle.cc_ground.proofs.Testing.{IsBracket, IsOfTwo}
use Rattle.cc_ground.proofs.Totals.{gathered_firsts}

-- ---- counts that stop

pub counts_on : (count one more now : ℕ) → now ≡ min (count + one) 16000001 → min (now + more) 16000001 ≡ min (count + (one + more)) 16000001
counts_on count one more now e = omega arith

pub counts_none : (count none : ℕ) → count ≤ 16000001 → none ≡ 0 → count ≡ min (count + none) 16000001
counts_none count none few e = omega arith

pub counts_full : (count more : ℕ) → count ≤ 16000001 → 16000001 ≤ count → count ≡ min (count + more) 16000001
counts_full count more few full = omega arith

min_times : (a m : ℕ) → min (min a 16000001 * m) 16000001 ≡ min (a * m) 16000001
min_times a zero = omega arith
min_times a (suc m) = elim (cases_lt a 16000001) [
  | inl below ↦ let same : min a 16000001 ≡ a = omega arith in ap (λ (k : ℕ). min (k * suc m) 16000001) same
  | inr above ↦
      let same : min a 16000001 ≡ 16000001 = omega arith in
      let one : a * suc m ≡ a + a * m = grind arith in
      ap (λ (k : ℕ). min (k * suc m) 16000001) same ∙ omega (arith, one)
]

pub product_more : (u : Universe) (constants : List ℕ) (i count size new : ℕ) → i < length constants → size ≡ size_of u (get_or constants i 0) → new ≡ min (count * size) 16000001 →
    min (count * product_of u (drop i constants)) 16000001 ≡ min (product_of u constants) 16000001 →
    min (new * product_of u (drop (i + 1) constants)) 16000001 ≡ min (product_of u constants) 16000001
product_more u constants i count size new within is_size is_new so_far =
    let rest = product_of u (drop (i + 1) constants) in
    let here : product_of u (drop i constants) ≡ size * rest = at_drop_more (product_of u) constants i 0 within ∙ ap (λ (k : ℕ). k * rest) (sym is_size) in
    ap (λ (k : ℕ). min (k * rest) 16000001) is_new
    ∙ min_times (count * size) rest
    ∙ ap (λ (k : ℕ). min k 16000001) (mul_assoc count size rest ∙ ap (λ (k : ℕ). count * k) (sym here))
    ∙ so_far

-- ---- constants

pub any_both : (xs ys : List (ℕ × Terms)) → has_any (xs ++ ys) ≡ (has_any xs || has_any ys)
any_both [] ys = refl
any_both (x ∷ xs) ys = refl

pub lists_none : (u : Universe) (env : Environment) (constants : List (ℕ × Terms)) → has_any constants ≡ false → lists_of u env constants ≡ 0
lists_none u env [] e = refl
lists_none u env (constant ∷ others) e = absurd cc

pub lists_some : (u : Universe) (env : Environment) (constants : List (ℕ × Terms)) (found : List ℕ) → has_any constants ≡ true → found ≡ gathered [] (those_meant u env constants) →
    product_of u found ≡ lists_of u env constants
lists_some u env [] found e is = absurd cc
lists_some u env (constant ∷ others) found e is = ap (product_of u) (is ∙ gathered_firsts (those_meant u env (constant ∷ others)))

-- ---- brackets

pub bracket_is : (u : Universe) (env : Environment) (variable : ℕ) (formula : Formula) (objects : List ℕ) →
    sum_by (λ object. choices_of u (bind variable object env) formula) objects ≡ bracket_choices u env variable formula objects
bracket_is u env variable formula [] = refl
bracket_is u env variable formula (object ∷ objects) =
    sum_by-cons (λ (o : ℕ). choices_of u (bind variable o env) formula) object objects
    ∙ ap (λ (k : ℕ). choices_of u (bind variable object env) formula + k) (bracket_is u env variable formula objects)

-- ---- formulas of parts

pub choices_of_two : (u : Universe) (env : Environment) (whole f g : kept.Formula) (l r : Box kept.Formula) → IsOfTwo whole l r → f ≡ l.value → g ≡ r.value →
    choices_of u env (plain_formula whole) ≡ choices_of u env (plain_formula f) + choices_of u env (plain_formula g)
choices_of_two u env whole f g l r (inl is) first second = ap (choices_of u env) (two_is kept.Both resolved.Both whole f g l r refl is first second)
choices_of_two u env whole f g l r (inr (inl is)) first second = ap (choices_of u env) (two_is kept.Either resolved.Either whole f g l r refl is first second)
choices_of_two u env whole f g l r (inr (inr (inl is))) first second = ap (choices_of u env) (two_is kept.Implies resolved.Implies whole f g l r refl is first second)
choices_of_two u env whole f g l r (inr (inr (inr is))) first second = ap (choices_of u env) (two_is kept.Same resolved.Same whole f g l r refl is first second)

pub choices_of_bracket : (u : Universe) (env : Environment) (whole inner : kept.Formula) (variable sort : ℕ) (box : Box kept.Formula) → IsBracket whole variable sort box → inner ≡ box.value →
    choices_of u env (plain_formula whole) ≡ bracket_choices u env variable (plain_formula inner) (objects_of u sort)
choices_of_bracket u env whole inner variable sort box (inl is) same =
    ap (choices_of u env) (all_is whole inner variable sort box is same) ∙ bracket_is u env variable (plain_formula inner) (objects_of u sort)
choices_of_bracket u env whole inner variable sort box (inr is) same =
    ap (choices_of u env) (some_is whole inner variable sort box is same) ∙ bracket_is u env variable (plain_formula inner) (objects_of u sort)

-- ---- where there are none

neither : (a b : Bool) → (a || b) ≡ false → (a ≡ false) × (b ≡ false)
neither true b e = absurd cc
neither false b e = (refl, e)

abbrev IsListless : Universe → Formula → Type 0
IsListless u formula = (env : Environment) → choices_of u env formula ≡ 0

no_sum : (u : Universe) (env : Environment) (sum : Bool) (constants : List (ℕ × Terms)) → (sum && has_any constants) ≡ false → (if sum then lists_of u env constants else 0) ≡ 0
no_sum u env true constants e = lists_none u env constants e
no_sum u env false constants e = refl

no_bracket : (u : Universe) (env : Environment) (variable : ℕ) (formula : Formula) → IsListless u formula → (objects : List ℕ) → bracket_choices u env variable formula objects ≡ 0
no_bracket u env variable formula none [] = refl
no_bracket u env variable formula none (object ∷ objects) = omega (arith, none (bind variable object env), no_bracket u env variable formula none objects)

pub no_lists : (u : Universe) (formula : Formula) → has_lists formula ≡ false → (env : Environment) → choices_of u env formula ≡ 0
no_lists u resolved.Truth e env = refl
no_lists u resolved.Falsehood e env = refl
no_lists u (resolved.Equal s t) e env = no_sum u env (is_sum s || is_sum t) (constants_of s ++ constants_of t) e
no_lists u (resolved.Less s t) e env = lists_none u env (constants_of s ++ constants_of t) e
no_lists u (resolved.AtMost s t) e env = lists_none u env (constants_of s ++ constants_of t) e
no_lists u (resolved.Not f) e env = no_lists u f e env
no_lists u (resolved.Both f g) e env = let both = neither (has_lists f) (has_lists g) e in omega (arith, no_lists u f both.0 env, no_lists u g both.1 env)
no_lists u (resolved.Either f g) e env = let both = neither (has_lists f) (has_lists g) e in omega (arith, no_lists u f both.0 env, no_lists u g both.1 env)
no_lists u (resolved.Implies f g) e env = let both = neither (has_lists f) (has_lists g) e in omega (arith, no_lists u f both.0 env, no_lists u g both.1 env)
no_lists u (resolved.Same f g) e env = let both = neither (has_lists f) (has_lists g) e in omega (arith, no_lists u f both.0 env, no_lists u g both.1 env)
no_lists u (resolved.ForAll variable sort f) e env = bracket_is u env variable f (objects_of u sort) ∙ no_bracket u env variable f (no_lists u f e) (objects_of u sort)
no_lists u (resolved.Exists variable sort f) e env = bracket_is u env variable f (objects_of u sort) ∙ no_bracket u env variable f (no_lists u f e) (objects_of u sort)

pub no_instances : (u : Universe) (env : Environment) (variable : ℕ) (formula : Formula) (objects : List ℕ) → has_lists formula ≡ false → bracket_choices u env variable formula objects ≡ 0
no_instances u env variable formula objects e = no_bracket u env variable formula (no_lists u formula e) objects

no_part : (u : Universe) (env : Environment) (part : Option Formula) → has_lists_part part ≡ false → part_choices u env part ≡ 0
no_part u env None e = refl
no_part u env (Some formula) e = no_lists u formula e env

-- a law without lists
pub no_law : (u : Universe) (law : Law) → has_lists law.body ≡ false → has_lists_part law.after ≡ false → (lists : List (List ℕ)) → choices_under u law lists ≡ 0
no_law u law body after [] = refl
no_law u law body after (values ∷ lists) =
    let none : law_choices u law values ≡ 0 = omega (arith, no_lists u law.body body (giving values), no_part u (giving values) law.after after) in
    omega (arith, at (has_instance u law values) none, no_law u law body after lists)
  where
    at : (has : Bool) → law_choices u law values ≡ 0 → (if has then law_choices u law values else 0) ≡ 0
    at true none = none
    at false none = refl

pub no_values : (u : Universe) (law : Law) (ranges : List Range) (count : ℕ) → count ≡ min (length (choices (map (range_values u) ranges))) 1000001 → count ≡ 0 →
    choices_behind u law [] ranges ≡ 0
no_values u law ranges count is none = no_list (choices (map (range_values u) ranges)) (omega arith)
  where
    no_list : (lists : List (List ℕ)) → length lists ≡ 0 → choices_under u law (map (λ more. [] ++ more) lists) ≡ 0
    no_list [] e = refl
    no_list (list ∷ lists) e = absurd (omega arith)

-- ---- value by value

under_append : (u : Universe) (law : Law) (lists more : List (List ℕ)) → choices_under u law (lists ++ more) ≡ choices_under u law lists + choices_under u law more
under_append u law [] more = omega arith
under_append u law (values ∷ lists) more = omega (arith, under_append u law lists more)

placed_behind : (front : List ℕ) (value : ℕ) (lists : List (List ℕ)) →
    map (λ more. front ++ more) (map (λ more. value ∷ more) lists) ≡ map (λ more. (front ++ value ∷ []) ++ more) lists
placed_behind front value [] = refl
placed_behind front value (more ∷ lists) =
    ap (λ (w : List ℕ). w ∷ map (λ (l : List ℕ). front ++ l) (map (λ (l : List ℕ). value ∷ l) lists)) (sym (append_assoc front (value ∷ []) more))
    ∙ ap (λ (w : List (List ℕ)). ((front ++ value ∷ []) ++ more) ∷ w) (placed_behind front value lists)

with_is : (u : Universe) (law : Law) (front : List ℕ) (others : List Range) (values : List ℕ) →
    choices_under u law (map (λ more. front ++ more) (flat_map (λ value. map (λ more. value ∷ more) (choices (map (range_values u) others))) values)) ≡ choices_with u law front others values
with_is u law front others [] = refl
with_is u law front others (value ∷ values) =
    let lists = choices (map (range_values u) others) in
    let first = map (λ (more : List ℕ). value ∷ more) lists in
    let rest = flat_map (λ (v : ℕ). map (λ (more : List ℕ). v ∷ more) lists) values in
    let behind : List (List ℕ) → List (List ℕ) = map (λ (more : List ℕ). front ++ more) in
    ap (choices_under u law) (map-append (λ (more : List ℕ). front ++ more) first rest)
    ∙ under_append u law (behind first) (behind rest)
    ∙ ap (λ (w : List (List ℕ)). choices_under u law w + choices_under u law (behind rest)) (placed_behind front value lists)
    ∙ ap (λ (k : ℕ). choices_behind u law (front ++ value ∷ []) others + k) (with_is u law front others values)

pub with_range : (u : Universe) (law : Law) (front : List ℕ) (ranges : List Range) (range : Range) (others : List Range) (values : List ℕ) → ranges ≡ range ∷ others → values ≡ range_values u range →
    choices_with u law front others values ≡ choices_behind u law front ranges
with_range u law front ranges range others values e v =
    ap (choices_with u law front others) v ∙ sym (with_is u law front others (range_values u range)) ∙ sym (ap (choices_behind u law front) e)

pub without_ranges : (u : Universe) (law : Law) (front : List ℕ) (ranges : List Range) → length ranges ≡ 0 → choices_under u law (front ∷ []) ≡ choices_behind u law front ranges
without_ranges u law front [] none = ap (λ (l : List ℕ). choices_under u law (l ∷ [])) (sym (append-nil front))
without_ranges u law front (range ∷ ranges) none = absurd (omega arith)

-- ---- all base laws

under_is : (u : Universe) (base : ℕ) (law : Law) (lists : List (List ℕ)) → sum_by (instance_choices u) (map (Under base law) (filter (has_instance u law) lists)) ≡ choices_under u law lists
under_is u base law [] = refl
under_is u base law (values ∷ lists) = here (has_instance u law values) (under_is u base law lists)
  where
    here : (has : Bool) → sum_by (instance_choices u) (map (Under base law) (filter (has_instance u law) lists)) ≡ choices_under u law lists → sum_by (instance_choices u) (map (Under base law) (if has then values ∷ filter (has_instance u law) lists else filter (has_instance u law) lists))
        ≡ (if has then law_choices u law values else 0) + choices_under u law lists
    here true rest =
        sum_by-cons (instance_choices u) (Under base law values) (map (Under base law) (filter (has_instance u law) lists))
        ∙ ap (λ (k : ℕ). law_choices u law values + k) rest
    here false rest = (let zeroth : choices_under u law lists ≡ 0 + choices_under u law lists = omega arith in rest ∙ zeroth)

together_none : (u : Universe) (base : ℕ) (pairs : List (ℕ × ℕ)) → sum_by (instance_choices u) (map (Together base) pairs) ≡ 0
together_none u base [] = refl
together_none u base (pair ∷ pairs) = (let one = sum_by-cons (instance_choices u) (Together base pair) (map (Together base) pairs) in one ∙ ap (λ (k : ℕ). 0 + k) (together_none u base pairs))

base_is : (u : Universe) (base : ℕ) (law : BaseLaw) → sum_by (instance_choices u) (instances_of u base law) ≡ base_choices u law
base_is u base (resolved.One law) =
    under_is u base law (choices (map (range_values u) law.ranges)) ∙ sym (ap (choices_under u law) (map-id (choices (map (range_values u) law.ranges))))
base_is u base (resolved.NoConcurrency file line) = together_none u base (pairs_of (boolean_actions u))

laws_from_is : (u : Universe) (base : ℕ) (laws : List BaseLaw) → sum_by (instance_choices u) (instances_from u base laws) ≡ laws_choices u laws
laws_from_is u base [] = refl
laws_from_is u base (law ∷ laws) =
    sum_by-append (instance_choices u) (instances_of u base law) (instances_from u (base + 1) laws)
    ∙ ap (λ (k : ℕ). k + sum_by (instance_choices u) (instances_from u (base + 1) laws)) (base_is u base law)
    ∙ ap (λ (k : ℕ). base_choices u law + k) (laws_from_is u (base + 1) laws)

pub laws_are : (u : Universe) (laws : List BaseLaw) → laws_choices u laws ≡ choices_of_all u laws
laws_are u laws = sym (laws_from_is u 0 laws)

-- ---- loops

pub bracket_more : (u : Universe) (env here : Environment) (variable : ℕ) (formula : Formula) (objects : List ℕ) (i count now next : ℕ) → i < length objects → here ≡ bind variable (get_or objects i 0) env →
    next ≡ min (now + choices_of u here formula) 16000001 →
    min (now + bracket_choices u env variable formula (drop i objects)) 16000001 ≡ min (count + bracket_choices u env variable formula objects) 16000001 →
    min (next + bracket_choices u env variable formula (drop (i + 1) objects)) 16000001 ≡ min (count + bracket_choices u env variable formula objects) 16000001
bracket_more u env here variable formula objects i count now next less bound is so_far =
    counts_on now (choices_of u (bind variable (get_or objects i 0) env) formula) (bracket_choices u env variable formula (drop (i + 1) objects)) next (is ∙ ap (λ (w : Environment). min (now + choices_of u w formula) 16000001) bound)
    ∙ sym (ap (λ (k : ℕ). min (now + k) 16000001) (at_drop_more (bracket_choices u env variable formula) objects i 0 less))
    ∙ so_far

pub bracket_done : (u : Universe) (env : Environment) (variable : ℕ) (formula : Formula) (objects : List ℕ) (i count now : ℕ) → now ≤ 16000001 → length objects ≤ i →
    min (now + bracket_choices u env variable formula (drop i objects)) 16000001 ≡ min (count + bracket_choices u env variable formula objects) 16000001 →
    now ≡ min (count + bracket_choices u env variable formula objects) 16000001
bracket_done u env variable formula objects i count now few past so_far =
    let none = at_drop_all (bracket_choices u env variable formula) objects i past in omega (arith, none, so_far)

pub choice_more : (u : Universe) (law : Law) (front : List ℕ) (others : List Range) (values : List ℕ) (i count now next value : ℕ) → drop i values ≡ value ∷ drop (i + 1) values →
    next ≡ min (now + choices_behind u law (front ++ value ∷ []) others) 16000001 →
    min (now + choices_with u law front others (drop i values)) 16000001 ≡ min (count + choices_with u law front others values) 16000001 →
    min (next + choices_with u law front others (drop (i + 1) values)) 16000001 ≡ min (count + choices_with u law front others values) 16000001
choice_more u law front others values i count now next value e is so_far =
    counts_on now (choices_behind u law (front ++ value ∷ []) others) (choices_with u law front others (drop (i + 1) values)) next is
    ∙ sym (ap (λ (l : List ℕ). min (now + choices_with u law front others l) 16000001) e)
    ∙ so_far

pub choices_done : (u : Universe) (law : Law) (front : List ℕ) (others : List Range) (values : List ℕ) (i count now : ℕ) → now ≤ 16000001 → length values ≤ i →
    min (now + choices_with u law front others (drop i values)) 16000001 ≡ min (count + choices_with u law front others values) 16000001 →
    now ≡ min (count + choices_with u law front others values) 16000001
choices_done u law front others values i count now few past so_far =
    let none = at_drop_all (choices_with u law front others) values i past in omega (arith, none, so_far)

pub laws_done : (u : Universe) (laws : List BaseLawTree) (i now : ℕ) → now ≤ 16000001 → length laws ≤ i →
    min (now + laws_choices u (map plain_base_law (drop i laws))) 16000001 ≡ min (laws_choices u (map plain_base_law laws)) 16000001 → now ≡ min (laws_choices u (map plain_base_law laws)) 16000001
laws_done u laws i now few past so_far =
    let none = at_drop_all (λ (l : List BaseLawTree). laws_choices u (map plain_base_law l)) laws i past in omega (arith, none, so_far)

pub conditions_done : (u : Universe) (conditions : List ConditionTree) (i now : ℕ) → now ≤ 16000001 → length conditions ≤ i →
    min (now + conditions_choices u (map plain_condition (drop i conditions))) 16000001 ≡ min (conditions_choices u (map plain_condition conditions)) 16000001 →
    now ≡ min (conditions_choices u (map plain_condition conditions)) 16000001
conditions_done u conditions i now few past so_far =
    let none = at_drop_all (λ (l : List ConditionTree). conditions_choices u (map plain_condition l)) conditions i past in omega (arith, none, so_far)

conditions_are : (u : Universe) (conditions : List Condition) → sum_by (condition_choices u) conditions ≡ conditions_choices u conditions
conditions_are u [] = refl
conditions_are u (condition ∷ conditions) =
    sum_by-cons (condition_choices u) condition conditions ∙ ap (λ (k : ℕ). condition_choices u condition + k) (conditions_are u conditions)

with_claim : (u : Universe) (conditions : List Condition) (count more : ℕ) → count ≡ min (conditions_choices u conditions) 16000001 →
    min (count + more) 16000001 ≡ min (sum_by (condition_choices u) conditions + more) 16000001
with_claim u conditions count more is = omega (arith, is, conditions_are u conditions)

module _ (u : Universe) (query : QueryTree) (items : List ConditionTree) (count : ℕ) (same : items ≡ query.conditions) (is : count ≡ min (conditions_choices u (map plain_condition items)) 16000001) where
  counted_so : count ≡ min (conditions_choices u (map plain_condition query.conditions)) 16000001
  counted_so = is ∙ ap (λ (l : List ConditionTree). min (conditions_choices u (map plain_condition l)) 16000001) same

  asked_as : (claim : Option ConditionTree) → query.claim ≡ claim → min (sum_by (condition_choices u) (map plain_condition query.conditions) + claim_choices u (option_map plain_condition claim)) 16000001 ≡ min (choices_of_query u (plain_query query)) 16000001
  asked_as claim is = sym (ap (λ (o : Option ConditionTree). min (sum_by (condition_choices u) (map plain_condition query.conditions) + claim_choices u (option_map plain_condition o)) 16000001) is)

  pub asked_some : (claim : ConditionTree) (env : BindingsView) → env ≡ no_bindings → query.claim ≡ Some claim →
      min (count + choices_of u (environment_of env) (plain_formula claim.formula)) 16000001 ≡ min (choices_of_query u (plain_query query)) 16000001
  asked_some claim env none some =
      ap (λ (b : BindingsView). min (count + choices_of u (environment_of b) (plain_formula claim.formula)) 16000001) none
      ∙ with_claim u (map plain_condition query.conditions) count (choices_of u (giving []) (plain_formula claim.formula)) counted_so
      ∙ asked_as (Some claim) some

  pub asked_none : query.claim ≡ None → count ≡ min (choices_of_query u (plain_query query)) 16000001
  asked_none none = let all : count ≡ min (count + 0) 16000001 = omega (arith, counted_so) in all ∙ with_claim u (map plain_condition query.conditions) count 0 counted_so ∙ asked_as None none

pub laws_more : (u : Universe) (laws : List BaseLawTree) (i now next whole : ℕ) (law : BaseLawTree) → i < length laws → law ≡ get_or laws i law → next ≡ min (now + base_choices u (plain_base_law law)) 16000001 →
    min (now + laws_choices u (map plain_base_law (drop i laws))) 16000001 ≡ whole → min (next + laws_choices u (map plain_base_law (drop (i + 1) laws))) 16000001 ≡ whole
laws_more u laws i now next whole law less at is so_far =
    let rest = laws_choices u (map plain_base_law (drop (i + 1) laws)) in
    counts_on now (base_choices u (plain_base_law law)) rest next is
    ∙ sym (ap (λ (k : ℕ). min (now + k) 16000001) (at_drop_more (λ (l : List BaseLawTree). laws_choices u (map plain_base_law l)) laws i law less ∙ ap (λ (l : BaseLawTree). base_choices u (plain_base_law l) + rest) (sym at)))
    ∙ so_far

pub conditions_more : (u : Universe) (conditions : List ConditionTree) (i now next whole : ℕ) (condition : ConditionTree) (env : BindingsView) → i < length conditions → condition ≡ get_or conditions i condition → env ≡ no_bindings →
    next ≡ min (now + choices_of u (environment_of env) (plain_formula condition.formula)) 16000001 →
    min (now + conditions_choices u (map plain_condition (drop i conditions))) 16000001 ≡ whole → min (next + conditions_choices u (map plain_condition (drop (i + 1) conditions))) 16000001 ≡ whole
conditions_more u conditions i now next whole condition env less at none is so_far =
    let rest = conditions_choices u (map plain_condition (drop (i + 1) conditions)) in
    counts_on now (condition_choices u (plain_condition condition)) rest next (is ∙ ap (λ (w : BindingsView). min (now + choices_of u (environment_of w) (plain_formula condition.formula)) 16000001) none)
    ∙ sym (ap (λ (k : ℕ). min (now + k) 16000001) (at_drop_more (λ (l : List ConditionTree). conditions_choices u (map plain_condition l)) conditions i condition less ∙ ap (λ (l : ConditionTree). condition_choices u (plain_condition l) + rest) (sym at)))
    ∙ so_far

-- of a law for one list of values
abbrev under_with : Universe → Law → List ℕ → Bool → ℕ
under_with u law values b = (if b then law_choices u law values else 0) + 0

pub under_none : (u : Universe) (law : Law) (values : List ℕ) (count : ℕ) → count ≤ 16000001 → has_instance u law values ≡ false → count ≡ min (count + choices_under u law (values ∷ [])) 16000001
under_none u law values count few none = counts_none count _ few (ap (under_with u law values) none)

pub under_some : (u : Universe) (law : Law) (values : List ℕ) (count mid new : ℕ) → has_instance u law values ≡ true → mid ≡ min (count + choices_of u (giving values) law.body) 16000001 → new ≡ min (mid + part_choices u (giving values) law.after) 16000001 →
    new ≡ min (count + choices_under u law (values ∷ [])) 16000001
under_some u law values count mid new has first second =
    second ∙ counts_on count (choices_of u (giving values) law.body) (part_choices u (giving values) law.after) mid first
    ∙ ap (λ (k : ℕ). min (count + k) 16000001) (zeroth ∙ sym (ap (under_with u law values) has))
  where
    zeroth : law_choices u law values ≡ law_choices u law values + 0
    zeroth = omega arith

-- a formula of two
pub two_counted : {E : Type 0} (u : Universe) (old mid : BindingsView) (f g whole : Formula) (count now : ℕ) (result : Result ℕ E) → choices_of u (environment_of old) whole ≡ choices_of u (environment_of old) f + choices_of u (environment_of old) g → mid ≡ old →
    now ≡ min (count + choices_of u (environment_of old) f) 16000001 → IfOk result (λ new. new ≡ min (now + choices_of u (environment_of mid) g) 16000001) → IfOk result (λ new. new ≡ min (count + choices_of u (environment_of old) whole) 16000001)
two_counted u old mid f g whole count now (Err error) sum same first second = tt
two_counted u old mid f g whole count now (Ok new) sum same first second =
    second ∙ ap (λ (w : BindingsView). min (now + choices_of u (environment_of w) g) 16000001) same
    ∙ counts_on count (choices_of u (environment_of old) f) (choices_of u (environment_of old) g) now first ∙ ap (λ (k : ℕ). min (count + k) 16000001) (sym sum)
