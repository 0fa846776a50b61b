-- Equations with sums, and comparisons: they are judged by their truth under each list of values of their constants.
use Rattle.std.specs.Prelude.{ℕ, ◌+◌, ◌*◌, ◌==◌, ◌||◌, Bool, true, false, if◌then◌else◌, List, [], ◌∷◌, ◌++◌, length, map, slice_get, Option, Some, None}
use Rattle.std.specs.List.{filter, sum_by}
use Rattle.std.specs.Option.{option_map_or}
use Rattle.cc_defs.specs.Declarations.{firsts, upto}
use Rattle.cc_defs.specs.Environments.{choices}
use Rattle.cc_defs.specs.Resolved.{Term, Terms, Formula}
use Rattle.cc_defs.specs.Resolved as resolved
use Rattle.cc_defs.specs.Satisfaction.{Environment, bind, cons_both, constant_meant, satisfied}
use Rattle.cc_defs.specs.Terms.{Ground, all_of, any_of}
use Rattle.cc_defs.specs.Terms as terms
use Rattle.cc_defs.specs.Universe.{Universe, constants_in, objects_of}

-- a number, or a sum of two pieces or more
abbrev pub is_sum : Term → Bool
is_sum (resolved.Constant symbol args) = false
is_sum (resolved.Object object) = false
is_sum (resolved.Variable variable) = false
is_sum resolved.Nothing = false
is_sum (resolved.Number number) = true
is_sum (resolved.Plus s t) = true
is_sum (resolved.Minus s t) = true

-- ---- constants

-- the constants that are pieces of a term, from left to right; an argument has none
abbrev pub constants_of : Term → List (ℕ × Terms)
constants_of (resolved.Constant symbol args) = (symbol, args) ∷ []
constants_of (resolved.Object object) = []
constants_of (resolved.Variable variable) = []
constants_of resolved.Nothing = []
constants_of (resolved.Number number) = []
constants_of (resolved.Plus s t) = constants_of s ++ constants_of t
constants_of (resolved.Minus s t) = constants_of s ++ constants_of t

-- the numbers of all of them, where each is there
abbrev pub all_meant : Universe → Environment → List (ℕ × Terms) → Option (List ℕ)
all_meant u env [] = Some []
all_meant u env (constant ∷ others) = cons_both (constant_meant u env constant.0 constant.1) (all_meant u env others)

-- how many values a constant has
abbrev pub size_of : Universe → ℕ → ℕ
size_of u number = option_map_or (λ constant. length constant.domain) (slice_get (constants_in u) number) 0

-- ---- lists of values

-- all lists of value indexes of these constants, those with an earlier first index first
abbrev pub index_lists : Universe → List ℕ → List (List ℕ)
index_lists u numbers = choices (map (λ number. upto (size_of u number)) numbers)

-- each of these constants has the value of the index that stands beside it
abbrev pub chosen : List ℕ → List ℕ → ℕ → ℕ
chosen [] indexes number = 0
chosen (constant ∷ constants) [] number = 0
chosen (constant ∷ constants) (index ∷ indexes) number = if number == constant then index else chosen constants indexes number

abbrev pub atoms : List ℕ → List ℕ → List Ground
atoms [] indexes = []
atoms (constant ∷ constants) [] = []
atoms (constant ∷ constants) (index ∷ indexes) = terms.Atom constant index ∷ atoms constants indexes

-- ---- terms

abbrev pub truth_of : Bool → Ground
truth_of true = terms.Truth
truth_of false = terms.Falsehood

-- Without a constant a formula is true or false. With constants some of the lists of their values has to be there under which it is
-- true.
abbrev pub judged_over : Universe → Environment → Formula → List ℕ → Ground
judged_over u env formula [] = truth_of (satisfied u (λ number. 0) env formula)
judged_over u env formula (number ∷ numbers) =
    any_of (map (λ indexes. all_of (atoms (number ∷ numbers) indexes))
    (filter (λ indexes. satisfied u (chosen (number ∷ numbers) indexes) env formula) (index_lists u (number ∷ numbers))))

abbrev pub judged_where : Universe → Environment → Formula → Option (List ℕ) → Ground
judged_where u env formula (Some numbers) = judged_over u env formula (firsts numbers)
judged_where u env formula None = terms.Falsehood

-- that of an equation or comparison of these constants, which is false where one of them is not there
abbrev pub judged : Universe → Environment → Formula → List (ℕ × Terms) → Ground
judged u env formula constants = judged_where u env formula (all_meant u env constants)

-- ---- how many lists are walked

abbrev pub some_meant : Option ℕ → List ℕ → List ℕ
some_meant (Some number) numbers = number ∷ numbers
some_meant None numbers = numbers

-- the numbers of those that are there
abbrev pub those_meant : Universe → Environment → List (ℕ × Terms) → List ℕ
those_meant u env [] = []
those_meant u env (constant ∷ others) = some_meant (constant_meant u env constant.0 constant.1) (those_meant u env others)

abbrev pub product_of : Universe → List ℕ → ℕ
product_of u [] = 1
product_of u (number ∷ numbers) = size_of u number * product_of u numbers

-- of an equation or comparison: none without a constant, and else the product of the sizes of the different constants that are there
abbrev pub lists_of : Universe → Environment → List (ℕ × Terms) → ℕ
lists_of u env [] = 0
lists_of u env (constant ∷ others) = product_of u (firsts (those_meant u env (constant ∷ others)))

-- of a formula, in the instances of its brackets
abbrev pub choices_of : Universe → Environment → Formula → ℕ
choices_of u env resolved.Truth = 0
choices_of u env resolved.Falsehood = 0
choices_of u env (resolved.Equal s t) = if is_sum s || is_sum t then lists_of u env (constants_of s ++ constants_of t) else 0
choices_of u env (resolved.Less s t) = lists_of u env (constants_of s ++ constants_of t)
choices_of u env (resolved.AtMost s t) = lists_of u env (constants_of s ++ constants_of t)
choices_of u env (resolved.Not f) = choices_of u env f
choices_of u env (resolved.Both f g) = choices_of u env f + choices_of u env g
choices_of u env (resolved.Either f g) = choices_of u env f + choices_of u env g
choices_of u env (resolved.Implies f g) = choices_of u env f + choices_of u env g
choices_of u env (resolved.Same f g) = choices_of u env f + choices_of u env g
choices_of u env (resolved.ForAll variable sort f) = sum_by (λ object. choices_of u (bind variable object env) f) (objects_of u sort)
choices_of u env (resolved.Exists variable sort f) = sum_by (λ object. choices_of u (bind variable object env) f) (objects_of u sort)
