-- The truth of formulas whose variables have values. A valuation gives each ground constant the index of its value.
use Rattle.std.specs.Prelude.{ℕ, Bool, true, false, not, ◌&&◌, ◌||◌, ◌==◌, if◌then◌else◌, nat_eq, List, [], ◌∷◌, slice_get, position, nat_lt, nat_le, ◌+◌, Option, Some, None, option_and_then, option_map}
use Rattle.std.specs.Bool.{beq}
use Rattle.std.specs.List.{list_all, list_any}
use Rattle.cc_defs.specs.declared.signature.Const.{Const}
use Rattle.cc_defs.specs.Resolved.{Term, Terms, Formula, Head, terms_of}
use Rattle.cc_defs.specs.Resolved as resolved
use Rattle.cc_defs.specs.Signatures.{ground_number, none_value, number_at}
use Rattle.cc_defs.specs.Universe.{Universe, constants_in, objects_of}

-- ---- environments: what each variable, by its number, stands for, where it stands for anything

abbrev pub Environment : Type 0
Environment = ℕ → Option ℕ

-- the variables 0, 1, .. stand for these values
abbrev pub giving : List ℕ → Environment
giving values = λ variable. slice_get values variable

-- the variable stands for the object, every other one for what it stood for
abbrev pub bind : ℕ → ℕ → Environment → Environment
bind variable object env = λ number. if number == variable then Some object else env number

-- ---- values

-- what a term may have: a thing, by its object number or that of `none`; or a whole number, as a difference of two naturals
pub data Value : Type 0 where
  Thing : (object : ℕ) → Value
  Whole : (plus minus : ℕ) → Value

abbrev pub meant_as : ℕ → Option ℕ → Value
meant_as object (Some number) = Whole number 0
meant_as object None = Thing object

-- an object is its number where it is one, and itself otherwise
abbrev pub meant : Universe → ℕ → Value
meant u object = meant_as object (number_at u.numbers object)

abbrev pub is_number : ℕ → ℕ → Option ℕ → Bool
is_number plus minus (Some number) = plus == number + minus
is_number plus minus None = false

-- the object that a value is, where it is one
abbrev pub object_of_value : Universe → Value → Option ℕ
object_of_value u (Thing object) = Some object
object_of_value u (Whole plus minus) = position (is_number plus minus) u.numbers

-- a sum and a difference, of whole numbers alone
abbrev pub added : Option Value → Option Value → Option Value
added (Some (Whole p m)) (Some (Whole q n)) = Some (Whole (p + q) (m + n))
added (Some (Whole p m)) (Some (Thing object)) = None
added (Some (Whole p m)) None = None
added (Some (Thing object)) other = None
added None other = None

abbrev pub taken : Option Value → Option Value → Option Value
taken (Some (Whole p m)) (Some (Whole q n)) = Some (Whole (p + n) (m + q))
taken (Some (Whole p m)) (Some (Thing object)) = None
taken (Some (Whole p m)) None = None
taken (Some (Thing object)) other = None
taken None other = None

-- ---- terms

-- the value of a term that has no constant
abbrev pub given_value : Universe → Environment → Term → Option Value
given_value u env (resolved.Constant symbol args) = None
given_value u env (resolved.Object object) = Some (meant u object)
given_value u env (resolved.Variable variable) = option_map (meant u) (env variable)
given_value u env resolved.Nothing = Some (Thing none_value)
given_value u env (resolved.Number number) = Some (Whole number 0)
given_value u env (resolved.Plus s t) = added (given_value u env s) (given_value u env t)
given_value u env (resolved.Minus s t) = taken (given_value u env s) (given_value u env t)

-- the object that an argument stands for; neither a constant nor `none` is one, and a sum is the object that is its number
abbrev pub argument : Universe → Environment → Term → Option ℕ
argument u env (resolved.Constant symbol args) = None
argument u env (resolved.Object object) = Some object
argument u env (resolved.Variable variable) = env variable
argument u env resolved.Nothing = None
argument u env (resolved.Number number) = option_and_then (object_of_value u) (given_value u env (resolved.Number number))
argument u env (resolved.Plus s t) = option_and_then (object_of_value u) (given_value u env (resolved.Plus s t))
argument u env (resolved.Minus s t) = option_and_then (object_of_value u) (given_value u env (resolved.Minus s t))

-- what a term that has no constant stands for among the values of constants: `none` too
abbrev pub object_given : Universe → Environment → Term → Option ℕ
object_given u env resolved.Nothing = Some none_value
object_given u env (resolved.Constant symbol args) = None
object_given u env (resolved.Object object) = Some object
object_given u env (resolved.Variable variable) = env variable
object_given u env (resolved.Number number) = argument u env (resolved.Number number)
object_given u env (resolved.Plus s t) = argument u env (resolved.Plus s t)
object_given u env (resolved.Minus s t) = argument u env (resolved.Minus s t)

abbrev pub cons_both : Option ℕ → Option (List ℕ) → Option (List ℕ)
cons_both (Some x) (Some xs) = Some (x ∷ xs)
cons_both (Some x) None = None
cons_both None xs = None

abbrev pub arguments : Universe → Environment → Terms → Option (List ℕ)
arguments u env resolved.NoTerms = Some []
arguments u env (resolved.MoreTerms first others) = cons_both (argument u env first) (arguments u env others)

-- the number of the ground constant that a constant with its arguments stands for, where there is one
abbrev pub constant_meant : Universe → Environment → ℕ → Terms → Option ℕ
constant_meant u env symbol args = option_and_then (ground_number (constants_in u) symbol) (arguments u env args)

-- the value that a constant has, where there is such a constant with such a value index
abbrev pub value_at : List Const → (ℕ → ℕ) → ℕ → Option ℕ
value_at constants valuation number = option_and_then (λ constant. slice_get constant.domain (valuation number)) (slice_get constants number)

-- the value of a term, where it has one
abbrev pub term_value : Universe → Environment → (ℕ → ℕ) → Term → Option Value
term_value u env valuation (resolved.Constant symbol args) =
    option_map (meant u) (option_and_then (value_at (constants_in u) valuation) (constant_meant u env symbol args))
term_value u env valuation (resolved.Object object) = Some (meant u object)
term_value u env valuation (resolved.Variable variable) = option_map (meant u) (env variable)
term_value u env valuation resolved.Nothing = Some (Thing none_value)
term_value u env valuation (resolved.Number number) = Some (Whole number 0)
term_value u env valuation (resolved.Plus s t) = added (term_value u env valuation s) (term_value u env valuation t)
term_value u env valuation (resolved.Minus s t) = taken (term_value u env valuation s) (term_value u env valuation t)

-- ---- formulas

-- both sides have a value, and it is the same
abbrev pub same_value : Option Value → Option Value → Bool
same_value (Some (Thing object)) (Some (Thing other)) = object == other
same_value (Some (Thing object)) (Some (Whole q n)) = false
same_value (Some (Whole p m)) (Some (Whole q n)) = p + n == q + m
same_value (Some (Whole p m)) (Some (Thing other)) = false
same_value (Some value) None = false
same_value None value = false

-- both are numbers, and the first is less
abbrev pub less_value : Option Value → Option Value → Bool
less_value (Some (Whole p m)) (Some (Whole q n)) = nat_lt (p + n) (q + m)
less_value (Some (Whole p m)) (Some (Thing other)) = false
less_value (Some (Whole p m)) None = false
less_value (Some (Thing object)) value = false
less_value None value = false

-- both are numbers, and the first is not greater
abbrev pub at_most_value : Option Value → Option Value → Bool
at_most_value (Some (Whole p m)) (Some (Whole q n)) = nat_le (p + n) (q + m)
at_most_value (Some (Whole p m)) (Some (Thing other)) = false
at_most_value (Some (Whole p m)) None = false
at_most_value (Some (Thing object)) value = false
at_most_value None value = false

-- An equation holds where both sides have a value and it is the same one, a comparison where both are numbers in this order; a bracket holds where all, or some, of its
-- instances do, in each of which its variable stands for an object of its sort.
abbrev pub satisfied : Universe → (ℕ → ℕ) → Environment → Formula → Bool
satisfied u valuation env resolved.Truth = true
satisfied u valuation env resolved.Falsehood = false
satisfied u valuation env (resolved.Equal s t) = same_value (term_value u env valuation s) (term_value u env valuation t)
satisfied u valuation env (resolved.Less s t) = less_value (term_value u env valuation s) (term_value u env valuation t)
satisfied u valuation env (resolved.AtMost s t) = at_most_value (term_value u env valuation s) (term_value u env valuation t)
satisfied u valuation env (resolved.Not f) = not (satisfied u valuation env f)
satisfied u valuation env (resolved.Both f g) = satisfied u valuation env f && satisfied u valuation env g
satisfied u valuation env (resolved.Either f g) = satisfied u valuation env f || satisfied u valuation env g
satisfied u valuation env (resolved.Implies f g) = not (satisfied u valuation env f) || satisfied u valuation env g
satisfied u valuation env (resolved.Same f g) = beq (satisfied u valuation env f) (satisfied u valuation env g)
satisfied u valuation env (resolved.ForAll variable sort f) = list_all (λ object. satisfied u valuation (bind variable object env) f) (objects_of u sort)
satisfied u valuation env (resolved.Exists variable sort f) = list_any (λ object. satisfied u valuation (bind variable object env) f) (objects_of u sort)

-- ---- heads

-- a head states an equation, or falsity
abbrev pub head_satisfied : Universe → (ℕ → ℕ) → Environment → Head → Bool
head_satisfied u valuation env (resolved.Atom symbol args value) = satisfied u valuation env (resolved.Equal (resolved.Constant symbol (terms_of args)) value)
head_satisfied u valuation env resolved.Falsity = false

abbrev pub has_value : Option Const → Option ℕ → Bool
has_value (Some constant) (Some value) = list_any (nat_eq value) constant.domain
has_value (Some constant) None = false
has_value None value = false

-- A head is there where it is falsity, or an atom: where there is the ground constant, and the value is one of its own.
abbrev pub head_is_there : Universe → Environment → Head → Bool
head_is_there u env (resolved.Atom symbol args value) =
    has_value (option_and_then (λ number. slice_get (constants_in u) number) (constant_meant u env symbol (terms_of args))) (object_given u env value)
head_is_there u env resolved.Falsity = true
