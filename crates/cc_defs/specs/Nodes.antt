-- The terms of formulas whose variables have values.
use Rattle.std.specs.Prelude.{ℕ, ◌+◌, ◌==◌, ◌||◌, nat_eq, if◌then◌else◌, List, [], ◌∷◌, ◌++◌, map, position, slice_get, Option, Some, None}
use Rattle.cc_defs.specs.declared.node.Node.{Node}
use Rattle.cc_defs.specs.declared.signature.Const.{Const}
use Rattle.cc_defs.specs.Signatures.{none_value}
use Rattle.cc_defs.specs.Resolved.{Term, Terms, Formula}
use Rattle.cc_defs.specs.Resolved as resolved
use Rattle.cc_defs.specs.Judged.{constants_of, is_sum, judged}
use Rattle.cc_defs.specs.Satisfaction.{Environment, bind, constant_meant, object_given}
use Rattle.cc_defs.specs.Terms.{Ground, all_of, any_of, postfix}
use Rattle.cc_defs.specs.Terms as terms
use Rattle.cc_defs.specs.Universe.{Universe, constants_in, objects_of}

-- what a side of an equation stands for: a ground constant with its values, a value, or nothing
pub data Side : Type 0 where
  Constant : (number : ℕ) → (values : List ℕ) → Side
  Value : ℕ → Side
  Absent : Side

abbrev pub value_side : Option ℕ → Side
value_side (Some value) = Value value
value_side None = Absent

abbrev pub constant_side : ℕ → Option Const → Side
constant_side number (Some constant) = Constant number constant.domain
constant_side number None = Absent

abbrev pub numbered_side : Universe → Option ℕ → Side
numbered_side u (Some number) = constant_side number (slice_get (constants_in u) number)
numbered_side u None = Absent

abbrev pub side : Universe → Environment → Term → Side
side u env (resolved.Constant symbol args) = numbered_side u (constant_meant u env symbol args)
side u env (resolved.Object object) = Value object
side u env (resolved.Variable variable) = value_side (env variable)
side u env resolved.Nothing = Value none_value
side u env (resolved.Number number) = value_side (object_given u env (resolved.Number number))
side u env (resolved.Plus s t) = value_side (object_given u env (resolved.Plus s t))
side u env (resolved.Minus s t) = value_side (object_given u env (resolved.Minus s t))

-- ---- equations

abbrev pub atom_at : ℕ → Option ℕ → Ground
atom_at number (Some index) = terms.Atom number index
atom_at number None = terms.Falsehood

-- a constant has the value, which may be none of its own
abbrev pub atom : ℕ → List ℕ → ℕ → Ground
atom number values value = atom_at number (position (nat_eq value) values)

-- both constants have a value: the first the one with this index, the other the one at this place, where it has it at all
abbrev pub both_have : ℕ → ℕ → ℕ → Option ℕ → List Ground
both_have number index other (Some place) = all_of (terms.Atom number index ∷ terms.Atom other place ∷ []) ∷ []
both_have number index other None = []

-- that both have it, for each common value, in the order of the first constant's values, whose indexes begin with this one
abbrev pub common_values : ℕ → ℕ → List ℕ → ℕ → List ℕ → List Ground
common_values number index [] other others = []
common_values number index (value ∷ values) other others =
    both_have number index other (position (nat_eq value) others) ++ common_values number (index + 1) values other others

-- two constants are equal where both have some common value
abbrev pub equation : Side → Side → Ground
equation (Constant number values) (Constant other others) = any_of (common_values number 0 values other others)
equation (Constant number values) (Value value) = atom number values value
equation (Value value) (Constant number values) = atom number values value
equation (Value value) (Value other) = if value == other then terms.Truth else terms.Falsehood
equation (Constant number values) Absent = terms.Falsehood
equation (Value value) Absent = terms.Falsehood
equation Absent other = terms.Falsehood

-- ---- formulas

-- the term of a formula under an environment; a bracket has one operand for each object of its sort
abbrev pub term_of : Universe → Environment → Formula → Ground
term_of u env resolved.Truth = terms.Truth
term_of u env resolved.Falsehood = terms.Falsehood
term_of u env (resolved.Equal s t) =
    if is_sum s || is_sum t then judged u env (resolved.Equal s t) (constants_of s ++ constants_of t) else equation (side u env s) (side u env t)
term_of u env (resolved.Less s t) = judged u env (resolved.Less s t) (constants_of s ++ constants_of t)
term_of u env (resolved.AtMost s t) = judged u env (resolved.AtMost s t) (constants_of s ++ constants_of t)
term_of u env (resolved.Not f) = terms.Not (term_of u env f)
term_of u env (resolved.Both f g) = all_of (term_of u env f ∷ term_of u env g ∷ [])
term_of u env (resolved.Either f g) = any_of (term_of u env f ∷ term_of u env g ∷ [])
term_of u env (resolved.Implies f g) = any_of (terms.Not (term_of u env f) ∷ term_of u env g ∷ [])
term_of u env (resolved.Same f g) = terms.Same (term_of u env f) (term_of u env g)
term_of u env (resolved.ForAll variable sort f) = all_of (map (λ object. term_of u (bind variable object env) f) (objects_of u sort))
term_of u env (resolved.Exists variable sort f) = any_of (map (λ object. term_of u (bind variable object env) f) (objects_of u sort))

abbrev pub nodes_of : Universe → Environment → Formula → List Node
nodes_of u env formula = postfix (term_of u env formula)
