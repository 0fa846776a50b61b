-- The pieces of the sums on both sides of an equation or comparison, the constants among them, and the nodes of their lists of value
-- indexes.
use Rattle.std.specs.Prelude.{◌≡◌, ℕ, Bool, true, false, not, ◌==◌, ◌||◌, nat_eq, nat_le, nat_lt, if◌then◌else◌, IsTrue, List, [], ◌∷◌, ◌++◌, length, map, flat_map, Option, Some, None, is_some, option_and_then}
use Rattle.std.specs.List.{filter, list_any}
use Rattle.cc_defs.specs.declared.node.Node.{Node}
use Rattle.cc_defs.specs.declared.node.Node.TheVariants as nodes
use Rattle.cc_defs.specs.Judged.{all_meant, chosen, constants_of, index_lists, is_sum, those_meant, truth_of}
use Rattle.cc_defs.specs.Resolved.{Term, Formula}
use Rattle.cc_defs.specs.Resolved as resolved
use Rattle.cc_defs.specs.Satisfaction.{Environment, Value, Whole, Thing, added, taken, constant_meant, value_at}
use Rattle.cc_defs.specs.Signatures.{number_at}
use Rattle.cc_defs.specs.Terms.{postfix}
use Rattle.cc_defs.specs.Universe.{Universe, constants_in}
use Rattle.cc_ground.specs.declared.pieces.Piece.{Piece}
use Rattle.cc_ground.specs.declared.pieces.Piece.TheVariants as pieces
use Rattle.cc_ground.specs.declared.pieces.Signed.{Signed}
use Rattle.cc_ground.specs.declared.pieces.Sign.{Sign}
use Rattle.cc_ground.specs.declared.pieces.Sign.TheVariants as signs
use Rattle.cc_ground.specs.declared.judged.Equation.{Equation}
use Rattle.cc_ground.specs.Views.{universe_of}

-- ---- constants that are gathered

-- a number put behind others where it is none of them
abbrev pub with_new : List ℕ → ℕ → List ℕ
with_new numbers number = if list_any (nat_eq number) numbers then numbers else numbers ++ number ∷ []

abbrev pub gathered : List ℕ → List ℕ → List ℕ
gathered there [] = there
gathered there (number ∷ numbers) = gathered (with_new there number) numbers

-- ---- pieces

abbrev pub number_piece : Option ℕ → Piece
number_piece None = pieces.Nothing
number_piece (Some number) = pieces.Number number

abbrev pub constant_piece : Option ℕ → Piece
constant_piece None = pieces.Nothing
constant_piece (Some constant) = pieces.Constant constant

abbrev pub signed : Bool → Piece → Signed
signed minus piece = record { minus = minus; piece = piece }

-- those of a term, which is added or taken
abbrev pub pieces_of : Universe → Environment → Bool → Term → List Signed
pieces_of u env minus (resolved.Constant symbol args) = signed minus (constant_piece (constant_meant u env symbol args)) ∷ []
pieces_of u env minus (resolved.Object object) = signed minus (number_piece (number_at u.numbers object)) ∷ []
pieces_of u env minus (resolved.Variable variable) = signed minus (number_piece (option_and_then (number_at u.numbers) (env variable))) ∷ []
pieces_of u env minus resolved.Nothing = signed minus pieces.Nothing ∷ []
pieces_of u env minus (resolved.Number number) = signed minus (pieces.Number number) ∷ []
pieces_of u env minus (resolved.Plus s t) = pieces_of u env minus s ++ pieces_of u env minus t
pieces_of u env minus (resolved.Minus s t) = pieces_of u env minus s ++ pieces_of u env (not minus) t

-- of both sides: what is on the right is taken from what is on the left
abbrev pub pieces_between : Universe → Environment → Term → Term → List Signed
pieces_between u env s t = pieces_of u env false s ++ pieces_of u env true t

-- ---- what they come to

abbrev pub number_in : Universe → (ℕ → ℕ) → Piece → Option ℕ
number_in u valuation pieces.Nothing = None
number_in u valuation (pieces.Number number) = Some number
number_in u valuation (pieces.Constant constant) = option_and_then (number_at u.numbers) (value_at (constants_in u) valuation constant)

abbrev pub whole_of : Option ℕ → Option Value
whole_of None = None
whole_of (Some number) = Some (Whole number 0)

abbrev pub joined : Bool → Option Value → Option Value → Option Value
joined false so_far value = added so_far value
joined true so_far value = taken so_far value

abbrev pub total : Universe → (ℕ → ℕ) → List Signed → Option Value → Option Value
total u valuation [] so_far = so_far
total u valuation (piece ∷ others) so_far = total u valuation others (joined piece.minus so_far (whole_of (number_in u valuation piece.piece)))

abbrev pub stands : Sign → ℕ → ℕ → Bool
stands signs.Equal plus minus = plus == minus
stands signs.Less plus minus = nat_lt plus minus
stands signs.AtMost plus minus = nat_le plus minus

abbrev pub stands_so : Sign → Option Value → Bool
stands_so sign (Some (Whole plus minus)) = stands sign plus minus
stands_so sign (Some (Thing object)) = false
stands_so sign None = false

abbrev pub holds : Universe → Sign → List Signed → (ℕ → ℕ) → Bool
holds u sign pieces valuation = stands_so sign (total u valuation pieces (Some (Whole 0 0)))

abbrev pub formula_of : Sign → Term → Term → Formula
formula_of signs.Equal s t = resolved.Equal s t
formula_of signs.Less s t = resolved.Less s t
formula_of signs.AtMost s t = resolved.AtMost s t

-- comparisons, and equations with a sum
abbrev pub IsJudged : Sign → Term → Term → Type 0
IsJudged signs.Equal s t = IsTrue (is_sum s || is_sum t)
IsJudged signs.Less s t = Unit {0}
IsJudged signs.AtMost s t = Unit {0}

-- these are the pieces of both sides, and their different constants, all of which are there
pub record IsOfPieces (u : Universe) (env : Environment) (sign : Sign) (s t : Term) (pieces : List Signed) (constants : List ℕ) : Type 0 where
  pub judged : IsJudged sign s t
  pub sides : pieces ≡ pieces_between u env s t
  pub once : constants ≡ gathered [] (those_meant u env (constants_of s ++ constants_of t))
  pub all_there : is_some (all_meant u env (constants_of s ++ constants_of t)) ≡ true

-- ---- the nodes of lists of value indexes

abbrev pub atom_nodes : List ℕ → List ℕ → List Node
atom_nodes [] indexes = []
atom_nodes (constant ∷ constants) [] = []
atom_nodes (constant ∷ constants) (index ∷ indexes) = nodes.Atom constant index ∷ atom_nodes constants indexes

abbrev pub universe_at : Equation → Universe
universe_at equation = universe_of equation.table.now equation.sig.now

abbrev pub holds_at : Equation → List ℕ → Bool
holds_at equation indexes = holds (universe_at equation) equation.sign equation.pieces.now (chosen equation.constants.now indexes)

-- those of a list, where it makes the equation true
abbrev pub list_nodes : Equation → List ℕ → List Node
list_nodes equation indexes =
    if holds_at equation indexes then atom_nodes equation.constants.now indexes ++ nodes.All (length (atom_nodes equation.constants.now indexes)) ∷ [] else []

abbrev pub list_count : Equation → List ℕ → ℕ
list_count equation indexes = if holds_at equation indexes then 1 else 0

-- the lists that begin with these indexes, for all indexes of the constants that are left
abbrev pub lists_behind : Universe → List ℕ → List ℕ → List (List ℕ)
lists_behind u front left = map (λ more. front ++ more) (index_lists u left)

abbrev pub nodes_behind : Equation → List ℕ → List ℕ → List Node
nodes_behind equation front left = flat_map (list_nodes equation) (lists_behind (universe_at equation) front left)

abbrev pub count_behind : Equation → List ℕ → List ℕ → ℕ
count_behind equation front left = length (filter (holds_at equation) (lists_behind (universe_at equation) front left))

abbrev pub nodes_over : Equation → List ℕ → List Node
nodes_over equation [] = postfix (truth_of (holds_at equation []))
nodes_over equation (number ∷ numbers) = nodes_behind equation [] (number ∷ numbers) ++ nodes.Any (count_behind equation [] (number ∷ numbers)) ∷ []
