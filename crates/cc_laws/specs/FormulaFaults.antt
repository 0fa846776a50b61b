-- The faults of a formula, and which constants it has.
use Rattle.std.specs.Prelude.{ℕ, Bool, true, false, not, ◌&&◌, ◌||◌, ◌==◌, List, [], ◌∷◌, length, is_none, Option, Some, None}
use Rattle.std.specs.List.{list_any}
use Rattle.cc_defs.specs.declared.signature.Symbol.{Symbol}
use Rattle.std.specs.Option.{option_map}
use Rattle.cc_defs.specs.Trees.{Comparison, PlainTerm, Applied, PlainSums, NoSums, MoreSums, PlainSum, Summed, PlainPiece, Numeral, Called, NoAddends, MoreAddends, PlainTree}
use Rattle.cc_defs.specs.Trees as trees
use Rattle.cc_laws.specs.Leaves.{Leaf, Bare, Compared, Bracket, leaves, lone, Mention, mentions, pieces, sum_mentions, term_name}
use Rattle.cc_laws.specs.Vocabulary.{Vocabulary, Meaning, Unknown, Nothing, Object, Variable, Constant, meaning, sort_below, is_unknown, is_constant, is_action_constant, is_fluent_constant, is_determined_constant, is_boolean_constant, is_truth_value}

-- ---- names, with the numbers of their arguments

-- a test of what a name means and of how many arguments it has
abbrev pub NameTest : Type 0
NameTest = Meaning → ℕ → Bool

abbrev pub mention_has : Vocabulary → NameTest → Mention → Bool
mention_has v test mention = test (meaning v mention.name) mention.count

-- whether a term has a name of which the test is true, in its arguments too
abbrev pub term_has : Vocabulary → NameTest → PlainTerm → Bool
term_has v test term = list_any (mention_has v test) (mentions term)

abbrev pub sum_has : Vocabulary → NameTest → PlainSum → Bool
sum_has v test sum = list_any (mention_has v test) (sum_mentions sum)

abbrev pub leaf_has : Vocabulary → NameTest → Leaf → Bool
leaf_has v test (Bare term) = term_has v test term
leaf_has v test (Compared comparison s t) = sum_has v test s || sum_has v test t
leaf_has v test (Bracket name) = false

-- whether a term of a formula has such a name
abbrev pub formula_has : Vocabulary → NameTest → PlainTree → Bool
formula_has v test formula = list_any (leaf_has v test) (leaves formula)

abbrev pub is_unknown_name : NameTest
is_unknown_name means count = is_unknown means

-- a constant has so many arguments as it has sorts, and any other name has none
abbrev pub is_miscounted : NameTest
is_miscounted Unknown count = false
is_miscounted Nothing count = not (count == 0)
is_miscounted (Object number sort) count = not (count == 0)
is_miscounted (Variable number sort) count = not (count == 0)
is_miscounted (Constant number symbol) count = not (count == length symbol.sorts)

abbrev pub bracket_unknown : Vocabulary → Leaf → Bool
bracket_unknown v (Bracket name) = is_unknown (meaning v name)
bracket_unknown v (Bare term) = false
bracket_unknown v (Compared comparison s t) = false

-- ---- 7: terms where their sort or kind does not fit

abbrev pub term_meaning : Vocabulary → PlainTerm → Meaning
term_meaning v term = meaning v (term_name term)

abbrev pub lone_meaning : Vocabulary → PlainSum → Option Meaning
lone_meaning v sum = option_map (term_meaning v) (lone sum)

-- what may be no part of a sum of two or more, and no side of an order: an object that is named, `none`, a Boolean constant
abbrev pub part_misfits : Meaning → Bool
part_misfits Unknown = false
part_misfits Nothing = true
part_misfits (Object number own) = true
part_misfits (Variable number own) = false
part_misfits (Constant number symbol) = is_boolean_constant (Constant number symbol)

abbrev pub piece_misfits : Vocabulary → PlainPiece → Bool
piece_misfits v (Numeral number) = false
piece_misfits v (Called term) = part_misfits (term_meaning v term)

-- of a sum of two pieces or more
abbrev pub sum_misfits : Vocabulary → PlainSum → Bool
sum_misfits v (Summed first NoAddends) = false
sum_misfits v (Summed first (MoreAddends minus piece others)) =
    list_any (piece_misfits v) (pieces (Summed first (MoreAddends minus piece others)))

-- a name alone as an argument is an object of the sort, or a variable of that sort or one below it
abbrev pub name_misfits : Vocabulary → ℕ → Option Meaning → Bool
name_misfits v sort None = false
name_misfits v sort (Some (Object number own)) = not (sort_below v own sort)
name_misfits v sort (Some (Variable number own)) = not (sort_below v own sort)
name_misfits v sort (Some Unknown) = true
name_misfits v sort (Some Nothing) = true
name_misfits v sort (Some (Constant number symbol)) = true

-- an argument has no constant
abbrev pub argument_misfits : Vocabulary → ℕ → PlainSum → Bool
argument_misfits v sort sum = sum_has v (λ means count. is_constant means) sum || (sum_misfits v sum || name_misfits v sort (lone_meaning v sum))

abbrev pub some_argument_misfits : Vocabulary → List ℕ → PlainSums → Bool
some_argument_misfits v [] args = false
some_argument_misfits v sorts NoSums = false
some_argument_misfits v (sort ∷ sorts) (MoreSums first others) = argument_misfits v sort first || some_argument_misfits v sorts others

abbrev pub arguments_misfit : Vocabulary → Meaning → PlainSums → Bool
arguments_misfit v (Constant number symbol) args = some_argument_misfits v symbol.sorts args
arguments_misfit v means args = false

abbrev pub term_misfits : Vocabulary → PlainTerm → Bool
term_misfits v (Applied name args) = arguments_misfit v (meaning v name) args

abbrev pub piece_term_misfits : Vocabulary → PlainPiece → Bool
piece_term_misfits v (Numeral number) = false
piece_term_misfits v (Called term) = term_misfits v term

-- its parts do not fit, or the arguments of one of them
abbrev pub side_misfits : Vocabulary → PlainSum → Bool
side_misfits v sum = sum_misfits v sum || list_any (piece_term_misfits v) (pieces sum)

-- The value of a constant is an object of its sort, or a variable of that sort or one below it; of an attribute it may be
-- `none`.
abbrev pub value_misfits : Vocabulary → Symbol → Meaning → Bool
value_misfits v symbol Unknown = false
value_misfits v symbol Nothing = is_none symbol.attribute
value_misfits v symbol (Object number own) = not (sort_below v own symbol.domain)
value_misfits v symbol (Variable number own) = not (sort_below v own symbol.domain)
value_misfits v symbol (Constant number other) = false

-- against what is no constant `none` may not stand
abbrev pub nothing_misfits : Meaning → Bool
nothing_misfits Nothing = true
nothing_misfits means = false

abbrev pub sides_misfit : Vocabulary → Meaning → Meaning → Bool
sides_misfit v (Constant number symbol) other = value_misfits v symbol other
sides_misfit v means (Constant number symbol) = value_misfits v symbol means
sides_misfit v means other = nothing_misfits means || nothing_misfits other

-- the same of sums, of which a name alone has a meaning
abbrev pub equal_sides_misfit : Vocabulary → Option Meaning → Option Meaning → Bool
equal_sides_misfit v (Some means) (Some other) = sides_misfit v means other
equal_sides_misfit v (Some means) None = nothing_misfits means
equal_sides_misfit v None (Some other) = nothing_misfits other
equal_sides_misfit v None None = false

abbrev pub is_part_misfit : Option Meaning → Bool
is_part_misfit (Some means) = part_misfits means
is_part_misfit None = false

-- sides of an order
abbrev pub order_sides_misfit : Option Meaning → Option Meaning → Bool
order_sides_misfit means other = is_part_misfit means || is_part_misfit other

abbrev pub compared_misfit : Comparison → Vocabulary → Option Meaning → Option Meaning → Bool
compared_misfit trees.IsEqual v means other = equal_sides_misfit v means other
compared_misfit trees.Differs v means other = equal_sides_misfit v means other
compared_misfit trees.IsLess v means other = order_sides_misfit means other
compared_misfit trees.IsAtMost v means other = order_sides_misfit means other
compared_misfit trees.IsMore v means other = order_sides_misfit means other
compared_misfit trees.IsAtLeast v means other = order_sides_misfit means other

-- a bracket's name is that of a variable
abbrev pub bracket_misfits : Meaning → Bool
bracket_misfits Unknown = false
bracket_misfits (Variable number sort) = false
bracket_misfits means = true

-- a term alone is a Boolean constant, `true` or `false`
abbrev pub stands_alone : Meaning → Bool
stands_alone means = is_boolean_constant means || is_truth_value means

abbrev pub leaf_misfits : Vocabulary → Leaf → Bool
leaf_misfits v (Bare term) = not (stands_alone (term_meaning v term)) || term_misfits v term
leaf_misfits v (Compared comparison s t) = compared_misfit comparison v (lone_meaning v s) (lone_meaning v t) || (side_misfits v s || side_misfits v t)
leaf_misfits v (Bracket name) = bracket_misfits (meaning v name)

-- ---- formulas

-- 5: a name that is neither an object, a variable nor a constant; a bracket may have one too
abbrev pub has_unknown : Vocabulary → PlainTree → Bool
has_unknown v formula = formula_has v is_unknown_name formula || list_any (bracket_unknown v) (leaves formula)

-- 6: a name with another number of arguments
abbrev pub has_miscounted : Vocabulary → PlainTree → Bool
has_miscounted v formula = formula_has v is_miscounted formula

-- 7: a term or a bracket where it does not fit
abbrev pub has_misfit : Vocabulary → PlainTree → Bool
has_misfit v formula = list_any (leaf_misfits v) (leaves formula)

-- ---- which constants a formula has

abbrev pub has_constant : Vocabulary → PlainTree → Bool
has_constant v formula = formula_has v (λ means count. is_constant means) formula

abbrev pub has_action : Vocabulary → PlainTree → Bool
has_action v formula = formula_has v (λ means count. is_action_constant means) formula

abbrev pub has_fluent : Vocabulary → PlainTree → Bool
has_fluent v formula = formula_has v (λ means count. is_fluent_constant means) formula

-- a statically determined fluent
abbrev pub has_determined : Vocabulary → PlainTree → Bool
has_determined v formula = formula_has v (λ means count. is_determined_constant means) formula

-- a fluent formula has no action constant
abbrev pub is_fluent_formula : Vocabulary → PlainTree → Bool
is_fluent_formula v formula = not (has_action v formula)

-- an action formula has an action constant and no fluent constant
abbrev pub is_action_formula : Vocabulary → PlainTree → Bool
is_action_formula v formula = has_action v formula && not (has_fluent v formula)
