-- Readers of declarations.
use Rattle.std.specs.Prelude.{ℕ, List, [], ◌∷◌, Option, Some, None, codes}
use Rattle.cc_defs.specs.declared.token.Mark.TheVariants as marks
use Rattle.cc_defs.specs.declared.tree.KindWord.{KindWord}
use Rattle.cc_defs.specs.declared.tree.KindWord.TheVariants as kind_words
use Rattle.cc_defs.specs.Trees.{PlainShape, PlainSortItem, Names, Chain, PlainMember, Name, Numbers, PlainObjItem, PlainListItem, PlainKind, Plain, Attribute, PlainConstItem}
use Rattle.cc_syntax.specs.Readers.{Reader, given, ◌>>=◌, name_at, numeral_at, sign_at, word_at, listed_at, parenthesized_at, paired, ◌▷◌, ◌◁◌}

abbrev pub names_at : Reader (List (List ℕ))
names_at = listed_at name_at marks.Comma

-- names behind one another, or each above the next
unfoldable pub sort_item_at : Reader PlainSortItem
sort_item_at tokens =
    name_at tokens >>= λ first.
    given (sign_at marks.Above first.1)
    (names_at tokens >>= λ names. Some (Names names.0, names.1))
    (λ rest. listed_at name_at marks.Above rest >>= λ names. Some (Chain (first.0 ∷ names.0), names.1))

-- behind a number: the number that it goes to, if the mark is there
abbrev pub numbers_at : ℕ → Reader PlainMember
numbers_at low tokens =
    given (sign_at marks.DotDot tokens) (Some (Numbers low low, tokens)) (λ rest. numeral_at rest >>= λ high. Some (Numbers low high.0, high.1))

unfoldable pub member_at : Reader PlainMember
member_at tokens =
    given (numeral_at tokens) (name_at tokens >>= λ text. Some (Name text.0, text.1)) (λ low. numbers_at low.0 low.1)

abbrev pub obj_item_of : List PlainMember → List ℕ → PlainObjItem
obj_item_of members sort = record { members = members; sort = sort }

unfoldable pub obj_item_at : Reader PlainObjItem
obj_item_at = paired obj_item_of (listed_at member_at marks.Comma ◁ sign_at marks.DoubleColon) name_at

abbrev pub list_item_of : List (List ℕ) → List ℕ → PlainListItem
list_item_of names sort = record { names = names; sort = sort }

unfoldable pub list_item_at : Reader PlainListItem
list_item_at = paired list_item_of (names_at ◁ sign_at marks.DoubleColon) name_at

abbrev pub shape_of : List ℕ → List (List ℕ) → PlainShape
shape_of name sorts = record { name = name; sorts = sorts }

-- the sorts of a shape's arguments, if a bracket is there
abbrev pub sorts_at : Reader (List (List ℕ))
sorts_at tokens = given (sign_at marks.LeftParen tokens) (Some ([], tokens)) (names_at ◁ sign_at marks.RightParen)

unfoldable pub shape_at : Reader PlainShape
shape_at = paired shape_of name_at sorts_at

-- a word for a kind
abbrev pub kind_word_at : Reader KindWord
kind_word_at tokens =
    given (word_at (codes "simpleFluent") tokens) (
    given (word_at (codes "inertialFluent") tokens) (
    given (word_at (codes "sdFluent") tokens) (
    given (word_at (codes "rigid") tokens) (
    given (word_at (codes "action") tokens) (
    given (word_at (codes "exogenousAction") tokens) None
    (λ rest. Some (kind_words.ExogenousAction, rest)))
    (λ rest. Some (kind_words.Action, rest)))
    (λ rest. Some (kind_words.Rigid, rest)))
    (λ rest. Some (kind_words.Determined, rest)))
    (λ rest. Some (kind_words.Inertial, rest)))
    (λ rest. Some (kind_words.Simple, rest))

-- the sort of a constant's values, if a bracket is there
abbrev pub sort_at : Reader (Option (List ℕ))
sort_at tokens =
    given (sign_at marks.LeftParen tokens) (Some (None, tokens))
    (λ rest. (name_at ◁ sign_at marks.RightParen) rest >>= λ read. Some (Some read.0, read.1))

unfoldable pub attribute_at : Reader PlainKind
attribute_at = paired Attribute (parenthesized_at name_at) (word_at (codes "of") ▷ shape_at)

unfoldable pub kind_at : Reader PlainKind
kind_at tokens = given (word_at (codes "attribute") tokens) (paired Plain kind_word_at sort_at tokens) attribute_at

abbrev pub const_item_of : List PlainShape → PlainKind → PlainConstItem
const_item_of shapes kind = record { shapes = shapes; kind = kind }

unfoldable pub const_item_at : Reader PlainConstItem
const_item_at = paired const_item_of (listed_at shape_at marks.Comma ◁ sign_at marks.DoubleColon) kind_at
