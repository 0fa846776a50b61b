-- The tree of a statement in plain form: without boxes and vectors, and apart from where its names lie in memory.
use Rattle.std.specs.Prelude.{ℕ, Bool, List, map, Option}
use Rattle.std.specs.Global.{Box}
use Rattle.std.specs.Option.{option_map}
use Rattle.cc_defs.specs.declared.signature.At.{At}
use Rattle.cc_defs.specs.declared.tree.KindWord.{KindWord}
use Rattle.cc_defs.specs.declared.tree.TermTree.{TermTree, TermTree', Row_of-SumTree, end_of-SumTree, more_of-SumTree}
use Rattle.cc_defs.specs.declared.tree.SumTree.{SumTree, SumTree', Row_of-Addend, end_of-Addend, more_of-Addend}
use Rattle.cc_defs.specs.declared.tree.Piece as pieces
use Rattle.cc_defs.specs.declared.tree.Tree as trees
use Rattle.cc_defs.specs.declared.tree.Shape.{Shape}
use Rattle.cc_defs.specs.declared.tree.SortItem.{SortItem}
use Rattle.cc_defs.specs.declared.tree.SortItem.TheVariants as sort_items
use Rattle.cc_defs.specs.declared.tree.ListItem.{ListItem}
use Rattle.cc_defs.specs.declared.tree.Member.{Member}
use Rattle.cc_defs.specs.declared.tree.Member.TheVariants as members
use Rattle.cc_defs.specs.declared.tree.ObjItem.{ObjItem}
use Rattle.cc_defs.specs.declared.tree.KindTree.{KindTree}
use Rattle.cc_defs.specs.declared.tree.KindTree.TheVariants as kind_trees
use Rattle.cc_defs.specs.declared.tree.ConstItem.{ConstItem}
use Rattle.cc_defs.specs.declared.tree.QueryItem.{QueryItem}
use Rattle.cc_defs.specs.declared.tree.QueryItem.TheVariants as query_items
use Rattle.cc_defs.specs.declared.tree.LawTree.{LawTree}
use Rattle.cc_defs.specs.declared.tree.LawTree.TheVariants as law_trees
use Rattle.cc_defs.specs.declared.tree.Part.{Part}
use Rattle.cc_defs.specs.declared.tree.Part.TheVariants as parts
use Rattle.cc_defs.specs.declared.tree.Statement.{Statement}

mutual
  -- a constant, an object or a variable with its arguments; also `true`, `false` and `none`
  pub data PlainTerm : Type 0 where
    Applied : (name : List ℕ) → (args : PlainSums) → PlainTerm

  pub data PlainSums : Type 0 where
    NoSums : PlainSums
    MoreSums : (first : PlainSum) → (others : PlainSums) → PlainSums

  -- a piece, and those that are added to it or taken from it, from left to right
  pub data PlainSum : Type 0 where
    Summed : (first : PlainPiece) → (rest : PlainAddends) → PlainSum

  pub data PlainPiece : Type 0 where
    Numeral : ℕ → PlainPiece
    Called : PlainTerm → PlainPiece

  pub data PlainAddends : Type 0 where
    NoAddends : PlainAddends
    MoreAddends : (minus : Bool) → PlainPiece → PlainAddends → PlainAddends

-- the signs between two sums
pub data Comparison : Type 0 where
  IsEqual : Comparison
  Differs : Comparison
  IsLess : Comparison
  IsAtMost : Comparison
  IsMore : Comparison
  IsAtLeast : Comparison

pub data PlainTree : Type 0 where
  Bare : PlainTerm → PlainTree
  Compared : Comparison → PlainSum → PlainSum → PlainTree
  Paren : PlainTree → PlainTree
  Not : PlainTree → PlainTree
  Both : PlainTree → PlainTree → PlainTree
  Either : PlainTree → PlainTree → PlainTree
  Implies : PlainTree → PlainTree → PlainTree
  Same : PlainTree → PlainTree → PlainTree
  ForAll : (variable : List ℕ) → PlainTree → PlainTree
  Exists : (variable : List ℕ) → PlainTree → PlainTree

pub record PlainShape : Type 0 where
  pub name : List ℕ
  pub sorts : List (List ℕ)

pub data PlainSortItem : Type 0 where
  Names : List (List ℕ) → PlainSortItem
  Chain : List (List ℕ) → PlainSortItem

-- a name, or the numbers from one to another
pub data PlainMember : Type 0 where
  Name : List ℕ → PlainMember
  Numbers : (low high : ℕ) → PlainMember

pub record PlainObjItem : Type 0 where
  pub members : List PlainMember
  pub sort : List ℕ

pub record PlainListItem : Type 0 where
  pub names : List (List ℕ)
  pub sort : List ℕ

pub data PlainKind : Type 0 where
  Plain : KindWord → Option (List ℕ) → PlainKind
  Attribute : (sort : List ℕ) → (action : PlainShape) → PlainKind

pub record PlainConstItem : Type 0 where
  pub shapes : List PlainShape
  pub kind : PlainKind

pub data PlainQueryItem : Type 0 where
  Label : List ℕ → PlainQueryItem
  Range : (lo hi : ℕ) → PlainQueryItem
  Condition : (claim : Bool) → At → List PlainTree → PlainQueryItem

pub data PlainLaw : Type 0 where
  Caused : PlainTree → Option PlainTree → Option PlainTree → PlainLaw
  Constraint : PlainTree → PlainLaw
  Always : PlainTree → PlainLaw
  Nonexecutable : PlainTree → Option PlainTree → PlainLaw
  Default : PlainTree → Option PlainTree → Option PlainTree → PlainLaw
  Exogenous : PlainTerm → PlainLaw
  Inertial : PlainTerm → PlainLaw
  Causes : PlainTree → PlainTree → Option PlainTree → PlainLaw
  MayCause : PlainTree → PlainTree → Option PlainTree → PlainLaw
  NoConcurrency : PlainLaw

pub data PlainPart : Type 0 where
  Sorts : List PlainSortItem → PlainPart
  Objects : List PlainObjItem → PlainPart
  Variables : List PlainListItem → PlainPart
  Constants : List PlainConstItem → PlainPart
  Query : List PlainQueryItem → PlainPart
  Include : (file : List ℕ) → PlainPart
  Law : PlainLaw → (test : Option PlainTree) → PlainPart

pub record PlainStatement : Type 0 where
  pub part : PlainPart
  pub line : ℕ

-- ---- the plain form of each tree

abbrev mutual
  pub plain_term : TermTree → PlainTerm
  plain_term (TermTree' name shape args) = Applied name.now (plain_args args)

  pub plain_args : {m : _} → Row_of-SumTree m → PlainSums
  plain_args end_of-SumTree = NoSums
  plain_args (more_of-SumTree sum rest) = MoreSums (plain_sum sum) (plain_args rest)

  pub plain_sum : SumTree → PlainSum
  plain_sum (SumTree' first shape rest) = Summed (plain_piece first) (plain_addends rest)

  pub plain_addends : {m : _} → Row_of-Addend m → PlainAddends
  plain_addends end_of-Addend = NoAddends
  plain_addends (more_of-Addend minus piece rest) = MoreAddends minus (plain_piece piece) (plain_addends rest)

  pub plain_piece : pieces.Piece → PlainPiece
  plain_piece (pieces.Number number) = Numeral number
  plain_piece (pieces.Name term) = Called (plain_term term)

abbrev pub plain_tree : trees.Tree → PlainTree
plain_tree (trees.Bare term) = Bare (plain_term term)
plain_tree (trees.Equal s t) = Compared IsEqual (plain_sum s.value) (plain_sum t.value)
plain_tree (trees.Differ s t) = Compared Differs (plain_sum s.value) (plain_sum t.value)
plain_tree (trees.Less s t) = Compared IsLess (plain_sum s.value) (plain_sum t.value)
plain_tree (trees.AtMost s t) = Compared IsAtMost (plain_sum s.value) (plain_sum t.value)
plain_tree (trees.More s t) = Compared IsMore (plain_sum s.value) (plain_sum t.value)
plain_tree (trees.AtLeast s t) = Compared IsAtLeast (plain_sum s.value) (plain_sum t.value)
plain_tree (trees.Paren' box f) = Paren (plain_tree f)
plain_tree (trees.Not' box f) = Not (plain_tree f)
plain_tree (trees.Both' one f other g) = Both (plain_tree f) (plain_tree g)
plain_tree (trees.Either' one f other g) = Either (plain_tree f) (plain_tree g)
plain_tree (trees.Implies' one f other g) = Implies (plain_tree f) (plain_tree g)
plain_tree (trees.Same' one f other g) = Same (plain_tree f) (plain_tree g)
plain_tree (trees.ForAll' variable box f) = ForAll variable.now (plain_tree f)
plain_tree (trees.Exists' variable box f) = Exists variable.now (plain_tree f)

abbrev pub plain_shape : Shape → PlainShape
plain_shape shape = record { name = shape.name.now; sorts = map (λ sort. sort.now) shape.sorts }

abbrev pub plain_sort_item : SortItem → PlainSortItem
plain_sort_item (sort_items.Names names) = Names (map (λ name. name.now) names)
plain_sort_item (sort_items.Chain names) = Chain (map (λ name. name.now) names)

abbrev pub plain_member : Member → PlainMember
plain_member (members.Name name) = Name name.now
plain_member (members.Numbers low high) = Numbers low high

abbrev pub plain_obj_item : ObjItem → PlainObjItem
plain_obj_item item = record { members = map plain_member item.members; sort = item.sort.now }

abbrev pub plain_list_item : ListItem → PlainListItem
plain_list_item item = record { names = map (λ name. name.now) item.names; sort = item.sort.now }

abbrev pub plain_kind : KindTree → PlainKind
plain_kind (kind_trees.Plain word sort) = Plain word (option_map (λ name. name.now) sort)
plain_kind (kind_trees.Attribute sort action) = Attribute sort.now (plain_shape action)

abbrev pub plain_const_item : ConstItem → PlainConstItem
plain_const_item item = record { shapes = map plain_shape item.shapes; kind = plain_kind item.kind }

abbrev pub plain_query_item : QueryItem → PlainQueryItem
plain_query_item (query_items.Label label) = Label label.now
plain_query_item (query_items.Range lo hi) = Range lo hi
plain_query_item (query_items.Condition claim at formulas) = Condition claim at (map plain_tree formulas)

-- the same of a tree in a box
abbrev pub boxed_tree : Box trees.Tree → PlainTree
boxed_tree tree = plain_tree tree.value

abbrev pub plain_law : LawTree → PlainLaw
plain_law (law_trees.Caused f g h) = Caused (boxed_tree f) (option_map boxed_tree g) (option_map boxed_tree h)
plain_law (law_trees.Constraint f) = Constraint (boxed_tree f)
plain_law (law_trees.Always f) = Always (boxed_tree f)
plain_law (law_trees.Nonexecutable f g) = Nonexecutable (boxed_tree f) (option_map boxed_tree g)
plain_law (law_trees.Default f g h) = Default (boxed_tree f) (option_map boxed_tree g) (option_map boxed_tree h)
plain_law (law_trees.Exogenous c) = Exogenous (plain_term c)
plain_law (law_trees.Inertial c) = Inertial (plain_term c)
plain_law (law_trees.Causes a f g) = Causes (boxed_tree a) (boxed_tree f) (option_map boxed_tree g)
plain_law (law_trees.MayCause a f g) = MayCause (boxed_tree a) (boxed_tree f) (option_map boxed_tree g)
plain_law law_trees.NoConcurrency = NoConcurrency

abbrev pub plain_part : Part → PlainPart
plain_part (parts.Sorts items) = Sorts (map plain_sort_item items)
plain_part (parts.Objects items) = Objects (map plain_obj_item items)
plain_part (parts.Variables items) = Variables (map plain_list_item items)
plain_part (parts.Constants items) = Constants (map plain_const_item items)
plain_part (parts.Query items) = Query (map plain_query_item items)
plain_part (parts.Include file) = Include file.now
plain_part (parts.Law law test) = Law (plain_law law.value) (option_map boxed_tree test)

abbrev pub plain_statement : Statement → PlainStatement
plain_statement statement = record { part = plain_part statement.part.value; line = statement.line }
