-- Small descriptions whose states and transitions are known beforehand: they show what the definitions say.
use Rattle.std.specs.Prelude.{◌≡◌, ℕ, List, [], ◌∷◌, ◌++◌, length, map, Option, Some, None, codes}
use Rattle.cc_defs.specs.declared.law.Range.TheVariants as ranges
use Rattle.cc_defs.specs.declared.node.GroundHead.TheVariants as ground_heads
use Rattle.cc_defs.specs.declared.node.Node.TheVariants as nodes
use Rattle.cc_defs.specs.declared.signature.At.TheVariants.{Last}
use Rattle.cc_defs.specs.declared.signature.Const.{Const}
use Rattle.cc_defs.specs.declared.signature.Symbol.{Symbol}
use Rattle.cc_defs.specs.declared.signature.Kind.{Kind}
use Rattle.cc_defs.specs.declared.signature.Kind.TheVariants as kinds
use Rattle.cc_defs.specs.declared.signature.LawKind.{LawKind}
use Rattle.cc_defs.specs.declared.signature.LawKind.TheVariants as law_kinds
use Rattle.cc_defs.specs.declared.tree.KindWord.TheVariants as words
use Rattle.cc_defs.specs.DeclarationFaults.{declaration_fault, signature_refusal}
use Rattle.cc_defs.specs.Declarations.{Declaration, part_declarations, members, sort_names, ground_fluents, ground_actions}
use Rattle.cc_defs.specs.Description.{Description}
use Rattle.cc_defs.specs.Conditions.{AreGroundLaws, HaveTheirKinds}
use Rattle.cc_defs.specs.Environments.{environments, pairs_of}
use Rattle.cc_defs.specs.Forms.{HaveForms}
use Rattle.cc_defs.specs.GroundLaws.{ground_laws}
use Rattle.cc_defs.specs.Histories.{IsListing}
use Rattle.cc_defs.specs.Paths.{IsState, IsTransition, IsPath}
use Rattle.cc_defs.specs.Resolved.{NoTerms, MoreTerms, Formula, Truth, Equal, Not, Both, ForAll, Exists, Object, Variable, Head, Atom, Falsity, Law, BaseLaw, One, NoConcurrency, Query}
use Rattle.cc_defs.specs.Resolved as resolved
use Rattle.cc_defs.specs.Rules.{rules_at}
use Rattle.cc_defs.specs.Signatures.{none_value}
use Rattle.cc_defs.specs.Texts.{key_text, history_text, shown}
use Rattle.cc_defs.specs.Universe.{Universe, boolean_actions}
use Rattle.cc_defs.specs.Trees.{Name, Sorts, Objects, Constants, Names, Chain, Plain, Attribute}

-- a constant without arguments, of the values `false` and `true`
abbrev pub boolean : ℕ → Kind → Const
boolean symbol kind = record { symbol = symbol; args = []; kind = kind; domain = 0 ∷ 1 ∷ [] }

abbrev pub boolean_symbol : List ℕ → Kind → Symbol
boolean_symbol name kind = record { name = name; sorts = []; kind = kind; domain = 0; attribute = None }

-- the constant of a symbol has a value
abbrev pub has : ℕ → ℕ → Formula
has symbol value = Equal (resolved.Constant symbol NoTerms) (Object value)

abbrev pub law_for : LawKind → Head → Formula → Option Formula → BaseLaw
law_for kind head body after = One (record {
  ranges = [];
  head = head;
  body = body;
  after = after;
  test = Truth;
  kind = kind;
  file = 0;
  line = 1;
})

abbrev pub law : LawKind → ℕ → ℕ → Formula → Option Formula → BaseLaw
law kind symbol value body after = law_for kind (Atom symbol [] (Object value)) body after

-- `caused` a value `if` a formula
abbrev pub caused : ℕ → ℕ → Formula → BaseLaw
caused symbol value body = law law_kinds.Static symbol value body None

abbrev pub universe_with : List Symbol → List Const → List Const → Universe
universe_with symbols fluents actions = record { sorts = (0 ∷ 1 ∷ []) ∷ []; numbers = []; symbols = symbols; fluents = fluents; actions = actions }

abbrev pub booleans : List (List ℕ)
booleans = codes "false" ∷ codes "true" ∷ []

abbrev pub fluents_with_laws : List Const → List BaseLaw → Description
fluents_with_laws fluents given = record { objects = booleans; universe = universe_with [] fluents []; laws = given }

-- With no constants there is one interpretation, and it is a state.
abbrev pub EmptyRowIsState : Type 0
EmptyRowIsState = IsState (fluents_with_laws [] []) []

-- Simple fluents without laws are free.
abbrev pub two_simple : Description
two_simple = fluents_with_laws (boolean 0 kinds.Simple ∷ boolean 1 kinds.Simple ∷ []) []

abbrev pub SimpleFluentsAreFree : Type 0
SimpleFluentsAreFree = IsState two_simple (0 ∷ 0 ∷ []) × IsState two_simple (0 ∷ 1 ∷ []) × IsState two_simple (1 ∷ 0 ∷ []) × IsState two_simple (1 ∷ 1 ∷ [])

-- Without a law a statically determined fluent of two values has no cause for either.
abbrev pub DeterminedNeedsCause : Type 0
DeterminedNeedsCause = (row : List ℕ) → IsState (fluents_with_laws (boolean 0 kinds.Determined ∷ []) []) row → ⊥

-- A statically determined fluent of one value needs no cause, since there is nothing else that it could be.
abbrev pub one_value : Const
one_value = record { symbol = 0; args = []; kind = kinds.Determined; domain = 0 ∷ [] }

abbrev pub OneValueNeedsNoCause : Type 0
OneValueNeedsNoCause = IsState (fluents_with_laws (one_value ∷ []) []) (0 ∷ [])

-- Causes that differ leave no state.
abbrev pub clash : Description
clash = fluents_with_laws (boolean 0 kinds.Simple ∷ []) (caused 0 1 Truth ∷ caused 0 0 Truth ∷ [])

abbrev pub CausesThatDifferClash : Type 0
CausesThatDifferClash = (row : List ℕ) → IsState clash row → ⊥

-- A law with falsity for its head forbids its body, and is a cause of nothing.
abbrev pub forbidden : Description
forbidden = fluents_with_laws (boolean 0 kinds.Simple ∷ []) (law_for law_kinds.Static Falsity (has 0 1) None ∷ [])

abbrev pub FalsityForbids : Type 0
FalsityForbids = IsState forbidden (0 ∷ []) × (IsState forbidden (1 ∷ []) → ⊥)

-- Two fluents that cause each other may both be so.
abbrev pub circle : Description
circle = fluents_with_laws (boolean 0 kinds.Determined ∷ boolean 1 kinds.Determined ∷ [])
    (caused 0 1 (has 1 1) ∷ caused 1 1 (has 0 1) ∷ caused 0 0 (Not (has 0 1)) ∷ caused 1 0 (Not (has 1 1)) ∷ [])

abbrev pub CausesMayStandInCircle : Type 0
CausesMayStandInCircle = IsState circle (0 ∷ 0 ∷ []) × IsState circle (1 ∷ 1 ∷ []) × (IsState circle (0 ∷ 1 ∷ []) → ⊥) × (IsState circle (1 ∷ 0 ∷ []) → ⊥)

-- A lamp: `on` keeps its value unless `flip` is done, which turns it.
abbrev pub lamp_laws : List BaseLaw
lamp_laws =
    law law_kinds.FluentDynamic 0 0 (has 0 0) (Some (has 0 0)) ∷ law law_kinds.FluentDynamic 0 1 (has 0 1) (Some (has 0 1))
    ∷ law law_kinds.ActionDynamic 1 0 (has 1 0) None ∷ law law_kinds.ActionDynamic 1 1 (has 1 1) None
    ∷ law law_kinds.FluentDynamic 0 1 Truth (Some (Both (has 1 1) (Not (has 0 1))))
    ∷ law law_kinds.FluentDynamic 0 0 Truth (Some (Both (has 1 1) (has 0 1))) ∷ []

abbrev pub lamp : Description
lamp = record {
  objects = booleans;
  universe = universe_with (boolean_symbol (codes "on") kinds.Simple ∷ boolean_symbol (codes "flip") kinds.Action ∷ [])
      (boolean 0 kinds.Simple ∷ []) (boolean 1 kinds.Action ∷ []);
  laws = lamp_laws;
}

-- the initial rules, and six more for each step
abbrev pub LampHasSoManyRules : Type 0
LampHasSoManyRules = (length (rules_at lamp 0) ≡ 2) × (length (rules_at lamp 1) ≡ 8) × (length (rules_at lamp 2) ≡ 14)

abbrev pub LampTurns : Type 0
LampTurns = IsPath lamp 1 (0 ∷ 1 ∷ 1 ∷ []) × IsPath lamp 1 (1 ∷ 1 ∷ 0 ∷ [])

abbrev pub LampStays : Type 0
LampStays = IsPath lamp 1 (0 ∷ 0 ∷ 0 ∷ []) × IsPath lamp 1 (1 ∷ 0 ∷ 1 ∷ [])

abbrev pub LampDoesNothingElse : Type 0
LampDoesNothingElse = (IsPath lamp 1 (0 ∷ 1 ∷ 0 ∷ []) → ⊥) × (IsPath lamp 1 (0 ∷ 0 ∷ 1 ∷ []) → ⊥)

-- two steps share the state between them
abbrev pub LampTurnsTwice : Type 0
LampTurnsTwice = IsPath lamp 2 (0 ∷ 1 ∷ 1 ∷ 1 ∷ 0 ∷ [])

-- the histories of one step after which the lamp is on
abbrev pub lamp_ends_on : Query
lamp_ends_on = record {
  label = None;
  range = Some (1, 1);
  conditions = record { at = Last; formula = has 0 1 } ∷ [];
  claim = None;
  file = 0;
  line = 1;
}

abbrev pub LampEndsOnInTwoWays : Type 0
LampEndsOnInTwoWays = IsListing lamp lamp_ends_on 1 None ((0 ∷ 1 ∷ 1 ∷ []) ∷ (1 ∷ 0 ∷ 1 ∷ []) ∷ [])

abbrev pub KeysAreWritten : Type 0
KeysAreWritten = (key_text 0 [] ≡ codes "0:") × (key_text 1 (0 ∷ 1 ∷ 1 ∷ []) ≡ codes "1:0,1,1")

abbrev pub LampHistoryIsWritten : Type 0
LampHistoryIsWritten = history_text lamp 1 (0 ∷ 1 ∷ 1 ∷ []) ≡ codes "0:\nACTIONS:  flip\n1:  on\n"

-- an attribute of the first symbol, which has no value or an object
abbrev pub with_attribute : Description
with_attribute = record {
  objects = booleans ++ codes "a" ∷ [];
  universe = universe_with (boolean_symbol (codes "act") kinds.Action
      ∷ record { name = codes "c"; sorts = []; kind = kinds.Action; domain = 1; attribute = Some 0 } ∷ []) [] [];
  laws = [];
}

abbrev pub attribute : Const
attribute = record { symbol = 1; args = []; kind = kinds.Action; domain = none_value ∷ 2 ∷ [] }

abbrev pub AttributeShowsNone : Type 0
AttributeShowsNone = (shown with_attribute attribute none_value ≡ codes "  c=none") × (shown with_attribute attribute 2 ≡ codes "  c=a")

-- ---- laws with variables

-- the objects `a` and `b` of a sort, and a Boolean fluent for each
abbrev pub of_object : ℕ → Const
of_object object = record { symbol = 0; args = object ∷ []; kind = kinds.Simple; domain = 0 ∷ 1 ∷ [] }

abbrev pub two_objects : Universe
two_objects = record {
  sorts = (0 ∷ 1 ∷ []) ∷ (2 ∷ 3 ∷ []) ∷ [] ∷ [];
  numbers = [];
  symbols = record { name = codes "p"; sorts = 1 ∷ []; kind = kinds.Simple; domain = 0; attribute = None } ∷ [];
  fluents = of_object 2 ∷ of_object 3 ∷ [];
  actions = [];
}

abbrev pub two_objects_with : List BaseLaw → Description
two_objects_with given = record { objects = booleans ++ codes "a" ∷ codes "b" ∷ []; universe = two_objects; laws = given }

-- the fluent of the object that a variable has
abbrev pub is_so : ℕ → Formula
is_so variable = Equal (resolved.Constant 0 (MoreTerms (Variable variable) NoTerms)) (Object 1)

-- `caused p(X) if p(Y) where -(X=Y)`
abbrev pub one_from_the_other : Law
one_from_the_other = record {
  ranges = ranges.Sort 1 ∷ ranges.Sort 1 ∷ [];
  head = Atom 0 (Variable 0 ∷ []) (Object 1);
  body = is_so 1;
  after = None;
  test = Not (Equal (Variable 0) (Variable 1));
  kind = law_kinds.Static;
  file = 0;
  line = 1;
}

-- The test drops two of four lists of objects; what is left is in order.
abbrev pub TestsDropEnvironments : Type 0
TestsDropEnvironments = environments two_objects one_from_the_other ≡ (2 ∷ 3 ∷ []) ∷ (3 ∷ 2 ∷ []) ∷ []

-- Each fluent is a cause of the other, so both are so or neither.
abbrev pub LawsStandForAllObjects : Type 0
LawsStandForAllObjects =
    IsState (two_objects_with (One one_from_the_other ∷ [])) (0 ∷ 0 ∷ []) × IsState (two_objects_with (One one_from_the_other ∷ [])) (1 ∷ 1 ∷ [])
    × (IsState (two_objects_with (One one_from_the_other ∷ [])) (0 ∷ 1 ∷ []) → ⊥)
    × (IsState (two_objects_with (One one_from_the_other ∷ [])) (1 ∷ 0 ∷ []) → ⊥)

-- Its two ground laws, with their terms.
abbrev pub LawsAreGround : Type 0
LawsAreGround = ground_laws two_objects (One one_from_the_other ∷ []) ≡
    record { head = ground_heads.Atom 0 1; body = nodes.Atom 1 1 ∷ []; after = None; kind = law_kinds.Static; base = 0 }
    ∷ record { head = ground_heads.Atom 1 1; body = nodes.Atom 0 1 ∷ []; after = None; kind = law_kinds.Static; base = 0 } ∷ []

-- They are as the theory of a horizon asks; the law has the form of its kind, and as one of actions it would have none.
abbrev pub LawsHaveForms : Type 0
LawsHaveForms =
    HaveTheirKinds two_objects × HaveForms two_objects.symbols (One one_from_the_other ∷ [])
    × AreGroundLaws two_objects (ground_laws two_objects (One one_from_the_other ∷ []))
    × (HaveForms two_objects.symbols (One (record one_from_the_other { kind = law_kinds.ActionDynamic }) ∷ []) → ⊥)

-- ---- brackets and heads

-- `exogenous p(X) where` a test; the value variable has the number 1, a bracket of the test the number 2
abbrev pub exogenous_where : Formula → Law
exogenous_where test = record {
  ranges = ranges.Sort 1 ∷ ranges.Domain 0 ∷ [];
  head = Atom 0 (Variable 0 ∷ []) (Variable 1);
  body = Equal (resolved.Constant 0 (MoreTerms (Variable 0) NoTerms)) (Variable 1);
  after = None;
  test = test;
  kind = law_kinds.Static;
  file = 0;
  line = 1;
}

-- Not all objects are X, whichever X is; some object is X and is not `b`, where X is `a`.
abbrev pub BracketsStandInTests : Type 0
BracketsStandInTests =
    (environments two_objects (exogenous_where (ForAll 2 1 (Equal (Variable 2) (Variable 0)))) ≡ [])
    × (environments two_objects (exogenous_where (Exists 2 1 (Both (Equal (Variable 2) (Variable 0)) (Not (Equal (Variable 2) (Object 3)))))) ≡
    (2 ∷ 0 ∷ []) ∷ (2 ∷ 1 ∷ []) ∷ [])

-- A bracket hides an outer one of its own number, and leaves the others: each object is itself, and some object is none of
-- the two that the law's variables and an outer bracket stand for.
abbrev pub BracketsBindTheirVariable : Type 0
BracketsBindTheirVariable =
    (environments two_objects (exogenous_where (ForAll 2 1 (Exists 3 1 (Equal (Variable 3) (Variable 2))))) ≡
    (2 ∷ 0 ∷ []) ∷ (2 ∷ 1 ∷ []) ∷ (3 ∷ 0 ∷ []) ∷ (3 ∷ 1 ∷ []) ∷ [])
    × (environments two_objects (exogenous_where (Exists 2 1 (ForAll 2 1 (Equal (Variable 2) (Variable 0))))) ≡ [])
    × (environments two_objects (exogenous_where (Exists 2 1 (Exists 3 1 (Not (Equal (Variable 3) (Variable 2)))))) ≡
    (2 ∷ 0 ∷ []) ∷ (2 ∷ 1 ∷ []) ∷ (3 ∷ 0 ∷ []) ∷ (3 ∷ 1 ∷ []) ∷ [])

-- A law has no instance where its head is not there: `caused p(X)=b`, whose value is none of the constant's.
abbrev pub HeadsMustBeThere : Type 0
HeadsMustBeThere = environments two_objects (record one_from_the_other { head = Atom 0 (Variable 0 ∷ []) (Object 3) }) ≡ []

-- `caused false if` a bracket
abbrev pub forbids : Formula → Description
forbids formula = two_objects_with (law_for law_kinds.Static Falsity formula None ∷ [])

-- A bracket goes over the objects of its sort; over those of the last sort, which has none, all are so and none is.
abbrev pub BracketsGoOverObjects : Type 0
BracketsGoOverObjects =
    IsState (forbids (ForAll 0 1 (is_so 0))) (0 ∷ 1 ∷ []) × (IsState (forbids (ForAll 0 1 (is_so 0))) (1 ∷ 1 ∷ []) → ⊥)
    × IsState (forbids (Exists 0 1 (is_so 0))) (0 ∷ 0 ∷ []) × (IsState (forbids (Exists 0 1 (is_so 0))) (0 ∷ 1 ∷ []) → ⊥)
    × (IsState (forbids (ForAll 0 2 (is_so 0))) (0 ∷ 0 ∷ []) → ⊥) × IsState (forbids (Exists 0 2 (is_so 0))) (1 ∷ 1 ∷ [])

-- ---- actions that are not done at once

-- two Boolean actions, each of which may be done or not
abbrev pub two_actions : Description
two_actions = record {
  objects = booleans;
  universe = universe_with (boolean_symbol (codes "a") kinds.Action ∷ boolean_symbol (codes "b") kinds.Action ∷ [])
      [] (boolean 0 kinds.Action ∷ boolean 1 kinds.Action ∷ []);
  laws = law law_kinds.ActionDynamic 0 0 (has 0 0) None ∷ law law_kinds.ActionDynamic 0 1 (has 0 1) None
      ∷ law law_kinds.ActionDynamic 1 0 (has 1 0) None ∷ law law_kinds.ActionDynamic 1 1 (has 1 1) None ∷ [];
}

abbrev pub one_at_a_time : Description
one_at_a_time = record two_actions { laws = two_actions.laws ++ NoConcurrency 0 1 ∷ [] }

abbrev pub ActionsAreNotTogether : Type 0
ActionsAreNotTogether =
    IsTransition two_actions (1 ∷ 1 ∷ []) × (IsTransition one_at_a_time (1 ∷ 1 ∷ []) → ⊥)
    × IsTransition one_at_a_time (0 ∷ 0 ∷ []) × IsTransition one_at_a_time (0 ∷ 1 ∷ []) × IsTransition one_at_a_time (1 ∷ 0 ∷ [])

-- three actions make three pairs
abbrev pub PairsAreInOrder : Type 0
PairsAreInOrder = (boolean_actions one_at_a_time.universe ≡ 0 ∷ 1 ∷ []) × (pairs_of (0 ∷ 1 ∷ 2 ∷ []) ≡ (0, 1) ∷ (0, 2) ∷ (1, 2) ∷ [])

-- ---- declarations

-- `:- sorts s >> t; s >> u. :- objects a :: t; b :: u; c :: s; d :: t.`
abbrev pub sorts_and_objects : List Declaration
sorts_and_objects =
    part_declarations 0 1 (Sorts (Chain (codes "s" ∷ codes "t" ∷ []) ∷ Chain (codes "s" ∷ codes "u" ∷ []) ∷ []))
    ++ part_declarations 0 1 (Objects (
    record { members = map Name (codes "a" ∷ []); sort = codes "t" } ∷ record { members = map Name (codes "b" ∷ []); sort = codes "u" }
    ∷ record { members = map Name (codes "c" ∷ []); sort = codes "s" } ∷ record { members = map Name (codes "d" ∷ []); sort = codes "t" } ∷ []))

-- A sort has its own objects and those of the sorts below it, in declared order; `false` and `true` are 0 and 1.
abbrev pub SortsHaveObjects : Type 0
SortsHaveObjects =
    (members sorts_and_objects (codes "s") ≡ 2 ∷ 3 ∷ 4 ∷ 5 ∷ []) × (members sorts_and_objects (codes "t") ≡ 2 ∷ 5 ∷ [])
    × (members sorts_and_objects (codes "boolean") ≡ 0 ∷ 1 ∷ []) × (sort_names sorts_and_objects ≡ codes "boolean" ∷ codes "s" ∷ codes "t" ∷ codes "u" ∷ [])

-- A circle is refused as 7, a name that is taken as 4, and of two faults the least.
abbrev pub DeclarationsAreRefused : Type 0
DeclarationsAreRefused =
    (declaration_fault sorts_and_objects (part_declarations 0 1 (Sorts (Chain (codes "t" ∷ codes "s" ∷ []) ∷ []))) ≡ Some 7)
    × (declaration_fault sorts_and_objects (part_declarations 0 1 (Objects (
    record { members = map Name (codes "e" ∷ []); sort = codes "v" } ∷ record { members = map Name (codes "a" ∷ []); sort = codes "u" } ∷ []))) ≡ Some 4)
    × (declaration_fault [] (part_declarations 0 1 (Sorts (Names (codes "s" ∷ []) ∷ Names (codes "s" ∷ []) ∷ []))) ≡ Some 4)
    × (declaration_fault sorts_and_objects (part_declarations 0 1 (Sorts (Chain (codes "u" ∷ codes "v" ∷ []) ∷ []))) ≡ None)

-- `:- constants at :: inertialFluent(s); go :: exogenousAction; to :: attribute(s) of go; p(t) :: simpleFluent.`
abbrev pub moving : List Declaration
moving = sorts_and_objects ++ part_declarations 0 1 (Constants (
    record { shapes = record { name = codes "at"; sorts = [] } ∷ []; kind = Plain words.Inertial (Some (codes "s")) }
    ∷ record { shapes = record { name = codes "go"; sorts = [] } ∷ []; kind = Plain words.ExogenousAction None }
    ∷ record { shapes = record { name = codes "to"; sorts = [] } ∷ []; kind = Attribute (codes "s") (record { name = codes "go"; sorts = [] }) }
    ∷ record { shapes = record { name = codes "p"; sorts = codes "t" ∷ [] } ∷ []; kind = Plain words.Simple None } ∷ []))

-- Fluents stand before actions, instances in the order of their arguments; an attribute has `none` before its objects.
abbrev pub ConstantsAreGround : Type 0
ConstantsAreGround =
    (ground_fluents moving ≡
    record { symbol = 0; args = []; kind = kinds.Simple; domain = 2 ∷ 3 ∷ 4 ∷ 5 ∷ [] }
    ∷ record { symbol = 3; args = 2 ∷ []; kind = kinds.Simple; domain = 0 ∷ 1 ∷ [] }
    ∷ record { symbol = 3; args = 5 ∷ []; kind = kinds.Simple; domain = 0 ∷ 1 ∷ [] } ∷ [])
    × (ground_actions moving ≡
    record { symbol = 1; args = []; kind = kinds.Action; domain = 0 ∷ 1 ∷ [] }
    ∷ record { symbol = 2; args = []; kind = kinds.Action; domain = none_value ∷ 2 ∷ 3 ∷ 4 ∷ 5 ∷ [] } ∷ [])

-- An attribute's action is a Boolean action with the attribute's arguments: a fluent is refused as 7, more arguments as 6,
-- an unknown one as 5, itself as 7.
abbrev pub attribute_of : List ℕ → List (List ℕ) → List Declaration
attribute_of action sorts = part_declarations 0 1 (Constants (
    record { shapes = record { name = codes "by"; sorts = [] } ∷ []; kind = Attribute (codes "s") (record { name = action; sorts = sorts }) } ∷ []))

abbrev pub AttributesAreRefused : Type 0
AttributesAreRefused =
    (declaration_fault moving (attribute_of (codes "at") []) ≡ Some 7) × (declaration_fault moving (attribute_of (codes "to") []) ≡ Some 7)
    × (declaration_fault moving (attribute_of (codes "go") (codes "t" ∷ [])) ≡ Some 6) × (declaration_fault moving (attribute_of (codes "went") []) ≡ Some 5)
    × (declaration_fault moving (attribute_of (codes "by") []) ≡ Some 7) × (declaration_fault moving (attribute_of (codes "go") []) ≡ None)

-- `:- sorts s. :- constants c :: simpleFluent(s).`, the second of them in line 2: a constant without a value is refused as
-- 12, at its declaration; without it nothing is.
abbrev pub EmptyDomainsAreRefused : Type 0
EmptyDomainsAreRefused =
    (signature_refusal (part_declarations 0 1 (Sorts (Names (codes "s" ∷ []) ∷ [])) ++ part_declarations 0 2 (Constants (
    record { shapes = record { name = codes "c"; sorts = [] } ∷ []; kind = Plain words.Simple (Some (codes "s")) } ∷ []))) ≡
    Some (record { number = 12; file = 0; line = 2; limit = None }))
    × (signature_refusal moving ≡ None)
