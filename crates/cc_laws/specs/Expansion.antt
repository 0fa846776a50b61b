-- The base laws that a statement stands for, in order.
use Rattle.std.specs.Prelude.{◌≡◌, ℕ, ◌+◌, Bool, true, false, ◌&&◌, if◌then◌else◌, List, [], ◌∷◌, ◌++◌, length, map, flat_map, Option, Some, None, is_none, unwrap_or}
use Rattle.std.specs.Option.{option_map}
use Rattle.cc_defs.specs.declared.law.Range.{Range}
use Rattle.cc_defs.specs.declared.law.Range.TheVariants as ranges
use Rattle.cc_defs.specs.declared.signature.LawKind.{LawKind}
use Rattle.cc_defs.specs.declared.signature.LawKind.TheVariants as law_kinds
use Rattle.cc_defs.specs.declared.signature.Symbol.{Symbol}
use Rattle.cc_defs.specs.declared.tree.KindWord.{KindWord}
use Rattle.cc_defs.specs.declared.tree.KindWord.TheVariants as kind_words
use Rattle.cc_defs.specs.Declarations.{Declaration}
use Rattle.cc_defs.specs.Forms.{is_action_symbol}
use Rattle.cc_defs.specs.Trees.{PlainTerm, Applied, PlainTree, PlainLaw, PlainKind, PlainShape, PlainConstItem, PlainPart, PlainStatement}
use Rattle.cc_defs.specs.Trees as trees
use Rattle.cc_defs.specs.Resolved.{Term, Terms, Formula, Head, Law, BaseLaw}
use Rattle.cc_defs.specs.Resolved as resolved
use Rattle.cc_laws.specs.FormulaFaults.{has_action, is_fluent_formula}
use Rattle.cc_laws.specs.Heads.{definite_heads, listed}
use Rattle.cc_laws.specs.LawFaults.{law_refusal, law_variables}
use Rattle.cc_laws.specs.Resolving.{Binding, numbered_from, brackets, alone, resolve, resolve_sums}
use Rattle.cc_laws.specs.Vocabulary.{Vocabulary, vocabulary, Meaning, Constant, meaning, sort_of_entry}

-- ---- the law `caused F if G after H` that a law is short for

-- with falsity where there is no head
pub record Caused : Type 0 where
  pub head : Option PlainTree
  pub body : Option PlainTree
  pub after : Option PlainTree

abbrev pub caused : Option PlainTree → Option PlainTree → Option PlainTree → Caused
caused head body after = record { head = head; body = body; after = after }

-- `F & G`, where G may be missing
abbrev pub both : PlainTree → Option PlainTree → PlainTree
both f None = f
both f (Some g) = trees.Both f g

-- the effect of actions A on fluents, one step later; on actions, at once
abbrev pub effect : Bool → PlainTree → PlainTree → Option PlainTree → Caused
effect true a f g = caused (Some f) None (Some (both a g))
effect false a f g = caused (Some f) (Some (both a g)) None

-- ---- base laws

-- what the base laws of a statement have in common: the ranges of its variables, its test, what its formulas see, and the
-- number of the first bracket behind the test's
pub record Frame : Type 0 where
  pub ranges : List Range
  pub test : Formula
  pub scope : List Binding
  pub next : ℕ
  pub file : ℕ
  pub line : ℕ

-- the class of a law of one of the three forms
abbrev pub class_of : List Symbol → Head → Option Formula → LawKind
class_of symbols head (Some formula) = law_kinds.FluentDynamic
class_of symbols (resolved.Atom symbol args value) None = if is_action_symbol symbols symbol then law_kinds.ActionDynamic else law_kinds.Static
class_of symbols resolved.Falsity None = law_kinds.Static

abbrev pub base_law : Vocabulary → Frame → Head → Formula → Option Formula → BaseLaw
base_law v frame head body after = resolved.One (record {
  ranges = frame.ranges;
  head = head;
  body = body;
  after = after;
  test = frame.test;
  kind = class_of v.symbols head after;
  file = frame.file;
  line = frame.line;
})

-- a part that is not written is true, and has no brackets
abbrev pub part : Vocabulary → List Binding → ℕ → Option PlainTree → Formula
part v scope next None = resolved.Truth
part v scope next (Some f) = resolve v scope next f

abbrev pub part_brackets : Option PlainTree → ℕ
part_brackets None = 0
part_brackets (Some f) = brackets f

abbrev pub is_falsity_head : Head → Bool
is_falsity_head resolved.Falsity = true
is_falsity_head (resolved.Atom symbol args value) = false

-- the parts of a head
abbrev pub head_parts : Vocabulary → List Binding → Option PlainTree → List Head
head_parts v scope None = resolved.Falsity ∷ []
head_parts v scope (Some f) = unwrap_or (definite_heads v scope f) []

abbrev pub part_acts : Vocabulary → Option PlainTree → Bool
part_acts v None = false
part_acts v (Some f) = has_action v f

-- `caused F if G` with an action in F denies, by the part `false` of F, the steps at which G holds
abbrev pub denies_step : Vocabulary → Caused → Head → Bool
denies_step v law head = is_none law.after && (part_acts v law.head && is_falsity_head head)

-- the law of one part of the head; the brackets of the `if` part have their numbers before those of the `after` part
abbrev pub law_for : Vocabulary → Frame → Caused → Head → BaseLaw
law_for v frame law head =
    if denies_step v law head then base_law v frame head resolved.Truth (Some (part v frame.scope frame.next law.body))
    else base_law v frame head (part v frame.scope frame.next law.body) (option_map (resolve v frame.scope (frame.next + part_brackets law.body)) law.after)

-- one base law for each part of the head
abbrev pub split : Vocabulary → Frame → Caused → List BaseLaw
split v frame law = map (law_for v frame law) (head_parts v frame.scope law.head)

-- ---- laws about each value of a constant: the value variable comes behind the others

-- which parts say that the constant has the value
pub data Persistence : Type 0 where
  Exogenous : Persistence
  Inertial : Persistence
  Rigid : Persistence

abbrev pub body_of : Persistence → Formula → Formula
body_of Exogenous equal = equal
body_of Inertial equal = equal
body_of Rigid equal = resolved.Truth

abbrev pub after_of : Persistence → Formula → Option Formula
after_of Exogenous equal = None
after_of Inertial equal = Some equal
after_of Rigid equal = Some equal

abbrev pub with_value : Frame → ℕ → Frame
with_value frame symbol = record frame { ranges = frame.ranges ++ ranges.Domain symbol ∷ [] }

abbrev pub value_law : Vocabulary → Frame → Persistence → ℕ → Terms → BaseLaw
value_law v frame persistence symbol args =
    let value = resolved.Variable (length frame.ranges)
    in let equal = resolved.Equal (resolved.Constant symbol args) value
    in base_law v (with_value frame symbol) (resolved.Atom symbol (listed args) value) (body_of persistence equal) (after_of persistence equal)

abbrev pub subject_meant : Vocabulary → Frame → Persistence → Meaning → Terms → List BaseLaw
subject_meant v frame persistence (Constant number symbol) args = value_law v frame persistence number args ∷ []
subject_meant v frame persistence means args = []

abbrev pub subject_laws : Vocabulary → Frame → Persistence → PlainTerm → List BaseLaw
subject_laws v frame persistence (Applied name args) = subject_meant v frame persistence (meaning v name) (resolve_sums v frame.scope args)

-- ---- the base laws of a law

abbrev pub sort_ranges : Vocabulary → List ℕ → List Range
sort_ranges v variables = map (λ variable. ranges.Sort (sort_of_entry v.variables variable)) variables

-- The variables of a law have the numbers from 0 on, the value variable the one behind them, where there is one; the brackets
-- have those behind, the test's first.
abbrev pub law_frame : ℕ → Vocabulary → ℕ → List ℕ → Option PlainTree → Frame
law_frame file v line variables test =
    let scope = numbered_from 0 variables
    in let first = length variables + 1
    in record {
      ranges = sort_ranges v variables;
      test = part v scope first test;
      scope = scope;
      next = first + part_brackets test;
      file = file;
      line = line;
    }

abbrev pub laws_with : Vocabulary → Frame → PlainLaw → List BaseLaw
laws_with v frame (trees.Exogenous c) = subject_laws v frame Exogenous c
laws_with v frame (trees.Inertial c) = subject_laws v frame Inertial c
laws_with v frame trees.NoConcurrency = resolved.NoConcurrency frame.file frame.line ∷ []
laws_with v frame (trees.Caused f g h) = split v frame (caused (Some f) g h)
laws_with v frame (trees.Constraint f) = split v frame (caused None (Some (trees.Not f)) None)
laws_with v frame (trees.Always f) = split v frame (caused None None (Some (trees.Not f)))
laws_with v frame (trees.Nonexecutable f g) = split v frame (caused None None (Some (both f g)))
laws_with v frame (trees.Default f g h) = split v frame (caused (Some f) (Some (both f g)) h)
laws_with v frame (trees.Causes a f g) = split v frame (effect (is_fluent_formula v f) a f g)
laws_with v frame (trees.MayCause a f g) = split v frame (caused (Some f) (Some f) (Some (both a g)))

abbrev pub laws_in : ℕ → Vocabulary → ℕ → PlainLaw → Option PlainTree → List BaseLaw
laws_in file v line law test = laws_with v (law_frame file v line (law_variables v law) test) law

-- ---- the base laws of a declared constant

-- variables by their places, from this one on, one for each sort
abbrev pub places : ℕ → List ℕ → Terms
places place [] = resolved.NoTerms
places place (sort ∷ sorts) = resolved.MoreTerms (resolved.Variable place) (places (place + 1) sorts)

abbrev pub shape_frame : ℕ → ℕ → List ℕ → Frame
shape_frame file line sorts = record { ranges = map ranges.Sort sorts; test = resolved.Truth; scope = []; next = length sorts + 1; file = file; line = line }

-- An attribute c of an action a has the value `none` exactly where a is not done.
abbrev pub attribute_law : Vocabulary → Frame → ℕ → ℕ → Terms → BaseLaw
attribute_law v frame symbol action args =
    base_law v frame resolved.Falsity resolved.Truth (Some (resolved.Not (resolved.Same
    (resolved.Equal (resolved.Constant symbol args) resolved.Nothing)
    (resolved.Not (alone (resolved.Constant action args))))))

abbrev pub attribute_laws : Vocabulary → Frame → ℕ → Option ℕ → Terms → List BaseLaw
attribute_laws v frame symbol None args = []
attribute_laws v frame symbol (Some action) args = value_law v frame Exogenous symbol args ∷ attribute_law v frame symbol action args ∷ []

-- which law the word of a kind stands for
abbrev pub persistence_for : KindWord → Option Persistence
persistence_for kind_words.Inertial = Some Inertial
persistence_for kind_words.ExogenousAction = Some Exogenous
persistence_for kind_words.Rigid = Some Rigid
persistence_for word = None

abbrev pub lasting_laws : Vocabulary → Frame → Option Persistence → ℕ → Terms → List BaseLaw
lasting_laws v frame None symbol args = []
lasting_laws v frame (Some persistence) symbol args = value_law v frame persistence symbol args ∷ []

abbrev pub word_laws : Vocabulary → Frame → KindWord → ℕ → Terms → List BaseLaw
word_laws v frame word symbol args = lasting_laws v frame (persistence_for word) symbol args

abbrev pub kind_laws : Vocabulary → Frame → PlainKind → ℕ → Symbol → Terms → List BaseLaw
kind_laws v frame (trees.Plain word sort) number symbol args = word_laws v frame word number args
kind_laws v frame (trees.Attribute sort action) number symbol args = attribute_laws v frame number symbol.attribute args

abbrev pub constant_laws : ℕ → Vocabulary → ℕ → PlainKind → Meaning → List BaseLaw
constant_laws file v line kind (Constant number symbol) =
    kind_laws v (shape_frame file line symbol.sorts) kind number symbol (places 0 symbol.sorts)
constant_laws file v line kind means = []

abbrev pub item_laws : ℕ → Vocabulary → ℕ → PlainConstItem → List BaseLaw
item_laws file v line item = flat_map (λ shape. constant_laws file v line item.kind (meaning v shape.name)) item.shapes

-- ---- the base laws of a statement

abbrev pub base_laws : ℕ → Vocabulary → ℕ → PlainPart → List BaseLaw
base_laws file v line (trees.Law law test) = laws_in file v line law test
base_laws file v line (trees.Constants items) = flat_map (item_laws file v line) items
base_laws file v line part = []

-- the statement has no fault, and these are its base laws
abbrev pub Expands : ℕ → List Declaration → PlainStatement → List BaseLaw → Type 0
Expands file left statement laws =
    (law_refusal file (vocabulary left) statement ≡ None) × (laws ≡ base_laws file (vocabulary left) statement.line statement.part)
