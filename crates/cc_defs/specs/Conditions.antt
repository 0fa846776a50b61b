-- What is true of the ground laws and queries that a grounder makes, and what the theory of a horizon asks of them.
use Rattle.std.specs.Prelude.{◌≡◌, ℕ, ◌<◌, ◌≤◌, List, ◌∷◌, length, slice_get, Some, IsTrue, IsFalse, IsNone, IfSome}
use Rattle.std.specs.List.{AllByRecursion}
use Rattle.cc_defs.specs.declared.node.GroundHead.{GroundHead}
use Rattle.cc_defs.specs.declared.node.GroundHead.TheVariants as heads
use Rattle.cc_defs.specs.declared.node.Node.{Node}
use Rattle.cc_defs.specs.declared.signature.Const.{Const}
use Rattle.cc_defs.specs.declared.signature.LawKind.{LawKind}
use Rattle.cc_defs.specs.declared.signature.LawKind.TheVariants as law_kinds
use Rattle.cc_defs.specs.declared.signature.Symbol.{Symbol}
use Rattle.cc_defs.specs.Declarations.{is_action}
use Rattle.cc_defs.specs.Description.{Description, domain_sizes}
use Rattle.cc_defs.specs.Forms.{is_simple}
use Rattle.cc_defs.specs.GroundLaws.{PlainGroundLaw, PlainGroundQuery}
use Rattle.cc_defs.specs.Signatures.{Signature}
use Rattle.cc_defs.specs.Terms.{IsTermOver}
use Rattle.cc_defs.specs.Universe.{Universe, constants_in, objects_of, values_of}

-- ---- constants and kinds

-- the constant is one of the symbol with its number, and has its kind
abbrev pub HasKindOf : List Symbol → Const → Type 0
HasKindOf symbols constant = (symbol : Symbol) × (slice_get symbols constant.symbol ≡ Some symbol) × (symbol.kind ≡ constant.kind)

-- the fluents are no actions, the actions are, and each constant has the kind of its symbol
pub record HaveTheirKinds (u : Universe) : Type 0 where
  pub fluents : AllByRecursion (λ constant. IsFalse (is_action constant.kind)) u.fluents
  pub actions : AllByRecursion (λ constant. IsTrue (is_action constant.kind)) u.actions
  pub symbols : AllByRecursion (HasKindOf u.symbols) (constants_in u)

-- the sort `boolean`, which is sort 0, begins with `false` and `true`, and each constant has the values of its symbol
pub record HaveTheirValues (u : Universe) : Type 0 where
  pub others : List ℕ
  pub booleans : objects_of u 0 ≡ 0 ∷ 1 ∷ others
  pub values : AllByRecursion (λ constant. constant.domain ≡ values_of u constant.symbol) (constants_in u)

-- the signature is that of the description
pub record IsSignatureOfDescription (d : Description) (signature : Signature) : Type 0 where
  pub fluents : signature.fluents ≡ d.universe.fluents
  pub actions : signature.actions ≡ d.universe.actions
  pub numbers : signature.numbers ≡ d.universe.numbers

-- ---- ground laws, by their kinds: fluents have the first numbers, the actions those behind them

-- an atom of a fluent, with one of its values
abbrev pub IsGroundFluentHead : Universe → GroundHead → Type 0
IsGroundFluentHead u (heads.Atom constant value) = (found : Const) × (slice_get u.fluents constant ≡ Some found) × (value < length found.domain)
IsGroundFluentHead u heads.Falsity = Unit {0}

-- an atom of a simple fluent
abbrev pub IsGroundSimpleHead : Universe → GroundHead → Type 0
IsGroundSimpleHead u (heads.Atom constant value) =
    (found : Const) × (slice_get u.fluents constant ≡ Some found) × (value < length found.domain) × IsTrue (is_simple found.kind)
IsGroundSimpleHead u heads.Falsity = Unit {0}

-- an atom of an action
abbrev pub IsGroundActionHead : Universe → GroundHead → Type 0
IsGroundActionHead u (heads.Atom constant value) =
    (found : Const) × (length u.fluents ≤ constant) × (slice_get (constants_in u) constant ≡ Some found) × (value < length found.domain)
IsGroundActionHead u heads.Falsity = Unit {0}

-- a term of fluents; a term of any constants
abbrev pub IsFluentTerm : Universe → List Node → Type 0
IsFluentTerm u term = IsTermOver (domain_sizes u.fluents) term

abbrev pub IsTermOf : Universe → List Node → Type 0
IsTermOf u term = IsTermOver (domain_sizes (constants_in u)) term

pub record IsGroundStatic (u : Universe) (law : PlainGroundLaw) : Type 0 where
  pub head : IsGroundFluentHead u law.head
  pub body : IsFluentTerm u law.body
  pub after : IsNone law.after

pub record IsGroundActionDynamic (u : Universe) (law : PlainGroundLaw) : Type 0 where
  pub head : IsGroundActionHead u law.head
  pub body : IsTermOf u law.body
  pub after : IsNone law.after

pub record IsGroundFluentDynamic (u : Universe) (law : PlainGroundLaw) : Type 0 where
  pub head : IsGroundSimpleHead u law.head
  pub body : IsFluentTerm u law.body
  pub after : List Node
  pub written : law.after ≡ Some after
  pub term : IsTermOf u after

abbrev pub IsGroundOfKind : LawKind → Universe → PlainGroundLaw → Type 0
IsGroundOfKind law_kinds.Static u law = IsGroundStatic u law
IsGroundOfKind law_kinds.ActionDynamic u law = IsGroundActionDynamic u law
IsGroundOfKind law_kinds.FluentDynamic u law = IsGroundFluentDynamic u law

abbrev pub AreGroundLaws : Universe → List PlainGroundLaw → Type 0
AreGroundLaws u laws = AllByRecursion (λ law. IsGroundOfKind law.kind u law) laws

-- ---- ground queries

pub record IsGroundQuery (u : Universe) (query : PlainGroundQuery) : Type 0 where
  pub conditions : AllByRecursion (λ condition. IsTermOf u condition.nodes) query.conditions
  pub claim : IfSome query.claim (λ claim. IsTermOf u claim.nodes)
