-- Ground laws and queries: what descriptions and queries stand for, with the terms of their formulas.
use Rattle.std.specs.Prelude.{◌≡◌, ℕ, List, [], ◌∷◌, map, flat_map, nat_eq, position, Option, Some, None}
use Rattle.std.specs.Option.{option_map}
use Rattle.cc_defs.specs.declared.node.GroundHead.{GroundHead}
use Rattle.cc_defs.specs.declared.node.GroundHead.TheVariants as heads
use Rattle.cc_defs.specs.declared.node.Node.{Node}
use Rattle.cc_defs.specs.declared.signature.At.{At}
use Rattle.cc_defs.specs.declared.signature.LawKind.{LawKind}
use Rattle.cc_defs.specs.declared.signature.LawKind.TheVariants as kinds
use Rattle.cc_defs.specs.Description.{Description}
use Rattle.cc_defs.specs.Environments.{Instance, Under, Together, instances}
use Rattle.cc_defs.specs.Nodes.{Side, Constant, Value, Absent, side, nodes_of}
use Rattle.cc_defs.specs.Resolved.{Formula, Head, Law, BaseLaw, Condition, Query, terms_of}
use Rattle.cc_defs.specs.Resolved as resolved
use Rattle.cc_defs.specs.Satisfaction.{Environment, giving}
use Rattle.cc_defs.specs.Terms.{postfix, all_of}
use Rattle.cc_defs.specs.Terms as terms
use Rattle.cc_defs.specs.Universe.{Universe}

-- `base` is the number of the base law that it is an instance of
pub record PlainGroundLaw : Type 0 where
  pub head : GroundHead
  pub body : List Node
  pub after : Option (List Node)
  pub kind : LawKind
  pub base : ℕ

-- ---- heads

abbrev pub head_at : ℕ → Option ℕ → Option GroundHead
head_at number (Some index) = Some (heads.Atom number index)
head_at number None = None

-- a constant has a value; there is no such head where there is no such constant, or the value is none of its own
abbrev pub head_of_sides : Side → Side → Option GroundHead
head_of_sides (Constant number values) (Value value) = head_at number (position (nat_eq value) values)
head_of_sides (Constant number values) other = None
head_of_sides (Value value) other = None
head_of_sides Absent other = None

abbrev pub ground_head : Universe → Environment → Head → Option GroundHead
ground_head u env (resolved.Atom symbol args value) = head_of_sides (side u env (resolved.Constant symbol (terms_of args))) (side u env value)
ground_head u env resolved.Falsity = Some heads.Falsity

-- ---- laws

-- a law whose head is this one; where the head is not there, there is none, but then the environment is none of the law's
abbrev pub law_with : Universe → ℕ → Law → Environment → Option GroundHead → List PlainGroundLaw
law_with u base law env None = []
law_with u base law env (Some head) = record {
  head = head;
  body = nodes_of u env law.body;
  after = option_map (nodes_of u env) law.after;
  kind = law.kind;
  base = base;
} ∷ []

-- `caused false after a & b`
abbrev pub pair_law : ℕ → ℕ × ℕ → PlainGroundLaw
pair_law base pair = record {
  head = heads.Falsity;
  body = postfix terms.Truth;
  after = Some (postfix (all_of (terms.Atom pair.0 1 ∷ terms.Atom pair.1 1 ∷ [])));
  kind = kinds.FluentDynamic;
  base = base;
}

-- that of an instance
abbrev pub law_of_instance : Universe → Instance → List PlainGroundLaw
law_of_instance u (Under base law values) = law_with u base law (giving values) (ground_head u (giving values) law.head)
law_of_instance u (Together base pair) = pair_law base pair ∷ []

-- the ground laws of base laws: one for each instance, in order
abbrev pub ground_laws : Universe → List BaseLaw → List PlainGroundLaw
ground_laws u laws = flat_map (law_of_instance u) (instances u laws)

-- ---- queries

pub record PlainGroundCondition : Type 0 where
  pub at : At
  pub nodes : List Node

pub record PlainGroundQuery : Type 0 where
  pub lo : ℕ
  pub hi : ℕ
  pub conditions : List PlainGroundCondition
  pub claim : Option PlainGroundCondition

-- conditions have no free variables
abbrev pub ground_condition : Universe → Condition → PlainGroundCondition
ground_condition u condition = record { at = condition.at; nodes = nodes_of u (giving []) condition.formula }

abbrev pub ground_query : Universe → ℕ × ℕ → Query → PlainGroundQuery
ground_query u range query = record {
  lo = range.0;
  hi = range.1;
  conditions = map (ground_condition u) query.conditions;
  claim = option_map (ground_condition u) query.claim;
}

-- ---- what they stand for

-- the ground laws stand for a description: they are those of its base laws, in order
abbrev pub StandFor : List PlainGroundLaw → Description → Type 0
StandFor laws d = laws ≡ ground_laws d.universe d.laws

-- a ground query stands for a query that has a range of horizons
abbrev pub StandsForQuery : PlainGroundQuery → Description → Query → Type 0
StandsForQuery made d query = (range : ℕ × ℕ) × (query.range ≡ Some range) × (made ≡ ground_query d.universe range query)
