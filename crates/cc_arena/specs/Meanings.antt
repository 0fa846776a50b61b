-- What terms, ground laws and ground queries mean: they are true where the formulas of base laws and queries are.
use Rattle.std.specs.Prelude.{◌≡◌, ℕ, Bool, false, ◌==◌, List, [], length, Option, Some, None}
use Rattle.std.specs.List.{AllByRecursion, AllZip}
use Rattle.cc_defs.specs.declared.node.GroundHead.{GroundHead}
use Rattle.cc_defs.specs.declared.node.GroundHead.TheVariants as heads
use Rattle.cc_defs.specs.declared.node.Node.{Node}
use Rattle.cc_defs.specs.Environments.{Instance, Under, Together, instances}
use Rattle.cc_defs.specs.GroundLaws.{PlainGroundLaw, PlainGroundCondition, PlainGroundQuery, pair_law}
use Rattle.cc_defs.specs.Resolved.{Formula, Head, Law, BaseLaw, Condition, Query}
use Rattle.cc_defs.specs.Satisfaction.{Environment, giving, satisfied, head_satisfied}
use Rattle.cc_defs.specs.Terms.{Ground, NamesBelow, postfix, truth}
use Rattle.cc_defs.specs.Universe.{Universe, constants_in}

-- The nodes are those of a term of ground constants, and it is true where the formula is satisfied under the environment,
-- for every valuation.
pub record Means (u : Universe) (env : Environment) (formula : Formula) (nodes : List Node) : Type 0 where
  pub term : Ground
  pub written : nodes ≡ postfix term
  pub names : AllByRecursion (NamesBelow (length (constants_in u))) nodes
  pub truth_is : (valuation : ℕ → ℕ) → truth valuation term ≡ satisfied u valuation env formula

-- a part that may be missing
abbrev pub MeansPart : Universe → Environment → Option Formula → Option (List Node) → Type 0
MeansPart u env (Some formula) (Some nodes) = Means u env formula nodes
MeansPart u env (Some formula) None = ⊥
MeansPart u env None (Some nodes) = ⊥
MeansPart u env None None = Unit {0}

-- the truth of a ground head
abbrev pub head_truth : (ℕ → ℕ) → GroundHead → Bool
head_truth valuation (heads.Atom constant value) = valuation constant == value
head_truth valuation heads.Falsity = false

abbrev pub MeansHead : Universe → Environment → Head → GroundHead → Type 0
MeansHead u env head found = (valuation : ℕ → ℕ) → head_truth valuation found ≡ head_satisfied u valuation env head

-- a ground law means a law under an environment
pub record MeansLaw (u : Universe) (base : ℕ) (law : Law) (env : Environment) (made : PlainGroundLaw) : Type 0 where
  pub head : MeansHead u env law.head made.head
  pub body : Means u env law.body made.body
  pub after : MeansPart u env law.after made.after
  pub kind : made.kind ≡ law.kind
  pub number : made.base ≡ base

-- or says of two actions that they are not done at once
abbrev pub MeansInstance : Universe → Instance → PlainGroundLaw → Type 0
MeansInstance u (Under base law values) made = MeansLaw u base law (giving values) made
MeansInstance u (Together base pair) made = made ≡ pair_law base pair

-- The ground laws mean base laws: there is one for each instance, in order.
abbrev pub MeanLaws : Universe → List BaseLaw → List PlainGroundLaw → Type 0
MeanLaws u laws made = AllZip (MeansInstance u) (instances u laws) made

pub record MeansCondition (u : Universe) (condition : Condition) (made : PlainGroundCondition) : Type 0 where
  pub at : made.at ≡ condition.at
  pub nodes : Means u (giving []) condition.formula made.nodes

abbrev pub MeansClaim : Universe → Option Condition → Option PlainGroundCondition → Type 0
MeansClaim u (Some claim) (Some made) = MeansCondition u claim made
MeansClaim u (Some claim) None = ⊥
MeansClaim u None (Some made) = ⊥
MeansClaim u None None = Unit {0}

-- conditions in order
pub record MeansQuery (u : Universe) (query : Query) (made : PlainGroundQuery) : Type 0 where
  pub conditions : AllZip (MeansCondition u) query.conditions made.conditions
  pub claim : MeansClaim u query.claim made.claim
