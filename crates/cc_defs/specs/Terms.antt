-- Ground terms: their trees, how a tree is written as a list of nodes, and its truth.
use Rattle.std.specs.Prelude.{◌≡◌, ℕ, ◌+◌, ◌<◌, Bool, true, false, not, ◌&&◌, ◌||◌, ◌==◌, List, [], ◌∷◌, ◌++◌, Some, slice_get}
use Rattle.std.specs.Bool.{beq}
use Rattle.std.specs.List.{AllByRecursion}
use Rattle.cc_defs.specs.declared.node.Node.{Node}
use Rattle.cc_defs.specs.declared.node.Node.TheVariants as nodes

-- a formula of ground constants, each said to have the value of an index
mutual
  pub data Ground : Type 0 where
    Truth : Ground
    Falsehood : Ground
    Atom : (constant : ℕ) → (value : ℕ) → Ground
    Not : Ground → Ground
    All : Operands → Ground
    Any : Operands → Ground
    Same : Ground → Ground → Ground

  pub data Operands : Type 0 where
    nothing : Operands
    and_then : Operands → Ground → Operands

abbrev pub operand_count : Operands → ℕ
operand_count nothing = 0
operand_count (and_then operands last) = operand_count operands + 1

-- formulas as operands, behind others
abbrev pub operands_behind : Operands → List Ground → Operands
operands_behind operands [] = operands
operands_behind operands (formula ∷ formulas) = operands_behind (and_then operands formula) formulas

abbrev pub all_of : List Ground → Ground
all_of formulas = All (operands_behind nothing formulas)

abbrev pub any_of : List Ground → Ground
any_of formulas = Any (operands_behind nothing formulas)

-- the nodes of a formula: each node stands behind its operands
abbrev mutual
  pub postfix : Ground → List Node
  postfix Truth = nodes.True ∷ []
  postfix Falsehood = nodes.False ∷ []
  postfix (Atom constant value) = nodes.Atom constant value ∷ []
  postfix (Not operand) = postfix operand ++ nodes.Not ∷ []
  postfix (All operands) = postfixes operands ++ nodes.All (operand_count operands) ∷ []
  postfix (Any operands) = postfixes operands ++ nodes.Any (operand_count operands) ∷ []
  postfix (Same first second) = postfix first ++ postfix second ++ nodes.Same ∷ []

  pub postfixes : Operands → List Node
  postfixes nothing = []
  postfixes (and_then operands last) = postfixes operands ++ postfix last

-- the truth of a formula where each ground constant has the value of the index that the valuation gives it
abbrev mutual
  pub truth : (ℕ → ℕ) → Ground → Bool
  truth valuation Truth = true
  truth valuation Falsehood = false
  truth valuation (Atom constant value) = valuation constant == value
  truth valuation (Not operand) = not (truth valuation operand)
  truth valuation (All operands) = all_true valuation operands
  truth valuation (Any operands) = any_true valuation operands
  truth valuation (Same first second) = beq (truth valuation first) (truth valuation second)

  pub all_true : (ℕ → ℕ) → Operands → Bool
  all_true valuation nothing = true
  all_true valuation (and_then operands last) = all_true valuation operands && truth valuation last

  pub any_true : (ℕ → ℕ) → Operands → Bool
  any_true valuation nothing = false
  any_true valuation (and_then operands last) = any_true valuation operands || truth valuation last

-- the term has this truth: so has each formula whose nodes they are
abbrev pub HasTruth : List Node → (ℕ → ℕ) → Bool → Type 0
HasTruth term valuation result = (formula : Ground) → term ≡ postfix formula → result ≡ truth valuation formula

-- ---- terms over constants with so many values each

-- an atom's constant is among so many
abbrev pub NamesBelow : ℕ → Node → Type 0
NamesBelow count (nodes.Atom constant value) = constant < count
NamesBelow count nodes.True = Unit {0}
NamesBelow count nodes.False = Unit {0}
NamesBelow count nodes.Not = Unit {0}
NamesBelow count (nodes.All operands) = Unit {0}
NamesBelow count (nodes.Any operands) = Unit {0}
NamesBelow count nodes.Same = Unit {0}

-- a term is the nodes of a formula, and its constants are among so many
pub record IsTerm (count : ℕ) (term : List Node) : Type 0 where
  pub formula : Ground
  pub written : term ≡ postfix formula
  pub names : AllByRecursion (NamesBelow count) term

-- an atom's constant has a size, and its value index is below it
abbrev pub Fits : List ℕ → Node → Type 0
Fits sizes (nodes.Atom constant value) = (size : ℕ) × (slice_get sizes constant ≡ Some size) × (value < size)
Fits sizes nodes.True = Unit {0}
Fits sizes nodes.False = Unit {0}
Fits sizes nodes.Not = Unit {0}
Fits sizes (nodes.All operands) = Unit {0}
Fits sizes (nodes.Any operands) = Unit {0}
Fits sizes nodes.Same = Unit {0}

-- a term over constants of these domain sizes
pub record IsTermOver (sizes : List ℕ) (term : List Node) : Type 0 where
  pub formula : Ground
  pub written : term ≡ postfix formula
  pub fits : AllByRecursion (Fits sizes) term
