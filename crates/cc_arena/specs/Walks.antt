-- What a walk over a term from its end reads: a node, and the number of its operands that are true.
use Rattle.std.specs.Prelude.{◌≡◌, ℕ, Bool, true, false, not, ◌==◌, List, ◌++◌, length, take}
use Rattle.cc_defs.specs.declared.node.Node.{Node}
use Rattle.cc_defs.specs.declared.node.Node.TheVariants as nodes
use Rattle.cc_defs.specs.Terms.{Ground, postfix, truth}

-- how many operands stand before a node
abbrev pub arity : Node → ℕ
arity nodes.True = 0
arity nodes.False = 0
arity (nodes.Atom constant value) = 0
arity nodes.Not = 1
arity (nodes.All count) = count
arity (nodes.Any count) = count
arity nodes.Same = 2

-- the truth of a node so many of whose operands are true
abbrev pub decision : (ℕ → ℕ) → Node → ℕ → Bool
decision valuation nodes.True trues = true
decision valuation nodes.False trues = false
decision valuation (nodes.Atom constant value) trues = valuation constant == value
decision valuation nodes.Not trues = trues == 0
decision valuation (nodes.All count) trues = trues == count
decision valuation (nodes.Any count) trues = not (trues == 0)
decision valuation nodes.Same trues = not (trues == 1)

-- the nodes of a formula end here
abbrev pub EndsOperand : List Node → ℕ → Type 0
EndsOperand term end = (prefix : List Node) × (formula : Ground) × (take end term ≡ prefix ++ postfix formula)

-- each formula whose nodes end here has this truth, and its nodes begin there
abbrev pub IsWalked : List Node → (ℕ → ℕ) → ℕ → Bool → ℕ → Type 0
IsWalked term valuation end result begin =
    (prefix : List Node) → (formula : Ground) → take end term ≡ prefix ++ postfix formula → (result ≡ truth valuation formula) × (begin ≡ length prefix)

-- a term is written of one formula
abbrev pub OneFormula : Type 0
OneFormula = (first second : Ground) → postfix first ≡ postfix second → first ≡ second
