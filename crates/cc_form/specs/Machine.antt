-- The literals of terms, made node by node: a node takes the literals of its operands from a stack, and puts its own there.
use Rattle.std.specs.Prelude.{◌≡◌, ℕ, ◌+◌, ◌-◌, ◌<◌, ◌≤◌, List, [], ◌∷◌, ◌++◌, length, map, take, drop, Result, Ok, Err}
use Rattle.cc_arena.specs.Walks.{arity}
use Rattle.cc_defs.specs.Limits.{most_variables}
use Rattle.cc_defs.specs.declared.node.Node.{Node}
use Rattle.cc_defs.specs.declared.node.Node.TheVariants as nodes
use Rattle.cc_defs.specs.declared.refusal.Fault.{Fault}
use Rattle.cc_defs.specs.declared.refusal.Fault.TheVariants as faults
use Rattle.cc_defs.specs.declared.refusal.LimitAt.TheVariants as limits
use Rattle.cc_defs.specs.ClauseForms.{Made, positive, atom_variable, true_variable, made_all, made_any, made_same}
use Rattle.cc_defs.specs.ClauseLists.{Asserted}
use Rattle.cc_defs.specs.Clauses.{Literal, opposite}
use Rattle.cc_defs.specs.Refusals.{past}
use Rattle.cc_form.specs.declared.writer.Writer.{Writer}
use Rattle.cc_form.specs.Store.{Gives}

-- ---- terms whose constants are positions

abbrev pub moved_node : ℕ → Node → Node
moved_node by nodes.True = nodes.True
moved_node by nodes.False = nodes.False
moved_node by (nodes.Atom constant value) = nodes.Atom (by + constant) value
moved_node by nodes.Not = nodes.Not
moved_node by (nodes.All count) = nodes.All count
moved_node by (nodes.Any count) = nodes.Any count
moved_node by nodes.Same = nodes.Same

abbrev pub moved_nodes : ℕ → List Node → List Node
moved_nodes by term = map (moved_node by) term

-- ---- the machine

abbrev pub first_of : List Literal → Literal
first_of [] = positive 0
first_of (literal ∷ literals) = literal

abbrev pub second_of : List Literal → Literal
second_of [] = positive 0
second_of (literal ∷ literals) = first_of literals

abbrev pub plain_made : Literal → ℕ → Made
plain_made literal last = record { literal = literal; last = last; clauses = [] }

-- the literal of a node over those of its operands
abbrev pub made_node : List ℕ → Node → List Literal → ℕ → Made
made_node sizes nodes.True operands last = plain_made (positive (true_variable sizes)) last
made_node sizes nodes.False operands last = plain_made (opposite (positive (true_variable sizes))) last
made_node sizes (nodes.Atom position value) operands last = plain_made (positive (atom_variable sizes position value)) last
made_node sizes nodes.Not operands last = plain_made (opposite (first_of operands)) last
made_node sizes (nodes.All count) operands last = made_all (positive (true_variable sizes)) (record { literals = operands; last = last; clauses = [] }) operands
made_node sizes (nodes.Any count) operands last = made_any (positive (true_variable sizes)) (record { literals = operands; last = last; clauses = [] }) operands
made_node sizes nodes.Same operands last = made_same (plain_made (first_of operands) last) (plain_made (second_of operands) last)

-- the stack, the number of the last variable, and the clauses that were made
pub record Ran : Type 0 where
  pub stack : List Literal
  pub last : ℕ
  pub clauses : List (List Literal)

abbrev pub behind : List (List Literal) → Ran → Ran
behind clauses ran = record { stack = ran.stack; last = ran.last; clauses = clauses ++ ran.clauses }

abbrev pub stepped : List ℕ → Node → List Literal → ℕ → Ran
stepped sizes node stack last =
    let start = length stack - arity node
    in let made = made_node sizes node (drop start stack) last
    in record { stack = take start stack ++ made.literal ∷ []; last = made.last; clauses = made.clauses }

abbrev pub run : List ℕ → List Node → List Literal → ℕ → Ran
run sizes [] stack last = record { stack = stack; last = last; clauses = [] }
run sizes (node ∷ term) stack last =
    let ran = stepped sizes node stack last
    in behind ran.clauses (run sizes term ran.stack ran.last)

-- each node finds its operands, where so many literals are on the stack
abbrev pub IsReady : ℕ → List Node → Type 0
IsReady count [] = Unit {0}
IsReady count (node ∷ term) = (arity node ≤ count) × IsReady (count - arity node + 1) term

-- the literal of a term
abbrev pub made_nodes : List ℕ → ℕ → List Node → Made
made_nodes sizes last term =
    let ran = run sizes term [] last
    in record { literal = first_of ran.stack; last = ran.last; clauses = ran.clauses }

-- ---- what a writer does

-- a last variable is past its limit
abbrev pub IsPast : ℕ → Fault → Type 0
IsPast last (faults.Refused refusal) = (refusal ≡ past limits.Variables) × (most_variables < last)
IsPast last faults.OutOfMemory = Unit {0}

-- it has this last variable, and these clauses behind those that it had
pub record IsBuilt (old new : Writer) (last : ℕ) (clauses : List (List Literal)) : Type 0 where
  pub places : new.places ≡ old.places
  pub ends : new.last ≡ last
  pub within : last ≤ most_variables
  pub gives : Gives old.store.kept new.store.kept clauses

pub record IsRan (old new : Writer) (ran : Ran) : Type 0 where
  pub stack : new.stack.items ≡ ran.stack
  pub built : IsBuilt old new ran.last ran.clauses

-- the literal of a term is made, or the last variable is past its limit, or memory was wanting
abbrev pub Makes : Writer → Writer → Result Literal Fault → Made → Type 0
Makes old new (Ok literal) made = (literal ≡ made.literal) × IsBuilt old new made.last made.clauses
Makes old new (Err fault) made = IsPast made.last fault

-- the same of clauses alone
abbrev pub Adds : Writer → Writer → Result (Unit {0}) Fault → Asserted → Type 0
Adds old new (Ok done) made = IsBuilt old new made.last made.clauses
Adds old new (Err fault) made = IsPast made.last fault

-- the same of the stack
abbrev pub RunsTo : Writer → Writer → Result (Unit {0}) Fault → Ran → Type 0
RunsTo old new (Ok done) ran = IsRan old new ran
RunsTo old new (Err fault) ran = IsPast ran.last fault
