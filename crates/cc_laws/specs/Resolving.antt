-- Formulas with numbers in place of names. A name that means nothing there is refused before, and `none` stands for it.
use Rattle.std.specs.Prelude.{Bool, true, false, ℕ, zero, suc, ◌+◌, ◌==◌, if◌then◌else◌, List, [], ◌∷◌, Option, Some, None}
use Rattle.cc_defs.specs.Trees.{Comparison, PlainTerm, Applied, PlainSums, NoSums, MoreSums, PlainSum, Summed, PlainPiece, Numeral, Called, PlainAddends, NoAddends, MoreAddends, PlainTree}
use Rattle.cc_defs.specs.Trees as trees
use Rattle.cc_defs.specs.Resolved.{Term, Terms, Formula}
use Rattle.cc_defs.specs.Resolved as resolved
use Rattle.cc_laws.specs.Vocabulary.{Vocabulary, Meaning, Unknown, Nothing, Object, Variable, Constant, meaning}

-- ---- the numbers of variables

-- a variable of the table, and the number that it has in the law or the query
pub record Binding : Type 0 where
  pub variable : ℕ
  pub number : ℕ

-- The variables that a place of a formula sees, those of the innermost bracket first: what number a variable has there.
abbrev pub number_in : List Binding → ℕ → Option ℕ
number_in [] variable = None
number_in (binding ∷ scope) variable = if binding.variable == variable then Some binding.number else number_in scope variable

-- the variables of a law have the numbers from this one on
abbrev pub numbered_from : ℕ → List ℕ → List Binding
numbered_from number [] = []
numbered_from number (variable ∷ variables) = record { variable = variable; number = number } ∷ numbered_from (number + 1) variables

-- how many brackets a formula has: each has a number of its own, in the order in which they stand
abbrev pub brackets : PlainTree → ℕ
brackets (trees.Bare term) = 0
brackets (trees.Compared comparison s t) = 0
brackets (trees.Paren f) = brackets f
brackets (trees.Not f) = brackets f
brackets (trees.Both f g) = brackets f + brackets g
brackets (trees.Either f g) = brackets f + brackets g
brackets (trees.Implies f g) = brackets f + brackets g
brackets (trees.Same f g) = brackets f + brackets g
brackets (trees.ForAll name f) = brackets f + 1
brackets (trees.Exists name f) = brackets f + 1

abbrev pub brackets_in : List PlainTree → ℕ
brackets_in [] = 0
brackets_in (formula ∷ formulas) = brackets formula + brackets_in formulas

-- ---- terms

abbrev pub variable_at : Option ℕ → Term
variable_at (Some number) = resolved.Variable number
variable_at None = resolved.Nothing

abbrev pub term_meant : List Binding → Meaning → Terms → Term
term_meant scope Unknown args = resolved.Nothing
term_meant scope Nothing args = resolved.Nothing
term_meant scope (Object number sort) args = resolved.Object number
term_meant scope (Variable number sort) args = variable_at (number_in scope number)
term_meant scope (Constant number symbol) args = resolved.Constant number args

abbrev pub joined : (minus : Bool) → Term → Term → Term
joined true s t = resolved.Minus s t
joined false s t = resolved.Plus s t

abbrev mutual
  pub resolve_term : Vocabulary → List Binding → PlainTerm → Term
  resolve_term v scope (Applied name args) = term_meant scope (meaning v name) (resolve_sums v scope args)

  pub resolve_sums : Vocabulary → List Binding → PlainSums → Terms
  resolve_sums v scope NoSums = resolved.NoTerms
  resolve_sums v scope (MoreSums first others) = resolved.MoreTerms (resolve_sum v scope first) (resolve_sums v scope others)

  -- a sum is grouped to the left
  pub resolve_sum : Vocabulary → List Binding → PlainSum → Term
  resolve_sum v scope (Summed first addends) = resolve_addends v scope (resolve_piece v scope first) addends

  pub resolve_piece : Vocabulary → List Binding → PlainPiece → Term
  resolve_piece v scope (Numeral number) = resolved.Number number
  resolve_piece v scope (Called term) = resolve_term v scope term

  pub resolve_addends : Vocabulary → List Binding → Term → PlainAddends → Term
  resolve_addends v scope made NoAddends = made
  resolve_addends v scope made (MoreAddends minus piece others) = resolve_addends v scope (joined minus made (resolve_piece v scope piece)) others

-- ---- formulas

-- a constant alone means that it is true
abbrev pub alone : Term → Formula
alone (resolved.Object zero) = resolved.Falsehood
alone (resolved.Object (suc zero)) = resolved.Truth
alone term = resolved.Equal term (resolved.Object 1)

-- a sign of order is one of the two that are less, or not greater
abbrev pub compared : Comparison → Term → Term → Formula
compared trees.IsEqual s t = resolved.Equal s t
compared trees.Differs s t = resolved.Not (resolved.Equal s t)
compared trees.IsLess s t = resolved.Less s t
compared trees.IsAtMost s t = resolved.AtMost s t
compared trees.IsMore s t = resolved.Less t s
compared trees.IsAtLeast s t = resolved.AtMost t s

-- what stands for a bracket with this number: its variable is seen inside, and hides an outer one of its name
abbrev pub resolve_bracket : (ℕ → ℕ → Formula → Formula) → List Binding → ℕ → Meaning → (List Binding → Formula) → Formula
resolve_bracket make scope number (Variable variable sort) inside = make number sort (inside (record { variable = variable; number = number } ∷ scope))
resolve_bracket make scope number means inside = resolved.Falsehood

-- a formula whose brackets have the numbers from `next` on
abbrev pub resolve : Vocabulary → List Binding → (next : ℕ) → PlainTree → Formula
resolve v scope next (trees.Bare term) = alone (resolve_term v scope term)
resolve v scope next (trees.Compared comparison s t) = compared comparison (resolve_sum v scope s) (resolve_sum v scope t)
resolve v scope next (trees.Paren f) = resolve v scope next f
resolve v scope next (trees.Not f) = resolved.Not (resolve v scope next f)
resolve v scope next (trees.Both f g) = resolved.Both (resolve v scope next f) (resolve v scope (next + brackets f) g)
resolve v scope next (trees.Either f g) = resolved.Either (resolve v scope next f) (resolve v scope (next + brackets f) g)
resolve v scope next (trees.Implies f g) = resolved.Implies (resolve v scope next f) (resolve v scope (next + brackets f) g)
resolve v scope next (trees.Same f g) = resolved.Same (resolve v scope next f) (resolve v scope (next + brackets f) g)
resolve v scope next (trees.ForAll name f) = resolve_bracket resolved.ForAll scope next (meaning v name) (λ inner. resolve v inner (next + 1) f)
resolve v scope next (trees.Exists name f) = resolve_bracket resolved.Exists scope next (meaning v name) (λ inner. resolve v inner (next + 1) f)

-- formulas one after another, whose brackets are numbered on
abbrev pub resolve_all : Vocabulary → (next : ℕ) → List PlainTree → List Formula
resolve_all v next [] = []
resolve_all v next (formula ∷ formulas) = resolve v [] next formula ∷ resolve_all v (next + brackets formula) formulas
