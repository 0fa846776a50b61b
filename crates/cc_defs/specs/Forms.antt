-- The three forms of causal laws, by the kinds of the constants that stand in them.
use Rattle.std.specs.Prelude.{◌≡◌, ℕ, ◌<◌, Bool, true, false, ◌&&◌, List, [], ◌∷◌, ◌++◌, length, slice_get, Option, Some, None, IsTrue, IsFalse, IsNone}
use Rattle.std.specs.List.{AllByRecursion, list_any}
use Rattle.cc_defs.specs.declared.signature.Kind.{Kind}
use Rattle.cc_defs.specs.declared.signature.Kind.TheVariants as kinds
use Rattle.cc_defs.specs.declared.signature.LawKind.{LawKind}
use Rattle.cc_defs.specs.declared.signature.LawKind.TheVariants as law_kinds
use Rattle.cc_defs.specs.declared.signature.Symbol.{Symbol}
use Rattle.cc_defs.specs.Declarations.{is_action}
use Rattle.cc_defs.specs.Resolved.{Term, Terms, Formula, Head, Law, BaseLaw}
use Rattle.cc_defs.specs.Resolved as resolved

-- ---- the symbols of constants

abbrev mutual
  -- those that a term has
  pub term_symbols : Term → List ℕ
  term_symbols (resolved.Constant symbol args) = symbol ∷ terms_symbols args
  term_symbols (resolved.Object number) = []
  term_symbols (resolved.Variable number) = []
  term_symbols resolved.Nothing = []
  term_symbols (resolved.Number number) = []
  term_symbols (resolved.Plus s t) = term_symbols s ++ term_symbols t
  term_symbols (resolved.Minus s t) = term_symbols s ++ term_symbols t

  pub terms_symbols : Terms → List ℕ
  terms_symbols resolved.NoTerms = []
  terms_symbols (resolved.MoreTerms first others) = term_symbols first ++ terms_symbols others

abbrev pub formula_symbols : Formula → List ℕ
formula_symbols resolved.Truth = []
formula_symbols resolved.Falsehood = []
formula_symbols (resolved.Equal s t) = term_symbols s ++ term_symbols t
formula_symbols (resolved.Less s t) = term_symbols s ++ term_symbols t
formula_symbols (resolved.AtMost s t) = term_symbols s ++ term_symbols t
formula_symbols (resolved.Not f) = formula_symbols f
formula_symbols (resolved.Both f g) = formula_symbols f ++ formula_symbols g
formula_symbols (resolved.Either f g) = formula_symbols f ++ formula_symbols g
formula_symbols (resolved.Implies f g) = formula_symbols f ++ formula_symbols g
formula_symbols (resolved.Same f g) = formula_symbols f ++ formula_symbols g
formula_symbols (resolved.ForAll variable sort f) = formula_symbols f
formula_symbols (resolved.Exists variable sort f) = formula_symbols f

abbrev pub is_action_at : Option Symbol → Bool
is_action_at (Some symbol) = is_action symbol.kind
is_action_at None = false

abbrev pub is_action_symbol : List Symbol → ℕ → Bool
is_action_symbol symbols number = is_action_at (slice_get symbols number)

-- whether a formula has an action constant
abbrev pub names_action : List Symbol → Formula → Bool
names_action symbols formula = list_any (is_action_symbol symbols) (formula_symbols formula)

abbrev pub is_simple : Kind → Bool
is_simple kinds.Simple = true
is_simple kinds.Determined = false
is_simple kinds.Action = false

abbrev pub is_simple_at : Option Symbol → Bool
is_simple_at (Some symbol) = is_simple symbol.kind
is_simple_at None = false

abbrev pub is_simple_symbol : List Symbol → ℕ → Bool
is_simple_symbol symbols number = is_simple_at (slice_get symbols number)

-- ---- formulas of declared constants

-- a constant is declared, and so is each that a formula has
abbrev pub IsDeclared : List Symbol → ℕ → Type 0
IsDeclared symbols number = number < length symbols

abbrev pub IsFormula : List Symbol → Formula → Type 0
IsFormula symbols formula = AllByRecursion (IsDeclared symbols) (formula_symbols formula)

-- a fluent formula has no action
abbrev pub IsFluentFormula : List Symbol → Formula → Type 0
IsFluentFormula symbols formula = IsFormula symbols formula × IsFalse (names_action symbols formula)

-- ---- heads: falsity, or an atom of a declared constant

-- an atom of a fluent
abbrev pub IsFluentHead : List Symbol → Head → Type 0
IsFluentHead symbols (resolved.Atom symbol args value) = IsDeclared symbols symbol × IsFalse (is_action_symbol symbols symbol)
IsFluentHead symbols resolved.Falsity = Unit {0}

-- an atom of a simple fluent
abbrev pub IsSimpleHead : List Symbol → Head → Type 0
IsSimpleHead symbols (resolved.Atom symbol args value) = IsTrue (is_simple_symbol symbols symbol)
IsSimpleHead symbols resolved.Falsity = Unit {0}

-- an atom of an action; falsity is a fluent formula
abbrev pub IsActionHead : List Symbol → Head → Type 0
IsActionHead symbols (resolved.Atom symbol args value) = IsTrue (is_action_symbol symbols symbol)
IsActionHead symbols resolved.Falsity = ⊥

-- ---- the forms

-- `caused F if G`, F and G of fluents
pub record IsStatic (symbols : List Symbol) (law : Law) : Type 0 where
  pub head : IsFluentHead symbols law.head
  pub body : IsFluentFormula symbols law.body
  pub after : IsNone law.after

-- `caused F if G`, F of actions
pub record IsActionDynamic (symbols : List Symbol) (law : Law) : Type 0 where
  pub head : IsActionHead symbols law.head
  pub body : IsFormula symbols law.body
  pub after : IsNone law.after

-- `caused F if G after H`, F and G of fluents, none of them in F statically determined
pub record IsFluentDynamic (symbols : List Symbol) (law : Law) : Type 0 where
  pub head : IsSimpleHead symbols law.head
  pub body : IsFluentFormula symbols law.body
  pub after : Formula
  pub written : law.after ≡ Some after
  pub declared : IsFormula symbols after

abbrev pub IsOfKind : LawKind → List Symbol → Law → Type 0
IsOfKind law_kinds.Static symbols law = IsStatic symbols law
IsOfKind law_kinds.ActionDynamic symbols law = IsActionDynamic symbols law
IsOfKind law_kinds.FluentDynamic symbols law = IsFluentDynamic symbols law

-- a base law has the form of its kind
abbrev pub HasForm : List Symbol → BaseLaw → Type 0
HasForm symbols (resolved.One law) = IsOfKind law.kind symbols law
HasForm symbols (resolved.NoConcurrency file line) = Unit {0}

abbrev pub HaveForms : List Symbol → List BaseLaw → Type 0
HaveForms symbols laws = AllByRecursion (HasForm symbols) laws

-- ---- definite laws: an atom whose value has no constant, or falsity

abbrev pub is_value : Term → Bool
is_value (resolved.Constant symbol args) = false
is_value (resolved.Object number) = true
is_value (resolved.Variable number) = true
is_value resolved.Nothing = true
is_value (resolved.Number number) = true
is_value (resolved.Plus s t) = is_value s && is_value t
is_value (resolved.Minus s t) = is_value s && is_value t

abbrev pub is_definite_head : Head → Bool
is_definite_head (resolved.Atom symbol args value) = is_value value
is_definite_head resolved.Falsity = true

abbrev pub is_definite_law : BaseLaw → Bool
is_definite_law (resolved.One law) = is_definite_head law.head
is_definite_law (resolved.NoConcurrency file line) = true
