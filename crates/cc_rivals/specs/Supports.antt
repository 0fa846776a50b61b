-- Which rules support the values of a model, where heads are formulas of any form: its values have causes there, too.
use Rattle.std.specs.Prelude.{◌≡◌, ℕ, ◌<◌, ◌==◌, ◌&&◌, ◌||◌, Bool, false, IsTrue, List, Contains, Some, slice_get, slice_index}
use Rattle.cc_defs.specs.Signatures.{Signature}
use Rattle.cc_defs.specs.Terms.{Ground, Operands}
use Rattle.cc_defs.specs.Terms as terms
use Rattle.cc_defs.specs.Theories.{IsModel}
use Rattle.cc_rivals.specs.Wides.{AreWideLawsFor, AreWideLawsOf}
use Rattle.cc_wide.specs.declared.ground.WideGroundLaw.{WideGroundLaw}
use Rattle.cc_wide.specs.WideLaws.{WideDescription}
use Rattle.cc_wide.specs.WideLists.{WideTimed, test_holds, wide_timed}
use Rattle.cc_wide.specs.WideRules.{wide_rules_at, wide_sizes}

-- some atom of the position stands in a term
abbrev mutual
  pub names : (position : ℕ) → Ground → Bool
  names position terms.Truth = false
  names position terms.Falsehood = false
  names position (terms.Atom other value) = other == position
  names position (terms.Not f) = names position f
  names position (terms.All operands) = some_names position operands
  names position (terms.Any operands) = some_names position operands
  names position (terms.Same f g) = names position f || names position g

  pub some_names : (position : ℕ) → Operands → Bool
  some_names position terms.nothing = false
  some_names position (terms.and_then operands last) = some_names position operands || names position last

-- A head may cause a value at a position: it is this atom, or it is no atom and has an atom of the position in it.
abbrev pub supports : (position value : ℕ) → Ground → Bool
supports position value (terms.Atom other index) = (other == position) && (index == value)
supports position value terms.Truth = false
supports position value terms.Falsehood = false
supports position value (terms.Not f) = names position f
supports position value (terms.All operands) = some_names position operands
supports position value (terms.Any operands) = some_names position operands
supports position value (terms.Same f g) = names position f || names position g

-- some rule whose test the row meets may cause the value that it has at a position
pub record HasSupport (rules : List WideTimed) (row : List ℕ) (position : ℕ) : Type 0 where
  pub rule : WideTimed
  pub member : Contains rules rule
  pub test : IsTrue (test_holds row rule)
  pub head : IsTrue (supports position (slice_index row position) rule.head)

-- so it is at each position with at least two values
abbrev pub IsSupported : WideDescription → (horizon : ℕ) → List ℕ → Type 0
IsSupported w horizon row = (position size : ℕ) → slice_get (wide_sizes w horizon) position ≡ Some size → 1 < size → HasSupport (wide_timed w horizon) row position

-- The values of a model have causes, whatever the form of the heads: a candidate without them is none.
abbrev pub ModelsAreSupported : Type 0
ModelsAreSupported = (signature : Signature) (laws : List WideGroundLaw) → AreWideLawsFor signature laws →
    (w : WideDescription) → AreWideLawsOf signature laws w → (horizon : ℕ) (row : List ℕ) →
    IsModel (wide_sizes w horizon) (wide_rules_at w horizon) row → IsSupported w horizon row
