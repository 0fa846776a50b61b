-- The values and the kinds of declared constants.
use Rattle.std.specs.Prelude.{◌≤◌, List, length}
use Rattle.cc_defs.specs.Conditions.{HaveTheirKinds, HaveTheirValues}
use Rattle.cc_defs.specs.Declarations.{Declaration, objects}
use Rattle.cc_defs.specs.Signatures.{none_value}
use Rattle.cc_defs.specs.Universe.{HaveOwnValues, universe}
use Rattle.cc_sorts.specs.Tables.{AreKnown}

-- they are different, where no object has the number that stands for `none`
abbrev pub DeclaredHaveOwnValues : Type 0
DeclaredHaveOwnValues = (declarations : List Declaration) → length (objects declarations) ≤ none_value → HaveOwnValues (universe declarations)

abbrev pub DeclaredHaveTheirKinds : Type 0
DeclaredHaveTheirKinds = (declarations : List Declaration) → HaveTheirKinds (universe declarations)

-- they are those of their symbols, where each sort that is named is declared
abbrev pub DeclaredHaveTheirValues : Type 0
DeclaredHaveTheirValues = (declarations : List Declaration) → AreKnown declarations → HaveTheirValues (universe declarations)
