-- The names by which a description is told.
use Rattle.std.specs.Prelude.{◌≡◌, List, map}
use Rattle.cc_defs.specs.Declarations.{Declaration, objects}
use Rattle.cc_defs.specs.Description.{Description}
use Rattle.cc_defs.specs.Signatures.{Signature}
use Rattle.cc_defs.specs.Universe.{universe}
use Rattle.cc_sorts.specs.Tables.{IsSignatureOf, IsTable, TableView}

-- the names of a table and a signature are those of a description
pub record AreNamesOf (table : TableView) (sig : Signature) (d : Description) : Type 0 where
  pub declarations : List Declaration
  pub table_is : IsTable table declarations
  pub signature_is : IsSignatureOf declarations sig
  pub universe : d.universe ≡ universe declarations
  pub objects : d.objects ≡ map (λ named. named.0) (objects declarations)
