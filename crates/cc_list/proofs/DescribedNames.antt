-- The names of a table and a signature are those of the description that was read with them.
use Rattle.std.proofs.Common.{◌≡◌, ap, map}
use Rattle.cc_list.specs.Descriptions.{IsDescriptionOf, IsWideDescriptionOf}
use Rattle.cc_defs.specs.Description.{Description}
use Rattle.cc_defs.specs.Resolved.{plain_base_law}
use Rattle.cc_describe.specs.declared.description.Described.{Described}
use Rattle.cc_describe.specs.declared.description.DescribedWide.{DescribedWide}
use Rattle.cc_tell.specs.Names.{AreNamesOf}
use Rattle.cc_wide.specs.WideLaws.{WideDescription, frame}

pub names_of : (described : Described) (d : Description) → IsDescriptionOf described d → AreNamesOf described.table described.sig d
names_of described d of = record {
  declarations = of.declarations;
  table_is = of.table;
  signature_is = of.signature;
  universe = ap (λ (x : Description). x.universe) of.is;
  objects = ap (λ (x : Description). x.objects) of.is;
}

pub laws_of : (described : Described) (d : Description) → IsDescriptionOf described d → d.laws ≡ map plain_base_law described.laws
laws_of described d of = ap (λ (x : Description). x.laws) of.is

-- those of the frame where heads may be of any form
pub framed_names : (said : DescribedWide) (w : WideDescription) → IsWideDescriptionOf said w → AreNamesOf said.described.table said.described.sig (frame w)
framed_names said w of = record {
  declarations = of.declarations;
  table_is = of.table;
  signature_is = of.signature;
  universe = ap (λ (x : WideDescription). x.universe) of.is;
  objects = ap (λ (x : WideDescription). x.objects) of.is;
}
