-- What is always true of the index of the constants of a kind.
use Rattle.std.specs.Prelude.{◌≡◌, true, List}
use Rattle.cc_defs.specs.declared.signature.Const.{Const}
use Rattle.cc_defs.specs.declared.index.Index.{Index}
use Rattle.cc_defs.specs.Signatures.{AreOrdered}

abbrev pub IsIndexOf : List Const → Index → Type 0
IsIndexOf constants index = index.is_ordered ≡ true → AreOrdered constants
