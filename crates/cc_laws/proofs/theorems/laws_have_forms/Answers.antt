use Rattle.std.proofs.Common.{◌++◌}
use Rattle.cc_defs.specs.Trees as trees
use Rattle.cc_defs.specs.Declarations.{symbols}
use Rattle.cc_laws.specs.LawFaults.{part_fault}
use Rattle.cc_laws.specs.Vocabulary.{vocabulary}
use Rattle.cc_laws.proofs.FormsOfLaws.{law_forms, no_number}
use Rattle.cc_laws.proofs.MoreSymbols.{goes_on}
use Rattle.cc_laws.proofs.theorems.laws_have_forms.Goals as goal

pub returns : goal.returns
returns c file line left more law test none =
    law_forms (vocabulary left) (symbols (left ++ more)) (goes_on left more) file line law test (no_number file line (part_fault (vocabulary left) (trees.Law law test)) none)
