use Rattle.std.proofs.Common.{◌∙◌, Option, Some, ap, option_map, sym}
use Rattle.cc_defs.specs.declared.formula.Formula.{Formula}
use Rattle.cc_defs.specs.Resolved.{plain_formula}
use Rattle.cc_wide_ground.proofs.copies.copy_part.Goals as goal

pub returns-in_ok-copy_formula-in-Some : goal.returns-in_ok-copy_formula-in-Some
returns-in_ok-copy_formula-in-Some c = ap Some c.in_ok-copy_formula-in-Some.ensures ∙ sym (ap (λ (o : Option Formula). option_map plain_formula o) c.in-Some.is)
