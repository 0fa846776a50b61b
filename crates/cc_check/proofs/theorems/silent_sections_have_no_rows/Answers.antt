use Rattle.cc_check.proofs.Refuted.{silent_sections_have_no_rows}
use Rattle.cc_check.proofs.theorems.silent_sections_have_no_rows.Goals as goal

pub returns : goal.returns
returns c = silent_sections_have_no_rows c.resolvents_are_sound.ensures
