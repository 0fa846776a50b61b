use Rattle.cc_check.specs.SectionTexts.{length_ahead}
use Rattle.cc_sections.proofs.logs.show_sections.Given as goal

abbrev pub decreases-loop-section : goal.decreases-loop-section
decreases-loop-section l = length_ahead l.sections
