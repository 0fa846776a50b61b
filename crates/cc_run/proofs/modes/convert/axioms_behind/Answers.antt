use Rattle.std.proofs.Common.{subst}
use Rattle.cc_convert.specs.Saying.{OpensWithin}
use Rattle.cc_list.specs.Telling.{counts_of}
use Rattle.cc_run.proofs.Converted.{section_counted}
use Rattle.cc_run.proofs.modes.convert.axioms_behind.Goals as goal

pub returns-in-Section-clause-counted : goal.returns-in-Section-clause-counted
returns-in-Section-clause-counted c = λ d q of.
    section_counted (counts_of d q c.args.prepared.now.key) c.args.line.now c.in-Section.conditions c.in-Section.horizon c.section_axioms.result c.in-Section.is
    (c.section_axioms.ensures.counted d q of)

pub section_axioms-requires-clause-opened : goal.section_axioms-requires-clause-opened
section_axioms-requires-clause-opened c =
    let opened = c.requires.opened in
    (opened.0, opened.1, opened.2, subst (OpensWithin opened.0 opened.1 c.args.prepared.now.key) c.in-Section.is opened.3)
