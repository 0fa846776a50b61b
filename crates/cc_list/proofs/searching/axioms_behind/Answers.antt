use Rattle.std.proofs.Common.{ap, ◌∙◌}
use Rattle.cc_defs.specs.declared.event.Event.TheVariants as events
use Rattle.cc_list.proofs.EventNumbers.{axioms_counted, axioms_low}
use Rattle.cc_list.proofs.searching.axioms_behind.Goals as goal

pub returns-in-Log-Section-clause-counted : goal.returns-in-Log-Section-clause-counted
returns-in-Log-Section-clause-counted c = axioms_counted c.args.session.now c.args.event.now c.axioms.result c.requires.opened c.axioms.ensures

pub returns-in-Log-Section-clause-few : goal.returns-in-Log-Section-clause-few
returns-in-Log-Section-clause-few c =
    axioms_low c.args.session.now c.args.event.now c.axioms.result c.in-Log-Section.field-0-0 c.in-Log-Section.field-0-1 c.requires.opened c.axioms.ensures c.requires.few
    (c.in-Log-Section.is ∙ ap events.Log (rw c.in-Log-Section.is at c.in-Log-Section.field-0-is))
