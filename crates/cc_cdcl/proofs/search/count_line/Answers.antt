use Rattle.std.proofs.Common.{◌∙◌, sym, subst, ap}
use Rattle.cc_cdcl.specs.declared.probe.Phase.{Phase}
use Rattle.cc_cdcl.specs.Searches.{IsInPhase, is_probing}
use Rattle.cc_cdcl.proofs.Probing.{phase_of, phase_restarts}
use Rattle.cc_cdcl.proofs.search.count_line.Goals as goal

pub returns-in-Restart : goal.returns-in-Restart
returns-in-Restart c sizes kernel is =
    phase_restarts c.args.probe.now.phase c.take_back.new.self.phase sizes kernel c.args.trail.now c.back_to.new.self c.args.cursors.now is c.level_count-level.ensures.steps
    c.back_to.ensures.back (c.back_to.ensures.fits kernel) (c.back_to.ensures.settled kernel)
    (ap is_probing (c.take_back.ensures ∙ c.count_line.ensures) ∙ sym c.is_on.ensures ∙ c.if-not-is_on.false)

pub returns-in-End : goal.returns-in-End
returns-in-End c sizes kernel is =
    phase_of _ sizes kernel c.begin_listing.new.trail c.begin_listing.new.cursors (c.begin_listing.ensures sizes kernel is.of_kernel)

pub returns-in-More : goal.returns-in-More
returns-in-More c sizes kernel is = subst (λ (phase : Phase). IsInPhase phase sizes kernel c.args.trail.now c.args.cursors.now) (sym c.count_line.ensures) is
