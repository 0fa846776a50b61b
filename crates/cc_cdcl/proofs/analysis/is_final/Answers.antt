use Rattle.std.proofs.Common.{◌∙◌, sym}
use Rattle.cc_cdcl.proofs.Brought.{stage_here}
use Rattle.cc_cdcl.proofs.Levelling.{empty_or_not, final_or_not}
use Rattle.cc_cdcl.proofs.Walks.{failed_front}
use Rattle.cc_cdcl.proofs.analysis.is_final.Goals as goal

pub returns-then-level-eq0 : goal.returns-then-level-eq0
returns-then-level-eq0 c clause place staged walking =
    empty_or_not c.args.trail.now.variables c.args.trail.now.steps c.args.trail.now.level_count clause c.level_count-level.ensures.steps
    (failed_front c.args.trail.now.variables c.args.trail.now.steps c.args.trail.now.level_count c.level_count-level.ensures.steps place clause walking.falsified)
    (sym c.level_count-level.ensures.level_count ∙ c.if-level-eq0.true) c.args.held (c.requires clause staged)

pub returns : goal.returns
returns c clause place staged walking =
    final_or_not c.args.trail.now.steps c.args.trail.now.level_count clause ((stage_here c.args.kernel.now clause c.variables-variables.ensures.reached staged).0)
    walking.left (λ e. c.if-level-eq0.false (c.level_count-level.ensures.level_count ∙ e)) c.args.held (c.requires clause staged)
