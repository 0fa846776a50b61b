use Rattle.cc_cdcl.proofs.Levelling.{second_low, second_mild}
use Rattle.cc_cdcl.proofs.analysis.block_level.Goals as goal

pub returns-clause-low : goal.returns-clause-low
returns-clause-low c =
    second_low c.args.trail.now.variables c.args.trail.now.steps c.args.trail.now.level_count c.args.clause.now c.level_count-level.ensures.steps c.requires.clause
    c.requires.failed c.second_level.result c.second_level.ensures

pub returns-clause-mild : goal.returns-clause-mild
returns-clause-mild c =
    second_mild c.args.trail.now.steps c.level_count-level.ensures.steps.apart c.args.clause.now c.requires.clause c.second_level.result c.second_level.ensures
