use Rattle.cc_trail.specs.Steps.{step_of}
use Rattle.cc_trail.proofs.EntryViews.{mark_here}
use Rattle.cc_trail.proofs.Marked.{level_by, no_level_by}
use Rattle.cc_trail.proofs.entries.Entries.level_of.Goals as goal

pub returns-then-mark-lt2 : goal.returns-then-mark-lt2
returns-then-mark-lt2 c =
    no_level_by c.index-mark.result.now (step_of c.args.self.now.steps c.args.variable)
    (mark_here c.self.inside c.args.self.now c.self.view_is c.self.invariant.kept c.self.invariant.marked c.args.variable c.index-mark.result.now c.requires c.index-mark.ensures)
    c.if-mark-lt2.true

pub returns : goal.returns
returns c =
    level_by c.index-mark.result.now (step_of c.args.self.now.steps c.args.variable)
    (mark_here c.self.inside c.args.self.now c.self.view_is c.self.invariant.kept c.self.invariant.marked c.args.variable c.index-mark.result.now c.requires c.index-mark.ensures)
    c.if-mark-lt2.false
