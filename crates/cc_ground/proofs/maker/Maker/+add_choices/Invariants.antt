use Rattle.std.proofs.Common.{length}
use Rattle.cc_defs.specs.Resolved.{plain_law}
use Rattle.cc_ground.proofs.Ranging.{ChoicesSoFar}
use Rattle.cc_ground.proofs.maker.Maker.+add_choices.Given as goal

abbrev pub decreases-add_choices : goal.decreases-add_choices
decreases-add_choices l = length l.ranges.now

abbrev pub invariant-loop-index : goal.invariant-loop-index
invariant-loop-index l = ChoicesSoFar l.base (plain_law l.law) l.others l.values l.index l.fn.made.items l.made.items l.fn.self l.self
