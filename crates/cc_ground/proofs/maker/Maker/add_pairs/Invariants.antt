use Rattle.std.proofs.Common.{length, map}
use Rattle.cc_defs.specs.GroundLaws.{pair_law}
use Rattle.cc_defs.specs.Environments.{pairs_of}
use Rattle.cc_ground.proofs.Making.{MadeSoFar}
use Rattle.cc_ground.proofs.maker.Maker.add_pairs.Given as goal

abbrev pub invariant-loop-one : goal.invariant-loop-one
invariant-loop-one l =
    MadeSoFar (map (pair_law l.base) (pairs_of l.left)) (map (pair_law l.base) (pairs_of l.actions)) l.fn.made.items l.made.items l.fn.self l.self

abbrev pub decreases-loop-one : goal.decreases-loop-one
decreases-loop-one l = length l.left
