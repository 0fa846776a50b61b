use Rattle.std.proofs.Common.{drop, map}
use Rattle.cc_defs.specs.GroundLaws.{pair_law}
use Rattle.cc_ground.proofs.Making.{MadeSoFar}
use Rattle.cc_ground.proofs.maker.Maker.add_pairs_with.Given as goal

abbrev pub invariant-loop-other : goal.invariant-loop-other
invariant-loop-other l =
    MadeSoFar (map (λ other. pair_law l.base (l.one, other)) (drop l.other-index l.others)) (map (λ other. pair_law l.base (l.one, other)) l.others) l.fn.made.items l.made.items l.fn.self l.self
