use Rattle.std.proofs.Common.{◌≡◌, ◌++◌, drop, map}
use Rattle.cc_arena.specs.GroundViews.{plain_ground_laws}
use Rattle.cc_wide.specs.WideGrounds.{plain_wide_ground}
use Rattle.cc_wide_ground.specs.Joining as words
use Rattle.cc_wide_ground.proofs.joining.joined.Given as goal

abbrev pub invariant-loop-index : goal.invariant-loop-index
invariant-loop-index l =
    map plain_wide_ground l.made.items ++ words.joined l.falsehood (plain_ground_laws (drop l.index l.laws)) (plain_ground_laws (drop l.index l.heads))
    ≡ words.joined l.falsehood (plain_ground_laws l.laws) (plain_ground_laws l.heads)
