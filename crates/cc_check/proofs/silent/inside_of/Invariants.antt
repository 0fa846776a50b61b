use Rattle.std.proofs.Common.{◌+◌, ◌≤◌, length}
use Rattle.cc_defs.specs.declared.log.Version.TheVariants.{First}
use Rattle.cc_check.specs.Silent.{IsUnread}
use Rattle.cc_check.proofs.Parted.{InsideSoFar}
use Rattle.cc_check.proofs.silent.inside_of.Given as goal

abbrev pub invariant-loop-alloc : goal.invariant-loop-alloc
invariant-loop-alloc g l =
    (l.count + length l.rest ≤ length l.all)
    × ((of : g.S.Silent.Of) → g.S.Silent.Is l.kind of → InsideSoFar First (IsUnread (g.S.Silent.subject of)) l.all l.rest l.count)

abbrev pub decreases-loop-alloc : goal.decreases-loop-alloc
decreases-loop-alloc g l = length l.rest
