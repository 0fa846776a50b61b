use Rattle.std.proofs.Common.{length}
use Rattle.cc_ground.proofs.Listing.{ListsSoFar}
use Rattle.cc_ground.proofs.maker.Maker.+put_lists.Given as goal

abbrev pub decreases-put_lists : goal.decreases-put_lists
decreases-put_lists l = length l.left.now

abbrev pub invariant-loop-index : goal.invariant-loop-index
invariant-loop-index l = ListsSoFar l.equation l.fn.indexes.items l.others l.index l.count l.indexes.items l.fn.self l.self
