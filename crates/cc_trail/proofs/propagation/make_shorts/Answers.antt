use Rattle.std.proofs.Common.{suc, get_or}
use Rattle.std.proofs.lemmas.Option.{slice_get-get_or}
use Rattle.cc_kernel.specs.Kernels.{clauses_of}
use Rattle.cc_trail.proofs.StepLists.{in_take}
use Rattle.cc_trail.proofs.Growing.{grown_then}
use Rattle.cc_trail.proofs.Visiting.{in_get}
use Rattle.cc_trail.proofs.Walking.{met_more}
use Rattle.cc_trail.proofs.propagation.make_shorts.Goals as goal

pub make_short-requires-clause-short : goal.make_short-requires-clause-short
make_short-requires-clause-short c =
    c.requires.short (get_or c.args.shorts.now c.loop-index.index 0) (in_take (suc c.loop-index.index) c.args.shorts.now (get_or c.args.shorts.now c.loop-index.index 0)
    (in_get c.args.shorts.now c.loop-index.index (get_or c.args.shorts.now c.loop-index.index 0)
    (slice_get-get_or c.args.shorts.now c.loop-index.index 0 c.loop-index-test.true)))

pub loop-index-preserved : goal.loop-index-preserved
loop-index-preserved c = (
  c.make_short.ensures.sound,
  grown_then c.args.entries.now c.loop-index.entries c.make_short.new.entries (c.loop-index.invariant.1) c.make_short.ensures.grown,
  met_more (clauses_of c.args.kernel.now) c.args.shorts.now c.loop-index.index (get_or c.args.shorts.now c.loop-index.index 0) c.loop-index.entries c.make_short.new.entries
      (slice_get-get_or c.args.shorts.now c.loop-index.index 0 c.loop-index-test.true) c.make_short.ensures.grown (c.loop-index.invariant.2) c.in_default.ensures.met,
)

pub returns-in-Some-clause-grown : goal.returns-in-Some-clause-grown
returns-in-Some-clause-grown c = grown_then c.args.entries.now c.loop-index.entries c.make_short.new.entries c.loop-index.invariant.1 c.make_short.ensures.grown
