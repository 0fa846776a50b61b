use Rattle.std.proofs.Common.{ap}
use Rattle.cc_cdcl.specs.Searches.{is_probing}
use Rattle.cc_cdcl.proofs.Deriving.{on_ok}
use Rattle.cc_cdcl.proofs.Descending.{searching_propagated}
use Rattle.cc_cdcl.proofs.Probing.{phase_of}
use Rattle.cc_cdcl.proofs.search.begin.Goals as goal

pub returns-then-leaves_open : goal.returns-then-leaves_open
returns-then-leaves_open c =
    on_ok _ c.begin.result (λ sizes cursors is. phase_of _ sizes c.args.kernel.now c.leaves_open.new.trail cursors
    (searching_propagated sizes c.args.kernel.now c.args.trail.now c.leaves_open.new.trail cursors (is.searching (ap is_probing c.in-New.is))
    c.leaves_open.ensures.propagated c.leaves_open.ensures.fits c.leaves_open.ensures.settled))

pub returns-else-leaves_open : goal.returns-else-leaves_open
returns-else-leaves_open c sizes cursors is =
    phase_of _ sizes c.args.kernel.now c.leaves_open.new.trail cursors
    (searching_propagated sizes c.args.kernel.now c.args.trail.now c.leaves_open.new.trail cursors (is.searching (ap is_probing c.in-New.is))
    c.leaves_open.ensures.propagated c.leaves_open.ensures.fits c.leaves_open.ensures.settled)
