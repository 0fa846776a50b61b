use Rattle.cc_cdcl.proofs.Deriving.{derivation_begins, fits_kept, started_kept, numbered_there}
use Rattle.std.proofs.Common.{◌<◌, ◌≤◌, List, length, subst, sym}
use Rattle.cc_kernel.specs.Kernels.{Entry}
use Rattle.cc_cdcl.proofs.analysis.derive_first.Goals as goal

pub resolve_back-requires-clause-derivation : goal.resolve_back-requires-clause-derivation
resolve_back-requires-clause-derivation c =
    derivation_begins c.args.trail.now c.start.new.self c.level_count-level.ensures.steps
    (fits_kept c.args.trail.now c.args.kernel.now c.start.new.self (started_kept c.args.kernel.now c.start.new.self c.args.id c.in_ok-start.ensures.started) c.requires.fits)
    c.requires.opened c.args.kernel.now c.args.id c.in_ok-start.ensures.started c.requires.failed c.requires.settled

pub resolve_back-requires-clause-fits : goal.resolve_back-requires-clause-fits
resolve_back-requires-clause-fits c = fits_kept c.args.trail.now c.args.kernel.now c.start.new.self (started_kept c.args.kernel.now c.start.new.self c.args.id c.in_ok-start.ensures.started) c.requires.fits

pub clause-requires : goal.clause-requires
clause-requires c = subst (λ (entries : List Entry). (0 < c.args.id) × (c.args.id ≤ length entries)) (sym (started_kept c.args.kernel.now c.start.new.self c.args.id c.in_ok-start.ensures.started).entries) (numbered_there c.args.kernel.now c.args.id c.requires.failed.0 c.requires.failed.1)

pub start-requires : goal.start-requires
start-requires c = numbered_there c.args.kernel.now c.args.id c.requires.failed.0 c.requires.failed.1
