use Rattle.cc_kernel.specs.Kernels.{clauses_of}
use Rattle.cc_trail.proofs.Dropping.{fits_without}
use Rattle.cc_trail.proofs.trail.Trail.drop_covered.Goals as goal

pub loop-self-preserved : goal.loop-self-preserved
loop-self-preserved c =
    let fits = c.loop-self.invariant.0 in
    let dropped = c.loop-self.invariant.1 in
    rw c.drop_last.ensures.dropped (
      (record {
        variables = fits.variables;
        clauses = fits_without c.loop-self.self (clauses_of c.args.kernel.now) fits.clauses (c.is_last_covered.ensures c.loop-self-test.true) c.drop_last.ensures.nodes;
      }),
      (record { variables = dropped.variables; steps = dropped.steps; level_count = dropped.level_count; attached = dropped.attached }),
    )
