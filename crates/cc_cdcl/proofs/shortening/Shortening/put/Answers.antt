use Rattle.std.proofs.Common.{◌≤◌, subst, sym, ℕ}
use Rattle.cc_cdcl.proofs.Brought.{staged_over}
use Rattle.cc_cdcl.proofs.shortening.Shortening.put.Goals as goal

pub place-requires : goal.place-requires
place-requires c =
    subst (λ (n : ℕ). n ≤ c.args.trail.now.variables) (sym c.variable.ensures)
    (staged_over c.args.kernel.now c.args.trail.now.variables c.args.lit c.stages.result c.requires.fits.variables c.requires.staged
    c.variables-variables.ensures.reached c.stages.ensures c.if-stages.true)
