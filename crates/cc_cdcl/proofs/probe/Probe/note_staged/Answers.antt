use Rattle.std.proofs.Common.{◌≤◌, subst, sym, ℕ}
use Rattle.cc_cdcl.proofs.Brought.{staged_over}
use Rattle.cc_cdcl.proofs.probe.Probe.note_staged.Goals as goal

pub is_above-requires : goal.is_above-requires
is_above-requires c =
    subst (λ (n : ℕ). n ≤ c.args.trail.now.variables) (sym c.variable.ensures)
    (staged_over c.args.kernel.now c.args.trail.now.variables c.lit-item.result c.stages.result c.requires.fits.variables c.requires.staged
    c.touched-lit-items.ensures.reached c.stages.ensures c.if-stages.true)
