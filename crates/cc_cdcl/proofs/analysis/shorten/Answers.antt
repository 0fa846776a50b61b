use Rattle.std.proofs.Common.{ℕ, subst, sym, rules}
use Rattle.cc_kernel.specs.Kernels.{ClashesWith, IsStepped}
use Rattle.cc_cdcl.proofs.Deriving.{fits_kept, kept_trans, stepped_kept}
use Rattle.cc_cdcl.proofs.Shorter.{before_over, clashes_before, literal_before, reason_there_before, shortens, place_within, shortening_earlier}
use Rattle.cc_cdcl.proofs.analysis.shorten.Goals as goal

pub shortening_reason-requires-clause-within : goal.shortening_reason-requires-clause-within
shortening_reason-requires-clause-within c =
    (before_over c.args.trail.now c.loop-next.kernel c.loop-next.place c.in-Some.next c.entries-entries.ensures.steps
    (fits_kept c.args.trail.now c.args.kernel.now c.loop-next.kernel c.loop-next.invariant.kept c.requires.fits) c.requires.opened c.loop-next.invariant.derivation c.in-Some.ensures
    c.index-entries-place.result (literal_before c.args.trail.now c.loop-next.kernel c.loop-next.place c.in-Some.next c.entries-entries.ensures.steps
    (fits_kept c.args.trail.now c.args.kernel.now c.loop-next.kernel c.loop-next.invariant.kept c.requires.fits) c.requires.opened c.loop-next.invariant.derivation c.in-Some.ensures
    c.entries-entries.result.now c.index-entries-place.result c.entries-entries.ensures.entries c.index-entries-place.is)).1

pub shortening_reason-requires-clause-there : goal.shortening_reason-requires-clause-there
shortening_reason-requires-clause-there c =
    reason_there_before c.args.trail.now c.loop-next.kernel c.loop-next.place c.in-Some.next c.entries-entries.ensures.steps
    (fits_kept c.args.trail.now c.args.kernel.now c.loop-next.kernel c.loop-next.invariant.kept c.requires.fits) c.requires.opened c.loop-next.invariant.derivation c.in-Some.ensures
    c.index-entries-place.result (literal_before c.args.trail.now c.loop-next.kernel c.loop-next.place c.in-Some.next c.entries-entries.ensures.steps
    (fits_kept c.args.trail.now c.args.kernel.now c.loop-next.kernel c.loop-next.invariant.kept c.requires.fits) c.requires.opened c.loop-next.invariant.derivation c.in-Some.ensures
    c.entries-entries.result.now c.index-entries-place.result c.entries-entries.ensures.entries c.index-entries-place.is)

pub shortening_reason-requires-clause-clash : goal.shortening_reason-requires-clause-clash
shortening_reason-requires-clause-clash c =
    clashes_before c.args.trail.now c.loop-next.kernel c.loop-next.place c.in-Some.next c.entries-entries.ensures.steps
    (fits_kept c.args.trail.now c.args.kernel.now c.loop-next.kernel c.loop-next.invariant.kept c.requires.fits) c.requires.opened c.loop-next.invariant.derivation c.in-Some.ensures
    c.index-entries-place.result (literal_before c.args.trail.now c.loop-next.kernel c.loop-next.place c.in-Some.next c.entries-entries.ensures.steps
    (fits_kept c.args.trail.now c.args.kernel.now c.loop-next.kernel c.loop-next.invariant.kept c.requires.fits) c.requires.opened c.loop-next.invariant.derivation c.in-Some.ensures
    c.entries-entries.result.now c.index-entries-place.result c.entries-entries.ensures.entries c.index-entries-place.is)

pub step-requires : goal.step-requires
step-requires c = subst (λ (n : ℕ). ClashesWith c.loop-next.kernel n c.in-Some-shortening_reason.id) (sym c.variable.ensures) c.in-Some-shortening_reason.ensures.clash

pub loop-next-preserved-in-Some-shortening_reason : goal.loop-next-preserved-in-Some-shortening_reason
loop-next-preserved-in-Some-shortening_reason c =
    let on = shortens c.args.trail.now c.loop-next.kernel c.loop-next.place c.in-Some.next c.entries-entries.ensures.steps
    (fits_kept c.args.trail.now c.args.kernel.now c.loop-next.kernel c.loop-next.invariant.kept c.requires.fits) c.requires.opened c.loop-next.invariant.derivation c.in-Some.ensures
    c.index-entries-place.result (literal_before c.args.trail.now c.loop-next.kernel c.loop-next.place c.in-Some.next c.entries-entries.ensures.steps
    (fits_kept c.args.trail.now c.args.kernel.now c.loop-next.kernel c.loop-next.invariant.kept c.requires.fits) c.requires.opened c.loop-next.invariant.derivation c.in-Some.ensures
    c.entries-entries.result.now c.index-entries-place.result c.entries-entries.ensures.entries c.index-entries-place.is)
    c.step.new.self c.in-Some-shortening_reason.id c.in-Some-shortening_reason.ensures.reason c.in-Some-shortening_reason.ensures.below
    (subst (λ (n : ℕ). IsStepped c.loop-next.kernel c.step.new.self n c.in-Some-shortening_reason.id) c.variable.ensures c.in_ok-step-in-Some-shortening_reason.ensures.resolved) in
    record { derivation = on.0; kept = kept_trans c.args.kernel.now c.loop-next.kernel c.step.new.self c.loop-next.invariant.kept on.1 }

pub bounds-entries-place : goal.bounds-entries-place
bounds-entries-place c = place_within c.args.trail.now.steps c.entries-entries.result.now c.in-Some.next c.loop-next.place c.entries-entries.ensures.entries c.in-Some.ensures c.loop-next.invariant.derivation.within

pub shortening_reason-requires-clause-fits : goal.shortening_reason-requires-clause-fits
shortening_reason-requires-clause-fits c = fits_kept c.args.trail.now c.args.kernel.now c.loop-next.kernel c.loop-next.invariant.kept c.requires.fits

pub take_in-requires-in-Some-shortening_reason-clause-fits : goal.take_in-requires-in-Some-shortening_reason-clause-fits
take_in-requires-in-Some-shortening_reason-clause-fits c =
    fits_kept c.args.trail.now c.loop-next.kernel c.step.new.self (stepped_kept c.loop-next.kernel c.step.new.self _ _ c.in_ok-step-in-Some-shortening_reason.ensures.resolved)
    (fits_kept c.args.trail.now c.args.kernel.now c.loop-next.kernel c.loop-next.invariant.kept c.requires.fits)

pub loop-next-preserved : goal.loop-next-preserved
loop-next-preserved c = record { derivation = shortening_earlier c.loop-next.kernel c.args.trail.now c.loop-next.place c.in-Some.next c.in-Some.ensures c.loop-next.invariant.derivation; kept = c.loop-next.invariant.kept }

pub offset_bounds-entries-place : goal.offset_bounds-entries-place
offset_bounds-entries-place c = let low = place_within c.args.trail.now.steps c.entries-entries.result.now c.in-Some.next c.loop-next.place c.entries-entries.ensures.entries c.in-Some.ensures c.loop-next.invariant.derivation.within in search rules
