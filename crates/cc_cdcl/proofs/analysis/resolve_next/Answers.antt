use Rattle.std.proofs.Common.{◌-◌, refl, subst, sym, arith}
use Rattle.cc_kernel.specs.Kernels.{KernelView}
use Rattle.cc_cdcl.specs.Derivations.{IsDeriving}
use Rattle.cc_cdcl.proofs.Deriving.{at_of, clashes_here, clashes_only_here, goes_on, literal_here, not_at_start, pivot_here, pivot_over, steps_on}
use Rattle.cc_cdcl.proofs.Shorter.{place_within}
use Rattle.cc_cdcl.proofs.analysis.resolve_next.Goals as goal

pub clashing_reason-requires-clause-within : goal.clashing_reason-requires-clause-within
clashing_reason-requires-clause-within c =
    let at = at_of c.args.trail.now c.args.kernel.now c.loop-place.kernel c.loop-place.place c.loop-place.invariant.same c.entries-entries.ensures.steps c.requires.fits
    c.requires.opened c.loop-place.invariant.derivation c.requires.unfinished in
    (pivot_over c.args.trail.now c.loop-place.kernel c.loop-place.place at (c.loop-place.place - 1) refl c.variable-pivot.result
    (pivot_here c.args.trail.now c.loop-place.kernel c.loop-place.place at (c.loop-place.place - 1) refl c.entries-entries.result.now c.index-entries-place.result
    c.variable-pivot.result c.entries-entries.ensures.entries c.index-entries-place.is c.variable-pivot.ensures)).1

pub clashing_reason-requires-clause-clash : goal.clashing_reason-requires-clause-clash
clashing_reason-requires-clause-clash c =
    let at = at_of c.args.trail.now c.args.kernel.now c.loop-place.kernel c.loop-place.place c.loop-place.invariant.same c.entries-entries.ensures.steps c.requires.fits
    c.requires.opened c.loop-place.invariant.derivation c.requires.unfinished in
    clashes_here c.args.trail.now c.loop-place.kernel c.loop-place.place at (c.loop-place.place - 1) refl c.variable-pivot.result
    (pivot_here c.args.trail.now c.loop-place.kernel c.loop-place.place at (c.loop-place.place - 1) refl c.entries-entries.result.now c.index-entries-place.result
    c.variable-pivot.result c.entries-entries.ensures.entries c.index-entries-place.is c.variable-pivot.ensures) c.index-entries-place.result
    (literal_here c.args.trail.now c.loop-place.kernel c.loop-place.place at (c.loop-place.place - 1) refl c.entries-entries.result.now c.index-entries-place.result
    c.entries-entries.ensures.entries c.index-entries-place.is)

pub clashing_reason-requires-clause-only : goal.clashing_reason-requires-clause-only
clashing_reason-requires-clause-only c =
    let at = at_of c.args.trail.now c.args.kernel.now c.loop-place.kernel c.loop-place.place c.loop-place.invariant.same c.entries-entries.ensures.steps c.requires.fits
    c.requires.opened c.loop-place.invariant.derivation c.requires.unfinished in
    clashes_only_here c.args.trail.now c.loop-place.kernel c.loop-place.place at (c.loop-place.place - 1) refl c.variable-pivot.result
    (pivot_here c.args.trail.now c.loop-place.kernel c.loop-place.place at (c.loop-place.place - 1) refl c.entries-entries.result.now c.index-entries-place.result
    c.variable-pivot.result c.entries-entries.ensures.entries c.index-entries-place.is c.variable-pivot.ensures) c.index-entries-place.result
    (literal_here c.args.trail.now c.loop-place.kernel c.loop-place.place at (c.loop-place.place - 1) refl c.entries-entries.result.now c.index-entries-place.result
    c.entries-entries.ensures.entries c.index-entries-place.is)

pub step_counted-requires-clause-within : goal.step_counted-requires-clause-within
step_counted-requires-clause-within c =
    let at = at_of c.args.trail.now c.args.kernel.now c.loop-place.kernel c.loop-place.place c.loop-place.invariant.same c.entries-entries.ensures.steps c.requires.fits
    c.requires.opened c.loop-place.invariant.derivation c.requires.unfinished in
    (pivot_over c.args.trail.now c.loop-place.kernel c.loop-place.place at (c.loop-place.place - 1) refl c.variable-pivot.result
    (pivot_here c.args.trail.now c.loop-place.kernel c.loop-place.place at (c.loop-place.place - 1) refl c.entries-entries.result.now c.index-entries-place.result
    c.variable-pivot.result c.entries-entries.ensures.entries c.index-entries-place.is c.variable-pivot.ensures)).1

pub returns-in-Some-clause-derivation : goal.returns-in-Some-clause-derivation
returns-in-Some-clause-derivation c =
    let at = at_of c.args.trail.now c.args.kernel.now c.loop-place.kernel c.loop-place.place c.loop-place.invariant.same c.entries-entries.ensures.steps c.requires.fits
    c.requires.opened c.loop-place.invariant.derivation c.requires.unfinished in
    (steps_on c.args.trail.now c.loop-place.kernel c.loop-place.place at (c.loop-place.place - 1) refl c.variable-pivot.result
    (pivot_here c.args.trail.now c.loop-place.kernel c.loop-place.place at (c.loop-place.place - 1) refl c.entries-entries.result.now c.index-entries-place.result
    c.variable-pivot.result c.entries-entries.ensures.entries c.index-entries-place.is c.variable-pivot.ensures)
    c.step_counted.new.kernel c.in-Some.id c.in-Some.ensures.reason c.in_ok-held-in-Some.ensures.stepped).0

pub loop-place-preserved : goal.loop-place-preserved
loop-place-preserved c =
    let at = at_of c.args.trail.now c.args.kernel.now c.loop-place.kernel c.loop-place.place c.loop-place.invariant.same c.entries-entries.ensures.steps c.requires.fits
    c.requires.opened c.loop-place.invariant.derivation c.requires.unfinished in
    record {
      same = c.loop-place.invariant.same;
      derivation = goes_on c.args.trail.now c.loop-place.kernel c.loop-place.place at (c.loop-place.place - 1) refl c.variable-pivot.result
          (pivot_here c.args.trail.now c.loop-place.kernel c.loop-place.place at (c.loop-place.place - 1) refl c.entries-entries.result.now c.index-entries-place.result
          c.variable-pivot.result c.entries-entries.ensures.entries c.index-entries-place.is c.variable-pivot.ensures) c.in-None.ensures.none;
    }

pub returns-clause-fewer : goal.returns-clause-fewer
returns-clause-fewer c =
    let at = at_of c.args.trail.now c.args.kernel.now c.loop-place.kernel c.loop-place.place c.loop-place.invariant.same c.entries-entries.ensures.steps c.requires.fits
    c.requires.opened c.loop-place.invariant.derivation c.requires.unfinished in
    let test = c.loop-place-test.false in
    absurd (not_at_start c.args.trail.now c.loop-place.kernel c.loop-place.place at (omega arith))

pub returns-clause-derivation : goal.returns-clause-derivation
returns-clause-derivation c = subst (λ (k : KernelView). IsDeriving k c.args.trail.now c.args.start.place) (sym c.loop-place.invariant.same) c.requires.derivation

pub returns-in-Some-clause-counted : goal.returns-in-Some-clause-counted
returns-in-Some-clause-counted c = c.in_ok-held-in-Some.ensures.counted

pub bounds-entries-place : goal.bounds-entries-place
bounds-entries-place c =
    let some = c.loop-place-test.true in
    place_within c.args.trail.now.steps c.entries-entries.result.now (c.loop-place.place - 1) c.loop-place.place c.entries-entries.ensures.entries (omega arith)
    c.loop-place.invariant.derivation.within
