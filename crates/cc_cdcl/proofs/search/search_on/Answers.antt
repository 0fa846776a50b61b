use Rattle.std.proofs.Common.{◌∙◌, sym, ◌+◌, ℕ, ap}
use Rattle.std.proofs.lemmas.Bool.{false≢true}
use Rattle.cc_cdcl.specs.Searches.{is_probing}
use Rattle.cc_cdcl.proofs.Deriving.{none_always}
use Rattle.cc_cdcl.proofs.Probing.{phase_of}
use Rattle.cc_cdcl.proofs.search.search_on.Goals as goal

pub descend-requires-in-None-clause-searching : goal.descend-requires-in-None-clause-searching
descend-requires-in-None-clause-searching c = c.begin_listing.ensures c.args.sizes.now c.args.kernel.now c.descend_by_probe.ensures.trail

pub returns-in-Some-clause-failed : goal.returns-in-Some-clause-failed
returns-in-Some-clause-failed c = c.in-Some.ensures.failed

pub descend-requires-clause-searching : goal.descend-requires-clause-searching
descend-requires-clause-searching c = c.requires.phase.searching (sym c.is_on.ensures ∙ c.if-not-is_on.true)

pub returns-in-Some-clause-phase : goal.returns-in-Some-clause-phase
returns-in-Some-clause-phase c = record {
  of_kernel = c.descend_by_probe.ensures.trail;
  room = c.requires.phase.room ∙ ap (λ (n : ℕ). n + 1) (c.requires.phase.of_kernel.fits.variables ∙ sym c.descend_by_probe.ensures.trail.fits.variables);
  searching = λ off. absurd (false≢true (sym off ∙ ap is_probing c.descend_by_probe.ensures.phase ∙ sym c.is_on.ensures ∙ c.if-not-is_on.false));
}

pub returns-in-None-clause-searching : goal.returns-in-None-clause-searching
returns-in-None-clause-searching c = none_always _ c.descend-in-None.result c.descend-in-None.ensures.searching

pub returns-then-not-is_on-clause-searching : goal.returns-then-not-is_on-clause-searching
returns-then-not-is_on-clause-searching c = none_always _ c.descend.result c.descend.ensures.searching

pub begin_listing-requires : goal.begin_listing-requires
begin_listing-requires c =
    c.requires.phase.room ∙ ap (λ (n : ℕ). n + 1) (c.requires.phase.of_kernel.fits.variables ∙ sym c.descend_by_probe.ensures.trail.fits.variables)

pub returns-in-None-clause-phase : goal.returns-in-None-clause-phase
returns-in-None-clause-phase c =
    phase_of _ c.args.sizes.now c.args.kernel.now c.descend-in-None.new.trail c.descend-in-None.new.cursors c.descend-in-None.ensures.searching
