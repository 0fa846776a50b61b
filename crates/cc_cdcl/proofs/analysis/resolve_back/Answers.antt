use Rattle.std.proofs.Common.{List, subst, refl, ◌∙◌, ℕ, ap, length, sym}
use Rattle.cc_defs.specs.Clauses.{Literal}
use Rattle.cc_cdcl.specs.Analysis.{IsUnfinished}
use Rattle.cc_cdcl.proofs.Deriving.{some_same, when_false, when_true, fits_kept, kept_same, kept_trans}
use Rattle.cc_cdcl.proofs.Shorter.{shortening_begins}
use Rattle.std.proofs.lemmas.List.{length-map}
use Rattle.cc_trail.specs.EntryParts.{literal_of_step}
use Rattle.cc_cdcl.specs.Derivations.{IsDeriving}
use Rattle.cc_cdcl.proofs.analysis.resolve_back.Goals as goal

pub returns-clause-derived : goal.returns-clause-derived
returns-clause-derived c =
    shortening_begins c.args.trail.now c.loop-kernel.kernel c.loop-kernel.walk.place c.entries.ensures.steps c.loop-kernel.invariant.derivation
    (when_true _ _ c.is_final.result c.loop-kernel-test.false
    (c.is_final.ensures c.loop-kernel.invariant.derivation.clause c.loop-kernel.walk.place c.loop-kernel.invariant.derivation.staged c.loop-kernel.invariant.derivation.walking))

pub resolve_next-requires-clause-unfinished : goal.resolve_next-requires-clause-unfinished
resolve_next-requires-clause-unfinished c clause staged =
    subst (λ (other : List Literal). IsUnfinished c.args.trail.now.steps c.args.trail.now.level_count other)
    (some_same c.loop-kernel.invariant.derivation.clause clause c.loop-kernel.kernel.staged c.loop-kernel.invariant.derivation.staged staged)
    (when_false _ _ c.is_final.result c.loop-kernel-test.true
    (c.is_final.ensures c.loop-kernel.invariant.derivation.clause c.loop-kernel.walk.place c.loop-kernel.invariant.derivation.staged c.loop-kernel.invariant.derivation.walking))

pub resolve_next-requires-clause-fits : goal.resolve_next-requires-clause-fits
resolve_next-requires-clause-fits c = fits_kept c.args.trail.now c.args.kernel.now c.loop-kernel.kernel c.loop-kernel.invariant.kept c.requires.fits

pub loop-kernel-preserved : goal.loop-kernel-preserved
loop-kernel-preserved c = record {
  derivation = c.in_ok-walk.ensures.derivation;
  counted = c.in_ok-walk.ensures.counted;
  kept = kept_trans c.args.kernel.now c.loop-kernel.kernel c.resolve_next.new.kernel c.loop-kernel.invariant.kept c.resolve_next.ensures.kept;
}

pub loop-kernel-init : goal.loop-kernel-init
loop-kernel-init c = record {
  derivation = subst (λ (n : ℕ). IsDeriving c.args.kernel.now c.args.trail.now n) (sym (ap length c.entries.ensures.entries ∙ length-map c.args.trail.now.steps literal_of_step)) c.requires.derivation;
  counted = c.requires.counted;
  kept = kept_same c.args.kernel.now c.args.kernel.now refl;
}
