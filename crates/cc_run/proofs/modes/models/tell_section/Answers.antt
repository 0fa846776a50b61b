use Rattle.std.proofs.Common.{ap, ◌+◌, ℕ}
use Rattle.cc_run.proofs.ModelFinds.{begun_at, listing_cut, listing_told}
use Rattle.cc_run.proofs.modes.models.tell_section.Goals as goal

pub returns-in_err-give_heading : goal.returns-in_err-give_heading
returns-in_err-give_heading g c = λ axioms count budget within stands.
    listing_cut axioms c.args.version count budget c.args.search _ _ c.give_heading.result c.in_err-give_heading.field-0.0 c.from_residual.result stands c.give_heading.ensures
    c.in_err-give_heading.was c.from_residual.ensures.1

pub tell_finds-requires-clause-at : goal.tell_finds-requires-clause-at
tell_finds-requires-clause-at g c =
    let at = c.requires.at in
    (at.0, at.1, at.2, _, begun_at at.0 at.1 at.2 _ c.args.search at.3 at.4 (ap (λ (n : ℕ). n + 1) (c.axioms.ensures.axioms at.0 at.1 at.2 _ at.4)))

pub returns : goal.returns
returns g c = λ axioms count budget within stands.
    listing_told axioms c.args.version count budget _ _ _ c.give_heading.result c.in_ok-give_heading.field-0 c.tell_finds.result c.give_heading.ensures c.in_ok-give_heading.was
    (c.tell_finds.ensures axioms count budget _ (begun_at axioms count budget _ c.args.search within stands (ap (λ (n : ℕ). n + 1) (c.axioms.ensures.axioms axioms count budget _ stands))))
