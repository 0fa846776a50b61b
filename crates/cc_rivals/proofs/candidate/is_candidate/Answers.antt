use Rattle.std.proofs.Common.{◌∙◌, ◌&&◌, ℕ, List, ap, subst, sym}
use Rattle.cc_defs.specs.Rows.{IsRow}
use Rattle.cc_rivals.specs.Making.{rules_for}
use Rattle.cc_rivals.specs.Meets.{query_met, rules_met}
use Rattle.cc_rivals.specs.Wides.{AreWideLawsFor}
use Rattle.cc_rivals.proofs.Matching.{sizes_are}
use Rattle.cc_rivals.proofs.Testing.{candidate_tested, not_both}
use Rattle.cc_rivals.proofs.candidate.is_candidate.Goals as goal
use Rattle.cc_theory.specs.Making.{stride_of}
use Rattle.cc_wide.specs.declared.ground.WideGroundLaw.{WideGroundLaw}
use Rattle.cc_wide.specs.WideLaws.{frame}

pub meets_all-requires-clause-laws : goal.meets_all-requires-clause-laws
meets_all-requires-clause-laws c = subst (AreWideLawsFor c.args.sig.now) (sym c.laws.ensures) c.requires.laws

pub returns-then-has_indexes-clause-candidate : goal.returns-then-has_indexes-clause-candidate
returns-then-has_indexes-clause-candidate c = λ w q of stands.
    let sig = c.args.sig.now in
    let h = c.args.horizon in
    let row = c.args.row.now in
    let same = c.meets_all.ensures ∙ ap (λ (l : List WideGroundLaw). rules_met row (rules_for sig l h) && query_met (stride_of sig) h c.args.query.now row) c.laws.ensures in
    let tested = candidate_tested c.terms_mean_formulas.ensures sig c.args.laws.now w c.requires.laws of
    h c.requires.horizon c.args.query.now q stands c.requires.query row in (
      (λ so. tested.0 (c.has_indexes.ensures.0 c.if-has_indexes.true, sym same ∙ so)),
      (λ candidate. same ∙ (tested.1 candidate).1),
    )

pub returns-else-has_indexes-clause-candidate : goal.returns-else-has_indexes-clause-candidate
returns-else-has_indexes-clause-candidate c = λ w q of stands. (
  (λ so. not_both c.has_indexes.result so c.if-has_indexes.false),
  (λ candidate. c.has_indexes.ensures.1 (subst (λ (sizes : List ℕ). IsRow sizes c.args.row.now) (sym (sizes_are c.args.sig.now (frame w) c.args.horizon of.signature_is)) candidate.interprets)),
)
