use Rattle.std.proofs.Common.{◌+◌, ◌∙◌, ap, subst, sym}
use Rattle.cc_defs.specs.GroundLaws.{PlainGroundQuery, StandsForQuery}
use Rattle.cc_forever.specs.Forevers.{ForeverView, IsRightFault, IsSearched}
use Rattle.cc_forever.proofs.Giving.{errs_with, induce_fault, inducing}
use Rattle.cc_forever.proofs.forever.Forever.induce.Goals as goal
use Rattle.cc_induction.specs.Induction.{step_query}
use Rattle.cc_theory.specs.Theories.{AreLawsOf}

pub returns-in_err-outcome-clause-fault : goal.returns-in_err-outcome-clause-fault
returns-in_err-outcome-clause-fault c =
    let steps = c.self.inside.failed + 1 in
    let own = c.self.invariant.0 ∙ ap (λ (s : ForeverView). s.query) c.self.view_is in
    errs_with (IsRightFault (inducing c.args.self.now)) c.from_residual-in_err-outcome.result c.in_err-outcome.field-0.0 c.from_residual-in_err-outcome.ensures.1
    (induce_fault c.args.self.now steps (ap (λ (s : ForeverView). s.failed + 1) c.self.view_is) c.in_err-outcome.field-0.0 (λ d q laws query.
    c.in_err-outcome.ensures.refused d (step_query q steps) laws
    (c.in_ok-query.ensures.stands d q (subst (λ (g : PlainGroundQuery). StandsForQuery g d q) (sym own) query))))

pub induced-requires-clause-outcome : goal.induced-requires-clause-outcome
induced-requires-clause-outcome c = λ d q laws query.
    let steps = c.self.inside.failed + 1 in
    let same = c.in_ok-outcome.ensures.same in
    let own = c.self.invariant.0 ∙ ap (λ (s : ForeverView). s.query) c.self.view_is in
    let stands = c.in_ok-query.ensures.stands d q
    (subst (λ (g : PlainGroundQuery). StandsForQuery g d q) (sym own) (subst (λ (s : ForeverView). StandsForQuery s.query d q) same query)) in
    subst (λ (s : ForeverView). IsSearched d (step_query q steps) steps s.budget c.in_ok-outcome.outcome) (sym same)
    (c.in_ok-outcome.ensures.searched d (step_query q steps) (subst (λ (s : ForeverView). AreLawsOf s.signature s.laws d) same laws) stands)
