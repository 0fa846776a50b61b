use Rattle.std.proofs.Common.{◌≡◌, ◌≤◌, IfErr, IfOk, None, OnOk, subst, sym}
use Rattle.cc_arena.specs.GroundViews.{plain_ground_query}
use Rattle.cc_defs.specs.GroundLaws.{PlainGroundQuery, StandsForQuery}
use Rattle.cc_defs.specs.Refusals.{IsRefusedBy}
use Rattle.cc_form.specs.Queries.{IsQueryAt}
use Rattle.cc_induction.specs.Induction.{step_query}
use Rattle.cc_silent.specs.declared.forever.ForeverHeading.{ForeverHeading}
use Rattle.cc_silent.specs.ForeverLogs.{axioms_under, refusal_under}
use Rattle.cc_silent.specs.ForeverParts.{CanBeFormed, InductionView, IsInductionOf}
use Rattle.cc_silent.proofs.forever.InductiveSilent.form.Goals as goal

pub form_at-requires-clause-query : goal.form_at-requires-clause-query
form_at-requires-clause-query c =
    let horizon = c.in-Horizon.horizon in
    let query = plain_ground_query c.self.inside.query.now in
    let can = subst (CanBeFormed c.args.self.now) c.in-Horizon.is c.requires.can in
    c.queries_are_asked_later.ensures c.self.inside.sig.now query query.lo horizon (subst (λ (s : InductionView). s.query.lo ≤ horizon) (sym c.self.view_is) can.0) c.self.invariant.0.asked

pub form_at-requires-in-Steps-clause-query : goal.form_at-requires-in-Steps-clause-query
form_at-requires-in-Steps-clause-query c =
    let signature = c.self.inside.sig.now in
    c.in_ok-step-in-Steps.ensures.asked signature (subst (λ (g : PlainGroundQuery). IsQueryAt signature g.lo g) (sym c.self.invariant.1) c.self.invariant.0.asked)

pub returns-in-Horizon-clause-made : goal.returns-in-Horizon-clause-made
returns-in-Horizon-clause-made c = λ of is.
    let at = subst (λ (s : InductionView). IsInductionOf s of.0 of.1) (sym c.self.view_is) is in
    subst (λ (h : ForeverHeading). IfOk c.form_at.result (λ form. form ≡ axioms_under of.0 of.1 h)) (sym c.in-Horizon.is) (c.form_at.ensures.made of.0 of.1 at.laws at.query)

pub returns-in-Horizon-clause-within : goal.returns-in-Horizon-clause-within
returns-in-Horizon-clause-within c = λ of is.
    let at = subst (λ (s : InductionView). IsInductionOf s of.0 of.1) (sym c.self.view_is) is in
    subst (λ (h : ForeverHeading). OnOk c.form_at.result (refusal_under of.0 of.1 h ≡ None)) (sym c.in-Horizon.is) (c.form_at.ensures.within of.0 of.1 at.laws at.query)

pub returns-in-Horizon-clause-refused : goal.returns-in-Horizon-clause-refused
returns-in-Horizon-clause-refused c = λ of is.
    let at = subst (λ (s : InductionView). IsInductionOf s of.0 of.1) (sym c.self.view_is) is in
    subst (λ (h : ForeverHeading). IfErr c.form_at.result (IsRefusedBy (refusal_under of.0 of.1 h))) (sym c.in-Horizon.is) (c.form_at.ensures.refused of.0 of.1 at.laws at.query)

pub returns-in_ok-step-in-Steps-clause-made : goal.returns-in_ok-step-in-Steps-clause-made
returns-in_ok-step-in-Steps-clause-made c = λ of is.
    let at = subst (λ (s : InductionView). IsInductionOf s of.0 of.1) (sym c.self.view_is) is in
    let stands = c.in_ok-step-in-Steps.ensures.stands of.0 of.1 (subst (λ (g : PlainGroundQuery). StandsForQuery g of.0 of.1) (sym c.self.invariant.1) at.query) in
    subst (λ (h : ForeverHeading). IfOk c.form_at-in-Steps.result (λ form. form ≡ axioms_under of.0 of.1 h)) (sym c.in-Steps.is)
    (c.form_at-in-Steps.ensures.made of.0 (step_query of.1 c.in-Steps.steps) at.laws stands)

pub returns-in_ok-step-in-Steps-clause-within : goal.returns-in_ok-step-in-Steps-clause-within
returns-in_ok-step-in-Steps-clause-within c = λ of is.
    let at = subst (λ (s : InductionView). IsInductionOf s of.0 of.1) (sym c.self.view_is) is in
    let stands = c.in_ok-step-in-Steps.ensures.stands of.0 of.1 (subst (λ (g : PlainGroundQuery). StandsForQuery g of.0 of.1) (sym c.self.invariant.1) at.query) in
    subst (λ (h : ForeverHeading). OnOk c.form_at-in-Steps.result (refusal_under of.0 of.1 h ≡ None)) (sym c.in-Steps.is)
    (c.form_at-in-Steps.ensures.within of.0 (step_query of.1 c.in-Steps.steps) at.laws stands)

pub returns-in_ok-step-in-Steps-clause-refused : goal.returns-in_ok-step-in-Steps-clause-refused
returns-in_ok-step-in-Steps-clause-refused c = λ of is.
    let at = subst (λ (s : InductionView). IsInductionOf s of.0 of.1) (sym c.self.view_is) is in
    let stands = c.in_ok-step-in-Steps.ensures.stands of.0 of.1 (subst (λ (g : PlainGroundQuery). StandsForQuery g of.0 of.1) (sym c.self.invariant.1) at.query) in
    subst (λ (h : ForeverHeading). IfErr c.form_at-in-Steps.result (IsRefusedBy (refusal_under of.0 of.1 h))) (sym c.in-Steps.is)
    (c.form_at-in-Steps.ensures.refused of.0 (step_query of.1 c.in-Steps.steps) at.laws stands)
