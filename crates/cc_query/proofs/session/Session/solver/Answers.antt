use Rattle.std.proofs.Common.{sym, subst}
use Rattle.std.specs.Option.{option_map}
use Rattle.cc_lists.specs.Horizons.{opening_refusal}
use Rattle.cc_query.proofs.Opened.{fresh_opened, good_opened, holds_opened, rows_opened, within_opened, within_part}
use Rattle.cc_query.proofs.Reaching.{query_there}
use Rattle.cc_query.proofs.Refusing.{errs, opening_refused}
use Rattle.cc_defs.specs.Refusals.{IsRefusedBy}
use Rattle.cc_query.specs.Parts.{is_conditions}
use Rattle.cc_query.specs.Sessions.{SessionView, IsSessionOf}
use Rattle.cc_query.proofs.session.Session.solver.Goals as goal

pub form-requires-clause-query : goal.form-requires-clause-query
form-requires-clause-query c = query_there _ c.args.self.now c.self.view_is c.self.invariant c.requires

pub returns-in_err-form-clause-refused : goal.returns-in_err-form-clause-refused
returns-in_err-form-clause-refused c = λ d q of.
    let there = subst (λ (v : SessionView). IsSessionOf v d q) (sym c.self.view_is) of in
    let fault = c.in_err-form.field-0.0 in
    errs c.from_residual.result fault (IsRefusedBy (opening_refusal d q c.args.self.now.ask c.args.self.now.horizon (is_conditions c.args.part))) c.from_residual.ensures.1
    (opening_refused c.form.result fault d q _ c.args.self.now c.args.part c.denies_claim-denies.result
    (option_map (λ key. key.now) c.key_of-key.result) c.self.view_is c.denies_claim-denies.ensures c.key_of-key.ensures c.in_err-form.was
    (c.form.ensures.refused d q there.laws there.query))

pub returns-clause-made : goal.returns-clause-made
returns-clause-made c = λ d q of.
    let there = subst (λ (v : SessionView). IsSessionOf v d q) (sym c.self.view_is) of in
    holds_opened d q _ c.args.self.now c.args.part c.denies_claim-denies.result (option_map (λ key. key.now) c.key_of-key.result) c.in_ok-form.form c.in_ok-solver_of.field-0
    c.self.view_is c.denies_claim-denies.ensures c.key_of-key.ensures (c.in_ok-form.ensures.made d q there.laws there.query) c.in_ok-solver_of.ensures.sizes
    c.in_ok-solver_of.ensures.variables c.in_ok-solver_of.ensures.few c.in_ok-solver_of.ensures.entries

pub returns-clause-rows : goal.returns-clause-rows
returns-clause-rows c = λ d q of.
    let there = subst (λ (v : SessionView). IsSessionOf v d q) (sym c.self.view_is) of in
    rows_opened d q _ c.args.self.now c.args.part c.denies_claim-denies.result c.key_of-key.result c.self.view_is c.denies_claim-denies.ensures c.key_of-key.ensures
    (c.in_ok-form.ensures.tells d q there.laws there.query)

pub returns-clause-few : goal.returns-clause-few
returns-clause-few c = within_opened c.args.self.now.ask c.in_ok-solver_of.field-0 c.in_ok-form.form c.in_ok-solver_of.ensures.good c.in_ok-solver_of.ensures.sizes
    c.in_ok-solver_of.ensures.variables c.in_ok-solver_of.ensures.few c.in_ok-solver_of.ensures.entries c.in_ok-solver_of.ensures.count

pub returns-clause-good : goal.returns-clause-good
returns-clause-good c = λ d q of.
    let there = subst (λ (v : SessionView). IsSessionOf v d q) (sym c.self.view_is) of in
    good_opened d q _ c.args.self.now c.args.part c.denies_claim-denies.result (option_map (λ key. key.now) c.key_of-key.result) c.in_ok-form.form
    c.self.view_is c.denies_claim-denies.ensures c.key_of-key.ensures (c.in_ok-form.ensures.made d q there.laws there.query) c.in_ok-solver_of.ensures.good

pub returns-clause-fresh : goal.returns-clause-fresh
returns-clause-fresh c = fresh_opened c.in_ok-solver_of.field-0 c.in_ok-form.form c.in_ok-solver_of.ensures.entries

pub returns-clause-within : goal.returns-clause-within
returns-clause-within c = λ d q of.
    let there = subst (λ (v : SessionView). IsSessionOf v d q) (sym c.self.view_is) of in
    within_part d q _ c.args.self.now c.args.part c.denies_claim-denies.result (option_map (λ key. key.now) c.key_of-key.result) c.self.view_is c.denies_claim-denies.ensures
    c.key_of-key.ensures (c.in_ok-form.ensures.within d q there.laws there.query)

pub returns-clause-ready : goal.returns-clause-ready
returns-clause-ready c = c.in_ok-solver_of.ensures.ready
