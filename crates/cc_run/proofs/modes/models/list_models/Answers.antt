use Rattle.std.proofs.Common.{ap}
use Rattle.cc_defs.specs.Runs.{optional}
use Rattle.cc_run.specs.Modes.Modelling.{modelling_promise}
use Rattle.cc_tell.specs.declared.status.Status.TheVariants as statuses
use Rattle.cc_words.specs.Requests.{Modelling}
use Rattle.cc_words.specs.Views.{plain_text}
use Rattle.cc_run.proofs.ModelRuns.{begins_models, form_within, listing_as, modelling_is, models_log, prints_listing}
use Rattle.cc_list.proofs.Outcomes.{prints_lacking, prints_unbegun}
use Rattle.cc_run.proofs.modes.models.list_models.Goals as goal

pub returns-in_err-search : goal.returns-in_err-search
returns-in_err-search g c = λ modelling cnf same of is. prints_lacking (modelling_promise modelling) _ _ _ c.from_residual.result c.from_residual.ensures.1

pub returns-in_err-begin_log : goal.returns-in_err-begin_log
returns-in_err-begin_log g c = λ modelling cnf same of is.
    let there = modelling_is c.args.asked.now modelling same in
    let names = optional (plain_text c.args.asked.now.log) in
    prints_unbegun (modelling_promise modelling) _ names _ _ c.begin_log.result c.in_err-begin_log.field-0.0 c.from_residual-in_err-begin_log.result
    (models_log modelling names (ap (λ (m : Modelling). optional m.log) there) statuses.Right)
    (begins_models c.args.asked.now modelling there names _ _ c.begin_log.result c.begin_log.ensures) c.in_err-begin_log.was c.from_residual-in_err-begin_log.ensures.1

pub tell_section-requires-clause-at : goal.tell_section-requires-clause-at
tell_section-requires-clause-at g c =
    let of = c.requires.form in
    let made = c.in_ok-search.ensures in
    (c.args.form, c.args.asked.now.count, c.args.asked.now.budget, form_within of.0 c.args.form c.args.asked.now.budget of.1 made.good c.requires.budget, made.stands)

pub returns : goal.returns
returns g c = λ modelling cnf same of is.
    let there = modelling_is c.args.asked.now modelling same in
    let names = optional (plain_text c.args.asked.now.log) in
    let made = c.in_ok-search.ensures in
    prints_listing modelling cnf c.args.form names _ _ _ c.begin_log.result c.in_ok-begin_log.field-0 c.tell_section.result
    (ap (λ (m : Modelling). optional m.log) there) of is (begins_models c.args.asked.now modelling there names _ _ c.begin_log.result c.begin_log.ensures) c.in_ok-begin_log.was
    (listing_as c.args.asked.now modelling there c.args.form _ _ c.tell_section.result
    (c.tell_section.ensures c.args.form c.args.asked.now.count c.args.asked.now.budget (form_within cnf c.args.form c.args.asked.now.budget of made.good c.requires.budget) made.stands))
