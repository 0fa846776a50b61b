use Rattle.std.proofs.Common.{ap, subst, ℕ}
use Rattle.cc_defs.specs.Runs.{optional}
use Rattle.cc_run.specs.Modes.Surely.{sure_promise}
use Rattle.cc_run.specs.Sures.{surely_given}
use Rattle.cc_sure.specs.Sures.{nothing_told}
use Rattle.cc_sure.specs.SureSteps.{IsRightRun}
use Rattle.cc_tell.specs.declared.status.Status.TheVariants as statuses
use Rattle.cc_words.specs.Requests.{Surely}
use Rattle.cc_words.specs.Views.{plain_text}
use Rattle.cc_list.proofs.DescribedNames.{names_of}
use Rattle.cc_list.proofs.Outcomes.{prints_unbegun}
use Rattle.cc_tell_modes.proofs.RunsTelling.{header_cut, header_told}
use Rattle.cc_run.proofs.SurelyTold.{asked_of, begins_surely, header_is, prints_surely, range_low, sure_of, surely_is, surely_log, told_as}
use Rattle.cc_run.proofs.SureTexts.{surely_gives}
use Rattle.cc_run.proofs.modes.sure.be_sure.Goals as goal

pub returns-in_err-begin_log : goal.returns-in_err-begin_log
returns-in_err-begin_log g c = λ surely d q same is of named.
    let there = surely_is c.args.asked.now surely same in
    let names = optional (plain_text c.args.asked.now.log) in
    prints_unbegun (sure_promise surely) _ names _ _ c.begin_log.result c.in_err-begin_log.field-0.0 c.from_residual.result
    (surely_log surely names (ap (λ (s : Surely). optional s.log) there) statuses.Right)
    (begins_surely c.args.asked.now surely there names _ _ c.begin_log.result c.begin_log.ensures) c.in_err-begin_log.was c.from_residual.ensures.1

pub returns-in_err-give : goal.returns-in_err-give
returns-in_err-give g c = λ surely d q same is of named.
    let there = surely_is c.args.asked.now surely same in
    let names = optional (plain_text c.args.asked.now.log) in
    let new = c.new-sure.ensures in
    let stands = new.begun d q (sure_of c.new-sure.result _ _ _ d q new.signature new.laws new.query of) in
    let right = subst (λ (budget : ℕ). IsRightRun (asked_of d q budget) nothing_told) new.budget (record { fair = stands.fair; writable = tt }) in
    prints_surely surely d q names _ _ _ c.begin_log.result c.in_ok-begin_log.field-0 c.from_residual-in_err-give.result c.sure_logs_are_accepted.ensures
    (range_low _ d q of.query_is c.requires.searchable.most) (ap (λ (s : Surely). optional s.log) there) named
    (begins_surely c.args.asked.now surely there names _ _ c.begin_log.result c.begin_log.ensures) c.in_ok-begin_log.was
    (told_as c.args.asked.now surely there d q _ _ c.from_residual-in_err-give.result
    (header_cut nothing_told _ (header_is d q) _ _ c.give.result c.in_err-give.field-0.0 c.from_residual-in_err-give.result right c.give.ensures c.in_err-give.was c.from_residual-in_err-give.ensures.1))

pub tell_all-requires-clause-about : goal.tell_all-requires-clause-about
tell_all-requires-clause-about g c =
    let (d, q, is, of) = c.requires.of in
    let new = c.new-sure.ensures in
    let sure = sure_of c.new-sure.result _ _ _ d q new.signature new.laws new.query of in (
      asked_of d q c.args.asked.now.budget,
      nothing_told,
      record { sure_of = sure; budget = new.budget },
      record { stands = new.begun d q sure; writable = tt },
    )

pub returns : goal.returns
returns g c = λ surely d q same is of named.
    let there = surely_is c.args.asked.now surely same in
    let names = optional (plain_text c.args.asked.now.log) in
    let new = c.new-sure.ensures in
    let subject = asked_of d q c.args.asked.now.budget in
    let sure = sure_of c.new-sure.result _ _ _ d q new.signature new.laws new.query of in
    let told = c.tell_all.ensures subject nothing_told d (λ run. tt) (surely_given d q) (record { sure_of = sure; budget = new.budget })
    (record { stands = new.begun d q sure; writable = tt }) (names_of c.args.described.now d is) (surely_gives subject) in
    prints_surely surely d q names _ _ _ c.begin_log.result c.in_ok-begin_log.field-0 c.tell_all.result c.sure_logs_are_accepted.ensures
    (range_low _ d q of.query_is c.requires.searchable.most) (ap (λ (s : Surely). optional s.log) there) named
    (begins_surely c.args.asked.now surely there names _ _ c.begin_log.result c.begin_log.ensures) c.in_ok-begin_log.was
    (told_as c.args.asked.now surely there d q _ _ c.tell_all.result
    (header_told nothing_told _ (header_is d q) _ _ _ c.give.result c.in_ok-give.field-0 c.tell_all.result c.give.ensures c.in_ok-give.was told))
