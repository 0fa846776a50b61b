use Rattle.std.proofs.Common.{ap, subst, ℕ, Option}
use Rattle.cc_defs.specs.Runs.{optional}
use Rattle.cc_general.specs.Generals.{nothing_told}
use Rattle.cc_general.specs.GeneralSteps.{IsRightRun}
use Rattle.cc_list.proofs.DescribedNames.{framed_names}
use Rattle.cc_list.proofs.Outcomes.{prints_unbegun}
use Rattle.cc_run.specs.Generals.{generally_given}
use Rattle.cc_run.specs.Modes.Generally.{general_promise}
use Rattle.cc_tell.specs.declared.status.Status.TheVariants as statuses
use Rattle.cc_tell_modes.proofs.RunsTelling.{header_cut, header_told}
use Rattle.cc_words.specs.Requests.{Generally}
use Rattle.cc_words.specs.Views.{plain_text}
use Rattle.cc_run.proofs.GeneralTexts.{generally_gives}
use Rattle.cc_run.proofs.GenerallyTold.{asked_of, begins_generally, general_log_named, general_of, generally_is, header_is, prints_generally, told_as}
use Rattle.cc_run.proofs.SurelyTold.{range_low}
use Rattle.cc_run.proofs.WideClaims.{made_unclaimed}
use Rattle.cc_wide.specs.WideLaws.{frame}
use Rattle.cc_run.proofs.modes.general.list_generally.Goals as goal

pub returns-in_err-begin_log : goal.returns-in_err-begin_log
returns-in_err-begin_log g c = λ generally w q same is of named.
    let there = generally_is c.args.asked.now generally same in
    let names = optional (plain_text c.args.asked.now.log) in
    prints_unbegun (general_promise generally) _ names _ _ c.begin_log.result c.in_err-begin_log.field-0.0 c.from_residual.result
    (general_log_named generally names (ap (λ (g : Generally). optional g.log) there) statuses.Right)
    (begins_generally c.args.asked.now generally there names _ _ c.begin_log.result c.begin_log.ensures) c.in_err-begin_log.was c.from_residual.ensures.1

pub new-general-requires-clause-claim : goal.new-general-requires-clause-claim
new-general-requires-clause-claim g c = made_unclaimed c.args.prepared.now.query c.requires.searchable.claim

pub returns-in_err-give : goal.returns-in_err-give
returns-in_err-give g c = λ generally w q same is of named.
    let there = generally_is c.args.asked.now generally same in
    let names = optional (plain_text c.args.asked.now.log) in
    let new = c.new-general.ensures in
    let general = c.new-general.result in
    let stands = new.begun w q (general_of general _ _ _ w q new.signature new.laws new.query of) in
    let right = subst (λ (budget : ℕ). IsRightRun (asked_of w q c.args.asked.now.count budget) nothing_told) new.budget
    (subst (λ (count : Option ℕ). IsRightRun (asked_of w q count general.budget) nothing_told) new.count (record { fair = stands.fair; writable = tt })) in
    prints_generally generally w q names _ _ _ c.begin_log.result c.in_ok-begin_log.field-0 c.from_residual-in_err-give.result c.general_logs_are_accepted.ensures
    (range_low _ (frame w) q of.query_is c.requires.searchable.most) (ap (λ (g : Generally). optional g.log) there) named
    (begins_generally c.args.asked.now generally there names _ _ c.begin_log.result c.begin_log.ensures) c.in_ok-begin_log.was
    (told_as c.args.asked.now generally there w q _ _ c.from_residual-in_err-give.result
    (header_cut nothing_told _ (header_is w q) _ _ c.give.result c.in_err-give.field-0.0 c.from_residual-in_err-give.result right c.give.ensures c.in_err-give.was c.from_residual-in_err-give.ensures.1))

pub tell_all-requires-clause-about : goal.tell_all-requires-clause-about
tell_all-requires-clause-about g c =
    let (w, q, is, of) = c.requires.of in
    let new = c.new-general.ensures in
    let general = general_of c.new-general.result _ _ _ w q new.signature new.laws new.query of in (
      asked_of w q c.args.asked.now.count c.args.asked.now.budget,
      nothing_told,
      record { general_of = general; count = new.count; budget = new.budget },
      record { stands = new.begun w q general; writable = tt },
    )

pub returns : goal.returns
returns g c = λ generally w q same is of named.
    let there = generally_is c.args.asked.now generally same in
    let names = optional (plain_text c.args.asked.now.log) in
    let new = c.new-general.ensures in
    let subject = asked_of w q c.args.asked.now.count c.args.asked.now.budget in
    let general = general_of c.new-general.result _ _ _ w q new.signature new.laws new.query of in
    let told = c.tell_all.ensures subject nothing_told (frame w) (λ run. tt) (generally_given w q) (record { general_of = general; count = new.count; budget = new.budget })
    (record { stands = new.begun w q general; writable = tt }) (framed_names c.args.said.now w is) (generally_gives subject) in
    prints_generally generally w q names _ _ _ c.begin_log.result c.in_ok-begin_log.field-0 c.tell_all.result c.general_logs_are_accepted.ensures
    (range_low _ (frame w) q of.query_is c.requires.searchable.most) (ap (λ (g : Generally). optional g.log) there) named
    (begins_generally c.args.asked.now generally there names _ _ c.begin_log.result c.begin_log.ensures) c.in_ok-begin_log.was
    (told_as c.args.asked.now generally there w q _ _ c.tell_all.result
    (header_told nothing_told _ (header_is w q) _ _ _ c.give.result c.in_ok-give.field-0 c.tell_all.result c.give.ensures c.in_ok-give.was told))
