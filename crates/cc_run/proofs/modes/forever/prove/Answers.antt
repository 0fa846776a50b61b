use Rattle.std.proofs.Common.{◌∙◌, [], true, false, ap, refl}
use Rattle.std.specs.Prelude.{is_some}
use Rattle.cc_arena.specs.GroundViews.{plain_ground_query}
use Rattle.cc_defs.specs.Runs.{optional, range_of}
use Rattle.cc_forever.specs.Forevers.{nothing_told}
use Rattle.cc_list.proofs.DescribedNames.{names_of}
use Rattle.cc_list.proofs.Outcomes.{prints_lacking, prints_unbegun}
use Rattle.cc_run.proofs.ProvingTexts.{forever_gives, forever_given}
use Rattle.cc_run.proofs.ProvingTold.{about_of, begins_proving, claim_of, header_is, least_is, prints_proof, proving_is, proving_log, shown_by, subject_of, told_as_asked}
use Rattle.cc_run.specs.Modes.Proving.{proving_promise}
use Rattle.cc_tell.specs.declared.status.Status.TheVariants as statuses
use Rattle.cc_tell_modes.proofs.RunsTelling.{header_cut, header_told}
use Rattle.cc_words.specs.Requests.{Proving}
use Rattle.cc_words.specs.Views.{plain_text}
use Rattle.cc_run.proofs.modes.forever.prove.Goals as goal

pub returns-in_err-forever : goal.returns-in_err-forever
returns-in_err-forever g c = λ proving d q same is of named. prints_lacking (proving_promise proving) _ [] _ c.from_residual.result c.from_residual.ensures.1

pub returns-in_err-begin_log : goal.returns-in_err-begin_log
returns-in_err-begin_log g c = λ proving d q same is of named.
    let there = proving_is c.args.asked.now proving same in
    let names = optional (plain_text c.args.asked.now.log) in
    prints_unbegun (proving_promise proving) _ names _ _ c.begin_log.result c.in_err-begin_log.field-0.0 c.from_residual-in_err-begin_log.result
    (proving_log proving names (ap (λ (p : Proving). optional p.log) there) statuses.Right)
    (begins_proving c.args.asked.now proving there names _ _ c.begin_log.result c.begin_log.ensures) c.in_err-begin_log.was c.from_residual-in_err-begin_log.ensures.1

pub returns-in_err-give : goal.returns-in_err-give
returns-in_err-give g c = λ proving d q same is of named.
    let there = proving_is c.args.asked.now proving same in
    let names = optional (plain_text c.args.asked.now.log) in
    let new = c.in_ok-forever.ensures in
    let about = about_of c.in_ok-forever.forever _ _ _ _ d q new.signature new.laws new.query new.budget of in
    let right = (new.begun (subject_of d q c.args.asked.now.budget) about).right in
    prints_proof proving d q (shown_by _ _ _ d q c.requires.searchable of c.fair_runs_prove_never.ensures c.fair_runs_tell_the_first.ensures c.forever_logs_are_accepted.ensures) _ refl names _ _ _
    c.begin_log.result c.in_ok-begin_log.field-0 c.from_residual-in_err-give.result (ap (λ (p : Proving). optional p.log) there) named
    (begins_proving c.args.asked.now proving there names _ _ c.begin_log.result c.begin_log.ensures) c.in_ok-begin_log.was
    (told_as_asked (is_some q.claim) c.args.asked.now proving there d q _ _ c.from_residual-in_err-give.result
    (header_cut nothing_told _ (header_is d q) _ _ c.give.result c.in_err-give.field-0.0 c.from_residual-in_err-give.result right c.give.ensures c.in_err-give.was c.from_residual-in_err-give.ensures.1))

pub tell_all-requires-clause-about : goal.tell_all-requires-clause-about
tell_all-requires-clause-about g c =
    let (d, q, is, of) = c.requires.of in
    let new = c.in_ok-forever.ensures in
    let about = about_of c.in_ok-forever.forever _ _ _ _ d q new.signature new.laws new.query new.budget of in
    (subject_of d q c.args.asked.now.budget, nothing_told, about, new.begun (subject_of d q c.args.asked.now.budget) about)

pub returns-in-Some : goal.returns-in-Some
returns-in-Some g c = λ proving d q same is of named.
    let there = proving_is c.args.asked.now proving same in
    let names = optional (plain_text c.args.asked.now.log) in
    let new = c.in_ok-forever.ensures in
    let subject = subject_of d q c.args.asked.now.budget in
    let about = about_of c.in_ok-forever.forever _ _ _ _ d q new.signature new.laws new.query new.budget of in
    let claim = claim_of c.args.prepared.now.query d q of.query_is ∙ ap is_some c.in-Some.is in
    let told = c.tell_all.ensures subject nothing_told (d, (range_of q).0) (λ run. tt) (forever_given d q) about (new.begun subject about)
    (names_of c.args.described.now d is, least_is (plain_ground_query c.args.prepared.now.query) d q of.query_is) (forever_gives subject true claim) in
    prints_proof proving d q (shown_by _ _ _ d q c.requires.searchable of c.fair_runs_prove_never.ensures c.fair_runs_tell_the_first.ensures c.forever_logs_are_accepted.ensures) true claim names _ _ _
    c.begin_log.result c.in_ok-begin_log.field-0 c.tell_all.result (ap (λ (p : Proving). optional p.log) there) named
    (begins_proving c.args.asked.now proving there names _ _ c.begin_log.result c.begin_log.ensures) c.in_ok-begin_log.was
    (told_as_asked true c.args.asked.now proving there d q _ _ c.tell_all.result
    (header_told nothing_told _ (header_is d q) _ _ _ c.give.result c.in_ok-give.field-0 c.tell_all.result c.give.ensures c.in_ok-give.was told))

pub tell_all-requires-in-None-clause-about : goal.tell_all-requires-in-None-clause-about
tell_all-requires-in-None-clause-about g c =
    let (d, q, is, of) = c.requires.of in
    let new = c.in_ok-forever.ensures in
    let about = about_of c.in_ok-forever.forever _ _ _ _ d q new.signature new.laws new.query new.budget of in
    (subject_of d q c.args.asked.now.budget, nothing_told, about, new.begun (subject_of d q c.args.asked.now.budget) about)

pub returns-in-None : goal.returns-in-None
returns-in-None g c = λ proving d q same is of named.
    let there = proving_is c.args.asked.now proving same in
    let names = optional (plain_text c.args.asked.now.log) in
    let new = c.in_ok-forever.ensures in
    let subject = subject_of d q c.args.asked.now.budget in
    let about = about_of c.in_ok-forever.forever _ _ _ _ d q new.signature new.laws new.query new.budget of in
    let claim = claim_of c.args.prepared.now.query d q of.query_is ∙ ap is_some c.in-None.is in
    let told = c.tell_all-in-None.ensures subject nothing_told (d, (range_of q).0) (λ run. tt) (forever_given d q) about (new.begun subject about)
    (names_of c.args.described.now d is, least_is (plain_ground_query c.args.prepared.now.query) d q of.query_is) (forever_gives subject false claim) in
    prints_proof proving d q (shown_by _ _ _ d q c.requires.searchable of c.fair_runs_prove_never.ensures c.fair_runs_tell_the_first.ensures c.forever_logs_are_accepted.ensures) false claim names _ _ _
    c.begin_log.result c.in_ok-begin_log.field-0 c.tell_all-in-None.result (ap (λ (p : Proving). optional p.log) there) named
    (begins_proving c.args.asked.now proving there names _ _ c.begin_log.result c.begin_log.ensures) c.in_ok-begin_log.was
    (told_as_asked false c.args.asked.now proving there d q _ _ c.tell_all-in-None.result
    (header_told nothing_told _ (header_is d q) _ _ _ c.give.result c.in_ok-give.field-0 c.tell_all-in-None.result c.give.ensures c.in_ok-give.was told))
