use Rattle.std.proofs.Common.{[], ◌∷◌, ap}
use Rattle.cc_arena.specs.GroundViews.{plain_ground_query}
use Rattle.cc_run.specs.Modes.Converting.{converting_promise}
use Rattle.cc_words.specs.Words.{Text}
use Rattle.cc_run.proofs.Converted.{last_short, prints_accepted_log, prints_refused_log, says_of}
use Rattle.cc_list.proofs.Outcomes.{prints_unbegun}
use Rattle.cc_run.proofs.modes.convert.convert_judged.Goals as goal

pub give_accepted-requires-clause-says : goal.give_accepted-requires-clause-says
give_accepted-requires-clause-says g c =
    let (d, q, of, within) = c.requires.within in
    let short = last_short c.args.described.now.sig c.args.prepared.now.laws (plain_ground_query c.args.prepared.now.query) d q c.args.prepared.now.key c.requires.searchable of.query_is in (
      d,
      q,
      of,
      says_of c.accepted_logs_say_lines.ensures d q c.args.prepared.now.key c.args.bytes.now c.args.verdict.now c.in-Accepted.from c.in-Accepted.to c.in-Accepted.blocked
          c.requires.few short c.in-Accepted.is within,
    )

pub returns-in-Refused : goal.returns-in-Refused
returns-in-Refused g c = λ converting d q to of named judged.
    prints_refused_log converting d q c.args.prepared.now.key c.args.bytes.now c.args.verdict.now c.in-Refused.line c.in-Refused.cause _ _
    c.tell_verdict.result c.in-Refused.is named judged c.tell_verdict.ensures.told c.tell_verdict.ensures.status

pub returns-in_ok-begin_log-in-Accepted : goal.returns-in_ok-begin_log-in-Accepted
returns-in_ok-begin_log-in-Accepted g c = λ converting d q to of named judged.
    let short = last_short c.args.described.now.sig c.args.prepared.now.laws (plain_ground_query c.args.prepared.now.query) d q c.args.prepared.now.key c.requires.searchable of.query_is in
    let says = says_of c.accepted_logs_say_lines.ensures d q c.args.prepared.now.key c.args.bytes.now c.args.verdict.now c.in-Accepted.from c.in-Accepted.to c.in-Accepted.blocked
    c.requires.few short c.in-Accepted.is judged.within in
    prints_accepted_log converting d q c.args.prepared.now.key c.args.bytes.now c.other_versions_are_judged_alike.ensures c.args.verdict.now
    c.in-Accepted.from c.in-Accepted.to c.in-Accepted.blocked (c.args.to.now ∷ []) _ _ _ c.begin_log.result c.in_ok-begin_log-in-Accepted.field-0 c.give_accepted.result says
    c.in-Accepted.is (ap (λ (name : Text). name ∷ []) to) named judged c.begin_log.ensures c.in_ok-begin_log-in-Accepted.was
    (c.give_accepted.ensures.told d q of says) c.give_accepted.ensures.status

pub returns-in_err-begin_log-in-Accepted : goal.returns-in_err-begin_log-in-Accepted
returns-in_err-begin_log-in-Accepted g c = λ converting d q to of named judged.
    prints_unbegun (converting_promise converting) _ (c.args.to.now ∷ []) _ _ c.begin_log.result c.in_err-begin_log-in-Accepted.field-0.0 c.from_residual.result
    (ap (λ (name : Text). name ∷ []) to) c.begin_log.ensures
    c.in_err-begin_log-in-Accepted.was c.from_residual.ensures.1
