use Rattle.std.proofs.Common.{arith, rules}
use Rattle.cc_defs.specs.LogTexts.{lines_in}
use Rattle.cc_check.specs.SilentParts.{IsBehindFault}
use Rattle.cc_check.proofs.Headers.{as_err}
use Rattle.cc_check.proofs.SilentLogs.{cut_few, few_begun, few_more, passed_shorter, silent_begun, silent_ends, silent_more, silent_past, silent_stops}
use Rattle.cc_check.proofs.silent.judge_behind.Goals as goal

pub loop-rest-init : goal.loop-rest-init
loop-rest-init g c = (few_begun c.args.body.now c.requires, (λ of is. silent_begun (g.S.Silent.subject of) c.args.body.now))

pub returns-in_err-closes-clause-refused : goal.returns-in_err-closes-clause-refused
returns-in_err-closes-clause-refused g c = λ of is.
    as_err (IsBehindFault (g.S.Silent.subject of) (lines_in c.args.body.now)) c.from_residual.result c.in_err-closes.field-0.0 c.from_residual.ensures.1
    (silent_past (g.S.Silent.subject of) (lines_in c.args.body.now) c.loop-rest.place c.loop-rest.line c.loop-rest.rest.now (c.loop-rest.invariant.1 of is)
    c.first_line.result.0.now c.first_line.result.1.now c.first_line.ensures c.in_err-closes.field-0.0 (c.in_err-closes.ensures.refused of is))

pub loop-rest-preserved : goal.loop-rest-preserved
loop-rest-preserved g c = (
  few_more c.loop-rest.place.before c.loop-rest.line c.loop-rest.rest.now c.loop-rest.invariant.0 c.first_line.result.0.now c.first_line.result.1.now c.first_line.ensures
      c.in_ok-closes.field-0 c.in-Goes.closes c.in-Goes.count c.in-Goes.others c.in-Goes.is c.in_ok-closes.ensures.shorter,
  (λ of is. silent_more (g.S.Silent.subject of) (lines_in c.args.body.now) c.loop-rest.place c.loop-rest.line c.loop-rest.rest.now (c.loop-rest.invariant.1 of is)
      c.first_line.result.0.now c.first_line.result.1.now c.first_line.ensures c.in_ok-closes.field-0 c.in-Goes.closes c.in-Goes.count c.in-Goes.others c.in-Goes.is
      (c.in_ok-closes.ensures.passed of is)),
)

pub returns-in-Stops-clause-within : goal.returns-in-Stops-clause-within
returns-in-Stops-clause-within g c = λ of is.
    silent_stops (g.S.Silent.subject of) (lines_in c.args.body.now) c.loop-rest.place c.loop-rest.line c.loop-rest.rest.now (c.loop-rest.invariant.1 of is)
    c.first_line.result.0.now c.first_line.result.1.now c.first_line.ensures c.in_ok-closes.field-0 c.in-Stops.verdict c.in-Stops.is (c.in_ok-closes.ensures.passed of is)

pub pass_section-requires-clause-few : goal.pass_section-requires-clause-few
pass_section-requires-clause-few g c = (cut_few c.loop-rest.place.before c.loop-rest.line c.loop-rest.rest.now c.loop-rest.invariant.0 c.first_line.result.0.now c.first_line.result.1.now c.first_line.ensures).0

pub overflow_add-line-in-Goes : goal.overflow_add-line-in-Goes
overflow_add-line-in-Goes g c =
    let few = (few_more c.loop-rest.place.before c.loop-rest.line c.loop-rest.rest.now c.loop-rest.invariant.0 c.first_line.result.0.now c.first_line.result.1.now c.first_line.ensures
    c.in_ok-closes.field-0 c.in-Goes.closes c.in-Goes.count c.in-Goes.others c.in-Goes.is c.in_ok-closes.ensures.shorter).few in omega arith

pub loop-rest-smaller : goal.loop-rest-smaller
loop-rest-smaller g c =
    passed_shorter c.loop-rest.place.before c.loop-rest.line c.loop-rest.rest.now c.loop-rest.invariant.0 c.first_line.result.0.now c.first_line.result.1.now c.first_line.ensures
    c.in_ok-closes.field-0 c.in-Goes.closes c.in-Goes.count c.in-Goes.others c.in-Goes.is c.in_ok-closes.ensures.shorter

pub returns-clause-within : goal.returns-clause-within
returns-clause-within g c = λ of is.
    silent_ends (g.S.Silent.subject of) (lines_in c.args.body.now) c.loop-rest.place c.loop-rest.line c.loop-rest.rest.now (c.loop-rest.invariant.1 of is) (search rules)
    c.ended_at.result (c.ended_at.ensures of is)
