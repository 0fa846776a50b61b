use Rattle.std.proofs.Common.{◌≤◌, ◌<◌, Some, ap, arith, length, sym}
use Rattle.std.proofs.lemmas.Bool.{lt-ltb}
use Rattle.cc_rivals.specs.Making.{rules_for}
use Rattle.cc_rivals.proofs.Counts.{few_counted, many_counted}
use Rattle.cc_rivals.proofs.counting.few_rules.Goals as goal

pub returns-then-count-number-clause-refused : goal.returns-then-count-number-clause-refused
returns-then-count-number-clause-refused c =
    let all = length (rules_for c.args.sig.now c.args.laws.now c.args.horizon) in
    let past = c.if-count-number.true in
    let n = c.number.ensures in
    let more : 8000000 < c.rule_count-count.result = omega arith in
    rw (lt-ltb 8000000 all (many_counted c.rule_count-count.result all c.rule_count-count.ensures more)) (ap Some (sym c.past.ensures))

pub returns-clause-few : goal.returns-clause-few
returns-clause-few c =
    let within = c.if-count-number.false in
    let n = c.number.ensures in
    let less : c.rule_count-count.result ≤ 8000000 = omega arith in
    few_counted c.rule_count-count.result _ c.rule_count-count.ensures less
