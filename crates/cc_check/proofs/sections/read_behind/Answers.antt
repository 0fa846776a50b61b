use Rattle.std.proofs.Common.{arith}
use Rattle.cc_check.proofs.FirstTexts.{text_shorter}
use Rattle.cc_check.proofs.Headers.{first_read, second_wrong}
use Rattle.cc_check.proofs.sections.read_behind.Goals as goal

pub returns-in_default-clause-refused : goal.returns-in_default-clause-refused
returns-in_default-clause-refused c =
    second_wrong c.args.version c.args.body.now c.cut_text-heading.result.1.now c.cut_text-heading.result.0 c.cut_text-heading.ensures c.refused-in_default.result
    c.second_cause_at-cause.result c.refused-in_default.ensures c.in_default.is c.second_cause_at-cause.ensures

pub returns-clause-read : goal.returns-clause-read
returns-clause-read c =
    first_read c.args.version c.args.body.now c.cut_text-heading.result.1.now c.cut_text-heading.result.0 c.cut_text-heading.ensures c.in-Some.heading c.in-Some.is

pub invariant_of-result : goal.invariant_of-result
invariant_of-result c =
    let less = text_shorter _ _ _ _ c.cut_text-heading.ensures.first in
    let (texts, are, (all, ahead, split)) = first_read c.args.version c.args.body.now c.cut_text-heading.result.1.now c.cut_text-heading.result.0 c.cut_text-heading.ensures c.in-Some.heading
    c.in-Some.is in
    ((omega arith, omega arith), (all, ahead))
