use Rattle.cc_why.proofs.Truths.{parts_tell, parts_fail}
use Rattle.cc_why.proofs.history.has_body.Goals as goal

pub returns-then-is_part_true : goal.returns-then-is_part_true
returns-then-is_part_true c =
    parts_tell c.args.row.now c.args.stride c.args.rule.now c.in-Some.field-0 c.is_part_true.result c.is_part_true-then-is_part_true.result
    c.in-Some.is c.if-is_part_true.true c.is_part_true.ensures c.is_part_true-then-is_part_true.ensures

pub returns-else-is_part_true : goal.returns-else-is_part_true
returns-else-is_part_true c =
    parts_fail c.args.row.now c.args.stride c.args.rule.now c.in-Some.field-0 c.is_part_true.result c.in-Some.is c.if-is_part_true.false c.is_part_true.ensures
