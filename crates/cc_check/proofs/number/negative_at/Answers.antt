use Rattle.std.proofs.Common.{arith}
use Rattle.cc_log.proofs.Numbers.{one_number}
use Rattle.cc_check.proofs.number.negative_at.Goals as goal

pub returns-then-variable-eq0 : goal.returns-then-variable-eq0
returns-then-variable-eq0 c number rest some h =
    let same = one_number c.args.bytes.now c.in_ok-variable.variable number c.in_ok-variable.rest.now rest c.in_ok-variable.ensures h in
    let zero_is = c.if-variable-eq0.true in
    let first = same.0 in
    omega arith
