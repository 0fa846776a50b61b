use Rattle.std.proofs.Common.{inl, inr}
use Rattle.cc_log.proofs.Spelled.{heading_line}
use Rattle.cc_check.proofs.line.heading_of.Goals as goal
use Rattle.cc_check.proofs.line.heading_of.Goals.{else-not-conditions-via-then-not-conditions+else-letter-ne104, else-not-conditions-via-else-not-conditions}

pub returns : goal.returns
returns c =
    heading_line c.args.text.now c.in_ok-horizon.horizon c.in-len2-up.len_at_least c.if-space-ne32.false
    (elim c.else-not-conditions.branch [
      | else-not-conditions-via-then-not-conditions+else-letter-ne104 w ↦ inr w.if-letter-ne104.false
      | else-not-conditions-via-else-not-conditions w ↦ inl w.if-not-conditions.false
    ])
    c.in_ok-horizon.ensures
