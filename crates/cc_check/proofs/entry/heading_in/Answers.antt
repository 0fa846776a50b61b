use Rattle.std.proofs.Common.{inl, inr}
use Rattle.cc_check.proofs.EntryRead.{heading_read, no_heading}
use Rattle.cc_check.proofs.entry.heading_in.Goals.{else-not-conditions-via-then-not-conditions+else-kind-ne1, else-not-conditions-via-else-not-conditions}
use Rattle.cc_check.proofs.entry.heading_in.Goals as goal

pub returns-in_default-number_in : goal.returns-in_default-number_in
returns-in_default-number_in c = no_heading c.args.bytes.now c.in_default-number_in.ensures

pub returns : goal.returns
returns c =
    heading_read c.args.bytes.now c.in-len1-up.len_at_least
    (elim c.else-not-conditions.branch [
      | else-not-conditions-via-then-not-conditions+else-kind-ne1 w ↦ inr w.if-kind-ne1.false
      | else-not-conditions-via-else-not-conditions w ↦ inl w.if-not-conditions.false
    ])
    c.in-Some.horizon c.in-Some.rest.now c.in-Some.ensures
