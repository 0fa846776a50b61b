use Rattle.std.proofs.Common.{inl, inr}
use Rattle.cc_check.proofs.Counted.{literals_counted_done, literals_counted_more}
use Rattle.cc_log.proofs.Rows.{literals_fail, literals_shorter, literals_stop}
use Rattle.cc_log.proofs.Signed.{front}
use Rattle.cc_check.proofs.line.count_literals.Goals as goal

pub returns-then-byte-ne32 : goal.returns-then-byte-ne32
returns-then-byte-ne32 c =
    literals_fail c.args.text.now c.loop-rest.invariant.made c.loop-rest.rest.now c.loop-rest.invariant.so_far (inr c.if-byte-ne32.true)

pub returns-in_default-signed_at : goal.returns-in_default-signed_at
returns-in_default-signed_at c =
    literals_stop c.args.text.now c.loop-rest.invariant.made c.loop-rest.rest.now c.loop-rest.invariant.so_far _
    (front c.loop-rest.rest.now 32 c.in-len1-up.len_at_least c.if-byte-ne32.false) c.in_default-signed_at.ensures

pub returns-then-variable-eq0 : goal.returns-then-variable-eq0
returns-then-variable-eq0 c =
    literals_counted_done c.args.text.now c.loop-rest.count c.loop-rest.rest.now c.loop-rest.invariant _ _ c.in-Some.next.now
    (front c.loop-rest.rest.now 32 c.in-len1-up.len_at_least c.if-byte-ne32.false) c.in-Some.ensures c.if-variable-eq0.true

pub loop-rest-preserved : goal.loop-rest-preserved
loop-rest-preserved c =
    literals_counted_more c.args.text.now c.loop-rest.count c.loop-rest.rest.now c.loop-rest.invariant _ _ c.in-Some.next.now
    (front c.loop-rest.rest.now 32 c.in-len1-up.len_at_least c.if-byte-ne32.false) c.in-Some.ensures c.if-variable-eq0.false

pub loop-rest-smaller : goal.loop-rest-smaller
loop-rest-smaller c =
    literals_shorter c.loop-rest.rest.now _ _ c.in-Some.next.now
    (front c.loop-rest.rest.now 32 c.in-len1-up.len_at_least c.if-byte-ne32.false) c.in-Some.ensures

pub returns : goal.returns
returns c =
    literals_fail c.args.text.now c.loop-rest.invariant.made c.loop-rest.rest.now c.loop-rest.invariant.so_far (inl c.in_default.len_below)
