use Rattle.std.proofs.Common.{inl, inr, refl}
use Rattle.std.proofs.lemmas.Bool.{false≢true}
use Rattle.cc_check.proofs.Counted.{counted_done, counted_more}
use Rattle.cc_log.proofs.Rows.{numbers_fail, numbers_stop, numbers_shorter}
use Rattle.cc_log.proofs.Signed.{front}
use Rattle.cc_check.proofs.line.count_numbers.Goals as goal
use Rattle.cc_check.proofs.line.count_numbers.Goals.{in_default, in-len1-up+then-byte-ne32}

pub returns-in_default-number_at : goal.returns-in_default-number_at
returns-in_default-number_at c =
    numbers_stop c.args.text.now c.loop-rest.invariant.made c.loop-rest.rest.now c.loop-rest.invariant.so_far _
    (front c.loop-rest.rest.now 32 c.in-len1-up.len_at_least c.if-byte-ne32.false) c.in_default-number_at.ensures

pub loop-rest-preserved : goal.loop-rest-preserved
loop-rest-preserved c =
    counted_more c.args.text.now c.loop-rest.count c.loop-rest.last c.loop-rest.rest.now c.loop-rest.invariant _ c.in-Some.number c.in-Some.next.now
    (front c.loop-rest.rest.now 32 c.in-len1-up.len_at_least c.if-byte-ne32.false) c.in-Some.ensures

pub loop-rest-smaller : goal.loop-rest-smaller
loop-rest-smaller c =
    numbers_shorter c.loop-rest.rest.now _ c.in-Some.number c.in-Some.next.now
    (front c.loop-rest.rest.now 32 c.in-len1-up.len_at_least c.if-byte-ne32.false) c.in-Some.ensures

pub returns-then-not-is_line_feed : goal.returns-then-not-is_line_feed
returns-then-not-is_line_feed c =
    numbers_fail c.args.text.now c.loop-rest.invariant.made c.loop-rest.rest.now c.loop-rest.invariant.so_far
    (elim c.if-rest-lt1.branch [
      | in_default w ↦ inl w.in_default.len_below
      | in-len1-up+then-byte-ne32 w ↦ inr w.if-byte-ne32.true
    ])
    (λ is. false≢true (c.if-not-is_line_feed.ensures.1 is))

pub returns : goal.returns
returns c =
    counted_done c.args.text.now c.loop-rest.count c.loop-rest.last c.loop-rest.rest.now c.loop-rest.invariant (c.if-not-is_line_feed.ensures.0 refl)
