use Rattle.std.proofs.Common.{refl, inr}
use Rattle.cc_log.proofs.Signed.{none_at_all, negative_result, positive_signed, no_positive, front}
use Rattle.cc_check.proofs.number.signed_at.Goals as goal

pub returns-in_default : goal.returns-in_default
returns-in_default c = none_at_all c.args.bytes.now c.in_default.len_below

pub returns-then-first-eq45 : goal.returns-then-first-eq45
returns-then-first-eq45 c =
    negative_result c.args.bytes.now _ c.negative_at.result (front c.args.bytes.now 45 c.in-len1-up.len_at_least c.if-first-eq45.true) c.negative_at.ensures

pub returns-in-Some : goal.returns-in-Some
returns-in-Some c = positive_signed c.args.bytes.now _ c.in-Some.rest.now refl c.in-Some.ensures

pub returns-in-None : goal.returns-in-None
returns-in-None c = no_positive c.args.bytes.now (inr c.if-first-eq45.false) c.in-None.ensures
