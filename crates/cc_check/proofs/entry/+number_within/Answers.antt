use Rattle.std.proofs.Common.{arith, refl}
use Rattle.std.proofs.lemmas.Bool.{false≢true}
use Rattle.cc_log.proofs.NumberBytes.{within_large, within_none, within_out, within_small}
use Rattle.cc_check.proofs.entry.+number_within.Goals as goal

pub returns-in_default-number_within : goal.returns-in_default-number_within
returns-in_default-number_within t c =
    within_none c.args.more c.args.bytes.now c.if-more-eq0.false c.in-len1-up.len_at_least c.if-first-lt128.false c.in_default-number_within.ensures

pub returns-then-not-is_high_part : goal.returns-then-not-is_high_part
returns-then-not-is_high_part t c =
    within_out c.args.more c.args.bytes.now c.in-Some.high c.in-Some.rest.now c.if-more-eq0.false c.in-len1-up.len_at_least c.if-first-lt128.false c.in-Some.ensures
    (λ is. false≢true (c.if-not-is_high_part.ensures.1 is))

pub returns-then-first-lt128 : goal.returns-then-first-lt128
returns-then-first-lt128 t c = within_small c.args.more c.from.result c.args.bytes.now c.in-len1-up.len_at_least c.if-first-lt128.true c.from.ensures

pub returns : goal.returns
returns t c =
    within_large c.args.more c.in-Some.high c.from-2.result c.args.bytes.now c.in-Some.rest.now c.if-more-eq0.false c.in-len1-up.len_at_least c.if-first-lt128.false
    (let byte = c.type_inv.bytes 0 in omega arith) c.in-Some.ensures (c.if-not-is_high_part.ensures.0 refl) c.from-2.ensures
