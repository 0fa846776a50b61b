use Rattle.std.proofs.Common.{inl, inr, sym}
use Rattle.cc_log.proofs.Numbers.{digit_begun, digit_read, nothing_there, no_digit_there, stops, too_long}
use Rattle.cc_check.proofs.number.number_at.Goals as goal
use Rattle.cc_check.proofs.number.number_at.Goals.{in_default-rest, in-len1-up-rest+then-not-is_digit_byte-2, then-number-eq0-via-then-number-eq0, then-number-eq0-via-else-number-eq0+then-number-gt99999999}

pub returns-in_default : goal.returns-in_default
returns-in_default c = nothing_there c.args.bytes.now c.in_default.len_below

pub returns-then-not-is_digit_byte : goal.returns-then-not-is_digit_byte
returns-then-not-is_digit_byte c = no_digit_there c.args.bytes.now c.in-len1-up.len_at_least (sym c.if-not-is_digit_byte.ensures)

pub returns-then-number-eq0 : goal.returns-then-number-eq0
returns-then-number-eq0 c =
    too_long c.args.bytes.now c.loop-rest.number c.loop-rest.rest.now c.loop-rest.invariant.1 c.in-len1-up-rest.len_at_least (sym c.if-not-is_digit_byte-2.ensures)
    (elim c.then-number-eq0.branch [
      | then-number-eq0-via-then-number-eq0 w ↦ inl w.if-number-eq0.true
      | then-number-eq0-via-else-number-eq0+then-number-gt99999999 w ↦ inr w.if-number-gt99999999.true
    ])

pub loop-rest-preserved : goal.loop-rest-preserved
loop-rest-preserved c =
    digit_read c.args.bytes.now c.loop-rest.number c.from.result c.loop-rest.rest.now c.loop-rest.invariant.1 c.in-len1-up-rest.len_at_least
    (sym c.if-not-is_digit_byte-2.ensures) c.if-number-eq0.false c.if-number-gt99999999.false c.from.ensures

pub returns : goal.returns
returns c =
    stops c.args.bytes.now c.loop-rest.number c.loop-rest.rest.now c.loop-rest.invariant.1
    (elim c.if-rest-lt1.branch [
      | in_default-rest w ↦ inl w.in_default-rest.len_below
      | in-len1-up-rest+then-not-is_digit_byte-2 w ↦ inr (w.in-len1-up-rest.len_at_least, sym w.if-not-is_digit_byte-2.ensures)
    ])

pub loop-rest-init : goal.loop-rest-init
loop-rest-init c = digit_begun c.args.bytes.now c.from-number.result c.in-len1-up.len_at_least (sym c.if-not-is_digit_byte.ensures) c.from-number.ensures
