use Rattle.std.proofs.Common.{flat_map, refl}
use Rattle.cc_defs.specs.LogBytes.{number_bytes}
use Rattle.cc_log.proofs.Behind.{flat_next, nothing_left}
use Rattle.cc_log.proofs.binary.push_numbers.Goals as goal

pub loop-number-preserved : goal.loop-number-preserved
loop-number-preserved c =
    flat_next number_bytes c.args.numbers.now c.loop-number.number-index _ c.loop-number.bytes.items c.push_number.new.bytes.items _ c.loop-number-test.true
    c.in_ok-push_number.ensures c.loop-number.invariant

pub returns : goal.returns
returns c = nothing_left (flat_map number_bytes) c.args.numbers.now c.loop-number.number-index c.loop-number.bytes.items _ refl c.loop-number-test.false c.loop-number.invariant
