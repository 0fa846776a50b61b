use Rattle.std.proofs.Common.{List, ℕ, ◌/◌, sym, subst, arith}
use Rattle.cc_log.proofs.WrittenBytes.{IsLeft, all_left, one_byte}
use Rattle.cc_log.proofs.binary.push_number.Goals as goal

pub loop-left-init : goal.loop-left-init
loop-left-init c = all_left c.args.number c.args.bytes.now.items (omega arith)

pub loop-left-preserved : goal.loop-left-preserved
loop-left-preserved c =
    subst (λ (made : List ℕ). IsLeft c.args.number (c.loop-left.left / 128) c.args.bytes.now.items made) (sym c.in_ok-push.ensures.items)
    (one_byte c.args.number c.loop-left.left c.args.bytes.now.items c.loop-left.bytes.items c.loop-left.invariant c.loop-left-test.true)
