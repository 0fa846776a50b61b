use Rattle.std.proofs.Common.{arith, refl}
use Rattle.cc_sorts.proofs.Passes.{has_fault, passes, all_passed}
use Rattle.cc_sorts.proofs.fault.any_behind.Goals as goal

pub loop-declaration-init : goal.loop-declaration-init
loop-declaration-init c = λ file line declared is_left. record { front = declared; is_left = is_left; rest = refl }

pub loop-declaration-preserved : goal.loop-declaration-preserved
loop-declaration-preserved c = λ file line declared is_left.
    let passed = c.loop-declaration.invariant file line declared is_left
    in passes passed c.declaration-item.result c.add.new.self _ (omega (arith, c.loop-declaration-test.true)) c.declaration-item.is
    (c.in_ok-has.ensures file line passed.front passed.is_left) c.if-branch.false (c.in_ok-add.ensures file line)

pub returns-then-branch : goal.returns-then-branch
returns-then-branch c = λ file line declared is_left.
    let passed = c.loop-declaration.invariant file line declared is_left
    in has_fault passed c.declaration-item.result (omega (arith, c.loop-declaration-test.true)) c.declaration-item.is
    _ (c.in_ok-has.ensures file line passed.front passed.is_left) c.if-branch.true

pub returns : goal.returns
returns c = λ file line declared is_left. all_passed (c.loop-declaration.invariant file line declared is_left) c.loop-declaration-test.false
