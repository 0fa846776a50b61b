use Rattle.std.proofs.Common.{◌∙◌, ◌++◌, List, ap, map, refl, sym}
use Rattle.cc_defs.specs.declared.formula.Term as kept
use Rattle.cc_defs.specs.Resolved.{Minus, Plus, plain_term}
use Rattle.cc_wide_ground.proofs.Copied.{boxed_copy, constant_copied, copied_all, copied_more, two}
use Rattle.cc_wide_ground.proofs.copies.+copy_term.Goals as goal

pub returns-after-loop-argument : goal.returns-after-loop-argument
returns-after-loop-argument t c =
    constant_copied c.args.term.now c.in-Constant.symbol c.in-Constant.args c.loop-argument.copies c.in-Constant.is
    (copied_all plain_term (map plain_term) c.deref-argument-items.result.now c.loop-argument.argument-index c.loop-argument.copies.items _ refl
    c.loop-argument-test.false c.loop-argument.invariant
    ∙ ap (map plain_term) c.deref-argument-items.ensures.value)

pub returns-in_ok-second-in-Plus : goal.returns-in_ok-second-in-Plus
returns-in_ok-second-in-Plus t c =
    two Plus (boxed_copy plain_term c.in_ok-first-in-Plus.ensures.ok c.in_ok-copy_term-in-Plus.ensures c.deref.ensures) (boxed_copy plain_term c.in_ok-second-in-Plus.ensures.ok c.in_ok-copy_term-in-Plus-2.ensures c.deref-in-Plus.ensures) ∙ sym (ap plain_term c.in-Plus.is)

pub returns-in_ok-second-in-Minus : goal.returns-in_ok-second-in-Minus
returns-in_ok-second-in-Minus t c =
    two Minus (boxed_copy plain_term c.in_ok-first-in-Minus.ensures.ok c.in_ok-copy_term-in-Minus.ensures c.deref-in-Minus.ensures) (boxed_copy plain_term c.in_ok-second-in-Minus.ensures.ok c.in_ok-copy_term-in-Minus-2.ensures c.deref-in-Minus-2.ensures) ∙ sym (ap plain_term c.in-Minus.is)

pub loop-argument-init : goal.loop-argument-init
loop-argument-init t c = ap (λ (l : List kept.Term). map plain_term l ++ map plain_term c.deref-argument-items.result.now) c.in_ok-copies-in-Constant.ensures.items

pub loop-argument-preserved : goal.loop-argument-preserved
loop-argument-preserved t c =
    copied_more plain_term (map plain_term) plain_term (λ z zs. refl) c.deref-argument-items.result.now c.loop-argument.argument-index c.argument-item.result c.loop-argument.copies.items c.push.new.self.items _ _
    c.loop-argument-test.true c.argument-item.is c.in_ok-copy_term-in-Constant.ensures c.in_ok-push-in-Constant.ensures.items c.loop-argument.invariant
