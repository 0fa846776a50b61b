use Rattle.std.proofs.Common.{◌∙◌, ap, sym}
use Rattle.cc_defs.specs.Resolved.{plain_term}
use Rattle.cc_defs.specs.Resolved as resolved
use Rattle.cc_laws.specs.Views.{row_terms}
use Rattle.cc_laws.proofs.Copies.{copied_more, copied_all, constant_copied}
use Rattle.cc_laws.proofs.values.+copy_term.Goals as goal

pub loop-argument-preserved : goal.loop-argument-preserved
loop-argument-preserved t c =
    copied_more _ _ _ _ _ _ _ c.loop-argument-test.true c.argument-item.is c.in_ok-push-in-Constant.ensures.items c.in_ok-copy_term-in-Constant.ensures c.loop-argument.invariant

pub returns-after-loop-argument : goal.returns-after-loop-argument
returns-after-loop-argument t c =
    constant_copied c.args.term.now c.in-Constant.symbol c.in-Constant.args c.loop-argument.copies c.in-Constant.is
    (copied_all c.deref-argument-items.result.now c.loop-argument.argument-index c.loop-argument.copies.items _ c.loop-argument-test.false c.loop-argument.invariant
    ∙ ap row_terms c.deref-argument-items.ensures.value)

pub returns-in_ok-second-in-Plus : goal.returns-in_ok-second-in-Plus
returns-in_ok-second-in-Plus t c =
    ap (λ (t : resolved.Term). resolved.Plus t (plain_term c.in_ok-second-in-Plus.second.value)) (ap plain_term c.in_ok-first-in-Plus.ensures.ok ∙ c.in_ok-copy_term-in-Plus.ensures ∙ ap plain_term c.deref.ensures)
    ∙ ap (resolved.Plus (plain_term c.in-Plus.first.value)) (ap plain_term c.in_ok-second-in-Plus.ensures.ok ∙ c.in_ok-copy_term-in-Plus-2.ensures ∙ ap plain_term c.deref-in-Plus.ensures)
    ∙ sym (ap plain_term c.in-Plus.is)

pub returns-in_ok-second-in-Minus : goal.returns-in_ok-second-in-Minus
returns-in_ok-second-in-Minus t c =
    ap (λ (t : resolved.Term). resolved.Minus t (plain_term c.in_ok-second-in-Minus.second.value)) (ap plain_term c.in_ok-first-in-Minus.ensures.ok ∙ c.in_ok-copy_term-in-Minus.ensures ∙ ap plain_term c.deref-in-Minus.ensures)
    ∙ ap (resolved.Minus (plain_term c.in-Minus.first.value)) (ap plain_term c.in_ok-second-in-Minus.ensures.ok ∙ c.in_ok-copy_term-in-Minus-2.ensures ∙ ap plain_term c.deref-in-Minus-2.ensures)
    ∙ sym (ap plain_term c.in-Minus.is)
