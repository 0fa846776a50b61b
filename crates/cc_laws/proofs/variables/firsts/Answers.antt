use Rattle.std.proofs.Common.{ap, ◌∙◌}
use Rattle.cc_laws.proofs.Firsts.{skipped, kept_more, all_kept}
use Rattle.cc_laws.proofs.variables.firsts.Goals.{then-not-is_among+in_ok-push, else-not-is_among}
use Rattle.cc_laws.proofs.variables.firsts.Goals as goal

pub loop-number-preserved : goal.loop-number-preserved
loop-number-preserved c =
    let kept = c.loop-number.kept.items in
    elim c.if-not-is_among.branch [
      | then-not-is_among+in_ok-push w ↦ kept_more kept _ _ _ _ _ c.loop-number-test.true c.deref.ensures.value c.is_among.ensures c.loop-number.invariant _ (ap (λ v. v.items) w.kept-is ∙ w.in_ok-push.ensures.items) w.if-not-is_among.true
      | else-not-is_among w ↦ skipped kept _ _ _ _ _ c.loop-number-test.true c.deref.ensures.value c.is_among.ensures c.loop-number.invariant _ (ap (λ v. v.items) w.kept-is) w.if-not-is_among.false
    ]

pub returns : goal.returns
returns c = all_kept c.loop-number.kept.items c.args.numbers.now _ c.loop-number.number-index c.loop-number-test.false c.loop-number.invariant
