use Rattle.std.proofs.Common.{◌≡◌, ◌∙◌, ◌+◌, ◌∷◌, [], List, ap, arith, length, length-append, subst, sym, ℕ}
use Rattle.cc_sure.specs.declared.answer.Answer.{Answer}
use Rattle.cc_sure.specs.Outcomes.{AreAnswersFor, IsAnswerFor}
use Rattle.cc_sure.proofs.Answering.{answers_more}
use Rattle.cc_sure.proofs.examples.answers_of.Goals as goal

pub loop-value-preserved : goal.loop-value-preserved
loop-value-preserved c =
    let before = c.loop-value.answers.items in
    let count = c.loop-value.invariant.1 in
    let here : c.loop-value.value ≡ 0 + length before = omega arith in (
      subst (λ (l : List Answer). AreAnswersFor c.args.examples.now c.args.position c.args.never.now 0 l) (sym c.in_ok-push.ensures.items)
          (answers_more c.args.examples.now c.args.position c.args.never.now 0 before c.answer_of.result c.loop-value.invariant.0
          (subst (λ (n : ℕ). IsAnswerFor c.args.examples.now c.args.position c.args.never.now n c.answer_of.result) here c.answer_of.ensures)),
      ap length c.in_ok-push.ensures.items ∙ length-append before (c.answer_of.result ∷ []) ∙ ap (λ (n : ℕ). n + 1) count,
    )
