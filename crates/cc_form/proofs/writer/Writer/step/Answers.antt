use Rattle.std.proofs.Common.{◌≡◌, ◌∙◌, ◌-◌, ℕ, List, [], ◌∷◌, ◌++◌, ap, length, refl, sym}
use Rattle.cc_defs.specs.Clauses.{Literal}
use Rattle.cc_form.proofs.Running.{arity_moved, step_ran}
use Rattle.cc_form.proofs.writer.Writer.step.Goals as goal

pub returns-clause-ran : goal.returns-clause-ran
returns-clause-ran c =
    let old = c.args.self.now in
    let start : c.len.result - c.arity.result ≡ length old.stack.items - _ =
    ap (λ (n : ℕ). n - c.arity.result) (c.len.ensures ∙ old.stack.ok.0) ∙ ap (λ (n : ℕ). length old.stack.items - n) (c.arity.ensures ∙ sym (arity_moved c.args.offset c.args.node)) in
    let made = c.in_ok-literal.ensures in
    step_ran old _ c.args.offset c.args.node (c.len.result - c.arity.result) c.deref.result.now c.in_ok-literal.literal start c.deref.ensures.value made.literal made.last made.within made.clauses refl
    (c.in_ok-push.ensures.items ∙ ap (λ (l : List Literal). l ++ c.in_ok-literal.literal ∷ []) c.truncate.ensures.items)
