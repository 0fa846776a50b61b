use Rattle.std.proofs.Common.{◌≡◌, ◌∙◌, ◌++◌, ◌∷◌, [], List, ℕ, subst}
use Rattle.std.specs.Prelude.{IfOk}
use Rattle.cc_tell_modes.specs.SureTexts.{answer_words}
use Rattle.cc_tell_modes.proofs.certain.answer_line.Goals as goal

pub returns : goal.returns
returns c = λ d of.
    subst (λ (atom : List ℕ). IfOk c.answered.result (λ line. line ≡ atom ++ answer_words c.args.answer ++ 10 ∷ []))
    (c.text.ensures ∙ c.in_ok-atom.ensures d of.declarations of.table_is of.signature_is of.universe of.objects) c.answered.ensures
