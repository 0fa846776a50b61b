use Rattle.std.proofs.Common.{◌∙◌, ap₂}
use Rattle.std.proofs.lemmas.Result.{IfOk-weaker}
use Rattle.clap.specs.Simple.{with_rule}
use Rattle.cc_words.proofs.parse.command.Goals as goal

pub returns-in-Ok : goal.returns-in-Ok
returns-in-Ok c = IfOk-weaker c.arg.result _ _ (λ command added. added.shape c.new.ensures.optional.1 ∙ ap₂ with_rule c.in-Ok.ensures c.new.ensures.rule) c.arg.ensures
