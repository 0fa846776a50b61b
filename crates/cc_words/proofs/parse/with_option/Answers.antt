use Rattle.std.proofs.Common.{◌≡◌, ◌∙◌, ap₂, IfOk, subst}
use Rattle.std.proofs.lemmas.Result.{IfOk-weaker}
use Rattle.clap.specs.Simple.{app_of, with_rule}
use Rattle.clap.specs.declared.builder.command.Command.{Command}
use Rattle.cc_words.proofs.parse.with_option.Goals as goal

pub returns-in-Ok : goal.returns-in-Ok
returns-in-Ok c = λ app is.
    let before : app_of c.in-Ok.command ≡ app = subst (λ made. IfOk made (λ (command : Command). app_of command ≡ app)) c.in-Ok.is is in
    IfOk-weaker c.arg.result _ _ (λ after added. added.shape c.option.ensures.local ∙ ap₂ with_rule before c.option.ensures.rule) c.arg.ensures
