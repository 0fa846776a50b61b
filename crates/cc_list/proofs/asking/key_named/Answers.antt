use Rattle.std.proofs.Common.{Some, subst, sym}
use Rattle.std.specs.Prelude.{IfErr}
use Rattle.cc_words.specs.Views.{plain_text}
use Rattle.cc_list.specs.Asking.{IsKeyFault}
use Rattle.cc_list.proofs.Named.{exit_no_key}
use Rattle.cc_list.proofs.asking.key_named.Goals as goal

pub returns-in_err-key_of-in-Some-clause-refused : goal.returns-in_err-key_of-in-Some-clause-refused
returns-in_err-key_of-in-Some-clause-refused c = λ d q signature stands.
    subst (λ after. IfErr c.from_residual.result (IsKeyFault d q (plain_text after))) (sym c.in-Some.is)
    (exit_no_key d q (Some c.in-Some.text.now) c.in_err-key_of-in-Some.field-0.0 c.from_residual.result c.from_residual.ensures.1
    (c.in_err-key_of-in-Some.ensures.refused d q signature stands))
