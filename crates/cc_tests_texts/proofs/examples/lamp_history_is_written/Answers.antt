-- Each step is one digit.
use Rattle.std.proofs.Common.{arith, ◌≡◌, ◌∷◌, []}
use Rattle.std.specs.Fmt.{decimal}
use Rattle.std.proofs.lemmas.Fmt.{decimal_digit}
use Rattle.cc_tests_texts.proofs.examples.lamp_history_is_written.Goals as goal

pub returns : goal.returns
returns c =
    let zero_is : decimal 0 ≡ 48 ∷ [] = decimal_digit 0 (omega arith) in
    let one_is : decimal 1 ≡ 49 ∷ [] = decimal_digit 1 (omega arith) in
    simp (zero_is, one_is)
