-- Each number is one digit.
use Rattle.std.proofs.Common.{arith, ◌≡◌, ◌∷◌, [], refl}
use Rattle.std.specs.Fmt.{decimal}
use Rattle.std.proofs.lemmas.Fmt.{decimal_digit}
use Rattle.cc_tests_texts.proofs.number_examples.numbers_are_objects.Goals as goal

pub returns : goal.returns
returns c =
    let one_is : decimal 1 ≡ 49 ∷ [] = decimal_digit 1 (omega arith) in
    let three_is : decimal 3 ≡ 51 ∷ [] = decimal_digit 3 (omega arith) in
    (simp (one_is, three_is), simp (one_is, three_is), simp (one_is, three_is), refl, simp (one_is, three_is), simp (one_is, three_is), simp (one_is, three_is), simp (one_is, three_is))
