use Rattle.std.proofs.Common.{◌≡◌, refl, inl, inr}
use Rattle.std.specs.Prelude.{codes}
use Rattle.cc_tests_texts.proofs.number_examples.signs_are_spelled.Goals as goal

pub returns : goal.returns
returns c = (
  (_, refl, (_, (_, (codes "3", refl, refl), refl), (_, refl, (_, (refl, refl), refl)))),
  (_, (_, inr (_, (codes "1", refl, refl), (_, refl, (codes "2", refl, refl))), (_, refl, inl (refl, (codes "4", refl, refl)))), (_, refl, (refl, refl))),
)
