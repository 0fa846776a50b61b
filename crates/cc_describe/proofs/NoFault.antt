-- Where numbered tests give no refusal, none of them holds.
use Rattle.std.proofs.Common.{◌≡◌, ℕ, Bool, true, false, List, [], ◌∷◌, Option, Some, None, refl}
use Rattle.std.specs.List.{AllByRecursion}
use Rattle.cc_defs.specs.Refusals.{least, refused_if}

pub none_holds : (tests : List (ℕ × Bool)) → least tests ≡ None → AllByRecursion (λ test. test.1 ≡ false) tests
none_holds [] e = tt
none_holds ((number, true) ∷ tests) e = absurd cc
none_holds ((number, false) ∷ tests) e = (refl, none_holds tests e)

pub no_number : (file line : ℕ) (fault : Option ℕ) → refused_if file line fault ≡ None → fault ≡ None
no_number file line None e = refl
no_number file line (Some number) e = absurd cc
