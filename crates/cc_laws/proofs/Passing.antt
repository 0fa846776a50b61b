-- A walk that looks for a member with a property: one that passed, one that has it, and the end.
use Rattle.std.proofs.Common.{◌≡◌, ◌∙◌, ℕ, ◌+◌, ◌<◌, ◌≤◌, Bool, true, false, ◌||◌, List, [], ◌∷◌, length, get_or, drop, ap, sym}
use Rattle.std.proofs.lemmas.List.{at_drop_all}
use Rattle.cc_laws.proofs.TermRows.{next_item}

module _ {X : Type 0} (has : List X → Bool) (test : X → Bool) (xs : List X) (i : ℕ) (whole : Bool) (so : whole ≡ has (drop i xs)) where
  module _ (step : (x : X) (others : List X) → has (x ∷ others) ≡ (test x || has others)) (x : X) (within : i < length xs) (is : x ≡ get_or xs i x) where
    here : (holds : Bool) → test x ≡ holds → whole ≡ (holds || has (drop (i + 1) xs))
    here holds e = so ∙ next_item has xs i x within is ∙ step x (drop (i + 1) xs) ∙ ap (λ (b : Bool). b || has (drop (i + 1) xs)) e

    pub passed : test x ≡ false → whole ≡ has (drop (i + 1) xs)
    passed e = here false e

    pub found : test x ≡ true → true ≡ whole
    found e = sym (here true e)

  pub none_left : has [] ≡ false → length xs ≤ i → false ≡ whole
  none_left none past = sym (so ∙ at_drop_all has xs i past ∙ none)
