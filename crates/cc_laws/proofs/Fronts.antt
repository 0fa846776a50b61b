-- A list that is filled from left to right: what is there, with what is still to come, is the whole.
use Rattle.std.proofs.Common.{◌≡◌, ◌∙◌, ℕ, ◌+◌, ◌<◌, ◌≤◌, List, [], ◌∷◌, ◌++◌, length, get_or, drop, append_assoc, append-nil, ap, sym}
use Rattle.std.proofs.lemmas.List.{at_drop_more, at_drop_all}

module _ {X Y : Type 0} (rest : List X → List Y) (one : X → List Y) (xs : List X) (i : ℕ) (old whole : List Y) (so : old ++ rest (drop i xs) ≡ whole) where
  pub front_more : ((x : X) (others : List X) → rest (x ∷ others) ≡ one x ++ rest others) → (d x : X) (new : List Y) → i < length xs → x ≡ get_or xs i d → new ≡ old ++ one x → new ++ rest (drop (i + 1) xs) ≡ whole
  front_more step d x new within is added =
      let others = drop (i + 1) xs in
      ap (λ (w : List Y). w ++ rest others) added ∙ append_assoc old (one x) (rest others)
      ∙ ap (λ (w : List Y). old ++ w) (sym (step x others) ∙ ap (λ (y : X). rest (y ∷ others)) is ∙ sym (at_drop_more rest xs i d within)) ∙ so

  pub front_all : rest [] ≡ [] → length xs ≤ i → old ≡ whole
  front_all none past = sym (append-nil old) ∙ ap (λ (w : List Y). old ++ w) (sym (at_drop_all rest xs i past ∙ none)) ∙ so
