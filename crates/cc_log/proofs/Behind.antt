-- Loops that put one part behind the other.
use Rattle.std.proofs.Common.{◌≡◌, ◌∙◌, ℕ, ◌+◌, ◌<◌, ◌≤◌, List, [], ◌++◌, length, flat_map, drop, get_or, sym, ap, subst, append_assoc}
use Rattle.std.specs.List.{AllByRecursion}
use Rattle.std.proofs.lemmas.List.{append-nil, at_drop_all, drop_more}

module _ {X Y : Type 0} where
  pub nothing_left : (f : List X → List Y) (xs : List X) (i : ℕ) (front whole : List Y) → f [] ≡ [] → length xs ≤ i → front ++ f (drop i xs) ≡ whole → front ≡ whole
  nothing_left f xs i front whole none past so_far = sym (append-nil front) ∙ ap (λ w. front ++ w) (sym none) ∙ sym (at_drop_all (λ w. front ++ f w) xs i past) ∙ so_far

  pub flat_next : (f : X → List Y) (xs : List X) (i : ℕ) (d : X) (front new whole : List Y) → i < length xs → new ≡ front ++ f (get_or xs i d) →
      front ++ flat_map f (drop i xs) ≡ whole → new ++ flat_map f (drop (i + 1) xs) ≡ whole
  flat_next f xs i d front new whole less made so_far =
      let rest = flat_map f (drop (i + 1) xs) in
      ap (λ w. w ++ rest) made ∙ append_assoc front (f (get_or xs i d)) rest ∙ ap (λ w. front ++ flat_map f w) (sym (drop_more xs i d less)) ∙ so_far

pub all_split : {X : Type 0} (P : X → Type 0) (xs : List X) (i : ℕ) (d : X) → i < length xs → AllByRecursion P (drop i xs) →
    P (get_or xs i d) × AllByRecursion P (drop (i + 1) xs)
all_split P xs i d less all = subst (AllByRecursion P) (drop_more xs i d less) all

-- what is put behind one part after the other
pub then_behind : {X : Type 0} (a p q : List X) {b c : List X} → b ≡ a ++ p → c ≡ b ++ q → c ≡ a ++ (p ++ q)
then_behind a p q first then = then ∙ ap (λ w. w ++ q) first ∙ append_assoc a p q
