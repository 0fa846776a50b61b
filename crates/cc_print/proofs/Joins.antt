-- Lists joined with a byte between them.
use Rattle.std.proofs.Common.{◌≡◌, ℕ, List, [], ◌∷◌, ◌++◌, ◌∙◌, ap, append-nil, append_assoc, sym}
use Rattle.std.specs.List.{join_with_byte, flat_map}

-- the first, and the byte and another for each of the others
pub join_with_byte-cons : (c : ℕ) (x : List ℕ) (xs : List (List ℕ)) → join_with_byte c (x ∷ xs) ≡ x ++ flat_map (λ y. c ∷ y) xs
join_with_byte-cons c x [] = sym (append-nil x)
join_with_byte-cons c x (y ∷ xs) = ap (λ rest. x ++ (c ∷ rest)) (join_with_byte-cons c y xs)

-- pieces as a format joins them, and as definitions do
pub three : (a b c : List ℕ) → a ++ (b ++ c) ≡ a ++ b ++ c
three a b c = sym (append_assoc a b c)

pub four : (a b c d : List ℕ) → a ++ (b ++ (c ++ d)) ≡ a ++ b ++ c ++ d
four a b c d = three a b (c ++ d) ∙ three (a ++ b) c d

pub six : (a b c d e f : List ℕ) → a ++ (b ++ (c ++ (d ++ (e ++ f)))) ≡ a ++ b ++ c ++ d ++ e ++ f
six a b c d e f = four a b c (d ++ (e ++ f)) ∙ four (a ++ b ++ c) d e f
