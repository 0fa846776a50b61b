-- The texts of lines, part by part.
use Rattle.std.proofs.Common.{◌≡◌, ◌≤◌, ◌-◌, ◌⊎◌, inl, inr, subst, length, get_or, take, drop, eqb, arith, ℕ, List, [], ◌∷◌, ◌++◌, ap, sym, refl, ◌∙◌, append-nil, map, flat_map, decimal, codes}
use Rattle.std.proofs.lemmas.List.{take_rest}
use Rattle.std.proofs.lemmas.List.Concat.{flat_map-append}
use Rattle.std.specs.List.{join_with_byte}
use Rattle.cc_defs.specs.Clauses.{Literal}
use Rattle.cc_defs.specs.declared.log.LogLine.TheVariants as lines
use Rattle.cc_defs.specs.LogTexts.{IsLine, line_text, literal_text}
use Rattle.cc_log.specs.Fronts.{IsLast}

-- the first, and the byte and another for each of the others
pub join_with_byte-cons : (c : ℕ) (x : List ℕ) (xs : List (List ℕ)) → join_with_byte c (x ∷ xs) ≡ x ++ flat_map (λ y. c ∷ y) xs
join_with_byte-cons c x [] = sym (append-nil x)
join_with_byte-cons c x (y ∷ xs) = ap (λ rest. x ++ (c ∷ rest)) (join_with_byte-cons c y xs)

pub flat_map-map : {A B : Type 0} (f : A → B) (g : B → List ℕ) (xs : List A) → flat_map g (map f xs) ≡ flat_map (λ x. g (f x)) xs
flat_map-map f g [] = refl
flat_map-map f g (x ∷ xs) = ap (λ (rest : List ℕ). g (f x) ++ rest) (flat_map-map f g xs)

abbrev pub numbers_text : List ℕ → List ℕ
numbers_text numbers = flat_map (λ number. 32 ∷ decimal number) numbers

abbrev pub literals_text : List Literal → List ℕ
literals_text literals = flat_map (λ literal. 32 ∷ literal_text literal) literals

pub numbered_text : (letter : List ℕ) (numbers : List ℕ) → join_with_byte 32 (letter ∷ map decimal numbers) ≡ letter ++ numbers_text numbers
numbered_text letter numbers = join_with_byte-cons 32 letter (map decimal numbers) ∙ ap (λ (rest : List ℕ). letter ++ rest) (flat_map-map decimal (λ (y : List ℕ). 32 ∷ y) numbers)

pub derived_text : (clause : List Literal) (chain : List ℕ) →
    join_with_byte 32 (codes "d" ∷ (map literal_text clause ++ codes "0" ∷ (map decimal chain ++ codes "0" ∷ [])))
    ≡ codes "d" ++ (literals_text clause ++ (codes " 0" ++ (numbers_text chain ++ codes " 0")))
derived_text clause chain =
    join_with_byte-cons 32 (codes "d") _ ∙ ap (λ (rest : List ℕ). codes "d" ++ rest)
    (flat_map-append (λ (y : List ℕ). 32 ∷ y) (map literal_text clause) (codes "0" ∷ (map decimal chain ++ codes "0" ∷ []))
    ∙ rw flat_map-map (ap (λ (rest : List ℕ). literals_text clause ++ (codes " 0" ++ rest))
    (flat_map-append (λ (y : List ℕ). 32 ∷ y) (map decimal chain) (codes "0" ∷ []) ∙ rw flat_map-map refl)))

-- a heading's letter, the space behind it, and its number
pub heading_line : (text : List ℕ) (horizon : ℕ) → 2 ≤ length text → get_or text 1 0 ≡ 32 → (get_or text 0 0 ≡ 119) ⊎ (get_or text 0 0 ≡ 104) →
    IsLast (take (length text - 2) (drop 2 text)) horizon → IsLine text (lines.Section (eqb (get_or text 0 0) 119) horizon)
heading_line [] horizon long space either last = absurd (omega arith)
heading_line (byte ∷ []) horizon long space either last = absurd (omega arith)
heading_line (byte ∷ next ∷ rest) horizon long space either last = record {
  formed = last.0;
  spelled = ap (λ (n : ℕ). byte ∷ n ∷ rest) space ∙ ap (λ (t : List ℕ). byte ∷ 32 ∷ t) (sym (take_rest (byte ∷ next ∷ rest) 2) ∙ last.1) ∙ by_letter either;
}
  where
    by_letter : (byte ≡ 119) ⊎ (byte ≡ 104) → byte ∷ 32 ∷ (decimal horizon ++ 10 ∷ []) ≡ line_text (lines.Section (eqb byte 119) horizon)
    by_letter (inl is) = subst (λ (n : ℕ). n ∷ 32 ∷ (decimal horizon ++ 10 ∷ []) ≡ line_text (lines.Section (eqb n 119) horizon)) (sym is) refl
    by_letter (inr is) = subst (λ (n : ℕ). n ∷ 32 ∷ (decimal horizon ++ 10 ∷ []) ≡ line_text (lines.Section (eqb n 119) horizon)) (sym is) refl
