-- The codes of literals, and what is read within a list.
use Rattle.std.proofs.Common.{◌≡◌, ◌∙◌, ℕ, ◌+◌, ◌*◌, ◌<◌, zero, suc, true, false, List, [], ◌∷◌, length, get_or, refl, ap, arith}
use Rattle.std.specs.Prelude.{if◌then◌else◌, Bool}
use Rattle.cc_defs.specs.Clauses.{Literal, IsLiteralOver}
use Rattle.cc_trail.specs.Links.{code_of}

pub code_low : (variables : ℕ) (a : Literal) → IsLiteralOver variables a → code_of a < 2 * variables + 2
code_low variables a over = low a.positive
  where
    low : (sign : Bool) → 2 * a.variable + (if sign then 1 else 0) < 2 * variables + 2
    low false = omega (arith, over.1)
    low true = omega (arith, over.1)

same_parts : (x y : ℕ) (s t : Bool) → 2 * x + (if s then 1 else 0) ≡ 2 * y + (if t then 1 else 0) → (x ≡ y) × (s ≡ t)
same_parts x y false false e = ((omega arith), refl)
same_parts x y true true e = ((omega arith), refl)
same_parts x y false true e = absurd (omega arith)
same_parts x y true false e = absurd (omega arith)

pub same_literal : (a b : Literal) → a.variable ≡ b.variable → a.positive ≡ b.positive → a ≡ b
same_literal a b variable positive =
    ap (λ (x : ℕ). let l : Literal = record { variable = x; positive = a.positive } in l) variable ∙
    ap (λ (sign : Bool). let l : Literal = record { variable = b.variable; positive = sign } in l) positive

pub code_injective : (a b : Literal) → code_of a ≡ code_of b → a ≡ b
code_injective a b e =
    let parts = same_parts a.variable b.variable a.positive b.positive e in
    same_literal a b (parts.0) (parts.1)

-- what is read within a list does not hang on what stands for a read past its end
pub read_at : {X : Type 0} (xs : List X) (k : ℕ) (x d : X) → k < length xs → x ≡ get_or xs k x → x ≡ get_or xs k d
read_at [] k x d within is = absurd (omega arith)
read_at (y ∷ ys) zero x d within is = is
read_at (y ∷ ys) (suc k) x d within is = read_at ys k x d (omega arith) is
