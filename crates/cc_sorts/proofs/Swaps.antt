-- A test beside one that fails, and two texts the other way round.
use Rattle.std.proofs.Common.{◌≡◌, ◌∙◌, ℕ, Bool, true, false, ◌||◌, List, refl, sym, subst}
use Rattle.std.specs.Cmp.Lexicographic.{bytes_decides}
use Rattle.cc_defs.specs.Grammar.{same_text}

pub or_false : (a : Bool) → (a || false) ≡ a
or_false true = refl
or_false false = refl

pub same_swap : (x y : List ℕ) → same_text x y ≡ same_text y x
same_swap x y = both (same_text x y) (same_text y x) refl refl
  where
    both : (a b : Bool) → same_text x y ≡ a → same_text y x ≡ b → a ≡ b
    both true b e f = sym (sym f ∙ subst (λ (z : List ℕ). same_text z x ≡ true) ((bytes_decides x y).0 e) ((bytes_decides x x).1 refl))
    both false true e f = sym e ∙ subst (λ (z : List ℕ). same_text z y ≡ true) ((bytes_decides y x).0 f) ((bytes_decides y y).1 refl)
    both false false e f = refl
