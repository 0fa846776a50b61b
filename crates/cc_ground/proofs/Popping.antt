-- A vector whose last item is taken away.
use Rattle.std.proofs.Common.{◌≡◌, ◌∙◌, ℕ, ◌-◌, List, [], ◌∷◌, ◌++◌, length, take, ap, length-append, arith}
use Rattle.std.proofs.Math.Seq.{take-append_seam}
use Rattle.std.specs.Global.{Vec}

pub popped : {X : Type 0} → (whole left : Vec X) (xs : List X) (x : X) → left.items ≡ take (whole.len - 1) whole.items → whole.items ≡ xs ++ x ∷ [] → left.items ≡ xs
popped {X} whole left xs x rest e =
    rest
    ∙ ap (λ (n : ℕ). take (n - 1) whole.items) (whole.ok.0 ∙ ap length e)
    ∙ ap (λ (l : List X). take (length (xs ++ x ∷ []) - 1) l) e
    ∙ ap (λ (n : ℕ). take n (xs ++ x ∷ [])) (omega (arith, length-append xs (x ∷ [])))
    ∙ take-append_seam xs (x ∷ [])
