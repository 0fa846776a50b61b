-- Brackets that are bound, and left again.
use Rattle.std.proofs.Common.{◌≡◌, ◌∙◌, ℕ, Bool, true, false, List, [], ◌∷◌, ◌++◌, length, slice_get, Option, Some, refl, sym, ap, arith}
use Rattle.std.specs.Prelude.{◌==◌, if◌then◌else◌}
use Rattle.cc_defs.specs.Satisfaction.{Environment, bind, giving}
use Rattle.cc_ground.specs.Bindings.{bound_over}

-- one more bracket
pub bound_more : (pairs : List (ℕ × ℕ)) (pair : ℕ × ℕ) (env : Environment) → bound_over (pairs ++ pair ∷ []) env ≡ bind pair.0 pair.1 (bound_over pairs env)
bound_more [] pair env = refl
bound_more (first ∷ pairs) pair env = bound_more pairs pair (bind first.0 first.1 env)

-- ---- what the last bracket gives, or those before it

last_of : (left others : List (ℕ × ℕ)) (last : ℕ × ℕ) (env : Environment) (number : ℕ) → left ≡ others ++ last ∷ [] →
    bound_over left env number ≡ (if number == last.0 then Some last.1 else bound_over others env number)
last_of left others last env number e =
    ap (λ (pairs : List (ℕ × ℕ)). bound_over pairs env number) e ∙ ap (λ (f : Environment). f number) (bound_more others last env)

pub found_last : (left others : List (ℕ × ℕ)) (last : ℕ × ℕ) (env : Environment) (number : ℕ) (whole : Option ℕ) → left ≡ others ++ last ∷ [] → (number == last.0) ≡ true →
    bound_over left env number ≡ whole → Some last.1 ≡ whole
found_last left others last env number whole e same so_far =
    sym (ap (λ (b : Bool). if b then Some last.1 else bound_over others env number) same) ∙ sym (last_of left others last env number e) ∙ so_far

pub passed_last : (left others : List (ℕ × ℕ)) (last : ℕ × ℕ) (env : Environment) (number : ℕ) (whole : Option ℕ) → left ≡ others ++ last ∷ [] → (number == last.0) ≡ false →
    bound_over left env number ≡ whole → bound_over others env number ≡ whole
passed_last left others last env number whole e other so_far =
    sym (ap (λ (b : Bool). if b then Some last.1 else bound_over others env number) other) ∙ sym (last_of left others last env number e) ∙ so_far

pub none_left : (left : List (ℕ × ℕ)) (values others : List ℕ) (number : ℕ) (whole result : Option ℕ) → length left ≡ 0 → bound_over left (giving values) number ≡ whole → others ≡ values →
    result ≡ slice_get others number → result ≡ whole
none_left [] values others number whole result none so_far same is = is ∙ ap (λ (l : List ℕ). slice_get l number) same ∙ so_far
none_left (pair ∷ left) values others number whole result none so_far same is = absurd (omega arith)
