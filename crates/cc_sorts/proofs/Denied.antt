-- What a test that fails says of its parts.
use Rattle.std.proofs.Common.{◌≡◌, ◌∙◌, Bool, true, false, not, ◌&&◌, ◌||◌, List, [], ◌∷◌, refl, ap}
use Rattle.std.specs.List.{list_any, list_all}

pub not_and : (a b : Bool) → not (a && b) ≡ (not a || not b)
not_and true b = refl
not_and false b = refl

pub not_all : {X : Type 0} (test : X → Bool) (xs : List X) → not (list_all test xs) ≡ list_any (λ x. not (test x)) xs
not_all test [] = refl
not_all test (x ∷ xs) = not_and (test x) (list_all test xs) ∙ ap (λ b. not (test x) || b) (not_all test xs)

-- of the last of two or three tests, those of a list
pub not_second : {X : Type 0} (a : Bool) (test : X → Bool) (xs : List X) → not (a && list_all test xs) ≡ (not a || list_any (λ x. not (test x)) xs)
not_second a test xs = not_and a (list_all test xs) ∙ ap (λ b. not a || b) (not_all test xs)

pub not_third : {X : Type 0} (a b : Bool) (test : X → Bool) (xs : List X) → not (a && (b && list_all test xs)) ≡ (not a || (not b || list_any (λ x. not (test x)) xs))
not_third a b test xs = not_and a (b && list_all test xs) ∙ ap (λ c. not a || c) (not_second b test xs)

-- of the second of three
pub not_middle : {X : Type 0} (a c : Bool) (test : X → Bool) (xs : List X) → not (a && (list_all test xs && c)) ≡ (not a || (list_any (λ x. not (test x)) xs || not c))
not_middle a c test xs =
    not_and a (list_all test xs && c) ∙ ap (λ b. not a || b) (not_and (list_all test xs) c ∙ ap (λ b. b || not c) (not_all test xs))
