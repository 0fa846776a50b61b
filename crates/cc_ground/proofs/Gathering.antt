-- Constants that are gathered from terms, each once.
use Rattle.std.proofs.Common.{◌≡◌, ◌∙◌, ℕ, ◌+◌, Bool, true, false, ◌&&◌, List, [], ◌∷◌, ◌++◌, Option, Some, None, is_some, refl, sym, ap}
use Rattle.cc_defs.specs.Judged.{all_meant, some_meant, those_meant}
use Rattle.cc_defs.specs.Resolved.{Term, Terms}
use Rattle.cc_defs.specs.Resolved as resolved
use Rattle.cc_defs.specs.Satisfaction.{Environment, cons_both, constant_meant}
use Rattle.cc_defs.specs.Universe.{Universe}
use Rattle.cc_ground.specs.Pieces.{gathered, with_new}

-- how deep gathering goes
abbrev pub term_size : Term → ℕ
term_size (resolved.Constant symbol args) = 0
term_size (resolved.Object object) = 0
term_size (resolved.Variable variable) = 0
term_size resolved.Nothing = 0
term_size (resolved.Number number) = 0
term_size (resolved.Plus s t) = term_size s + term_size t + 2
term_size (resolved.Minus s t) = term_size s + term_size t + 2

gathered-append : (there xs ys : List ℕ) → gathered there (xs ++ ys) ≡ gathered (gathered there xs) ys
gathered-append there [] ys = refl
gathered-append there (x ∷ xs) ys = gathered-append (with_new there x) xs ys

module _ (u : Universe) (env : Environment) where
  those-append : (xs ys : List (ℕ × Terms)) → those_meant u env (xs ++ ys) ≡ those_meant u env xs ++ those_meant u env ys
  those-append [] ys = refl
  those-append (x ∷ xs) ys = here (constant_meant u env x.0 x.1) (those-append xs ys)
    where
      here : (found : Option ℕ) → those_meant u env (xs ++ ys) ≡ those_meant u env xs ++ those_meant u env ys →
          some_meant found (those_meant u env (xs ++ ys)) ≡ some_meant found (those_meant u env xs) ++ those_meant u env ys
      here None rest = rest
      here (Some number) rest = ap (λ (w : List ℕ). number ∷ w) rest

  pub gathered_both : (there : List ℕ) (xs ys : List (ℕ × Terms)) →
      gathered there (those_meant u env (xs ++ ys)) ≡ gathered (gathered there (those_meant u env xs)) (those_meant u env ys)
  gathered_both there xs ys = ap (gathered there) (those-append xs ys) ∙ gathered-append there (those_meant u env xs) (those_meant u env ys)

  is_both : (found : Option ℕ) (all : Option (List ℕ)) → is_some (cons_both found all) ≡ (is_some found && is_some all)
  is_both (Some number) (Some numbers) = refl
  is_both (Some number) None = refl
  is_both None all = refl

  three : (a b c : Bool) → (a && (b && c)) ≡ ((a && b) && c)
  three true b c = refl
  three false b c = refl

  pub all_both : (xs ys : List (ℕ × Terms)) → is_some (all_meant u env (xs ++ ys)) ≡ (is_some (all_meant u env xs) && is_some (all_meant u env ys))
  all_both [] ys = refl
  all_both (x ∷ xs) ys =
      let found = constant_meant u env x.0 x.1 in
      is_both found (all_meant u env (xs ++ ys))
      ∙ ap (λ (b : Bool). is_some found && b) (all_both xs ys)
      ∙ three (is_some found) (is_some (all_meant u env xs)) (is_some (all_meant u env ys))
      ∙ ap (λ (b : Bool). b && is_some (all_meant u env ys)) (sym (is_both found (all_meant u env xs)))

  -- where all are there, they are those that are there
  pub all_those : (xs : List (ℕ × Terms)) → is_some (all_meant u env xs) ≡ true → all_meant u env xs ≡ Some (those_meant u env xs)
  all_those [] e = refl
  all_those (x ∷ xs) e = here (constant_meant u env x.0 x.1) (all_meant u env xs) e (all_those xs)
    where
      here : (found : Option ℕ) (all : Option (List ℕ)) → is_some (cons_both found all) ≡ true → (is_some all ≡ true → all ≡ Some (those_meant u env xs)) →
          cons_both found all ≡ Some (some_meant found (those_meant u env xs))
      here (Some number) (Some numbers) e rest = ap (λ (w : Option (List ℕ)). cons_both (Some number) w) (rest refl)
      here (Some number) None e rest = absurd cc
      here None all e rest = absurd cc

  pub all_then : (xs ys : List (ℕ × Terms)) (one other : Bool) → one ≡ true → one ≡ is_some (all_meant u env xs) → other ≡ is_some (all_meant u env ys) → other ≡ is_some (all_meant u env (xs ++ ys))
  all_then xs ys one other there e f = f ∙ ap (λ (b : Bool). b && is_some (all_meant u env ys)) (sym there ∙ e) ∙ sym (all_both xs ys)

  pub all_else : (xs ys : List (ℕ × Terms)) (one : Bool) → one ≡ false → one ≡ is_some (all_meant u env xs) → one ≡ is_some (all_meant u env (xs ++ ys))
  all_else xs ys one absent e = absent ∙ ap (λ (b : Bool). b && is_some (all_meant u env ys)) (sym absent ∙ e) ∙ sym (all_both xs ys)

  pub one_by_one : (there mid last : List ℕ) (xs ys : List (ℕ × Terms)) → mid ≡ gathered there (those_meant u env xs) → last ≡ gathered mid (those_meant u env ys) → last ≡ gathered there (those_meant u env (xs ++ ys))
  one_by_one there mid last xs ys e f = f ∙ ap (λ (l : List ℕ). gathered l (those_meant u env ys)) e ∙ sym (gathered_both there xs ys)
