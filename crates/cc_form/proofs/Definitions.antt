-- Clauses written one behind the other.
use Rattle.std.proofs.Common.{◌≡◌, ◌∙◌, ℕ, zero, suc, ◌+◌, ◌<◌, List, [], ◌∷◌, ◌++◌, length, map, take, get_or, Result, Ok, Err, OnOk, refl, sym, ap, subst, arith, append_assoc, append-nil}
use Rattle.cc_defs.specs.ClauseForms.{all_written, written, same_clauses}
use Rattle.cc_defs.specs.Clauses.{Literal, opposite}
use Rattle.cc_form.specs.declared.store.Kept.{Kept}
use Rattle.cc_form.specs.Store.{Gives}
use Rattle.cc_form.proofs.Keeping.{gives_more}

pub written_behind : (xs ys : List (List Literal)) → all_written (xs ++ ys) ≡ all_written xs ++ all_written ys
written_behind [] ys = refl
written_behind (x ∷ xs) ys = ap (λ l. written x ++ l) (written_behind xs ys) ∙ sym (append_assoc (written x) (all_written xs) (all_written ys))

pub written_one : (clause : List Literal) → written clause ≡ all_written (clause ∷ [])
written_one clause = sym (append-nil (written clause))

module _ {A B : Type 0} (f : A → B) where
  pub mapped_more : (xs : List A) (i : ℕ) (x : A) → i < length xs → x ≡ get_or xs i x → map f (take (i + 1) xs) ≡ map f (take i xs) ++ f x ∷ []
  mapped_more [] i x less is = absurd (omega arith)
  mapped_more (y ∷ xs) zero x less is = ap (λ (z : A). f z ∷ []) (sym is)
  mapped_more (y ∷ xs) (suc i) x less is = ap (λ (n : ℕ). map f (take n (y ∷ xs))) (let e : suc i + 1 ≡ suc (i + 1) = omega arith in e) ∙ ap (λ l. f y ∷ l) (mapped_more xs i x (omega arith) is)

  pub mapped_all : (xs : List A) (i : ℕ) → length xs ≡ i → map f (take i xs) ≡ map f xs
  mapped_all [] zero e = refl
  mapped_all [] (suc i) e = refl
  mapped_all (x ∷ xs) zero e = absurd (omega arith)
  mapped_all (x ∷ xs) (suc i) e = ap (λ l. f x ∷ l) (mapped_all xs i (omega arith))

pub write_more : (f : Literal → List Literal) (xs : List Literal) (i : ℕ) (x : Literal) (clause : List Literal) (old between new : Kept) → i < length xs → x ≡ get_or xs i x → clause ≡ f x →
    Gives old between (all_written (map f (take i xs))) → Gives between new (written clause) → Gives old new (all_written (map f (take (i + 1) xs)))
write_more f xs i x clause old between new less is same one given =
    let other : Gives between new (written (f x)) = subst (λ (l : List Literal). Gives between new (written l)) same given in
    subst (Gives old new) (sym (ap all_written (mapped_more f xs i x less is) ∙ written_behind (map f (take i xs)) (f x ∷ []) ∙ ap (λ l. all_written (map f (take i xs)) ++ l) (sym (written_one (f x)))))
    (gives_more old between new (all_written (map f (take i xs))) (written (f x)) one other)

module _ {T E : Type 0} (result : Result T E) (old between new : Kept) (first second : List (List Literal)) (one : Gives old between (all_written first)) where
  pub write_both : OnOk result (Gives between new (all_written second)) → OnOk result (Gives old new (all_written (first ++ second)))
  write_both other = made result other
    where
      made : (r : Result T E) → OnOk r (Gives between new (all_written second)) → OnOk r (Gives old new (all_written (first ++ second)))
      made (Ok x) other = subst (Gives old new) (sym (written_behind first second)) (gives_more old between new (all_written first) (all_written second) one other)
      made (Err e) other = tt

pub on_ok_same : {T E : Type 0} (result : Result T E) (old new : Kept) (first second : List (List Literal)) → first ≡ second → OnOk result (Gives old new first) → OnOk result (Gives old new second)
on_ok_same result old new first second e given = subst (λ (l : List (List Literal)). OnOk result (Gives old new l)) e given

module _ {T E : Type 0} (result : Result T E) (k0 k1 k2 k3 k4 : Kept) (x f g : Literal) where
  pub same_written : (x1 f1 x2 g1 f2 g2 : Literal) → x1 ≡ opposite x → f1 ≡ opposite f → x2 ≡ opposite x → g1 ≡ opposite g → f2 ≡ opposite f → g2 ≡ opposite g →
      Gives k0 k1 (written (x1 ∷ f1 ∷ g ∷ [])) → Gives k1 k2 (written (x2 ∷ f ∷ g1 ∷ [])) → Gives k2 k3 (written (x ∷ f ∷ g ∷ [])) → OnOk result (Gives k3 k4 (written (x ∷ f2 ∷ g2 ∷ []))) →
      OnOk result (Gives k0 k4 (all_written (same_clauses x f g)))
  same_written x1 f1 x2 g1 f2 g2 ex1 ef1 ex2 eg1 ef2 eg2 ga gb gc gd = made result
      (subst (λ (l : Literal). OnOk result (Gives k3 k4 (written (x ∷ opposite f ∷ l ∷ [])))) eg2 (subst (λ (l : Literal). OnOk result (Gives k3 k4 (written (x ∷ l ∷ g2 ∷ [])))) ef2 gd))
    where
      made : (r : Result T E) → OnOk r (Gives k3 k4 (written (x ∷ opposite f ∷ opposite g ∷ []))) → OnOk r (Gives k0 k4 (all_written (same_clauses x f g)))
      made (Err e) gd = tt
      made (Ok y) gd =
          let c2 = opposite x ∷ f ∷ opposite g ∷ [] in
          let c3 = x ∷ f ∷ g ∷ [] in
          let c4 = x ∷ opposite f ∷ opposite g ∷ [] in
          gives_more k0 k1 k4 (written (opposite x ∷ opposite f ∷ g ∷ [])) (all_written (c2 ∷ c3 ∷ c4 ∷ []))
          (subst (λ (l : Literal). Gives k0 k1 (written (opposite x ∷ l ∷ g ∷ []))) ef1 (subst (λ (l : Literal). Gives k0 k1 (written (l ∷ f1 ∷ g ∷ []))) ex1 ga))
          (gives_more k1 k2 k4 (written c2) (all_written (c3 ∷ c4 ∷ []))
          (subst (λ (l : Literal). Gives k1 k2 (written (opposite x ∷ f ∷ l ∷ []))) eg1 (subst (λ (l : Literal). Gives k1 k2 (written (l ∷ f ∷ g1 ∷ []))) ex2 gb))
          (gives_more k2 k3 k4 (written c3) (all_written (c4 ∷ [])) gc (subst (Gives k3 k4) (written_one c4) gd)))
