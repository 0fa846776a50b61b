-- Lists of the values of a function.
use Rattle.std.proofs.Common.{◌≡◌, ◌∙◌, ℕ, zero, suc, ◌+◌, ◌<◌, ◌⊎◌, inl, inr, List, [], ◌∷◌, ◌++◌, length, map, drop, get_or, refl, sym, ap, subst, arith, length-append, append_assoc, add-one}
use Rattle.std.proofs.Math.Seq.{drop-cons}
use Rattle.std.proofs.lemmas.List.{ext_get_or, length-map}
use Rattle.cc_defs.specs.Declarations.{upto}

pub length_upto : (n : ℕ) → length (upto n) ≡ n
length_upto zero = refl
length_upto (suc n) = length-append (upto n) (n ∷ []) ∙ ap (λ (k : ℕ). k + 1) (length_upto n) ∙ omega arith

got_left : {X : Type 0} (xs ys : List X) (i : ℕ) (d : X) → i < length xs → get_or (xs ++ ys) i d ≡ get_or xs i d
got_left [] ys i d less = absurd (omega arith)
got_left (x ∷ xs) ys zero d less = refl
got_left (x ∷ xs) ys (suc i) d less = got_left xs ys i d (omega arith)

got_last : {X : Type 0} (xs : List X) (x d : X) → get_or (xs ++ x ∷ []) (length xs) d ≡ x
got_last [] x d = refl
got_last (y ∷ xs) x d = got_last xs x d

map_last : {X : Type 0} (f : ℕ → X) (n : ℕ) → map f (upto (suc n)) ≡ map f (upto n) ++ f n ∷ []
map_last f n = map_behind (upto n)
  where
    map_behind : (ns : List ℕ) → map f (ns ++ n ∷ []) ≡ map f ns ++ f n ∷ []
    map_behind [] = refl
    map_behind (m ∷ ns) = ap (λ l. f m ∷ l) (map_behind ns)

pub length_values : {X : Type 0} (f : ℕ → X) (n : ℕ) → length (map f (upto n)) ≡ n
length_values f n = length-map (upto n) f ∙ length_upto n

-- the value at each place
pub value_at : {X : Type 0} (f : ℕ → X) (n i : ℕ) (d : X) → i < n → get_or (map f (upto n)) i d ≡ f i
value_at f zero i d less = absurd (omega arith)
value_at {X} f (suc n) i d less = ap (λ (l : List X). get_or l i d) (map_last f n) ∙ by (value_at f n i d) (last i n less)
  where
    last : (i n : ℕ) → i < suc n → (i < n) ⊎ (i ≡ n)
    last zero zero less = inr refl
    last zero (suc n) less = inl (omega arith)
    last (suc i) zero less = absurd (omega arith)
    last (suc i) (suc n) less = elim (last i n (omega arith)) [ inl below ↦ inl (omega arith) | inr same ↦ inr (ap suc same) ]

    by : (i < n → get_or (map f (upto n)) i d ≡ f i) → (i < n) ⊎ (i ≡ n) → get_or (map f (upto n) ++ f n ∷ []) i d ≡ f i
    by before s = elim s [
      | inl below ↦ got_left (map f (upto n)) (f n ∷ []) i d (subst (λ (k : ℕ). i < k) (sym (length_values f n)) below) ∙ before below
      | inr same ↦ ap (λ (k : ℕ). get_or (map f (upto n) ++ f n ∷ []) k d) (same ∙ sym (length_values f n)) ∙ got_last (map f (upto n)) (f n) d ∙ ap f (sym same)
    ]

-- a list of the values at each place
pub values_are : {X : Type 0} (f : ℕ → X) (xs : List X) (n : ℕ) (d : X) → length xs ≡ n → ((i : ℕ) → i < n → get_or xs i d ≡ f i) → xs ≡ map f (upto n)
values_are f xs n d long each =
    ext_get_or d xs (map f (upto n)) (long ∙ sym (length_values f n)) (λ i less.
    let within : i < n = subst (λ (k : ℕ). i < k) long less in each i within ∙ sym (value_at f n i d within))

-- one more value
pub value_pushed : {X : Type 0} (f : ℕ → X) (n : ℕ) (items pushed : List X) (x : X) → items ≡ map f (upto n) → x ≡ f n → pushed ≡ items ++ x ∷ [] →
    pushed ≡ map f (upto (n + 1))
value_pushed f n items pushed x are is e =
    e ∙ ap (λ front. front ++ x ∷ []) are ∙ ap (λ y. map f (upto n) ++ y ∷ []) is ∙ sym (map_last f n) ∙ ap (λ m. map f (upto m)) (sym (add-one n))

-- where a list is mapped item by item: what is there, with what is left, is the whole
pub item_pushed : {A X : Type 0} (f : A → X) (all : List A) (i : ℕ) (there pushed whole : List X) (a : A) (x : X) → i < length all →
    there ++ map f (drop i all) ≡ whole → x ≡ f (get_or all i a) → pushed ≡ there ++ x ∷ [] → pushed ++ map f (drop (i + 1) all) ≡ whole
item_pushed f all i there pushed whole a x below so_far is e =
    ap (λ front. front ++ map f (drop (i + 1) all)) (e ∙ ap (λ y. there ++ y ∷ []) is)
    ∙ append_assoc there (f (get_or all i a) ∷ []) (map f (drop (i + 1) all))
    ∙ ap (λ n. there ++ f (get_or all i a) ∷ map f (drop n all)) (add-one i) ∙ ap (λ rest. there ++ map f rest) (sym (drop-cons all i a below)) ∙ so_far
