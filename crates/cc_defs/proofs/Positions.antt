-- The positions of a horizon, step by step.
use Rattle.std.proofs.Common.{◌≡◌, ℕ, zero, suc, ◌+◌, ◌*◌, ◌<◌, ◌%◌, ◌⊎◌, inl, inr, List, [], ◌∷◌, ◌++◌, length, map, Option, option_map, refl, sym, ap, ◌∙◌, arith, length-append, slice_get}
use Rattle.std.proofs.Math.Nat.{mod-eq_of_lt, add-mod_left}
use Rattle.std.proofs.lemmas.List.{map-append}
use Rattle.std.proofs.lemmas.Option.{slice_get-map}
use Rattle.cc_defs.specs.declared.signature.Const.{Const}

abbrev pub size : Const → ℕ
size constant = length constant.domain

-- the sizes of a horizon, of fluents and actions
abbrev pub sizes_of : List Const → List Const → ℕ → List ℕ
sizes_of fluents actions zero = map size fluents
sizes_of fluents actions (suc horizon) = map size fluents ++ map size actions ++ sizes_of fluents actions horizon

length-map : (f : Const → ℕ) (xs : List Const) → length (map f xs) ≡ length xs
length-map f [] = refl
length-map f (x ∷ xs) = ap suc (length-map f xs)

pub count_is : (fluents actions : List Const) (horizon : ℕ) →
    length (sizes_of fluents actions horizon) ≡ length fluents * (horizon + 1) + length actions * horizon
count_is fluents actions zero = let e = length-map size fluents in omega arith
count_is fluents actions (suc horizon) =
    let one = length-append (map size fluents ++ map size actions) (sizes_of fluents actions horizon) in
    let two = length-append (map size fluents) (map size actions) in
    let f = length-map size fluents in
    let a = length-map size actions in
    let more = count_is fluents actions horizon in
    omega arith

pub before : {X : Type 0} (xs ys : List X) (i : ℕ) → i < length xs → slice_get (xs ++ ys) i ≡ slice_get xs i
before [] ys i within = absurd (omega arith)
before (x ∷ xs) ys zero within = refl
before (x ∷ xs) ys (suc i) within = before xs ys i (omega arith)

pub behind : {X : Type 0} (xs ys : List X) (i : ℕ) → slice_get (xs ++ ys) (length xs + i) ≡ slice_get ys i
behind [] ys i = let e : 0 + i ≡ i = omega arith in ap (slice_get ys) e
behind (x ∷ xs) ys i = let e : suc (length xs) + i ≡ suc (length xs + i) = omega arith in ap (slice_get (x ∷ xs ++ ys)) e ∙ behind xs ys i

where_it_is : (n p : ℕ) → (p < n) ⊎ ((q : ℕ) × (p ≡ n + q))
where_it_is zero p = inr (p, omega arith)
where_it_is (suc n) zero = inl (omega arith)
where_it_is (suc n) (suc p) = elim (where_it_is n p) [ inl less ↦ inl (omega arith) | inr more ↦ inr (more.0, let e = more.1 in omega arith) ]

-- the size of the constant at a position
abbrev here : List Const → ℕ → Option ℕ
here constants position = option_map size (slice_get constants (position % length constants))

at_once : (constants : List Const) (rest : List ℕ) (p : ℕ) → p < length constants → slice_get (map size constants ++ rest) p ≡ here constants p
at_once constants rest p less =
    let within = length-map size constants in
    before (map size constants) rest p (omega arith)
    ∙ slice_get-map size constants p
    ∙ ap (λ (i : ℕ). option_map size (slice_get constants i)) (sym (mod-eq_of_lt less))

later : (constants : List Const) (rest : List ℕ) (p q : ℕ) → p ≡ length constants + q → slice_get rest q ≡ here constants q →
    slice_get (map size constants ++ rest) p ≡ here constants p
later constants rest p q is more =
    let same : length constants + q ≡ length (map size constants) + q = let e = length-map size constants in omega arith in
    ap (slice_get (map size constants ++ rest)) (is ∙ same)
    ∙ behind (map size constants) rest q
    ∙ more
    ∙ ap (λ (i : ℕ). option_map size (slice_get constants i)) (sym (add-mod_left (length constants) q))
    ∙ ap (λ (i : ℕ). here constants i) (sym is)

pub sizes_are : (fluents actions : List Const) (horizon p : ℕ) → p < length fluents * (horizon + 1) + length actions * horizon →
    slice_get (sizes_of fluents actions horizon) p ≡ here (fluents ++ actions) p
sizes_are fluents actions zero p less =
    let within = length-map size fluents in
    let sum = length-append fluents actions in
    let small : p < length fluents = omega arith in
    let all : p < length (fluents ++ actions) = omega arith in
    slice_get-map size fluents p
    ∙ ap (option_map size) (sym (before fluents actions p small))
    ∙ ap (λ (i : ℕ). option_map size (slice_get (fluents ++ actions) i)) (sym (mod-eq_of_lt all))
sizes_are fluents actions (suc horizon) p less =
    let rest = sizes_of fluents actions horizon in
    let joined : map size fluents ++ map size actions ++ rest ≡ map size (fluents ++ actions) ++ rest = ap (λ (l : List ℕ). l ++ rest) (sym (map-append size fluents actions)) in
    ap (λ (l : List ℕ). slice_get l p) joined
    ∙ elim (where_it_is (length (fluents ++ actions)) p) [
      | inl small ↦ at_once (fluents ++ actions) rest p small
      | inr more ↦ later (fluents ++ actions) rest p more.0 more.1
          (sizes_are fluents actions horizon more.0 (let e = more.1 in let sum = length-append fluents actions in omega arith))
    ]
