-- How many lists of values there are, how many pairs, and counts that stop at one more than a million.
use Rattle.std.proofs.Common.{◌≡◌, ◌∙◌, ℕ, zero, suc, ◌+◌, ◌-◌, ◌*◌, ◌/◌, ◌<◌, ◌≤◌, List, [], ◌∷◌, length, map, flat_map, get_or, drop, min, inl, inr, refl, sym, ap, add-one, drop-cons, arith, length-append}
use Rattle.std.proofs.Math.Nat.{mul_assoc, mul-le-mul_right}
use Rattle.std.proofs.lemmas.List.{length-map}
use Rattle.std.proofs.lemmas.Bool.{cases_lt}
use Rattle.cc_defs.specs.declared.law.Range.{Range}
use Rattle.cc_defs.specs.Environments.{choices, range_values, pairs_of}
use Rattle.cc_defs.specs.Universe.{Universe}

module _ {X : Type 0} where
  pub at_index : (xs : List X) (i : ℕ) (d : X) → i < length xs → drop i xs ≡ get_or xs i d ∷ drop (i + 1) xs
  at_index xs i d within = rw (add-one, drop-cons xs i d) refl

-- ---- choices

abbrev pub choices_of : Universe → List Range → ℕ
choices_of u ranges = length (choices (map (range_values u) ranges))

under_all : (values : List ℕ) (others : List (List ℕ)) → length (flat_map (λ value. map (λ env. value ∷ env) others) values) ≡ length values * length others
under_all [] others = omega arith
under_all (value ∷ values) others =
    let front = length-append (map (λ (env : List ℕ). value ∷ env) others) (flat_map (λ (v : ℕ). map (λ (env : List ℕ). v ∷ env) others) values) in
    let same = length-map others (λ (env : List ℕ). value ∷ env) in
    let rest = under_all values others in
    let more : suc (length values) * length others ≡ length others + length values * length others = grind arith in
    front ∙ omega (arith, same, rest, more)

choices_more : (u : Universe) (range : Range) (ranges : List Range) → choices_of u (range ∷ ranges) ≡ length (range_values u range) * choices_of u ranges
choices_more u range ranges = under_all (range_values u range) (choices (map (range_values u) ranges))

-- a count that stops, times another number
min_product : (a m : ℕ) → min (min a 1000001 * m) 1000001 ≡ min (a * m) 1000001
min_product a zero = omega arith
min_product a (suc m) = elim (cases_lt a 1000001) [
  | inl below ↦ let same : min a 1000001 ≡ a = omega arith in ap (λ (k : ℕ). min (k * suc m) 1000001) same
  | inr above ↦
      let same : min a 1000001 ≡ 1000001 = omega arith in
      let one : a * suc m ≡ a + a * m = grind arith in
      ap (λ (k : ℕ). min (k * suc m) 1000001) same ∙ omega (arith, one)
]

pub choices_step : (u : Universe) (ranges : List Range) (i : ℕ) (d : Range) (count len new : ℕ) → i < length ranges → len ≡ length (range_values u (get_or ranges i d)) →
    new ≡ min (count * len) 1000001 →
    min (count * choices_of u (drop i ranges)) 1000001 ≡ min (choices_of u ranges) 1000001 →
    min (new * choices_of u (drop (i + 1) ranges)) 1000001 ≡ min (choices_of u ranges) 1000001
choices_step u ranges i d count len new within is_len is_new so_far =
    let rest = choices_of u (drop (i + 1) ranges) in
    let here : choices_of u (drop i ranges) ≡ len * rest =
    ap (choices_of u) (at_index ranges i d within) ∙ choices_more u (get_or ranges i d) (drop (i + 1) ranges) ∙ ap (λ (k : ℕ). k * rest) (sym is_len) in
    ap (λ (k : ℕ). min (k * rest) 1000001) is_new
    ∙ min_product (count * len) rest
    ∙ ap (λ (k : ℕ). min k 1000001) (mul_assoc count len rest ∙ ap (λ (k : ℕ). count * k) (sym here))
    ∙ so_far

-- ---- pairs

twice_pairs : (xs : List ℕ) → 2 * length (pairs_of xs) + length xs ≡ length xs * length xs
twice_pairs [] = refl
twice_pairs (x ∷ xs) =
    let pair : ℕ → ℕ × ℕ = λ other. (x, other) in
    let front = length-append (map pair xs) (pairs_of xs) in
    let same = length-map xs pair in
    let rest = twice_pairs xs in
    let square : suc (length xs) * suc (length xs) ≡ length xs * length xs + 2 * length xs + 1 = grind arith in
    omega (arith, front, same, rest, square)

less_one : (n : ℕ) → n * (n - 1) + n ≡ n * n
less_one zero = refl
less_one (suc n) = let one : suc n - 1 ≡ n = omega arith in let more : suc n * suc n ≡ suc n * n + suc n = grind arith in ap (λ (k : ℕ). suc n * k + suc n) one ∙ sym more

half : (n k : ℕ) → 2 * n ≡ k → k / 2 ≡ n
half n k e = omega arith

many_pairs : (n p : ℕ) → 2 * p + n ≡ n * n → 2000 < n → 1000001 ≤ p
many_pairs n p twice many =
    let more : 2001 * n ≤ n * n = mul-le-mul_right n many in
    omega arith

-- the pairs of so many things; two thousand make more than a million
pub pairs_counted : (xs : List ℕ) (number capped less result : ℕ) → length xs ≡ number → capped ≡ min number 2000 → less ≡ capped - 1 →
    result ≡ min (capped * less / 2) 1000001 → result ≡ min (length (pairs_of xs)) 1000001
pairs_counted xs number capped less result is_number is_capped is_less is_result = elim (cases_lt 2000 (length xs)) [
  | inl many ↦
      let p = many_pairs (length xs) (length (pairs_of xs)) (twice_pairs xs) many in
      let c : capped ≡ 2000 = omega arith in
      let l : less ≡ 1999 = omega arith in
      let product : capped * less ≡ 3998000 = ap (λ (k : ℕ). k * less) c ∙ ap (λ (k : ℕ). 2000 * k) l in
      omega arith
  | inr few ↦
      let c : capped ≡ length xs = omega arith in
      let l : less ≡ length xs - 1 = omega arith in
      let product : capped * less ≡ length xs * (length xs - 1) = ap (λ (k : ℕ). k * less) c ∙ ap (λ (k : ℕ). length xs * k) l in
      let twice : 2 * length (pairs_of xs) ≡ capped * less = omega (arith, twice_pairs xs, less_one (length xs)) in
      is_result ∙ ap (λ (k : ℕ). min k 1000001) (half (length (pairs_of xs)) (capped * less) twice)
]
