-- The places of heads: each atom of a horizon has its own, and falsity another.
use Rattle.std.proofs.Common.{◌≡◌, ◌≢◌, inl, inr, ◌∙◌, ℕ, zero, suc, ◌+◌, ◌*◌, ◌/◌, ◌%◌, ◌<◌, ◌≤◌, Bool, true, false, nat_eq, List, [], ◌∷◌, ◌++◌, length, get_or, slice_get, Some, refl, sym, ap, arith, length-append, option_map, drop, append_assoc}
use Rattle.std.specs.Prelude.{if◌then◌else◌, ◌==◌, ◌&&◌}
use Rattle.std.specs.List.{AllByRecursion}
use Rattle.std.proofs.Math.Nat.{mul-le-mul_right, mod-eq_of_lt}
use Rattle.std.proofs.lemmas.Bool.{cases_order, eq-eqb}
use Rattle.std.proofs.lemmas.Bool.Decides.{eqb_tells}
use Rattle.std.proofs.lemmas.List.{length-map}
use Rattle.std.proofs.lemmas.Nat.{mod-mul-add, div-mul-add, div-add-mod'}
use Rattle.std.proofs.lemmas.Option.{slice_get_within, slice_get-map}
use Rattle.cc_defs.specs.declared.signature.Const.{Const}
use Rattle.cc_defs.specs.Declarations.{numbers_where}
use Rattle.cc_defs.specs.Signatures.{Signature, ground_constants}
use Rattle.cc_theory.specs.declared.rule.TimedHead.{TimedHead}
use Rattle.cc_theory.specs.declared.rule.TimedHead.TheVariants as timed_heads
use Rattle.cc_theory.specs.declared.rule.TimedRule.{TimedRule}
use Rattle.cc_theory.specs.Groups.{starts, sizes_of, place_of, place_keys, places, HasPlace, AreBelow}
use Rattle.cc_theory.proofs.Grouping.{starts_long}
use Rattle.cc_theory.proofs.Made.{front_behind}
use Rattle.cc_theory.specs.Making.{stride_of}
use Rattle.cc_theory.specs.Theories.{has_atom, is_falsity, causes_of, denials_of}

pub size_count : (signature : Signature) → length (sizes_of signature) ≡ stride_of signature
size_count signature = length-map (ground_constants signature) (λ (c : Const). length c.domain) ∙ length-append signature.fluents signature.actions

-- ---- what the code reads

pub firsts_long : (signature : Signature) (firsts : List ℕ) → firsts ≡ starts 0 (sizes_of signature) → length firsts ≡ stride_of signature + 1
firsts_long signature firsts is = ap length is ∙ starts_long 0 (sizes_of signature) ∙ ap (λ (n : ℕ). n + 1) (size_count signature)

pub sizes_step : (signature : Signature) (number size : ℕ) (front new : List ℕ) → number < stride_of signature →
    option_map (λ (c : Const). length c.domain) (slice_get (ground_constants signature) (number % length (ground_constants signature))) ≡ Some size →
    new ≡ front ++ size ∷ [] → front ++ drop number (sizes_of signature) ≡ sizes_of signature → new ++ drop (number + 1) (sizes_of signature) ≡ sizes_of signature
sizes_step signature number size front new less sized made so_far =
    let constants = ground_constants signature in
    let sizes = sizes_of signature in
    let long : length constants ≡ stride_of signature = length-append signature.fluents signature.actions in
    let within : number < length constants = omega arith in
    let here : slice_get sizes number ≡ Some size =
    slice_get-map (λ (c : Const). length c.domain) constants number
    ∙ ap (λ (n : ℕ). option_map (λ (c : Const). length c.domain) (slice_get constants n)) (sym (mod-eq_of_lt within)) ∙ sized in
    ap (λ (w : List ℕ). w ++ drop (number + 1) sizes) made ∙ append_assoc front (size ∷ []) (drop (number + 1) sizes)
    ∙ ap (λ (w : List ℕ). front ++ w) (sym (front_behind sizes number size (sym here))) ∙ so_far

starts_least : (s : ℕ) (xs : List ℕ) (g : ℕ) → g ≤ length xs → s ≤ get_or (starts s xs) g 0
starts_least s [] zero less = omega arith
starts_least s [] (suc g) less = absurd (omega arith)
starts_least s (x ∷ xs) zero less = omega arith
starts_least s (x ∷ xs) (suc g) less = let later = starts_least (s + x) xs g (omega arith) in omega arith

starts_before : (s : ℕ) (xs : List ℕ) (g other size : ℕ) → slice_get xs g ≡ Some size → g < other → other ≤ length xs →
    get_or (starts s xs) g 0 + size ≤ get_or (starts s xs) other 0
starts_before s [] g other size at less within = absurd cc
starts_before s (x ∷ xs) g zero size at less within = absurd (omega arith)
starts_before s (x ∷ xs) zero (suc other) size at less within =
    let same : x ≡ size = cc in
    let later = starts_least (s + x) xs other (omega arith) in
    omega arith
starts_before s (x ∷ xs) (suc g) (suc other) size at less within = starts_before (s + x) xs g other size at (omega arith) (omega arith)

module _ (sizes : List ℕ) (horizon : ℕ) where
  abbrev total : ℕ
  total = get_or (starts 0 sizes) (length sizes) 0

  abbrev first : ℕ → ℕ
  first g = get_or (starts 0 sizes) g 0

  -- the place of an atom at its step
  inside : (g value size : ℕ) → slice_get sizes g ≡ Some size → value < size → first g + value < total
  inside g value size at less = let later = starts_before 0 sizes g (length sizes) size at (slice_get_within sizes g size at) (omega arith) in omega arith

  times_rises : (a b n : ℕ) → a ≤ b → a * n ≤ b * n
  times_rises a b n less = mul-le-mul_right n less

  suc_times : (n : ℕ) → (horizon + 1) * n ≡ horizon * n + n
  suc_times n = omega arith

  pub atom_below : (position value : ℕ) → HasPlace sizes horizon (timed_heads.Atom position value) → place_of sizes horizon (timed_heads.Atom position value) < (horizon + 1) * total
  atom_below position value has =
      let step_less = times_rises (position / length sizes) horizon total has.1 in
      let within = inside (position % length sizes) value has.0 has.2 has.3 in
      let e = suc_times total in
      omega arith

  pub place_below : (head : TimedHead) → HasPlace sizes horizon head → place_of sizes horizon head < places sizes horizon
  place_below (timed_heads.Atom position value) has = let less = atom_below position value has in omega arith
  place_below timed_heads.Falsity has = omega arith

  pub keys_below : (rules : List TimedRule) → AllByRecursion (λ rule. HasPlace sizes horizon rule.head) rules → AreBelow (places sizes horizon) (place_keys sizes horizon rules)
  keys_below [] all = tt
  keys_below (rule ∷ rules) all = (place_below rule.head all.0, keys_below rules all.1)

  -- constants and values of one place at a step
  one_constant : (g value size other other_value other_size : ℕ) → slice_get sizes g ≡ Some size → value < size → slice_get sizes other ≡ Some other_size → other_value < other_size →
      first g + value ≡ first other + other_value → (g ≡ other) × (value ≡ other_value)
  one_constant g value size other other_value other_size at less other_at other_less e = elim (cases_order g other) [
    | inl same ↦ (same, let f : first g ≡ first other = ap first same in omega arith)
    | inr order ↦ elim order [
      | inl before ↦
          let l = slice_get_within sizes other other_size other_at in
          let b = starts_before 0 sizes g other size at before (omega arith) in absurd (omega arith)
      | inr behind ↦
          let l = slice_get_within sizes g size at in
          let b = starts_before 0 sizes other g other_size other_at behind (omega arith) in absurd (omega arith)
    ]
  ]

  one_place : (position value other other_value : ℕ) → HasPlace sizes horizon (timed_heads.Atom position value) → HasPlace sizes horizon (timed_heads.Atom other other_value) →
      place_of sizes horizon (timed_heads.Atom position value) ≡ place_of sizes horizon (timed_heads.Atom other other_value) → (position ≡ other) × (value ≡ other_value)
  one_place position value other other_value has other_has e =
      let n = length sizes in
      let r : ℕ = first (position % n) + value in
      let q : ℕ = first (other % n) + other_value in
      let r_less : r < total = inside (position % n) value has.0 has.2 has.3 in
      let q_less : q < total = inside (other % n) other_value other_has.0 other_has.2 other_has.3 in
      let flat : position / n * total + r ≡ other / n * total + q = omega arith in
      let steps : position / n ≡ other / n = sym (div-mul-add (position / n) total r r_less) ∙ ap (λ (k : ℕ). k / total) flat ∙ div-mul-add (other / n) total q q_less in
      let rests : r ≡ q = sym (mod-mul-add (position / n) total r r_less) ∙ ap (λ (k : ℕ). k % total) flat ∙ mod-mul-add (other / n) total q q_less in
      let parts = one_constant (position % n) value has.0 (other % n) other_value other_has.0 has.2 has.3 other_has.2 other_has.3 rests in
      (sym (div-add-mod' position n) ∙ ap (λ (k : ℕ). k * n + position % n) steps ∙ ap (λ (k : ℕ). other / n * n + k) parts.0 ∙ div-add-mod' other n, parts.1)

  tells_not : (a b : ℕ) → a ≢ b → nat_eq a b ≡ false
  tells_not a b not_same = elim (eqb_tells a b) [
    | inl told ↦ absurd (not_same told.1)
    | inr told ↦ told.0
  ]

  false_right : (b : Bool) → (b && false) ≡ false
  false_right true = refl
  false_right false = refl

  pub atom_tells : (position value : ℕ) → HasPlace sizes horizon (timed_heads.Atom position value) → (head : TimedHead) → HasPlace sizes horizon head →
      nat_eq (place_of sizes horizon (timed_heads.Atom position value)) (place_of sizes horizon head) ≡ has_atom position value head
  atom_tells position value has timed_heads.Falsity other_has =
      let less = atom_below position value has in
      tells_not (place_of sizes horizon (timed_heads.Atom position value)) (place_of sizes horizon timed_heads.Falsity) (λ e. absurd (omega arith))
  atom_tells position value has (timed_heads.Atom other index) other_has =
      let here = place_of sizes horizon (timed_heads.Atom position value) in
      let there = place_of sizes horizon (timed_heads.Atom other index) in
      elim (eqb_tells here there) [
        | inl told ↦
            let same = one_place position value other index has other_has told.1 in
            told.0 ∙ sym (ap (λ (b : Bool). b && (index == value)) (eq-eqb other position (sym same.0)) ∙ eq-eqb index value (sym same.1))
        | inr told ↦ told.0 ∙ sym (elim (eqb_tells other position) [
          | inl one ↦ elim (eqb_tells index value) [
            | inl two ↦ absurd (told.1 (ap (λ (p : ℕ). place_of sizes horizon (timed_heads.Atom p value)) (sym one.1) ∙ ap (λ (v : ℕ). place_of sizes horizon (timed_heads.Atom other v)) (sym two.1)))
            | inr two ↦ ap (λ (b : Bool). (other == position) && b) two.0 ∙ false_right (other == position)
          ]
          | inr one ↦ ap (λ (b : Bool). b && (index == value)) one.0
        ])
      ]

  pub falsity_tells : (head : TimedHead) → HasPlace sizes horizon head → nat_eq (place_of sizes horizon timed_heads.Falsity) (place_of sizes horizon head) ≡ is_falsity head
  falsity_tells timed_heads.Falsity has = eq-eqb (place_of sizes horizon timed_heads.Falsity) (place_of sizes horizon timed_heads.Falsity) refl
  falsity_tells (timed_heads.Atom position value) has =
      let less = atom_below position value has in
      tells_not (place_of sizes horizon timed_heads.Falsity) (place_of sizes horizon (timed_heads.Atom position value)) (λ e. absurd (omega arith))

  same_numbers : (place : ℕ) (test : TimedHead → Bool) → ((head : TimedHead) → HasPlace sizes horizon head → nat_eq place (place_of sizes horizon head) ≡ test head) →
      (rules : List TimedRule) → AllByRecursion (λ rule. HasPlace sizes horizon rule.head) rules → (number : ℕ) →
      numbers_where (nat_eq place) number (place_keys sizes horizon rules) ≡ numbers_where (λ rule. test rule.head) number rules
  same_numbers place test tells [] all number = refl
  same_numbers place test tells (rule ∷ rules) all number =
      let rest = numbers_where (nat_eq place) (number + 1) (place_keys sizes horizon rules) in
      ap (λ (b : Bool). if b then number ∷ rest else rest) (tells rule.head all.0)
      ∙ ap (λ (l : List ℕ). if test rule.head then number ∷ l else l) (same_numbers place test tells rules all.1 (number + 1))

  pub causes_are : (position value : ℕ) → HasPlace sizes horizon (timed_heads.Atom position value) → (rules : List TimedRule) → AllByRecursion (λ rule. HasPlace sizes horizon rule.head) rules →
      numbers_where (nat_eq (place_of sizes horizon (timed_heads.Atom position value))) 0 (place_keys sizes horizon rules) ≡ causes_of rules position value
  causes_are position value has rules all =
      same_numbers (place_of sizes horizon (timed_heads.Atom position value)) (has_atom position value) (atom_tells position value has) rules all 0

  pub denials_are : (rules : List TimedRule) → AllByRecursion (λ rule. HasPlace sizes horizon rule.head) rules →
      numbers_where (nat_eq (place_of sizes horizon timed_heads.Falsity)) 0 (place_keys sizes horizon rules) ≡ denials_of rules
  denials_are rules all = same_numbers (place_of sizes horizon timed_heads.Falsity) is_falsity falsity_tells rules all 0

pub place_read : (signature : Signature) (firsts : List ℕ) (constants horizon position value : ℕ) → firsts ≡ starts 0 (sizes_of signature) → constants ≡ stride_of signature →
    position / constants * get_or firsts constants 0 + get_or firsts (position % constants) 0 + value ≡ place_of (sizes_of signature) horizon (timed_heads.Atom position value)
place_read signature firsts constants horizon position value is count =
    ap (λ (f : List ℕ). position / constants * get_or f constants 0 + get_or f (position % constants) 0 + value) is
    ∙ ap (λ (n : ℕ). position / n * get_or (starts 0 (sizes_of signature)) n 0 + get_or (starts 0 (sizes_of signature)) (position % n) 0 + value) (count ∙ sym (size_count signature))

pub place_fits : (signature : Signature) (firsts : List ℕ) (constants horizon position value : ℕ) → firsts ≡ starts 0 (sizes_of signature) → constants ≡ stride_of signature →
    places (sizes_of signature) horizon < 18446744073709551616 → HasPlace (sizes_of signature) horizon (timed_heads.Atom position value) →
    position / constants * get_or firsts constants 0 + get_or firsts (position % constants) 0 + value < 18446744073709551616
place_fits signature firsts constants horizon position value is count few has =
    let e = place_read signature firsts constants horizon position value is count in
    let less = place_below (sizes_of signature) horizon (timed_heads.Atom position value) has in
    omega arith

pub constant_within : (signature : Signature) (firsts : List ℕ) (constants horizon position value : ℕ) → firsts ≡ starts 0 (sizes_of signature) → constants ≡ stride_of signature →
    HasPlace (sizes_of signature) horizon (timed_heads.Atom position value) → position % constants < length firsts
constant_within signature firsts constants horizon position value is count has =
    let sizes = sizes_of signature in
    let same : position % constants ≡ position % length sizes = ap (λ (n : ℕ). position % n) (count ∙ sym (size_count signature)) in
    let within = slice_get_within sizes (position % length sizes) has.0 has.2 in
    let long = firsts_long signature firsts is in
    let counted = size_count signature in
    omega arith

pub some_constants : (signature : Signature) (constants horizon position value : ℕ) → constants ≡ stride_of signature → HasPlace (sizes_of signature) horizon (timed_heads.Atom position value) → 0 < constants
some_constants signature constants horizon position value count has =
    let within = slice_get_within (sizes_of signature) (position % length (sizes_of signature)) has.0 has.2 in
    let counted = size_count signature in
    omega arith

pub last_read : (signature : Signature) (firsts : List ℕ) (constants horizon : ℕ) → firsts ≡ starts 0 (sizes_of signature) → constants ≡ stride_of signature →
    (horizon + 1) * get_or firsts constants 0 ≡ place_of (sizes_of signature) horizon timed_heads.Falsity
last_read signature firsts constants horizon is count =
    ap (λ (f : List ℕ). (horizon + 1) * get_or f constants 0) is ∙ ap (λ (n : ℕ). (horizon + 1) * get_or (starts 0 (sizes_of signature)) n 0) (count ∙ sym (size_count signature))
