-- A vector in place of another among vectors of numbers: what their lists and capacities become.
use Rattle.std.proofs.Common.{◌++◌, Result, Ok, Err, refl, zero, suc, drop, add-one, drop-cons, ◌≡◌, ◌∙◌, ℕ, ◌+◌, ◌<◌, ◌≤◌, ◌≢◌, inl, inr, List, [], ◌∷◌, length, get_or, slice_set, sym, subst, ap, arith, Vec}
use Rattle.std.proofs.lemmas.Bool.{cases_order, false≢true}
use Rattle.std.proofs.lemmas.List.{get_or-map, map-append, map-set, get_or-set_same, get_or-set_other}
use Rattle.std.proofs.Math.Seq.{map-set_same}
use Rattle.std.proofs.Math.ListN.{length-map}
use Rattle.std.specs.List.{AllByRecursion}
use Rattle.std.specs.Prelude.{if◌then◌else◌}
use Rattle.std.specs.Result.{IsErr, IsOk, is_ok}
use Rattle.cc_sorts.specs.Lists.{lists_of, capacities_of, list_at, at_each, HasRoom, AllAscend, AreBelow}
use Rattle.cc_sorts.specs.Numbers.{Ascends, union}
use Rattle.cc_sorts.proofs.Unions.{ascends_union}

abbrev pub items_of : {Z : Type 0} → Vec ℕ Z → List ℕ
items_of vector = vector.items

abbrev capacity_of : {Z : Type 0} → Vec ℕ Z → ℕ
capacity_of vector = vector.cap

pub ascends_at : (lists : List (List ℕ)) (number : ℕ) → AllAscend lists → Ascends (list_at lists number)
ascends_at [] number all = tt
ascends_at (first ∷ lists) zero all = all.0
ascends_at (first ∷ lists) (suc number) all = ascends_at lists number all.1

pub list_read : {Z : Type 0} (vectors : List (Vec ℕ Z)) (number count : ℕ) (old : Vec ℕ Z) (list : List ℕ) → length (lists_of vectors) ≡ count → number < count →
    old ≡ get_or vectors number old → list ≡ old.items → list ≡ list_at (lists_of vectors) number
list_read vectors number count old list same_count below is same =
    let within : number < length vectors = omega (arith, length-map vectors items_of, same_count) in
    same ∙ ap items_of is ∙ sym (get_or-map items_of vectors number old [] within)

-- numbers that are below a count are within as many vectors
pub numbers_within : {Y Z : Type 0} (vectors : Vec (Vec ℕ Z) Y) (count : ℕ) (numbers list : List ℕ) → length (lists_of vectors.items) ≡ count → numbers ≡ list →
    AreBelow count list → AreBelow vectors.len numbers
numbers_within vectors count numbers list same is below =
    let len : count ≡ vectors.len = omega (arith, length-map vectors.items items_of, same, vectors.ok.0) in
    subst (AreBelow vectors.len) (sym is) (subst (λ (n : ℕ). AreBelow n list) len below)

pub ascends_read : {Z : Type 0} (vectors : List (Vec ℕ Z)) (number : ℕ) (old : Vec ℕ Z) (list : List ℕ) → number < length vectors → old ≡ get_or vectors number old →
    list ≡ old.items → AllAscend (lists_of vectors) → Ascends list
ascends_read vectors number old list within is same all =
    subst Ascends (get_or-map items_of vectors number old [] within ∙ ap items_of (sym is) ∙ sym same) (ascends_at (lists_of vectors) number all)

module _ {Z : Type 0} (vectors : List (Vec ℕ Z)) (number : ℕ) (old new : Vec ℕ Z) (within : number < length vectors) (is : old ≡ get_or vectors number old) where
  pub list_here : list_at (lists_of vectors) number ≡ old.items
  list_here = get_or-map items_of vectors number old [] within ∙ ap items_of (sym is)

  pub capacity_here : get_or (capacities_of vectors) number 0 ≡ old.cap
  capacity_here = get_or-map capacity_of vectors number old 0 within ∙ ap capacity_of (sym is)

  pub same_lists : new.items ≡ old.items → lists_of (slice_set vectors number new) ≡ lists_of vectors
  same_lists same = map-set_same items_of vectors number new old (same ∙ ap items_of is)

  new_capacity : get_or (capacities_of (slice_set vectors number new)) number 0 ≡ new.cap
  new_capacity =
      ap (λ (caps : List ℕ). get_or caps number 0) (map-set capacity_of vectors number new)
      ∙ get_or-set_same (capacities_of vectors) number new.cap 0 (omega (arith, length-map vectors capacity_of))

  pub other_capacity : (k : ℕ) → k ≢ number → get_or (capacities_of (slice_set vectors number new)) k 0 ≡ get_or (capacities_of vectors) k 0
  other_capacity k other =
      ap (λ (caps : List ℕ). get_or caps k 0) (map-set capacity_of vectors number new)
      ∙ get_or-set_other (capacities_of vectors) number k new.cap 0 other

  pub grown : old.cap ≤ new.cap → (k : ℕ) → get_or (capacities_of vectors) k 0 ≤ get_or (capacities_of (slice_set vectors number new)) k 0
  grown more k = elim (cases_order k number) [
    | inl same ↦ subst (λ (n : ℕ). get_or (capacities_of vectors) n 0 ≤ get_or (capacities_of (slice_set vectors number new)) n 0) (sym same) (omega (arith, capacity_here, new_capacity))
    | inr (inl less) ↦ omega (arith, other_capacity k (λ same. omega arith))
    | inr (inr above) ↦ omega (arith, other_capacity k (λ same. omega arith))
  ]

  pub has_room : (more to_move : ℕ) → new.items ≡ old.items → length new.items + more ≤ new.cap → length new.items ≤ to_move →
      HasRoom (slice_set vectors number new) more to_move number
  has_room more to_move same room room_to_move =
      let here : list_at (lists_of (slice_set vectors number new)) number ≡ new.items = ap (λ (lists : List (List ℕ)). list_at lists number) (same_lists same) ∙ list_here ∙ sym same in
      (omega (arith, ap length here, new_capacity), omega (arith, ap length here))

-- ---- the next of the numbers

pub all_at : (P : ℕ → Type 0) (xs : List ℕ) (k d : ℕ) → AllByRecursion P xs → k < length xs → P (get_or xs k d)
all_at P [] k d all within = absurd (omega arith)
all_at P (x ∷ xs) zero d all within = all.0
all_at P (x ∷ xs) (suc k) d all within = all_at P xs k d all.1 (omega arith)

-- the number at a place is within as many vectors as there were
pub within_still : {Y Z : Type 0} (old new : Vec (Vec ℕ Z) Y) (numbers : List ℕ) (i : ℕ) → AreBelow old.len numbers → length (lists_of new.items) ≡ length (lists_of old.items) →
    i < length numbers → get_or numbers i 0 < new.len
within_still old new numbers i below same within =
    let less : get_or numbers i 0 < old.len = all_at (λ n. n < old.len) numbers i 0 below within in
    omega (arith, less, length-map old.items items_of, length-map new.items items_of, same, old.ok.0, new.ok.0)

pub below_still : {Y Z : Type 0} (old new : Vec (Vec ℕ Z) Y) (numbers : List ℕ) → AreBelow old.len numbers → lists_of new.items ≡ lists_of old.items → AreBelow new.len numbers
below_still old new numbers below same =
    let count : length (lists_of new.items) ≡ old.len = omega (arith, ap length same, length-map old.items items_of, old.ok.0) in
    numbers_within new old.len numbers numbers count refl below

pub count_within : {Z : Type 0} (vectors items : List (Vec ℕ Z)) (number count : ℕ) → items ≡ vectors → length (lists_of vectors) ≡ count → number < count → number < length items
count_within vectors items number count same as_many less = omega (arith, ap length same, length-map vectors items_of, as_many, less)

pub vec_within : {Y Z : Type 0} (vectors : Vec (Vec ℕ Z) Y) (number count : ℕ) → length (lists_of vectors.items) ≡ count → number < count → number < vectors.len
vec_within vectors number count as_many less = omega (arith, length-map vectors.items items_of, vectors.ok.0, as_many, less)

pub rises : (xs : List ℕ) (i k d : ℕ) → Ascends xs → i < k → k < length xs → get_or xs i d < get_or xs k d
rises [] i k d h less within = absurd (omega arith)
rises (x ∷ xs) i zero d h less within = absurd (omega arith)
rises (x ∷ xs) zero (suc k) d h less within = all_at (λ y. x < y) xs k d h.0 (omega arith)
rises (x ∷ xs) (suc i) (suc k) d h less within = rises xs i k d h.1 (omega arith) (omega arith)

pub ascend_set : (lists : List (List ℕ)) (number : ℕ) (list : List ℕ) → AllAscend lists → Ascends list → AllAscend (slice_set lists number list)
ascend_set [] number list all here = all
ascend_set (first ∷ lists) zero list all here = (here, all.1)
ascend_set (first ∷ lists) (suc number) list all here = (all.0, ascend_set lists number list all.1 here)

pub ascend_after : (lists new : List (List ℕ)) (number : ℕ) (others : List ℕ) → AllAscend lists → Ascends others →
    new ≡ slice_set lists number (union (list_at lists number) others) → AllAscend new
ascend_after lists new number others all here is =
    subst AllAscend (sym is) (ascend_set lists number (union (list_at lists number) others) all (ascends_union (list_at lists number) others here))

pub done_here : (numbers : List ℕ) (i : ℕ) (change : List ℕ → List ℕ) (lists new : List (List ℕ)) → i < length numbers →
    new ≡ slice_set lists (get_or numbers i 0) (change (list_at lists (get_or numbers i 0))) →
    at_each (drop (i + 1) numbers) change new ≡ at_each (drop i numbers) change lists
done_here numbers i change lists new within is =
    ap (at_each (drop (i + 1) numbers) change) is ∙ ap (λ (rest : List ℕ). at_each rest change lists) (sym (rest_is numbers i within))
  where
    rest_is : (numbers : List ℕ) (i : ℕ) → i < length numbers → drop i numbers ≡ get_or numbers i 0 ∷ drop (i + 1) numbers
    rest_is numbers i within = rw (add-one, drop-cons numbers i 0)

pub room_stays : {Z : Type 0} (vectors new : List (Vec ℕ Z)) (number other more to_move later : ℕ) (list : List ℕ) → other ≢ number →
    lists_of new ≡ slice_set (lists_of vectors) number list →
    ((k : ℕ) → k ≢ number → get_or (capacities_of new) k 0 ≡ get_or (capacities_of vectors) k 0) → to_move ≤ later →
    HasRoom vectors more to_move other → HasRoom new more later other
room_stays vectors new number other more to_move later list apart is kept grows room =
    let same : list_at (lists_of new) other ≡ list_at (lists_of vectors) other =
    ap (λ (lists : List (List ℕ)). list_at lists other) is ∙ get_or-set_other (lists_of vectors) number other list [] apart in
    (omega (arith, room.0, ap length same, kept other apart), omega (arith, room.1, ap length same))

-- ---- a list behind the others

pub lists_end : {Z : Type 0} (old room new : List (Vec ℕ Z)) (item : Vec ℕ Z) (list : List ℕ) → room ≡ old → item.items ≡ list → new ≡ room ++ item ∷ [] → lists_of new ≡ lists_of old ++ list ∷ []
lists_end {Z} old room new item list same is e =
    ap lists_of e ∙ map-append items_of room (item ∷ []) ∙ ap (λ (w : List (Vec ℕ Z)). lists_of w ++ item.items ∷ []) same ∙ ap (λ (w : List ℕ). lists_of old ++ w ∷ []) is

pub if_done : {A E X : Type 0} (result : Result A E) (more old it : X) → IsOk result → it ≡ more → it ≡ (if is_ok result then more else old)
if_done (Ok x) more old it done e = e
if_done (Err x) more old it done e = absurd (false≢true done)

pub if_err : {A E X : Type 0} (result : Result A E) (more old it : X) → IsErr result → it ≡ old → it ≡ (if is_ok result then more else old)
if_err (Ok x) more old it failed e = absurd (false≢true failed)
if_err (Err x) more old it failed e = e

pub room_here : {Y Z : Type 0} (vectors : Vec (Vec ℕ Z) Y) (number more to_move : ℕ) (old : Vec ℕ Z) → number < vectors.len → old ≡ get_or vectors.items number old → HasRoom vectors.items more to_move number →
    (old.len + more ≤ old.cap) × (old.len ≤ to_move)
room_here vectors number more to_move old less is room =
    let within : number < length vectors.items = omega (arith, less, vectors.ok.0) in
    let count = ap length (list_here vectors.items number old old within is) in
    (omega (arith, room.0, count, capacity_here vectors.items number old old within is, old.ok.0), omega (arith, room.1, count, old.ok.0))
