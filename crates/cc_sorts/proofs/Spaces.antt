-- Room in lists, and lists that are shown or filled one after another.
use Rattle.std.proofs.Common.{◌≡◌, ◌∙◌, ℕ, zero, suc, ◌+◌, ◌<◌, ◌≤◌, ◌≢◌, Bool, true, false, ◌||◌, ◌&&◌, List, [], ◌∷◌, ◌++◌, length, map, take, drop, add-one, drop-cons, get_or, slice_set, refl, sym, ap, subst, arith, length-append, Vec}
use Rattle.std.specs.Prelude.{if◌then◌else◌, ◌==◌, nat_lt}
use Rattle.std.specs.List.{AllByRecursion}
use Rattle.std.proofs.lemmas.List.{get_or-set_other, map-append}
use Rattle.std.proofs.Math.Seq.{take-suc}
use Rattle.cc_defs.specs.Declarations.{Pair, firsts, is_below, numbers_where}
use Rattle.cc_sorts.specs.declared.table.PutAt.{PutAt}
use Rattle.cc_sorts.specs.Lists.{lists_of, capacities_of, list_at}
use Rattle.cc_sorts.specs.Numbers.{has, put, union}
use Rattle.cc_sorts.specs.Shown.{owner, shown_list, put_end, set_each, HasSpace}
use Rattle.cc_sorts.specs.SortViews.{SortsView, changed_above, members_at, name_at, with_pair}
use Rattle.cc_sorts.proofs.Showing.{firsts_end, not_below}
use Rattle.cc_sorts.proofs.Vectors.{has_room}
use Rattle.cc_sorts.proofs.Wheres.{where_same}

module _ {Z : Type 0} (vectors : List (Vec ℕ Z)) (number : ℕ) (old new : Vec ℕ Z) (within : number < length vectors) (is : old ≡ get_or vectors number old) where
  pub has_space : (more : ℕ) → new.items ≡ old.items → length new.items + more ≤ new.cap → HasSpace (slice_set vectors number new) more number
  has_space more same room = (has_room vectors number old new within is more (length new.items) same room (omega arith)).0

pub space_stays : {Z : Type 0} (vectors new : List (Vec ℕ Z)) (number other more : ℕ) (list : List ℕ) → other ≢ number → lists_of new ≡ slice_set (lists_of vectors) number list →
    ((k : ℕ) → k ≢ number → get_or (capacities_of new) k 0 ≡ get_or (capacities_of vectors) k 0) → HasSpace vectors more other → HasSpace new more other
space_stays vectors new number other more list apart is kept room =
    let same : list_at (lists_of new) other ≡ list_at (lists_of vectors) other =
    ap (λ (lists : List (List ℕ)). list_at lists other) is ∙ get_or-set_other (lists_of vectors) number other list [] apart in
    omega (arith, room, ap length same, kept other apart)

-- ---- an object that is shown

pub put_there : (x : ℕ) (list : List ℕ) → has x list ≡ true → list ≡ put_end x list
put_there x list e = ap (λ (b : Bool). if b then list else list ++ x ∷ []) (sym e)

pub put_new : (x : ℕ) (list : List ℕ) → has x list ≡ false → list ++ x ∷ [] ≡ put_end x list
put_new x list e = ap (λ (b : Bool). if b then list else list ++ x ∷ []) (sym e)

pub fresh_at : (x : ℕ) (lists : List (List ℕ)) (i : ℕ) → AllByRecursion (λ list. has x list ≡ false) lists → has x (list_at lists i) ≡ false
fresh_at x [] i all = refl
fresh_at x (list ∷ lists) zero all = all.0
fresh_at x (list ∷ lists) (suc i) all = fresh_at x lists i all.1

pub fresh_stays : (x : ℕ) (lists new : List (List ℕ)) (number other : ℕ) (list : List ℕ) → other ≢ number → new ≡ slice_set lists number list → has x (list_at lists other) ≡ false → has x (list_at new other) ≡ false
fresh_stays x lists new number other list apart is e =
    ap (λ (w : List (List ℕ)). has x (list_at w other)) is ∙ ap (has x) (get_or-set_other lists number other list [] apart) ∙ e

-- ---- a list that is filled

pub shown_more : (puts : List PutAt) (numbers : List ℕ) (i : ℕ) → i < length numbers →
    shown_list puts (take (i + 1) numbers) ≡ put_end (owner puts (get_or numbers i 0)) (shown_list puts (take i numbers))
shown_more puts numbers i within =
    ap (λ (k : ℕ). shown_list puts (take k numbers)) (add-one i) ∙ ap (shown_list puts) (take-suc numbers i 0 within)
    ∙ ap firsts (map-append (owner puts) (take i numbers) (get_or numbers i 0 ∷ [])) ∙ firsts_end (map (owner puts) (take i numbers)) (owner puts (get_or numbers i 0))

owner_read : (puts : List PutAt) (number : ℕ) (none : PutAt) → number < length puts → (get_or puts number none).object ≡ owner puts number
owner_read [] number none p = absurd (omega arith)
owner_read (first ∷ puts) zero none p = refl
owner_read (first ∷ puts) (suc number) none p = owner_read puts number none (omega arith)

pub filled_more : (puts : List PutAt) (numbers old new : List ℕ) (i : ℕ) (none : PutAt) → i < length numbers → get_or numbers i 0 < length puts →
    old ≡ shown_list puts (take i numbers) → new ≡ put_end (get_or puts (get_or numbers i 0) none).object old → new ≡ shown_list puts (take (i + 1) numbers)
filled_more puts numbers old new i none within known e f =
    f ∙ ap (put_end (get_or puts (get_or numbers i 0) none).object) e ∙ ap (λ (n : ℕ). put_end n (shown_list puts (take i numbers))) (owner_read puts (get_or numbers i 0) none known)
    ∙ sym (shown_more puts numbers i within)

below_more : (bound more : ℕ) (list : List ℕ) → bound ≤ more → AllByRecursion (λ y. y < bound) list → AllByRecursion (λ y. y < more) list
below_more bound more [] p all = tt
below_more bound more (x ∷ xs) p all = let less : x < bound = all.0 in (omega (arith, less, p), below_more bound more xs p all.1)

below_end : (bound x : ℕ) (list : List ℕ) → x < bound → AllByRecursion (λ y. y < bound) list → AllByRecursion (λ y. y < bound) (list ++ x ∷ [])
below_end bound x [] p all = (p, tt)
below_end bound x (y ∷ ys) p all = (all.0, below_end bound x ys p all.1)

pub below_put : (bound more x : ℕ) (list new : List ℕ) → bound ≤ more → x < more → AllByRecursion (λ y. y < bound) list → new ≡ put_end x list → AllByRecursion (λ y. y < more) new
below_put bound more x list new p q all is = let P : List ℕ → Type 0 = λ w. AllByRecursion (λ y. y < more) w in subst P (sym is) (step (has x list))
  where
    step : (there : Bool) → AllByRecursion (λ y. y < more) (if there then list else list ++ x ∷ [])
    step true = below_more bound more list p all
    step false = below_end more x list q (below_more bound more list p all)

pub length_put : (x : ℕ) (list new : List ℕ) → new ≡ put_end x list → length new ≤ length list + 1
length_put x list new is = let P : List ℕ → Type 0 = λ w. length w ≤ length list + 1 in subst P (sym is) (step (has x list))
  where
    step : (there : Bool) → length (if there then list else list ++ x ∷ []) ≤ length list + 1
    step true = omega arith
    step false = omega (arith, length-append list (x ∷ []))

pub fresh_below : (bound x : ℕ) (list : List ℕ) → bound ≤ x → AllByRecursion (λ y. y < bound) list → has x list ≡ false
fresh_below bound x list p all = not_below x list (below_more bound x list p all)

-- ---- lists that are set

pub set_here : (numbers : List ℕ) (i : ℕ) (made : ℕ → List ℕ) (lists new : List (List ℕ)) → i < length numbers → new ≡ slice_set lists (get_or numbers i 0) (made (get_or numbers i 0)) →
    set_each (drop (i + 1) numbers) made new ≡ set_each (drop i numbers) made lists
set_here numbers i made lists new within is =
    ap (set_each (drop (i + 1) numbers) made) is ∙ ap (λ (rest : List ℕ). set_each rest made lists) (sym (rest_is numbers i within))
  where
    rest_is : (numbers : List ℕ) (i : ℕ) → i < length numbers → drop i numbers ≡ get_or numbers i 0 ∷ drop (i + 1) numbers
    rest_is numbers i within = rw (add-one, drop-cons numbers i 0)

-- ---- the lists behind a pair

put_length : (x : ℕ) (list : List ℕ) → length (put x list) ≤ length list + 1
put_length x [] = omega arith
put_length x (y ∷ ys) =
    elim (nat_lt x y) as (λ less. length (if less then x ∷ y ∷ ys else (if x == y then y ∷ ys else y ∷ put x ys)) ≤ suc (length ys) + 1) [
      | true ↦ omega arith
      | false ↦ elim (x == y) as (λ same. length (if same then y ∷ ys else y ∷ put x ys) ≤ suc (length ys) + 1) [
        | true ↦ omega arith
        | false ↦ let more : length (put x ys) ≤ length ys + 1 = put_length x ys in omega arith
      ]
    ]

union_length : (xs ys : List ℕ) → length (union xs ys) ≤ length xs + length ys
union_length [] ys = omega arith
union_length (x ∷ xs) ys = let more : length (union xs ys) ≤ length xs + length ys = union_length xs ys in omega (arith, put_length x (union xs ys))

changed_length : (pairs : List Pair) (sort others : List ℕ) (names lists : List (List ℕ)) (i : ℕ) →
    length (list_at (changed_above pairs sort (λ list. union list others) names lists) i) ≤ length (list_at lists i) + length others
changed_length pairs sort others [] lists i = omega arith
changed_length pairs sort others (name ∷ names) [] i = omega arith
changed_length pairs sort others (name ∷ names) (list ∷ lists) zero =
    elim (is_below pairs sort name) as (λ above. length (if above then union list others else list) ≤ length list + length others) [ true ↦ union_length list others | false ↦ omega arith ]
changed_length pairs sort others (name ∷ names) (list ∷ lists) (suc i) = changed_length pairs sort others names lists i

pub pair_length : (sorts : SortsView) (upper lower i : ℕ) → length (members_at (with_pair sorts upper lower) i) ≤ length (members_at sorts i) + length (members_at sorts lower)
pair_length sorts upper lower i = changed_length sorts.pairs (name_at sorts upper) (members_at sorts lower) sorts.names sorts.members i

or_nothing : (a b c : Bool) → a ≡ false → (c || (a && b)) ≡ c
or_nothing false b true e = refl
or_nothing false b false e = refl
or_nothing true b c e = absurd cc

-- the sorts above the upper one stay
pub above_stays : (sorts : SortsView) (upper lower : ℕ) → is_below sorts.pairs (name_at sorts upper) (name_at sorts lower) ≡ false →
    numbers_where (λ name. is_below (with_pair sorts upper lower).pairs (name_at sorts upper) name) 0 sorts.names ≡ numbers_where (λ name. is_below sorts.pairs (name_at sorts upper) name) 0 sorts.names
above_stays sorts upper lower apart =
    where_same (λ name. is_below (with_pair sorts upper lower).pairs (name_at sorts upper) name) (λ name. is_below sorts.pairs (name_at sorts upper) name) 0 sorts.names
    (λ name. or_nothing (is_below sorts.pairs (name_at sorts upper) (name_at sorts lower)) (is_below sorts.pairs (name_at sorts upper) name) (is_below sorts.pairs (name_at sorts upper) name) apart)
