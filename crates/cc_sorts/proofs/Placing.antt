-- The object of a number, as it is found.
use Rattle.std.proofs.Common.{◌≡◌, ◌∙◌, ℕ, zero, suc, ◌+◌, Bool, true, false, cond, List, [], ◌∷◌, ◌++◌, length, take, drop, position, slice_get, Option, Some, None, eqb, inl, inr, refl, sym, ap, subst, arith, is_some, is_none, ◌&&◌, ◌||◌, Result, Ok, Err, OnOk, OnErr, length-append, ◌-◌}
use Rattle.std.specs.Prelude.{if◌then◌else◌, ◌==◌}
use Rattle.std.specs.List.{position_from, list_any}
use Rattle.std.specs.Map.{lookup}
use Rattle.std.proofs.lemmas.Bool.{eqb-true}
use Rattle.std.proofs.lemmas.List.{length-take}
use Rattle.std.proofs.lemmas.Bool.Decides.{eqb_tells}
use Rattle.std.proofs.lemmas.Iterator.Adapters.{position_from-zero}
use Rattle.cc_defs.specs.DeclarationFaults.{is_that}
use Rattle.cc_sorts.specs.declared.table.PutAt.{PutAt}
use Rattle.cc_sorts.specs.Lefts.{is_number_from, is_put_as, is_put_from}
use Rattle.cc_sorts.specs.Objects.{ObjectsView, AreFound, AreObjects, checked_at, more_objects}
use Rattle.cc_sorts.specs.Tables.{Numbered}

-- ---- places of items that pass a test

module _ {X : Type 0} (test : X → Bool) where
  -- the item at a place passes
  place_passes : (n k : ℕ) (xs : List X) → position_from test n xs ≡ Some k → (i : ℕ) × (x : X) × (k ≡ n + i) × (slice_get xs i ≡ Some x) × (test x ≡ true)
  place_passes n k [] e = absurd cc
  place_passes n k (x ∷ xs) e = step (test x) refl e (place_passes (n + 1) k xs)
    where
      step : (here : Bool) → test x ≡ here → cond here (Some n) (position_from test (n + 1) xs) ≡ Some k →
          (position_from test (n + 1) xs ≡ Some k → (i : ℕ) × (y : X) × (k ≡ n + 1 + i) × (slice_get xs i ≡ Some y) × (test y ≡ true)) →
          (i : ℕ) × (y : X) × (k ≡ n + i) × (slice_get (x ∷ xs) i ≡ Some y) × (test y ≡ true)
      step true t f more = let same : n ≡ k = cc in (0, x, (omega arith), refl, t)
      step false t f more = let rest = more f in let is : k ≡ n + 1 + rest.0 = rest.2 in (suc rest.0, rest.1, (omega arith), rest.3, rest.4)

  none_passes : (n i : ℕ) (xs : List X) (x : X) → position_from test n xs ≡ None → slice_get xs i ≡ Some x → test x ≡ false
  none_passes n i [] x e f = absurd cc
  none_passes n zero (y ∷ xs) x e f = step (test y) refl e
    where
      step : (here : Bool) → test y ≡ here → cond here (Some n) (position_from test (n + 1) xs) ≡ None → test x ≡ false
      step true t g = absurd cc
      step false t g = let same : y ≡ x = cc in ap test (sym same) ∙ t
  none_passes n (suc i) (y ∷ xs) x e f = step (test y) e (λ g. none_passes (n + 1) i xs x g f)
    where
      step : (here : Bool) → cond here (Some n) (position_from test (n + 1) xs) ≡ None → (position_from test (n + 1) xs ≡ None → test x ≡ false) → test x ≡ false
      step true g more = absurd cc
      step false g more = more g

  place_front : (n k : ℕ) (xs ys : List X) → position_from test n xs ≡ Some k → position_from test n (xs ++ ys) ≡ Some k
  place_front n k [] ys e = absurd cc
  place_front n k (x ∷ xs) ys e = step (test x) e (place_front (n + 1) k xs ys)
    where
      step : (here : Bool) → cond here (Some n) (position_from test (n + 1) xs) ≡ Some k → (position_from test (n + 1) xs ≡ Some k → position_from test (n + 1) (xs ++ ys) ≡ Some k) →
          cond here (Some n) (position_from test (n + 1) (xs ++ ys)) ≡ Some k
      step true f more = f
      step false f more = more f

  place_end : (n : ℕ) (xs : List X) (x : X) → position_from test n xs ≡ None → position_from test n (xs ++ x ∷ []) ≡ cond (test x) (Some (n + length xs)) None
  place_end n [] x e = let same : n ≡ n + 0 = omega arith in ap (λ (k : ℕ). cond (test x) (Some k) None) same
  place_end n (y ∷ xs) x e = step (test y) e (place_end (n + 1) xs x)
    where
      step : (here : Bool) → cond here (Some n) (position_from test (n + 1) xs) ≡ None →
          (position_from test (n + 1) xs ≡ None → position_from test (n + 1) (xs ++ x ∷ []) ≡ cond (test x) (Some (n + 1 + length xs)) None) →
          cond here (Some n) (position_from test (n + 1) (xs ++ x ∷ [])) ≡ cond (test x) (Some (n + suc (length xs))) None
      step true f more = absurd cc
      step false f more = let same : n + 1 + length xs ≡ n + suc (length xs) = omega arith in more f ∙ ap (λ (k : ℕ). cond (test x) (Some k) None) same

-- ---- the object of a number

abbrev place_of : ℕ → List (Option ℕ) → Option ℕ
place_of number numbers = position_from (is_that number) 0 numbers

abbrev entry_of : ℕ → List (ℕ × ℕ) → Option ℕ
entry_of number places = lookup (λ key. number == key) places

pub found_number : (numbers : List (Option ℕ)) (places : List (ℕ × ℕ)) (number object : ℕ) (result : Option ℕ) → AreFound numbers places → Some object ≡ entry_of number places →
    result ≡ checked_at number object (slice_get numbers object) → result ≡ position (is_that number) numbers
found_number numbers places number object result found there is =
    is ∙ step (place_of number numbers) refl ∙ sym (position_from-zero (is_that number) numbers)
  where
    none : (other : Option (Option ℕ)) → slice_get numbers object ≡ other → place_of number numbers ≡ None → checked_at number object other ≡ None
    none None e p = refl
    none (Some other) e p = ap (λ (b : Bool). if b then Some object else None) (none_passes (is_that number) 0 object numbers other p e)

    step : (place : Option ℕ) → place_of number numbers ≡ place → checked_at number object (slice_get numbers object) ≡ place
    step None p = none (slice_get numbers object) refl p
    step (Some k) p =
        let passes = place_passes (is_that number) 0 k numbers p in
        let at : entry_of number places ≡ Some k = found number k (position_from-zero (is_that number) numbers ∙ p) in
        let same : object ≡ k = cc (there, at) in
        let index : passes.0 ≡ object = (let e : k ≡ 0 + passes.0 = passes.2 in omega arith) in
        ap (λ (n : ℕ). checked_at number object (slice_get numbers n)) (sym index)
        ∙ ap (checked_at number object) passes.3
        ∙ ap (λ (b : Bool). if b then Some object else None) passes.4 ∙ ap (λ (n : ℕ). Some n) same

pub no_number : (numbers : List (Option ℕ)) (places : List (ℕ × ℕ)) (number : ℕ) → AreFound numbers places → None ≡ entry_of number places → None ≡ position (is_that number) numbers
no_number numbers places number found there = step (position (is_that number) numbers) refl
  where
    step : (place : Option ℕ) → position (is_that number) numbers ≡ place → None ≡ place
    step None e = refl
    step (Some k) e = absurd (cc (there, found number k e))

-- a number that is there, or none, behind the others
pub found_more : (numbers : List (Option ℕ)) (places : List (ℕ × ℕ)) (number : Option ℕ) → AreFound numbers places →
    ((other object : ℕ) → position (is_that other) numbers ≡ None → position (is_that other) (numbers ++ number ∷ []) ≡ Some object → entry_of other places ≡ Some object) →
    AreFound (numbers ++ number ∷ []) places
found_more numbers places number found last = λ other object e. step other object (position (is_that other) numbers) refl e
  where
    step : (other object : ℕ) (place : Option ℕ) → position (is_that other) numbers ≡ place → position (is_that other) (numbers ++ number ∷ []) ≡ Some object → entry_of other places ≡ Some object
    step other object None p e = last other object p e
    step other object (Some k) p e =
        let front : position (is_that other) (numbers ++ number ∷ []) ≡ Some k =
        position_from-zero (is_that other) (numbers ++ number ∷ []) ∙ place_front (is_that other) 0 k numbers (number ∷ []) (sym (position_from-zero (is_that other) numbers) ∙ p) in
        let same : k ≡ object = cc (front, e) in
        found other k p ∙ ap (λ (n : ℕ). Some n) same

-- what is behind the others has the last place
last_place : (numbers : List (Option ℕ)) (number : Option ℕ) (other object : ℕ) → position (is_that other) numbers ≡ None → position (is_that other) (numbers ++ number ∷ []) ≡ Some object →
    (is_that other number ≡ true) × (object ≡ length numbers)
last_place numbers number other object p e = step (is_that other number) refl
    (sym (place_end (is_that other) 0 numbers number (sym (position_from-zero (is_that other) numbers) ∙ p)) ∙ sym (position_from-zero (is_that other) (numbers ++ number ∷ [])) ∙ e)
  where
    step : (here : Bool) → is_that other number ≡ here → cond here (Some (0 + length numbers)) None ≡ Some object → (is_that other number ≡ true) × (object ≡ length numbers)
    step true t f = let same : 0 + length numbers ≡ object = cc in (t, omega arith)
    step false t f = absurd cc

pub found_none : (numbers : List (Option ℕ)) (places : List (ℕ × ℕ)) → AreFound numbers places → AreFound (numbers ++ None ∷ []) places
found_none numbers places found = found_more numbers places None found (λ other object p e. let parts = last_place numbers None other object p e in absurd (cc (parts.0)))

pub found_there : (numbers : List (Option ℕ)) (places : List (ℕ × ℕ)) (number k : ℕ) → AreFound numbers places → position (is_that number) numbers ≡ Some k → AreFound (numbers ++ Some number ∷ []) places
found_there numbers places number k found there = found_more numbers places (Some number) found
    (λ other object p e.
    let parts = last_place numbers (Some number) other object p e in
    let same : number ≡ other = eqb-true number other parts.0 in
    absurd (cc (ap (λ (n : ℕ). position (is_that n) numbers) same, there, p)))

abbrev Noted : List (ℕ × ℕ) → List (ℕ × ℕ) → ℕ → ℕ → Type 0
Noted old new number object = (other : ℕ) → entry_of other new ≡ cond (eqb number other) (Some object) (entry_of other old)

-- a number that was not there is noted
pub found_kept : (numbers : List (Option ℕ)) (old new : List (ℕ × ℕ)) (number object : ℕ) → AreFound numbers old → position (is_that number) numbers ≡ None → Noted old new number object → AreFound numbers new
found_kept numbers old new number object found none noted = λ other k e.
    noted other ∙ elim (eqb_tells number other) [
      | inl same ↦ absurd (cc (ap (λ (n : ℕ). position (is_that n) numbers) same.1, none, e))
      | inr differ ↦ ap (λ (b : Bool). cond b (Some object) (entry_of other old)) differ.0 ∙ found other k e
    ]

pub found_noted : (numbers : List (Option ℕ)) (old new : List (ℕ × ℕ)) (number object : ℕ) → AreFound numbers old → position (is_that number) numbers ≡ None → object ≡ length numbers →
    Noted old new number object → AreFound (numbers ++ Some number ∷ []) new
found_noted numbers old new number object found none last noted =
    found_more numbers new (Some number) (found_kept numbers old new number object found none noted)
    (λ other k p e.
    let parts = last_place numbers (Some number) other k p e in
    noted other ∙ ap (λ (b : Bool). cond b (Some object) (entry_of other old)) parts.0 ∙ ap (λ (n : ℕ). Some n) (last ∙ sym parts.1))

-- what becomes of the places when a number that was not there is noted, or memory is wanting
module _ {A E : Type 0} (result : Result A E) (numbers : List (Option ℕ)) (old new : List (ℕ × ℕ)) (number object : ℕ) (place : Option ℕ) (found : AreFound numbers old)
    (is : place ≡ position (is_that number) numbers) (none : is_some place ≡ false) (noted : OnOk result (Noted old new number object)) where
  absent : position (is_that number) numbers ≡ None
  absent = sym is ∙ nothing place none
    where
      nothing : (place : Option ℕ) → is_some place ≡ false → place ≡ None
      nothing None e = refl
      nothing (Some k) e = absurd cc

  pub kept_at : OnErr result (new ≡ old) → AreFound numbers new
  kept_at unchanged = step result noted unchanged
    where
      step : (result : Result A E) → OnOk result (Noted old new number object) → OnErr result (new ≡ old) → AreFound numbers new
      step (Ok x) noted unchanged = found_kept numbers old new number object found absent noted
      step (Err e) noted unchanged = subst (AreFound numbers) (sym unchanged) found

  pub noted_at : (other : Option ℕ) → other ≡ Some number → object ≡ length numbers → OnOk result (AreFound (numbers ++ other ∷ []) new)
  noted_at other e last = step result noted
    where
      step : (result : Result A E) → OnOk result (Noted old new number object) → OnOk result (AreFound (numbers ++ other ∷ []) new)
      step (Ok x) noted = subst (λ (w : Option ℕ). AreFound (numbers ++ w ∷ []) new) (sym e) (found_noted numbers old new number object found absent last noted)
      step (Err e) noted = tt

-- ---- objects taken out again

pub found_front : (numbers : List (Option ℕ)) (places : List (ℕ × ℕ)) (count : ℕ) → AreFound numbers places → AreFound (take count numbers) places
found_front numbers places count found = λ other object e.
    found other object
    (ap (λ (w : List (Option ℕ)). position (is_that other) w) (sym (parts numbers count))
    ∙ position_from-zero (is_that other) (take count numbers ++ drop count numbers)
    ∙ place_front (is_that other) 0 object (take count numbers) (drop count numbers) (sym (position_from-zero (is_that other) (take count numbers)) ∙ e))
  where
    parts : {X : Type 0} (xs : List X) (i : ℕ) → take i xs ++ drop i xs ≡ xs
    parts [] zero = refl
    parts [] (suc i) = refl
    parts (x ∷ xs) zero = refl
    parts (x ∷ xs) (suc i) = ap (λ w. x ∷ w) (parts xs i)

-- ---- puts of an object, or into a sort, that is not there

and_none : (b : Bool) → false ≡ (b && false)
and_none true = refl
and_none false = refl

none_any : {X : Type 0} (test : X → Bool) (xs : List X) → ((x : X) → false ≡ test x) → false ≡ list_any test xs
none_any test [] never = refl
none_any test (x ∷ xs) never = none_any test xs never ∙ ap (λ (b : Bool). b || list_any test xs) (never x)

pub no_put_as : (object : Option ℕ) (puts : List PutAt) → object ≡ None → false ≡ list_any (is_put_as object) puts
no_put_as object puts none =
    none_any (is_put_as None) puts (λ put. and_none (is_none put.number)) ∙ ap (λ (o : Option ℕ). list_any (is_put_as o) puts) (sym none)

pub no_put_from : (low high : ℕ) (sort : Option ℕ) (puts : List PutAt) → sort ≡ None → false ≡ list_any (is_put_from low high sort) puts
no_put_from low high sort puts none =
    none_any (is_put_from low high None) puts (λ put. and_none (is_number_from low high put.number)) ∙ ap (λ (o : Option ℕ). list_any (is_put_from low high o) puts) (sym none)

-- ---- an object behind the others

pub objects_more : (named more : List Numbered) (numbers room read all : List (Option ℕ)) (places : List (ℕ × ℕ)) (entry : Numbered) (number : Option ℕ) → length numbers ≡ length named →
    more ≡ named ++ entry ∷ [] → room ≡ numbers → read ≡ room → all ≡ room ++ number ∷ [] → AreFound (read ++ number ∷ []) places → AreObjects more all places
objects_more named more numbers room read all places entry number as_many e f g h found =
    let P : List (Option ℕ) → Type 0 = λ w. AreFound w places in
    record {
      as_many = omega (arith, ap length e, length-append named (entry ∷ []), ap length f, ap length h, length-append room (number ∷ []), as_many);
      found = subst P (ap (λ (w : List (Option ℕ)). w ++ number ∷ []) g ∙ sym h) found;
    }

pub seen_more : (named more : List Numbered) (numbers room all : List (Option ℕ)) (view : ObjectsView) (name : List ℕ) (sort : ℕ) (number : Option ℕ) →
    (let seen : ObjectsView = record { named = named; numbers = numbers } in seen) ≡ view → more ≡ named ++ (name, sort) ∷ [] → room ≡ numbers → all ≡ room ++ number ∷ [] →
    (let seen : ObjectsView = record { named = more; numbers = all } in seen) ≡ more_objects view name sort number
seen_more named more numbers room all view name sort number is e f g =
    ap (λ (w : List Numbered). (let seen : ObjectsView = record { named = w; numbers = all } in seen)) e
    ∙ ap (λ (w : List (Option ℕ)). (let seen : ObjectsView = record { named = named ++ (name, sort) ∷ []; numbers = w } in seen)) (g ∙ ap (λ (w : List (Option ℕ)). w ++ number ∷ []) f)
    ∙ ap (λ (w : ObjectsView). more_objects w name sort number) is

pub objects_fewer : (named fewer : List Numbered) (numbers rest : List (Option ℕ)) (places : List (ℕ × ℕ)) (len : ℕ) → AreObjects named numbers places → len ≡ length numbers →
    fewer ≡ take (length named - 1) named → rest ≡ take (len - 1) numbers → AreObjects fewer rest places
objects_fewer named fewer numbers rest places len kept count e f =
    let P : List (Option ℕ) → Type 0 = λ w. AreFound w places in
    record {
      as_many = omega (arith, ap length e, ap length f, length-take (length named - 1) named, length-take (len - 1) numbers, kept.as_many, count);
      found = subst P (sym f) (found_front numbers places (len - 1) kept.found);
    }

pub objects_stay : (named more : List Numbered) (numbers room read : List (Option ℕ)) (places : List (ℕ × ℕ)) → length numbers ≡ length named → more ≡ named → room ≡ numbers → read ≡ room →
    AreFound read places → AreObjects more room places
objects_stay named more numbers room read places as_many e f g found =
    let P : List (Option ℕ) → Type 0 = λ w. AreFound w places in
    record { as_many = ap length f ∙ as_many ∙ sym (ap length e); found = subst P g found }

pub seen_stays : (named more : List Numbered) (numbers room : List (Option ℕ)) (view : ObjectsView) → (let seen : ObjectsView = record { named = named; numbers = numbers } in seen) ≡ view →
    more ≡ named → room ≡ numbers → (let seen : ObjectsView = record { named = more; numbers = room } in seen) ≡ view
seen_stays named more numbers room view is e f =
    ap (λ (w : List Numbered). (let seen : ObjectsView = record { named = w; numbers = room } in seen)) e
    ∙ ap (λ (w : List (Option ℕ)). (let seen : ObjectsView = record { named = named; numbers = w } in seen)) f ∙ is
