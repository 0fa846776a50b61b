-- What loops over declarations have done so far.
use Rattle.std.proofs.Common.{Bool, true, false, ◌&&◌, ◌||◌, ◌≡◌, ◌≢◌, ◌∙◌, ℕ, zero, suc, ◌+◌, ◌<◌, ◌≤◌, List, [], ◌∷◌, ◌++◌, length, map, flat_map, append_assoc, append-nil, take, drop, get_or, min, ◌-◌, Result, Ok, Err, OnErr, OnOk, Bor, refl, sym, ap, subst, arith, length-append, add-one}
use Rattle.std.proofs.Math.Seq.{take-suc}
use Rattle.std.proofs.lemmas.List.{map-append, length-map, at_drop_all, at_drop_more}
use Rattle.std.proofs.lemmas.Bool.{eq-eqb, false≢true, ne_eqb}
use Rattle.std.proofs.lemmas.Grind.{flat_map-append}
use Rattle.std.specs.List.{list_any}
use Rattle.std.specs.Result.{IsOk}
use Rattle.cc_defs.specs.Declarations.{Declaration, Span, Number, put_declared, upto, from_to}
use Rattle.cc_sorts.specs.Declaring.{numbers_of, plain_declaration, plain_declarations}
use Rattle.cc_sorts.specs.declared.declaration.Declaration as declarations
use Rattle.cc_sorts.specs.Numbers.{has}
use Rattle.cc_sorts.specs.Steps.{IsFrontOf, behind, behind_all}
use Rattle.cc_sorts.specs.Tables.{TableView}

pub mapped_more : {X Y : Type 0} (f : X → Y) (xs : List X) (i : ℕ) (d : X) → i < length xs → map f (take (i + 1) xs) ≡ map f (take i xs) ++ f (get_or xs i d) ∷ []
mapped_more f xs i d within = rw (add-one, take-suc xs i d within) (map-append f (take i xs) (get_or xs i d ∷ []))

-- ---- lists of declarations that are joined

pub joined_more : {X Y : Type 0} (f : X → List Y) (xs : List X) (i : ℕ) (d x : X) → i < length xs → x ≡ get_or xs i d → flat_map f (take (i + 1) xs) ≡ flat_map f (take i xs) ++ f x
joined_more {X} {Y} f xs i d x within is =
    ap (flat_map f) (ap (λ (k : ℕ). take k xs) (add-one i) ∙ take-suc xs i d within) ∙ flat_map-append f (take i xs) (get_or xs i d ∷ [])
    ∙ ap (λ (w : List Y). flat_map f (take i xs) ++ w) (append-nil (f (get_or xs i d))) ∙ ap (λ (y : X). flat_map f (take i xs) ++ f y) (sym is)

-- ---- counting what is put

stops : (a b count more whole : ℕ) → count ≡ min a 10000 → more ≡ b → whole ≡ a + b → min (count + more) 10000 ≡ min whole 10000
stops a b count more whole e f g = omega (arith, e, f, g)

pub counted_more : (file line count more : ℕ) (ds : List declarations.Declaration) (i : ℕ) (d : declarations.Declaration) → i < length ds → d ≡ get_or ds i d →
    count ≡ min (length (flat_map put_declared (plain_declarations file line (take i ds)))) 10000 →
    more ≡ length (flat_map put_declared (plain_declaration file line d)) →
    min (count + more) 10000 ≡ min (length (flat_map put_declared (plain_declarations file line (take (i + 1) ds)))) 10000
counted_more file line count more ds i d within is p q =
    stops _ _ count more _ p q
    (ap (λ (w : List Declaration). length (flat_map put_declared w)) (joined_more (plain_declaration file line) ds i d d within is)
    ∙ ap length (flat_map-append put_declared (plain_declarations file line (take i ds)) (plain_declaration file line d))
    ∙ length-append (flat_map put_declared (plain_declarations file line (take i ds))) (flat_map put_declared (plain_declaration file line d)))

length_upto : (n : ℕ) → length (upto n) ≡ n
length_upto zero = refl
length_upto (suc n) = length-append (upto n) (n ∷ []) ∙ (let more : length (upto n) ≡ n = length_upto n in omega arith)

length_numbers : (sort values : List ℕ) → length (flat_map put_declared (numbers_of sort values)) ≡ length values
length_numbers sort [] = refl
length_numbers sort (value ∷ values) = ap suc (length_numbers sort values)

pub count_numbers : (low high : ℕ) (sort : List ℕ) → high + 1 - low ≡ length (flat_map put_declared (Span low high sort ∷ numbers_of sort (from_to low high)))
count_numbers low high sort =
    sym (length_numbers sort (from_to low high) ∙ length-map (upto (high + 1 - low)) (λ (more : ℕ). low + more) ∙ length_upto (high + 1 - low))

-- ---- putting one after another

pub behind_both : (table : TableView) (done more : List Declaration) → behind_all table (done ++ more) ≡ behind_all (behind_all table done) more
behind_both table [] more = refl
behind_both table (first ∷ done) more = behind_both (behind table first) done more

pub put_more : (file line : ℕ) (table now new : TableView) (ds : List declarations.Declaration) (i : ℕ) (d : declarations.Declaration) → i < length ds → d ≡ get_or ds i d →
    now ≡ behind_all table (plain_declarations file line (take i ds)) →
    new ≡ behind_all now (plain_declaration file line d) →
    new ≡ behind_all table (plain_declarations file line (take (i + 1) ds))
put_more file line table now new ds i d within is p q =
    q ∙ ap (λ (w : TableView). behind_all w (plain_declaration file line d)) p
    ∙ sym (behind_both table (plain_declarations file line (take i ds)) (plain_declaration file line d))
    ∙ ap (behind_all table) (sym (joined_more (plain_declaration file line) ds i d d within is))

-- a front of what comes next, behind a front
pub front_behind : (table now new : TableView) (done next rest : List Declaration) → now ≡ behind_all table done → IsFrontOf now next new → IsFrontOf table (done ++ (next ++ rest)) new
front_behind table now new done next rest p front = record {
  front = done ++ front.front;
  rest = front.rest ++ rest;
  whole = ap (λ (w : List Declaration). done ++ (w ++ rest)) front.whole ∙ ap (λ (w : List Declaration). done ++ w) (append_assoc front.front front.rest rest)
      ∙ sym (append_assoc done front.front (front.rest ++ rest));
  is_behind = front.is_behind ∙ ap (λ (w : TableView). behind_all w front.front) p ∙ sym (behind_both table done front.front);
}

pub front_at : (file line : ℕ) (table now new : TableView) (ds : List declarations.Declaration) (i : ℕ) (d : declarations.Declaration) → i < length ds → d ≡ get_or ds i d →
    now ≡ behind_all table (plain_declarations file line (take i ds)) → IsFrontOf now (plain_declaration file line d) new → IsFrontOf table (plain_declarations file line ds) new
front_at file line table now new ds i d within is p front =
    let P : List Declaration → Type 0 = λ w. IsFrontOf table w new in
    subst P
    (sym (append_assoc (plain_declarations file line (take i ds)) (plain_declaration file line d) (plain_declarations file line (drop (i + 1) ds)))
    ∙ ap (λ (w : List Declaration). w ++ plain_declarations file line (drop (i + 1) ds)) (sym (joined_more (plain_declaration file line) ds i d d within is))
    ∙ sym (flat_map-append (plain_declaration file line) (take (i + 1) ds) (drop (i + 1) ds))
    ∙ ap (plain_declarations file line) (parts ds (i + 1)))
    (front_behind table now new (plain_declarations file line (take i ds)) (plain_declaration file line d) (plain_declarations file line (drop (i + 1) ds)) p front)
  where
    parts : {X : Type 0} (xs : List X) (i : ℕ) → take i xs ++ drop i xs ≡ xs
    parts [] zero = refl
    parts [] (suc i) = refl
    parts (x ∷ xs) zero = refl
    parts (x ∷ xs) (suc i) = ap (λ w. x ∷ w) (parts xs i)

-- where nothing was changed no declaration is there
pub front_none : (table new : TableView) (ds : List Declaration) → new ≡ table → IsFrontOf table ds new
front_none table new ds e = record { front = []; rest = ds; whole = refl; is_behind = e }

pub front_kept : {A E : Type 0} (result : Result A E) (table new : TableView) (ds : List Declaration) → OnErr result (new ≡ table) → OnErr result (IsFrontOf table ds new)
front_kept (Ok x) table new ds e = tt
front_kept (Err x) table new ds e = front_none table new ds e

-- a range itself changes nothing
pub span_front : {A E : Type 0} (result : Result A E) (table new : TableView) (low high : ℕ) (sort : List ℕ) (ds : List Declaration) → OnErr result (IsFrontOf table ds new) →
    OnErr result (IsFrontOf table (Span low high sort ∷ ds) new)
span_front (Ok x) table new low high sort ds f = tt
span_front (Err x) table new low high sort ds f = record {
  front = Span low high sort ∷ f.front;
  rest = f.rest;
  whole = ap (λ (w : List Declaration). Span low high sort ∷ w) f.whole;
  is_behind = f.is_behind;
}

-- ---- the numbers of a range, one by one

abbrev pub first_numbers : List ℕ → ℕ → ℕ → List Declaration
first_numbers sort low count = numbers_of sort (map (λ more. low + more) (upto count))

pub number_next : (sort : List ℕ) (low count : ℕ) → first_numbers sort low (suc count) ≡ first_numbers sort low count ++ Number (low + count) sort ∷ []
number_next sort low count =
    ap (numbers_of sort) (map-append (λ (more : ℕ). low + more) (upto count) (count ∷ [])) ∙ map-append (λ (value : ℕ). Number value sort) (map (λ (more : ℕ). low + more) (upto count)) ((low + count) ∷ [])

pub number_put : (table now new : TableView) (sort : List ℕ) (low count value : ℕ) → now ≡ behind_all table (first_numbers sort low count) → value ≡ low + count →
    new ≡ behind now (Number value sort) → new ≡ behind_all table (first_numbers sort low (count + 1))
number_put table now new sort low count value p is q =
    q ∙ ap (λ (n : ℕ). behind now (Number n sort)) is ∙ ap (λ (w : TableView). behind w (Number (low + count) sort)) p
    ∙ sym (behind_both table (first_numbers sort low count) (Number (low + count) sort ∷ []))
    ∙ ap (behind_all table) (sym (number_next sort low count) ∙ ap (first_numbers sort low) (sym (add-one count)))

-- the first of them are a front of all
first_upto : (count n : ℕ) → (rest : List ℕ) × (upto (count + n) ≡ upto count ++ rest)
first_upto count zero = ([], (let same : count + 0 ≡ count = omega arith in ap upto same) ∙ sym (append-nil (upto count)))
first_upto count (suc n) =
    let more = first_upto count n in
    let same : count + suc n ≡ suc (count + n) = omega arith in
    (more.0 ++ (count + n) ∷ [], ap upto same ∙ ap (λ (w : List ℕ). w ++ (count + n) ∷ []) more.1 ∙ append_assoc (upto count) more.0 ((count + n) ∷ []))

pub numbers_front : (table new : TableView) (sort : List ℕ) (low count all : ℕ) → count ≤ all → new ≡ behind_all table (first_numbers sort low count) → IsFrontOf table (first_numbers sort low all) new
numbers_front table new sort low count all p e =
    let more = first_upto count (all - count) in
    let same : count + (all - count) ≡ all = omega arith in
    record {
      front = first_numbers sort low count;
      rest = numbers_of sort (map (λ (n : ℕ). low + n) more.0);
      whole = ap (first_numbers sort low) (sym same) ∙ ap (λ (w : List ℕ). numbers_of sort (map (λ (n : ℕ). low + n) w)) more.1
          ∙ ap (numbers_of sort) (map-append (λ (n : ℕ). low + n) (upto count) more.0)
          ∙ map-append (λ (value : ℕ). Number value sort) (map (λ (n : ℕ). low + n) (upto count)) (map (λ (n : ℕ). low + n) more.0);
      is_behind = e;
    }

pub numbers_more : (f : List ℕ → ℕ) (xs : List (Bor (List ℕ))) (i : ℕ) (d : Bor (List ℕ)) → i < length xs →
    map f (map (λ x. x.now) (take (i + 1) xs)) ≡ map f (map (λ x. x.now) (take i xs)) ++ f ((get_or xs i d).now) ∷ []
numbers_more f xs i d within =
    ap (map f) (mapped_more (λ (x : Bor (List ℕ)). x.now) xs i d within) ∙ map-append f (map (λ (x : Bor (List ℕ)). x.now) (take i xs)) ((get_or xs i d).now ∷ [])

pub on_ok : {A E : Type 0} (r : Result A E) (P : Type 0) → P → OnOk r P
on_ok (Ok x) P p = p
on_ok (Err e) P p = tt

pub on_err : {A E : Type 0} (r : Result A E) (P : Type 0) → P → OnErr r P
on_err (Ok x) P p = tt
on_err (Err e) P p = p

pub on_done : {A E : Type 0} (r : Result A E) (P : Type 0) → IsOk r → OnErr r P
on_done (Ok x) P done = tt
on_done (Err e) P done = absurd (false≢true done)

pub ok_done : {A E : Type 0} (r : Result A E) (P : Type 0) → IsOk r → OnOk r P → P
ok_done (Ok x) P done p = p
ok_done (Err e) P done p = absurd (false≢true done)

-- one behind the others of a list that was mapped
pub mapped_end : {X Y : Type 0} (f : X → Y) (start now new : List Y) (xs : List X) (x : X) (y : Y) → now ≡ start ++ map f xs → y ≡ f x → new ≡ now ++ y ∷ [] → new ≡ start ++ map f (xs ++ x ∷ [])
mapped_end {X} {Y} f start now new xs x y is same e =
    e ∙ ap (λ (w : List Y). w ++ y ∷ []) is ∙ append_assoc start (map f xs) (y ∷ []) ∙ ap (λ (z : Y). start ++ (map f xs ++ z ∷ [])) same
    ∙ ap (λ (w : List Y). start ++ w) (sym (map-append f xs (x ∷ [])))

pub taken_all : {X : Type 0} (xs : List X) (i : ℕ) → length xs ≤ i → take i xs ≡ xs
taken_all [] zero p = refl
taken_all [] (suc i) p = refl
taken_all (x ∷ xs) zero p = absurd (omega arith)
taken_all (x ∷ xs) (suc i) p = ap (λ w. x ∷ w) (taken_all xs i (omega arith))

-- ---- loops that look for one

module _ {X : Type 0} (test : X → Bool) (xs : List X) (i : ℕ) (same : list_any test (drop i xs) ≡ list_any test xs) where
  pub any_found : (d : X) → i < length xs → true ≡ test (get_or xs i d) → true ≡ list_any test xs
  any_found d within here = ap (λ (b : Bool). b || list_any test (drop (i + 1) xs)) here ∙ sym (at_drop_more (list_any test) xs i d within) ∙ same

  pub any_later : (d : X) → i < length xs → false ≡ test (get_or xs i d) → list_any test (drop (i + 1) xs) ≡ list_any test xs
  any_later d within here = ap (λ (b : Bool). b || list_any test (drop (i + 1) xs)) here ∙ sym (at_drop_more (list_any test) xs i d within) ∙ same

  pub none_left : length xs ≤ i → false ≡ list_any test xs
  none_left past = sym (at_drop_all (list_any test) xs i past) ∙ same

module _ (number : ℕ) (xs : List ℕ) (i : ℕ) (same : has number (drop i xs) ≡ has number xs) where
  pub has_found : i < length xs → get_or xs i 0 ≡ number → true ≡ has number xs
  has_found within is = ap (λ (b : Bool). b || has number (drop (i + 1) xs)) (sym (eq-eqb _ _ is)) ∙ sym (at_drop_more (has number) xs i 0 within) ∙ same

  pub has_later : i < length xs → get_or xs i 0 ≢ number → has number (drop (i + 1) xs) ≡ has number xs
  has_later within other = ap (λ (b : Bool). b || has number (drop (i + 1) xs)) (sym (ne_eqb _ _ other)) ∙ sym (at_drop_more (has number) xs i 0 within) ∙ same

  pub has_none : length xs ≤ i → false ≡ has number xs
  has_none past = sym (at_drop_all (has number) xs i past) ∙ same

module _ {X : Type 0} (F : List X → Bool) (test : X → Bool) (step : (x : X) (rest : List X) → F (x ∷ rest) ≡ (test x && F rest)) (xs : List X) (i : ℕ) (whole : Bool) (same : F (drop i xs) ≡ whole) where
  pub all_stop : (d : X) → i < length xs → false ≡ test (get_or xs i d) → false ≡ whole
  all_stop d within here = ap (λ (b : Bool). b && F (drop (i + 1) xs)) here ∙ sym (step (get_or xs i d) (drop (i + 1) xs)) ∙ sym (at_drop_more F xs i d within) ∙ same

  pub all_later : (d : X) → i < length xs → true ≡ test (get_or xs i d) → F (drop (i + 1) xs) ≡ whole
  all_later d within here = ap (λ (b : Bool). b && F (drop (i + 1) xs)) here ∙ sym (step (get_or xs i d) (drop (i + 1) xs)) ∙ sym (at_drop_more F xs i d within) ∙ same

  pub all_left : true ≡ F [] → length xs ≤ i → true ≡ whole
  all_left none past = none ∙ sym (at_drop_all F xs i past) ∙ same
