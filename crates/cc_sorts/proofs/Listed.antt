-- Instances, their rows of arguments and their counts.
use Rattle.std.proofs.Common.{◌≡◌, ◌∙◌, ℕ, zero, suc, ◌+◌, ◌*◌, ◌<◌, ◌≤◌, min, inl, inr, Bool, true, false, not, ◌&&◌, ◌||◌, cond, nat_lt, List, [], ◌∷◌, ◌++◌, length, map, flat_map, take, drop, slice_get, option_map, Option, Some, None, get_or, refl, sym, ap, arith, length-append, append_assoc}
use Rattle.std.specs.Prelude.{if◌then◌else◌, ◌==◌}
use Rattle.std.specs.List.{AllByRecursion, list_any, find}
use Rattle.std.proofs.lemmas.Bool.{cases_lt, lt-ltb}
use Rattle.std.proofs.Math.Dec.{eqb-suc-zero}
use Rattle.std.proofs.lemmas.List.{append-nil, map-append, length-map}
use Rattle.std.proofs.lemmas.List.Folds.{list_any-append}
use Rattle.std.proofs.lemmas.Grind.{flat_map-append}
use Rattle.cc_defs.specs.declared.signature.Const.{Const}
use Rattle.cc_defs.specs.DeclarationFaults.{is_empty, passes_domain_values}
use Rattle.cc_sorts.specs.declared.table.Placed.{Placed}
use Rattle.cc_sorts.specs.Instances.{values_by, rows_by, constant_by, passes, instances_by, instances_from}
use Rattle.cc_sorts.specs.SortViews.{SortsView, members_at}

-- ---- counts that stop

count_stops : (count number : ℕ) → min (min count 20001 * number) 20001 ≡ min (count * number) 20001
count_stops count zero = omega arith
count_stops count (suc number) = elim (cases_lt count 20001) [
  | inl less ↦ let same : min count 20001 ≡ count = omega arith in ap (λ (m : ℕ). min (m * suc number) 20001) same
  | inr more ↦
      let same : min count 20001 ≡ 20001 = omega arith in
      ap (λ (m : ℕ). min (m * suc number) 20001) same ∙ count_past count number more
]
  where
    count_past : (count number : ℕ) → 20001 ≤ count → min (20001 * suc number) 20001 ≡ min (count * suc number) 20001
    count_past count number more = let least : count ≤ count * suc number = omega arith in omega (arith, least)

-- ---- rows

abbrev pub longer_by : List ℕ → List ℕ → List (List ℕ)
longer_by objects row = map (λ object. row ++ object ∷ []) objects

front_first : (object : ℕ) (objects : List ℕ) (rows : List (List ℕ)) → map (λ row. object ∷ row) (flat_map (longer_by objects) rows) ≡ flat_map (longer_by objects) (map (λ row. object ∷ row) rows)
front_first object objects [] = refl
front_first object objects (row ∷ rows) =
    map-append (λ (r : List ℕ). object ∷ r) (longer_by objects row) (flat_map (longer_by objects) rows)
    ∙ ap (λ (w : List (List ℕ)). w ++ map (λ (r : List ℕ). object ∷ r) (flat_map (longer_by objects) rows)) (under object row objects)
    ∙ ap (λ (w : List (List ℕ)). longer_by objects (object ∷ row) ++ w) (front_first object objects rows)
  where
    under : (object : ℕ) (row objects : List ℕ) → map (λ (r : List ℕ). object ∷ r) (longer_by objects row) ≡ longer_by objects (object ∷ row)
    under object row [] = refl
    under object row (o ∷ os) = ap (λ (w : List (List ℕ)). (object ∷ (row ++ o ∷ [])) ∷ w) (under object row os)

single_rows : (objects : List ℕ) → flat_map (λ object. map (λ (row : List ℕ). object ∷ row) ([] ∷ [])) objects ≡ flat_map (longer_by objects) ([] ∷ [])
single_rows objects = step objects ∙ sym (append-nil (longer_by objects []))
  where
    step : (objects : List ℕ) → flat_map (λ (object : ℕ). map (λ (row : List ℕ). object ∷ row) ([] ∷ [])) objects ≡ longer_by objects []
    step [] = refl
    step (o ∷ os) = ap (λ (w : List (List ℕ)). (o ∷ []) ∷ w) (step os)

spread : (firsts objects : List ℕ) (rows : List (List ℕ)) →
    flat_map (λ object. map (λ (row : List ℕ). object ∷ row) (flat_map (longer_by objects) rows)) firsts ≡ flat_map (longer_by objects) (flat_map (λ object. map (λ (row : List ℕ). object ∷ row) rows) firsts)
spread [] objects rows = refl
spread (first ∷ firsts) objects rows =
    ap (λ (w : List (List ℕ)). w ++ flat_map (λ (object : ℕ). map (λ (row : List ℕ). object ∷ row) (flat_map (longer_by objects) rows)) firsts) (front_first first objects rows)
    ∙ ap (λ (w : List (List ℕ)). flat_map (longer_by objects) (map (λ (row : List ℕ). first ∷ row) rows) ++ w) (spread firsts objects rows)
    ∙ sym (flat_map-append (longer_by objects) (map (λ (row : List ℕ). first ∷ row) rows) (flat_map (λ (object : ℕ). map (λ (row : List ℕ). object ∷ row) rows) firsts))

pub rows_end : (sorts : SortsView) (done : List ℕ) (sort : ℕ) → rows_by sorts (done ++ sort ∷ []) ≡ flat_map (longer_by (members_at sorts sort)) (rows_by sorts done)
rows_end sorts [] sort = single_rows (members_at sorts sort)
rows_end sorts (first ∷ done) sort =
    ap (λ (w : List (List ℕ)). flat_map (λ (object : ℕ). map (λ (row : List ℕ). object ∷ row) w) (members_at sorts first)) (rows_end sorts done sort)
    ∙ spread (members_at sorts first) (members_at sorts sort) (rows_by sorts done)

taken_end : {X : Type 0} (xs : List X) (i : ℕ) (d : X) → i < length xs → take (i + 1) xs ≡ take i xs ++ get_or xs i d ∷ []
taken_end [] i d p = absurd (omega arith)
taken_end (x ∷ xs) zero d p = refl
taken_end (x ∷ xs) (suc i) d p =
    let one : i + 1 ≡ suc i = omega arith in let two : suc i + 1 ≡ suc (suc i) = omega arith in
    ap (λ (n : ℕ). take n (x ∷ xs)) two ∙ ap (λ w. x ∷ w) (ap (λ (n : ℕ). take n xs) (sym one) ∙ taken_end xs i d (omega arith))

pub rows_more : (sorts : SortsView) (list : List ℕ) (i d : ℕ) → i < length list →
    rows_by sorts (take (i + 1) list) ≡ flat_map (longer_by (members_at sorts (get_or list i d))) (rows_by sorts (take i list))
rows_more sorts list i d within = ap (rows_by sorts) (taken_end list i d within) ∙ rows_end sorts (take i list) (get_or list i d)

longer_count : (objects : List ℕ) (rows : List (List ℕ)) → length (flat_map (longer_by objects) rows) ≡ length rows * length objects
longer_count objects [] = omega arith
longer_count objects (row ∷ rows) =
    let a = length-append (longer_by objects row) (flat_map (longer_by objects) rows) in
    let b = length-map objects (λ (o : ℕ). row ++ o ∷ []) in
    let c = longer_count objects rows in
    omega (arith, a, b, c)

pub count_more : (sorts : SortsView) (list : List ℕ) (i d count : ℕ) → i < length list → count ≡ min (length (rows_by sorts (take i list))) 20001 →
    min (count * length (members_at sorts (get_or list i d))) 20001 ≡ min (length (rows_by sorts (take (i + 1) list))) 20001
count_more sorts list i d count within e =
    let objects = members_at sorts (get_or list i d) in
    let rows = rows_by sorts (take i list) in
    ap (λ (n : ℕ). min (n * length objects) 20001) e ∙ count_stops (length rows) (length objects)
    ∙ ap (λ (n : ℕ). min n 20001) (sym (ap (λ (w : List (List ℕ)). length w) (rows_more sorts list i d within) ∙ longer_count objects rows))

-- ---- instances of symbols, one after another

instances_end : (sorts : SortsView) (actions : Bool) (n : ℕ) (done : List Placed) (placed : Placed) →
    instances_from sorts actions n (done ++ placed ∷ []) ≡ instances_from sorts actions n done ++ instances_by sorts actions (n + length done) placed
instances_end sorts actions n [] placed = let same : n ≡ n + 0 = omega arith in append-nil (instances_by sorts actions n placed) ∙ ap (λ (k : ℕ). instances_by sorts actions k placed) same
instances_end sorts actions n (first ∷ done) placed =
    let same : n + 1 + length done ≡ n + suc (length done) = omega arith in
    ap (λ (w : List Const). instances_by sorts actions n first ++ w) (instances_end sorts actions (n + 1) done placed)
    ∙ ap (λ (k : ℕ). instances_by sorts actions n first ++ (instances_from sorts actions (n + 1) done ++ instances_by sorts actions k placed)) same
    ∙ sym (append_assoc (instances_by sorts actions n first) (instances_from sorts actions (n + 1) done) (instances_by sorts actions (n + suc (length done)) placed))

instances_rest : (sorts : SortsView) (actions : Bool) (n : ℕ) (done rest : List Placed) →
    instances_from sorts actions n (done ++ rest) ≡ instances_from sorts actions n done ++ instances_from sorts actions (n + length done) rest
instances_rest sorts actions n [] rest = let same : n ≡ n + 0 = omega arith in ap (λ (k : ℕ). instances_from sorts actions k rest) same
instances_rest sorts actions n (first ∷ done) rest =
    let same : n + 1 + length done ≡ n + suc (length done) = omega arith in
    ap (λ (w : List Const). instances_by sorts actions n first ++ w) (instances_rest sorts actions (n + 1) done rest)
    ∙ ap (λ (k : ℕ). instances_by sorts actions n first ++ (instances_from sorts actions (n + 1) done ++ instances_from sorts actions k rest)) same
    ∙ sym (append_assoc (instances_by sorts actions n first) (instances_from sorts actions (n + 1) done) (instances_from sorts actions (n + suc (length done)) rest))

module _ {X : Type 0} where
  pub taken_some : (xs : List X) (i : ℕ) (x : X) → Some x ≡ slice_get xs i → take (i + 1) xs ≡ take i xs ++ x ∷ []
  taken_some [] i x e = absurd cc
  taken_some (y ∷ ys) zero x e = let same : x ≡ y = cc in ap (λ (w : X). w ∷ []) (sym same)
  taken_some (y ∷ ys) (suc i) x e =
      let one : i + 1 ≡ suc i = omega arith in let two : suc i + 1 ≡ suc (suc i) = omega arith in
      ap (λ (n : ℕ). take n (y ∷ ys)) two ∙ ap (λ w. y ∷ w) (ap (λ (n : ℕ). take n ys) (sym one) ∙ taken_some ys i x e)

  taken_count : (xs : List X) (i : ℕ) (x : X) → Some x ≡ slice_get xs i → length (take i xs) ≡ i
  taken_count [] i x e = absurd cc
  taken_count (y ∷ ys) zero x e = refl
  taken_count (y ∷ ys) (suc i) x e = ap suc (taken_count ys i x e)

  taken_parts : (xs : List X) (i : ℕ) → take i xs ++ drop i xs ≡ xs
  taken_parts [] zero = refl
  taken_parts [] (suc i) = refl
  taken_parts (x ∷ xs) zero = refl
  taken_parts (x ∷ xs) (suc i) = ap (λ w. x ∷ w) (taken_parts xs i)

pub instances_more : (sorts : SortsView) (actions : Bool) (symbols : List Placed) (i : ℕ) (placed : Placed) → Some placed ≡ slice_get symbols i →
    instances_from sorts actions 0 (take (i + 1) symbols) ≡ instances_from sorts actions 0 (take i symbols) ++ instances_by sorts actions i placed
instances_more sorts actions symbols i placed e =
    let same : 0 + length (take i symbols) ≡ i = omega (arith, taken_count symbols i placed e) in
    ap (instances_from sorts actions 0) (taken_some symbols i placed e) ∙ instances_end sorts actions 0 (take i symbols) placed
    ∙ ap (λ (k : ℕ). instances_from sorts actions 0 (take i symbols) ++ instances_by sorts actions k placed) same

pub instances_split : (sorts : SortsView) (actions : Bool) (symbols : List Placed) (i : ℕ) →
    instances_from sorts actions 0 symbols ≡ instances_from sorts actions 0 (take i symbols) ++ instances_from sorts actions (0 + length (take i symbols)) (drop i symbols)
instances_split sorts actions symbols i =
    ap (instances_from sorts actions 0) (sym (taken_parts symbols i)) ∙ instances_rest sorts actions 0 (take i symbols) (drop i symbols)

-- ---- tests of instances

pub any_rows : (test : Const → Bool) (f : List ℕ → Const) (pass : Bool) (rows : List (List ℕ)) → ((row : List ℕ) → test (f row) ≡ pass) → list_any test (map f rows) ≡ (nat_lt 0 (length rows) && pass)
any_rows test f pass [] e = refl
any_rows test f pass (row ∷ rows) e = rw (e row, lt-ltb 0 (suc (length rows)) (omega arith)) (step pass (any_rows test f pass rows e))
  where
    step : (pass : Bool) → list_any test (map f rows) ≡ (nat_lt 0 (length rows) && pass) → (pass || list_any test (map f rows)) ≡ pass
    step true m = refl
    step false m = m ∙ none (nat_lt 0 (length rows))
      where
        none : (b : Bool) → (b && false) ≡ false
        none true = refl
        none false = refl

pub any_some : (test : Const → Bool) (xs ys zs : List Const) → list_any test ys ≡ true → list_any test (xs ++ (ys ++ zs)) ≡ true
any_some test xs ys zs e = list_any-append test xs (ys ++ zs) ∙ ap (λ (b : Bool). list_any test xs || b) (list_any-append test ys zs ∙ ap (λ (b : Bool). b || list_any test zs) e) ∙ always (list_any test xs)
  where
    always : (b : Bool) → (b || true) ≡ true
    always true = refl
    always false = refl

values_test : (n : ℕ) → not (nat_lt 0 n) ≡ (n == 0)
values_test zero = refl
values_test (suc n) = rw (lt-ltb 0 (suc n) (omega arith), eqb-suc-zero n) refl

abbrev chosen : Bool → List Const → List Const
chosen here list = if here then list else []

any_by : (test : Const → Bool) (sorts : SortsView) (actions : Bool) (number : ℕ) (placed : Placed) (pass : Bool) → ((row : List ℕ) → test (constant_by sorts number placed.symbol row) ≡ pass) →
    0 < length (instances_by sorts actions number placed) → pass ≡ list_any test (instances_by sorts actions number placed)
any_by test sorts actions number placed pass e p = step (passes actions placed.symbol.kind) p
  where
    step : (here : Bool) → 0 < length (chosen here (map (constant_by sorts number placed.symbol) (rows_by sorts placed.symbol.sorts))) →
        pass ≡ list_any test (chosen here (map (constant_by sorts number placed.symbol) (rows_by sorts placed.symbol.sorts)))
    step true q =
        let rows = rows_by sorts placed.symbol.sorts in
        let some : 0 < length rows = omega (arith, length-map rows (constant_by sorts number placed.symbol)) in
        ap (λ (b : Bool). b && pass) (sym (lt-ltb 0 (length rows) some)) ∙ sym (any_rows test (constant_by sorts number placed.symbol) pass rows e)
    step false q = absurd (omega arith)

pub empty_by : (sorts : SortsView) (actions : Bool) (number count : ℕ) (placed : Placed) (more : Bool) → more ≡ nat_lt 0 (length (values_by sorts placed.symbol)) → 0 < count →
    count ≡ min (length (instances_by sorts actions number placed)) 20001 → not more ≡ list_any is_empty (instances_by sorts actions number placed)
empty_by sorts actions number count placed more m p e =
    ap not m ∙ values_test (length (values_by sorts placed.symbol))
    ∙ any_by is_empty sorts actions number placed (length (values_by sorts placed.symbol) == 0) (λ row. refl) (omega (arith, e))

pub wide_by : (sorts : SortsView) (actions : Bool) (number count : ℕ) (placed : Placed) (more : Bool) → more ≡ nat_lt 1000 (length (values_by sorts placed.symbol)) → 0 < count →
    count ≡ min (length (instances_by sorts actions number placed)) 20001 → more ≡ passes_domain_values (instances_by sorts actions number placed)
wide_by sorts actions number count placed more m p e =
    m ∙ any_by (λ (c : Const). nat_lt 1000 (length c.domain)) sorts actions number placed (nat_lt 1000 (length (values_by sorts placed.symbol))) (λ row. refl) (omega (arith, e))

-- ---- loops

pub objects_more : (objects : List ℕ) (rows : List (List ℕ)) (i : ℕ) (item row : List ℕ) (old new : List (List ℕ)) → i < length rows → item ≡ get_or rows i item → row ≡ item →
    old ≡ flat_map (longer_by objects) (take i rows) → new ≡ old ++ longer_by objects row → new ≡ flat_map (longer_by objects) (take (i + 1) rows)
objects_more objects rows i item row old new within is same e f =
    f ∙ ap (λ (w : List (List ℕ)). w ++ longer_by objects row) e ∙ ap (λ (w : List ℕ). flat_map (longer_by objects) (take i rows) ++ longer_by objects w) (same ∙ is)
    ∙ ap (λ (w : List (List ℕ)). flat_map (longer_by objects) (take i rows) ++ w) (sym (append-nil (longer_by objects (get_or rows i item))))
    ∙ sym (flat_map-append (longer_by objects) (take i rows) (get_or rows i item ∷ []))
    ∙ ap (flat_map (longer_by objects)) (sym (taken_end rows i item within))

pub rows_step : (sorts : SortsView) (list : List ℕ) (i : ℕ) (old new rows : List (List ℕ)) (objects : List ℕ) → i < length list → old ≡ rows_by sorts (take i list) → rows ≡ old →
    objects ≡ members_at sorts (get_or list i 0) → new ≡ flat_map (longer_by objects) rows → new ≡ rows_by sorts (take (i + 1) list)
rows_step sorts list i old new rows objects within e r o f =
    f ∙ ap (λ (w : List ℕ). flat_map (longer_by w) rows) o ∙ ap (flat_map (longer_by (members_at sorts (get_or list i 0)))) (r ∙ e) ∙ sym (rows_more sorts list i 0 within)

around : (sorts : SortsView) (actions : Bool) (symbols : List Placed) (i : ℕ) (placed : Placed) → Some placed ≡ slice_get symbols i →
    (rest : List Const) × (instances_from sorts actions 0 symbols ≡ instances_from sorts actions 0 (take i symbols) ++ (instances_by sorts actions i placed ++ rest))
around sorts actions symbols i placed e =
    let rest = instances_from sorts actions (0 + length (take (i + 1) symbols)) (drop (i + 1) symbols) in (
      rest,
      instances_split sorts actions symbols (i + 1) ∙ ap (λ (w : List Const). w ++ rest) (instances_more sorts actions symbols i placed e)
          ∙ append_assoc (instances_from sorts actions 0 (take i symbols)) (instances_by sorts actions i placed) rest,
    )

pub any_here : (test : Const → Bool) (sorts : SortsView) (actions : Bool) (symbols : List Placed) (i : ℕ) (placed : Placed) → Some placed ≡ slice_get symbols i →
    list_any test (instances_by sorts actions i placed) ≡ true → true ≡ list_any test (instances_from sorts actions 0 symbols)
any_here test sorts actions symbols i placed e t =
    let a = around sorts actions symbols i placed e in
    sym (ap (list_any test) a.1 ∙ any_some test (instances_from sorts actions 0 (take i symbols)) (instances_by sorts actions i placed) a.0 t)

pub none_more : (test : Const → Bool) (sorts : SortsView) (actions : Bool) (symbols : List Placed) (i : ℕ) (placed : Placed) → Some placed ≡ slice_get symbols i →
    list_any test (instances_from sorts actions 0 (take i symbols)) ≡ false → list_any test (instances_by sorts actions i placed) ≡ false →
    list_any test (instances_from sorts actions 0 (take (i + 1) symbols)) ≡ false
none_more test sorts actions symbols i placed e p q =
    ap (list_any test) (instances_more sorts actions symbols i placed e)
    ∙ list_any-append test (instances_from sorts actions 0 (take i symbols)) (instances_by sorts actions i placed)
    ∙ ap (λ (b : Bool). b || list_any test (instances_by sorts actions i placed)) p ∙ q

pub found_none : (test : Const → Bool) (xs : List Const) → list_any test xs ≡ false → find test xs ≡ None
found_none test [] e = refl
found_none test (x ∷ xs) e = step (test x) e (found_none test xs)
  where
    step : (here : Bool) → here || list_any test xs ≡ false → (list_any test xs ≡ false → find test xs ≡ None) → cond here (Some x) (find test xs) ≡ None
    step true e more = absurd cc
    step false e more = more e

pub none_found : (test : Const → Bool) (xs : List Const) → find test xs ≡ None → list_any test xs ≡ false
none_found test [] e = refl
none_found test (x ∷ xs) e = step (test x) e (none_found test xs)
  where
    step : (here : Bool) → cond here (Some x) (find test xs) ≡ None → (find test xs ≡ None → list_any test xs ≡ false) → here || list_any test xs ≡ false
    step true e more = absurd cc
    step false e more = more e

abbrev pub symbol_found : (Const → Bool) → List Const → Option ℕ
symbol_found test xs = option_map (λ (c : Const). c.symbol) (find test xs)

found_past : (test : Const → Bool) (xs ys : List Const) → find test xs ≡ None → find test (xs ++ ys) ≡ find test ys
found_past test [] ys e = refl
found_past test (x ∷ xs) ys e = step (test x) e (found_past test xs ys)
  where
    step : (here : Bool) → cond here (Some x) (find test xs) ≡ None → (find test xs ≡ None → find test (xs ++ ys) ≡ find test ys) → cond here (Some x) (find test (xs ++ ys)) ≡ find test ys
    step true e more = absurd cc
    step false e more = more e

found_among : (test : Const → Bool) (n : ℕ) (xs ys : List Const) → AllByRecursion (λ c. c.symbol ≡ n) xs → list_any test xs ≡ true → symbol_found test (xs ++ ys) ≡ Some n
found_among test n [] ys all e = absurd cc
found_among test n (x ∷ xs) ys all e = step (test x) e (found_among test n xs ys all.1)
  where
    step : (here : Bool) → here || list_any test xs ≡ true → (list_any test xs ≡ true → symbol_found test (xs ++ ys) ≡ Some n) →
        option_map (λ (c : Const). c.symbol) (cond here (Some x) (find test (xs ++ ys))) ≡ Some n
    step true e more = ap (λ (k : ℕ). Some k) all.0
    step false e more = more e

all_number : (sorts : SortsView) (actions : Bool) (number : ℕ) (placed : Placed) → AllByRecursion (λ c. c.symbol ≡ number) (instances_by sorts actions number placed)
all_number sorts actions number placed = step (passes actions placed.symbol.kind)
  where
    rows_number : (rows : List (List ℕ)) → AllByRecursion (λ (c : Const). c.symbol ≡ number) (map (constant_by sorts number placed.symbol) rows)
    rows_number [] = tt
    rows_number (row ∷ rows) = (refl, rows_number rows)

    step : (here : Bool) → AllByRecursion (λ (c : Const). c.symbol ≡ number) (chosen here (map (constant_by sorts number placed.symbol) (rows_by sorts placed.symbol.sorts)))
    step true = rows_number (rows_by sorts placed.symbol.sorts)
    step false = tt

pub first_here : (test : Const → Bool) (sorts : SortsView) (actions : Bool) (symbols : List Placed) (i : ℕ) (placed : Placed) → Some placed ≡ slice_get symbols i →
    find test (instances_from sorts actions 0 (take i symbols)) ≡ None → list_any test (instances_by sorts actions i placed) ≡ true → Some i ≡ symbol_found test (instances_from sorts actions 0 symbols)
first_here test sorts actions symbols i placed e p q =
    let a = around sorts actions symbols i placed e in
    sym (ap (λ (w : List Const). symbol_found test w) a.1
    ∙ ap (option_map (λ (c : Const). c.symbol)) (found_past test (instances_from sorts actions 0 (take i symbols)) (instances_by sorts actions i placed ++ a.0) p)
    ∙ found_among test i (instances_by sorts actions i placed) a.0 (all_number sorts actions i placed) q)

pub find_more : (test : Const → Bool) (sorts : SortsView) (actions : Bool) (symbols : List Placed) (i : ℕ) (placed : Placed) → Some placed ≡ slice_get symbols i →
    find test (instances_from sorts actions 0 (take i symbols)) ≡ None → list_any test (instances_by sorts actions i placed) ≡ false →
    find test (instances_from sorts actions 0 (take (i + 1) symbols)) ≡ None
find_more test sorts actions symbols i placed e p q =
    found_none test (instances_from sorts actions 0 (take (i + 1) symbols))
    (none_more test sorts actions symbols i placed e (none_found test (instances_from sorts actions 0 (take i symbols)) p) q)

pub found_first : (test : Const → Bool) (xs ys : List Const) (n : ℕ) → symbol_found test xs ≡ Some n → symbol_found test (xs ++ ys) ≡ Some n
found_first test [] ys n e = absurd cc
found_first test (x ∷ xs) ys n e = step (test x) e (found_first test xs ys n)
  where
    step : (here : Bool) → option_map (λ (c : Const). c.symbol) (cond here (Some x) (find test xs)) ≡ Some n → (symbol_found test xs ≡ Some n → symbol_found test (xs ++ ys) ≡ Some n) →
        option_map (λ (c : Const). c.symbol) (cond here (Some x) (find test (xs ++ ys))) ≡ Some n
    step true e more = e
    step false e more = more e

pub found_second : (test : Const → Bool) (xs ys : List Const) → symbol_found test xs ≡ None → symbol_found test (xs ++ ys) ≡ symbol_found test ys
found_second test [] ys e = refl
found_second test (x ∷ xs) ys e = step (test x) e (found_second test xs ys)
  where
    step : (here : Bool) → option_map (λ (c : Const). c.symbol) (cond here (Some x) (find test xs)) ≡ None → (symbol_found test xs ≡ None → symbol_found test (xs ++ ys) ≡ symbol_found test ys) →
        option_map (λ (c : Const). c.symbol) (cond here (Some x) (find test (xs ++ ys))) ≡ symbol_found test ys
    step true e more = absurd cc
    step false e more = more e

pub total_more : (sorts : SortsView) (actions : Bool) (symbols : List Placed) (i : ℕ) (placed : Placed) (total count : ℕ) → Some placed ≡ slice_get symbols i →
    total ≡ min (length (instances_from sorts actions 0 (take i symbols))) 20001 → count ≡ min (length (instances_by sorts actions i placed)) 20001 →
    min (total + count) 20001 ≡ min (length (instances_from sorts actions 0 (take (i + 1) symbols))) 20001
total_more sorts actions symbols i placed total count e p q =
    let whole : length (instances_from sorts actions 0 (take (i + 1) symbols)) ≡ length (instances_from sorts actions 0 (take i symbols)) + length (instances_by sorts actions i placed) =
    ap length (instances_more sorts actions symbols i placed e) ∙ length-append (instances_from sorts actions 0 (take i symbols)) (instances_by sorts actions i placed) in
    stops total count _ _ _ p q whole
  where
    stops : (total count a b c : ℕ) → total ≡ min a 20001 → count ≡ min b 20001 → c ≡ a + b → min (total + count) 20001 ≡ min c 20001
    stops total count a b c p q w = omega (arith, p, q, w)
