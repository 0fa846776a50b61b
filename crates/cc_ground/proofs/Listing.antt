-- The nodes of lists of value indexes, index by index of the first constant.
use Rattle.std.proofs.Common.{◌≡◌, ◌≢◌, ◌-◌, ◌∙◌, ℕ, zero, suc, ◌+◌, ◌<◌, ◌≤◌, Bool, true, false, List, [], ◌∷◌, ◌++◌, length, get_or, slice_get, Some, map, flat_map, filter, refl, sym, ap, subst, add-one, append_assoc, append-nil, length-append, inl, inr, arith}
use Rattle.std.specs.Prelude.{if◌then◌else◌}
use Rattle.std.proofs.lemmas.Bool.{cases_eq, false≢true}
use Rattle.std.proofs.lemmas.Grind.{flat_map-append}
use Rattle.std.proofs.lemmas.List.{map-append}
use Rattle.std.proofs.lemmas.List.Elements.{filter-append}
use Rattle.std.proofs.lemmas.Option.{slice_get-get_or}
use Rattle.cc_defs.specs.declared.node.Node.{Node}
use Rattle.cc_defs.specs.Declarations.{upto}
use Rattle.cc_defs.specs.Environments.{choices}
use Rattle.cc_defs.specs.Judged.{size_of}
use Rattle.cc_defs.specs.Signatures.{none_value}
use Rattle.cc_ground.specs.declared.judged.Equation.{Equation}
use Rattle.cc_ground.specs.declared.maker.Halt.{Halt}
use Rattle.cc_ground.specs.declared.maker.Maker.{Maker}
use Rattle.cc_ground.specs.Pieces.{count_behind, holds_at, list_count, list_nodes, lists_behind, nodes_behind, universe_at}
use Rattle.cc_ground.specs.Views.{HasPut, LacksRoom}
use Rattle.cc_ground.proofs.Putting.{lacks_behind, put_as, put_both, put_none}

placed_behind : (front : List ℕ) (value : ℕ) (lists : List (List ℕ)) →
    map (λ more. front ++ more) (map (λ more. value ∷ more) lists) ≡ map (λ more. (front ++ value ∷ []) ++ more) lists
placed_behind front value [] = refl
placed_behind front value (more ∷ lists) =
    ap (λ (w : List ℕ). w ∷ map (λ (l : List ℕ). front ++ l) (map (λ (l : List ℕ). value ∷ l) lists)) (sym (append_assoc front (value ∷ []) more))
    ∙ ap (λ (w : List (List ℕ)). ((front ++ value ∷ []) ++ more) ∷ w) (placed_behind front value lists)

values_behind : (front : List ℕ) (sets : List (List ℕ)) (values : List ℕ) →
    map (λ more. front ++ more) (choices (values ∷ sets)) ≡ flat_map (λ value. map (λ more. (front ++ value ∷ []) ++ more) (choices sets)) values
values_behind front sets [] = refl
values_behind front sets (value ∷ values) =
    let rest = choices (values ∷ sets) in
    map-append (λ (more : List ℕ). front ++ more) (map (λ (more : List ℕ). value ∷ more) (choices sets)) rest
    ∙ ap (λ (w : List (List ℕ)). w ++ map (λ (more : List ℕ). front ++ more) rest) (placed_behind front value (choices sets))
    ∙ ap (λ (w : List (List ℕ)). map (λ (more : List ℕ). (front ++ value ∷ []) ++ more) (choices sets) ++ w) (values_behind front sets values)

flat_flat : {X : Type 0} (f : List ℕ → List X) (g : ℕ → List (List ℕ)) (values : List ℕ) → flat_map f (flat_map g values) ≡ flat_map (λ value. flat_map f (g value)) values
flat_flat f g [] = refl
flat_flat {X} f g (value ∷ values) = flat_map-append f (g value) (flat_map g values) ∙ ap (λ (l : List X). flat_map f (g value) ++ l) (flat_flat f g values)

module _ (equation : Equation) (front others : List ℕ) where
  abbrev nodes_with : ℕ → List Node
  nodes_with index = nodes_behind equation (front ++ index ∷ []) others

  abbrev count_with : ℕ → ℕ
  count_with index = count_behind equation (front ++ index ∷ []) others

  abbrev pub first_nodes : ℕ → List Node
  first_nodes i = flat_map nodes_with (upto i)

  abbrev pub first_count : ℕ → ℕ
  first_count zero = 0
  first_count (suc n) = first_count n + count_with n

  next_nodes : (i : ℕ) → first_nodes (suc i) ≡ first_nodes i ++ nodes_with i
  next_nodes i = flat_map-append nodes_with (upto i) (i ∷ []) ∙ ap (λ (l : List Node). first_nodes i ++ l) (append-nil (nodes_with i))

  all_nodes : (constant : ℕ) → first_nodes (size_of (universe_at equation) constant) ≡ nodes_behind equation front (constant ∷ others)
  all_nodes constant =
      let u = universe_at equation in
      let values = upto (size_of u constant) in
      sym (flat_flat (list_nodes equation) (λ index. lists_behind u (front ++ index ∷ []) others) values)
      ∙ sym (ap (flat_map (list_nodes equation)) (values_behind front (map (λ number. upto (size_of u number)) others) values))

  counted_to : (n : ℕ) → first_count n ≡ length (filter (holds_at equation) (flat_map (λ index. lists_behind (universe_at equation) (front ++ index ∷ []) others) (upto n)))
  counted_to zero = refl
  counted_to (suc n) =
      let lists_at : ℕ → List (List ℕ) = λ index. lists_behind (universe_at equation) (front ++ index ∷ []) others in
      let before = flat_map lists_at (upto n) in
      let passed = filter-append (holds_at equation) before (lists_at n) in
      let both = length-append (filter (holds_at equation) before) (filter (holds_at equation) (lists_at n)) in
      let whole : flat_map lists_at (upto (suc n)) ≡ before ++ lists_at n = flat_map-append lists_at (upto n) (n ∷ []) ∙ ap (λ (l : List (List ℕ)). before ++ l) (append-nil (lists_at n)) in
      ap (λ (k : ℕ). k + count_with n) (counted_to n)
      ∙ sym (ap (λ (l : List (List ℕ)). length (filter (holds_at equation) l)) whole ∙ ap length passed ∙ both)

  all_counted : (constant : ℕ) → first_count (size_of (universe_at equation) constant) ≡ count_behind equation front (constant ∷ others)
  all_counted constant =
      let u = universe_at equation in
      let values = upto (size_of u constant) in
      counted_to (size_of u constant)
      ∙ sym (ap (λ (l : List (List ℕ)). length (filter (holds_at equation) l)) (values_behind front (map (λ number. upto (size_of u number)) others) values))

  -- there is no less of more
  grows : (i n : ℕ) → i < n → length (first_nodes i) + length (nodes_with i) ≤ length (first_nodes n)
  grows i zero below = absurd (omega arith)
  grows i (suc n) below =
      let next = ap length (next_nodes n) in
      let both = length-append (first_nodes n) (nodes_with n) in
      elim (cases_eq i n) [
        | inl same ↦ subst (λ (k : ℕ). length (first_nodes k) + length (nodes_with k) ≤ length (first_nodes (suc n))) (sym same) (omega (arith, next, both))
        | inr other ↦ (let before = grows i n (omega arith) in omega (arith, next, both, before))
      ]

  -- the lists of the first indexes are put
  pub record ListsSoFar (i count : ℕ) (indexes : List ℕ) (old new : Maker) : Type 0 where
    pub put : HasPut (first_nodes i) old new
    pub counted : count ≡ first_count i
    pub same : indexes ≡ front

  pub lists_begin : (maker : Maker) → ListsSoFar 0 0 front maker maker
  lists_begin maker = record { put = put_none maker; counted = refl; same = refl }

  pub lists_more : {i count : ℕ} {indexes : List ℕ} {old mid new : Maker} (more sum : ℕ) (pushed popped after : List ℕ) → ListsSoFar i count indexes old mid →
      pushed ≡ indexes ++ i ∷ [] → HasPut (nodes_behind equation pushed others) mid new → more ≡ count_behind equation pushed others → sum ≡ count + more → after ≡ pushed →
      (after ≡ indexes ++ i ∷ [] → popped ≡ indexes) → ListsSoFar (i + 1) sum popped old new
  lists_more {i} {count} {indexes} {old} {mid} {new} more sum pushed popped after so is put counted added kept back =
      let at : pushed ≡ front ++ i ∷ [] = is ∙ ap (λ (l : List ℕ). l ++ i ∷ []) so.same in
      record {
        put = subst (λ (k : ℕ). HasPut (first_nodes k) old new) (sym (add-one i))
            (put_as (sym (next_nodes i)) (put_both so.put (put_as (ap (λ (l : List ℕ). nodes_behind equation l others) at) put)));
        counted =
            subst (λ (k : ℕ). sum ≡ first_count k) (sym (add-one i))
            (added ∙ ap (λ (k : ℕ). k + more) so.counted ∙ ap (λ (k : ℕ). first_count i + k) (counted ∙ ap (λ (l : List ℕ). count_behind equation l others) at));
        same = back (kept ∙ is) ∙ so.same;
      }

  pub lists_lack : {i count : ℕ} {indexes : List ℕ} {old mid : Maker} (constant size : ℕ) (left pushed : List ℕ) (halt : Halt) → ListsSoFar i count indexes old mid →
      left ≡ constant ∷ others → size ≡ size_of (universe_at equation) constant → i < size → pushed ≡ indexes ++ i ∷ [] →
      LacksRoom (length (nodes_behind equation pushed others)) mid.room halt → LacksRoom (length (nodes_behind equation front left)) old.room halt
  lists_lack {i} {count} {indexes} {old} {mid} constant size left pushed halt so e s within is lacks =
      let at : pushed ≡ front ++ i ∷ [] = is ∙ ap (λ (l : List ℕ). l ++ i ∷ []) so.same in
      let whole : length (first_nodes size) ≡ length (nodes_behind equation front left) =
      ap length (ap first_nodes s ∙ all_nodes constant ∙ sym (ap (nodes_behind equation front) e)) in
      let here : LacksRoom (length (nodes_with i)) mid.room halt = subst (λ (l : List ℕ). LacksRoom (length (nodes_behind equation l others)) mid.room halt) at lacks in
      lacks_behind _ _ halt so.put (omega (arith, whole, grows i size within)) here

  pub lists_end : {i count : ℕ} {indexes : List ℕ} {old new : Maker} (constant size : ℕ) (left : List ℕ) → ListsSoFar i count indexes old new →
      left ≡ constant ∷ others → size ≡ size_of (universe_at equation) constant → i ≡ size → HasPut (nodes_behind equation front left) old new
  lists_end constant size left so e s end = put_as (ap first_nodes (end ∙ s) ∙ all_nodes constant ∙ sym (ap (nodes_behind equation front) e)) so.put

  pub lists_counted : {i count : ℕ} {indexes : List ℕ} {old new : Maker} (constant size : ℕ) (left : List ℕ) → ListsSoFar i count indexes old new →
      left ≡ constant ∷ others → size ≡ size_of (universe_at equation) constant → i ≡ size → count ≡ count_behind equation front left
  lists_counted constant size left so e s end = so.counted ∙ ap first_count (end ∙ s) ∙ all_counted constant ∙ sym (ap (count_behind equation front) e)

-- ---- one list

pub last_nodes : (equation : Equation) (indexes left : List ℕ) → length left ≡ 0 → list_nodes equation indexes ≡ nodes_behind equation indexes left
last_nodes equation indexes [] none = ap (list_nodes equation) (sym (append-nil indexes)) ∙ sym (append-nil (list_nodes equation (indexes ++ [])))
last_nodes equation indexes (number ∷ left) none = absurd (omega arith)

pub last_count : (equation : Equation) (indexes left : List ℕ) → length left ≡ 0 → list_count equation indexes ≡ count_behind equation indexes left
last_count equation indexes [] none = ap (list_count equation) (sym (append-nil indexes)) ∙ here (holds_at equation (indexes ++ []))
  where
    here : (b : Bool) → (if b then 1 else 0) ≡ length (if b then (indexes ++ []) ∷ [] else [])
    here true = refl
    here false = refl
last_count equation indexes (number ∷ left) none = absurd (omega arith)

-- ---- a value by its index

pub value_plain : (with_none : Bool) (objects all : List ℕ) (index d : ℕ) → with_none ≡ false → index < length all → all ≡ (if with_none then none_value ∷ objects else objects) → slice_get all index ≡ Some (get_or objects index d)
value_plain true objects all index d e within is = absurd (false≢true (sym e))
value_plain false objects all index d e within is = ap (λ (l : List ℕ). slice_get l index) is ∙ slice_get-get_or objects index d (subst (λ (l : List ℕ). index < length l) is within)

pub value_behind : (with_none : Bool) (objects all : List ℕ) (index d : ℕ) → with_none ≡ true → index ≢ 0 → index < length all → all ≡ (if with_none then none_value ∷ objects else objects) → slice_get all index ≡ Some (get_or objects (index - 1) d)
value_behind false objects all index d e some within is = absurd (false≢true e)
value_behind true objects all zero d e some within is = absurd (some refl)
value_behind true objects all (suc index) d e some within is =
    let before : index ≡ suc index - 1 = omega arith in
    let less : suc index < length (none_value ∷ objects) = subst (λ (l : List ℕ). suc index < length l) is within in
    ap (λ (l : List ℕ). slice_get l (suc index)) is ∙ slice_get-get_or objects index d (omega arith) ∙ ap (λ (k : ℕ). Some (get_or objects k d)) before
