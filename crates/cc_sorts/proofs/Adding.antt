-- Lists that a loop adds to, seen in plain form.
use Rattle.std.proofs.Common.{◌≡◌, ℕ, ◌+◌, ◌<◌, ◌≤◌, List, [], ◌∷◌, ◌++◌, length, get_or, take, drop, suc, map, flat_map, sym, ap, ◌∙◌, append_assoc, append-nil, add-one, drop-cons}
use Rattle.std.proofs.lemmas.List.{map-append, take_all, drop_all}
use Rattle.std.proofs.lemmas.Simd.{map-map}
use Rattle.std.proofs.lemmas.Grind.{flat_map-append}
use Rattle.std.proofs.Math.Seq.{take-suc}
use Rattle.cc_defs.specs.Declarations.{Declaration, Link, Subsort, chain_behind}
use Rattle.cc_sorts.specs.declared.declaration.Declaration.{Declaration as Declared}

-- an entry behind the others
pub pushed-last : {D X : Type 0} (plain : D → List X) (old new : List D) (x : D) → new ≡ old ++ x ∷ [] → flat_map plain new ≡ flat_map plain old ++ plain x
pushed-last {D} {X} plain old new x is =
    ap (flat_map plain) is ∙ flat_map-append plain old (x ∷ []) ∙ ap (λ (w : List X). flat_map plain old ++ w) (append-nil (plain x))

-- another name was declared
pub added-more : {D X N : Type 0} (plain : D → List X) (declare : N → X) (start found pushed : List D) (names : List N) (i : ℕ) (x : D) (n : N) →
    i < length names → pushed ≡ found ++ x ∷ [] → plain x ≡ declare (get_or names i n) ∷ [] →
    flat_map plain found ≡ flat_map plain start ++ map declare (take i names) →
    flat_map plain pushed ≡ flat_map plain start ++ map declare (take (i + 1) names)
added-more plain declare start found pushed names i x n within is_pushed is_plain so_far =
    pushed-last plain found pushed x is_pushed
    ∙ ap (λ xs. xs ++ plain x) so_far
    ∙ append_assoc (flat_map plain start) (map declare (take i names)) (plain x)
    ∙ ap (λ y. flat_map plain start ++ (map declare (take i names) ++ y)) is_plain
    ∙ ap (λ xs. flat_map plain start ++ xs) (sym (map-append declare (take i names) (get_or names i n ∷ [])))
    ∙ ap (λ xs. flat_map plain start ++ map declare xs) (sym (take-suc names i n within) ∙ ap (λ k. take k names) (sym (add-one i)))

-- the declarations of another item were added
pub parts-more : {X T N : Type 0} (parts : N → List X) (view : T → N) (start found pushed : List X) (items : List T) (i : ℕ) (item : T) →
    i < length items → item ≡ get_or items i item → pushed ≡ found ++ parts (view item) →
    found ≡ start ++ flat_map parts (map view (take i items)) →
    pushed ≡ start ++ flat_map parts (map view (take (i + 1) items))
parts-more parts view start found pushed items i item within is_item is_pushed so_far =
    is_pushed
    ∙ ap (λ xs. xs ++ parts (view item)) so_far
    ∙ append_assoc start (flat_map parts (map view (take i items))) (parts (view item))
    ∙ ap (λ xs. start ++ (flat_map parts (map view (take i items)) ++ xs)) (sym (append-nil (parts (view item))))
    ∙ ap (λ xs. start ++ xs) (sym (flat_map-append parts (map view (take i items)) (view item ∷ [])))
    ∙ ap (λ xs. start ++ flat_map parts xs) (sym (map-append view (take i items) (item ∷ [])))
    ∙ ap (λ x. start ++ flat_map parts (map view (take i items ++ x ∷ []))) is_item
    ∙ ap (λ xs. start ++ flat_map parts (map view xs)) (sym (take-suc items i item within) ∙ ap (λ k. take k items) (sym (add-one i)))

pub added-all : {D X N Y : Type 0} (plain : D → List X) (declare : Y → X) (view : N → Y) (start found : List D) (names : List N) (i : ℕ) →
    length names ≤ i → flat_map plain found ≡ flat_map plain start ++ map (λ name. declare (view name)) (take i names) →
    flat_map plain found ≡ flat_map plain start ++ map declare (map view names)
added-all plain declare view start found names i past so_far =
    so_far
    ∙ ap (λ xs. flat_map plain start ++ map (λ name. declare (view name)) xs) (take_all i names past)
    ∙ ap (λ xs. flat_map plain start ++ xs) (sym (map-map declare view names))

pub parts-all : {X T N : Type 0} (parts : N → List X) (view : T → N) (start found : List X) (items : List T) (i : ℕ) →
    length items ≤ i → found ≡ start ++ flat_map parts (map view (take i items)) → found ≡ start ++ flat_map parts (map view items)
parts-all parts view start found items i past so_far = so_far ∙ ap (λ xs. start ++ flat_map parts (map view xs)) (take_all i items past)

-- a chain whose links are all there
pub chain-all : (start first found : List Declared) {N : Type 0} (view : N → List ℕ) (plain : Declared → List Declaration) (head last : N) (links : List N) (x : Declared) (i : ℕ) →
    length links ≤ i → first ≡ start ++ x ∷ [] → plain x ≡ Link (view head) ∷ [] →
    flat_map plain found ++ chain_behind (view last) (map view (drop i links)) ≡ flat_map plain first ++ chain_behind (view head) (map view links) →
    flat_map plain found ≡ flat_map plain start ++ Link (view head) ∷ chain_behind (view head) (map view links)
chain-all start first found view plain head last links x i past is_first is_link so_far =
    sym (append-nil (flat_map plain found))
    ∙ ap (λ xs. flat_map plain found ++ chain_behind (view last) (map view xs)) (sym (drop_all i links past))
    ∙ so_far
    ∙ ap (λ xs. xs ++ chain_behind (view head) (map view links)) (pushed-last plain start first x is_first ∙ ap (λ y. flat_map plain start ++ y) is_link)
    ∙ append_assoc (flat_map plain start) (Link (view head) ∷ []) (chain_behind (view head) (map view links))

-- another link was added to a chain
pub chain-more : (found pushed whole : List Declaration) {N : Type 0} (view : N → List ℕ) (upper name other : N) (links : List N) (i : ℕ) →
    i < length links → pushed ≡ found ++ Link (view name) ∷ Subsort (view upper) (view name) ∷ [] → name ≡ get_or links i other →
    found ++ chain_behind (view upper) (map view (drop i links)) ≡ whole →
    pushed ++ chain_behind (view name) (map view (drop (i + 1) links)) ≡ whole
chain-more found pushed whole view upper name other links i within is_pushed is_name so_far =
    ap (λ xs. xs ++ chain_behind (view name) (map view (drop (i + 1) links))) is_pushed
    ∙ append_assoc found (Link (view name) ∷ Subsort (view upper) (view name) ∷ []) (chain_behind (view name) (map view (drop (i + 1) links)))
    ∙ ap (λ k. found ++ chain_behind (view upper) (map view (name ∷ drop k links))) (add-one i)
    ∙ ap (λ z. found ++ chain_behind (view upper) (map view (z ∷ drop (suc i) links))) is_name
    ∙ ap (λ xs. found ++ chain_behind (view upper) (map view xs)) (sym (drop-cons links i other within))
    ∙ so_far
