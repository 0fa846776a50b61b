-- Loops that gather what each item of a list gives.
use Rattle.std.proofs.Common.{◌≡◌, ◌∙◌, ℕ, ◌+◌, ◌<◌, ◌≤◌, List, [], ◌∷◌, ◌++◌, length, map, flat_map, drop, get_or, sym, ap, append_assoc}
use Rattle.std.proofs.lemmas.List.{at_drop_all, map-append, map-id, append-nil}
use Rattle.cc_laws.proofs.TermRows.{next_item}

-- one for each item
pub pushed_more : {X V Z : Type 0} (plain : V → Z) (f : X → Z) (xs : List X) (i : ℕ) (d : X) (made pushed : List V) (one : V) (whole : List Z) → i < length xs → d ≡ get_or xs i d →
    pushed ≡ made ++ one ∷ [] → plain one ≡ f d →
    map plain made ++ map f (drop i xs) ≡ whole →
    map plain pushed ++ map f (drop (i + 1) xs) ≡ whole
pushed_more plain f xs i d made pushed one whole within is push e q =
    let rest = map f (drop (i + 1) xs) in
    ap (λ l. map plain l ++ rest) push
    ∙ ap (λ l. l ++ rest) (map-append plain made (one ∷ []))
    ∙ append_assoc (map plain made) (plain one ∷ []) rest
    ∙ ap (λ z. map plain made ++ z ∷ rest) e
    ∙ sym (next_item (λ l. map plain made ++ map f l) xs i d within is) ∙ q

pub pushed_all : {X V Z : Type 0} (plain : V → Z) (f : X → Z) (xs : List X) (i : ℕ) (made : List V) (whole : List Z) → length xs ≤ i →
    map plain made ++ map f (drop i xs) ≡ whole →
    map plain made ≡ whole
pushed_all plain f xs i made whole past q =
    sym (append-nil (map plain made)) ∙ sym (at_drop_all (λ l. map plain made ++ map f l) xs i past) ∙ q

-- some for each item
pub added_more : {X Y V Z : Type 0} (plain : V → Z) (f : Y → List Z) (of : X → Y) (xs : List X) (i : ℕ) (d : X) (made added : List V) (whole : List Z) → i < length xs → d ≡ get_or xs i d →
    map plain added ≡ map plain made ++ f (of d) →
    map plain made ++ flat_map f (map of (drop i xs)) ≡ whole →
    map plain added ++ flat_map f (map of (drop (i + 1) xs)) ≡ whole
added_more plain f of xs i d made added whole within is e q =
    let rest = flat_map f (map of (drop (i + 1) xs)) in
    ap (λ l. l ++ rest) e
    ∙ append_assoc (map plain made) (f (of d)) rest
    ∙ sym (next_item (λ l. map plain made ++ flat_map f (map of l)) xs i d within is) ∙ q

pub appended_more : {X Y V Z : Type 0} (plain : V → Z) (f : Y → List Z) (of : X → Y) (xs : List X) (i : ℕ) (d : X) (made new appended : List V) (whole : List Z) → i < length xs → d ≡ get_or xs i d →
    appended ≡ made ++ new → map plain new ≡ f (of d) →
    map plain made ++ flat_map f (map of (drop i xs)) ≡ whole →
    map plain appended ++ flat_map f (map of (drop (i + 1) xs)) ≡ whole
appended_more plain f of xs i d made new appended whole within is join e q =
    added_more plain f of xs i d made appended whole within is
    (ap (map plain) join ∙ map-append plain made new ∙ ap (λ l. map plain made ++ l) e) q

pub added_all : {X Y V Z : Type 0} (plain : V → Z) (f : Y → List Z) (of : X → Y) (xs : List X) (i : ℕ) (made : List V) (whole : List Z) → length xs ≤ i →
    map plain made ++ flat_map f (map of (drop i xs)) ≡ whole →
    map plain made ≡ whole
added_all plain f of xs i made whole past q =
    sym (append-nil (map plain made)) ∙ sym (at_drop_all (λ l. map plain made ++ flat_map f (map of l)) xs i past) ∙ q

-- one for each item that an iterator gave

pub yielded_more : {X Y V Z : Type 0} (plain : V → Z) (f : Y → Z) (of : X → Y) (yielded : List X) (d : X) (made pushed : List V) (one : V) →
    pushed ≡ made ++ one ∷ [] → plain one ≡ f (of d) →
    map plain made ≡ map f (map of yielded) →
    map plain pushed ≡ map f (map of (yielded ++ d ∷ []))
yielded_more plain f of yielded d made pushed one push e q =
    ap (map plain) push
    ∙ map-append plain made (one ∷ [])
    ∙ ap (λ l. l ++ plain one ∷ []) q
    ∙ ap (λ z. map f (map of yielded) ++ z ∷ []) e
    ∙ sym (map-append f (map of yielded) (of d ∷ []))
    ∙ ap (map f) (sym (map-append of yielded (d ∷ [])))

pub yielded_all : {X Y V Z : Type 0} (plain : V → Z) (f : Y → Z) (of : X → Y) (yielded all : List X) (made : List V) →
    map (λ x. x) yielded ≡ all →
    map plain made ≡ map f (map of yielded) →
    map plain made ≡ map f (map of all)
yielded_all plain f of yielded all made e q = q ∙ ap (λ l. map f (map of l)) (sym (map-id yielded) ∙ e)
