-- The lists of what is shown behind a put and behind a pair.
use Rattle.std.proofs.Common.{◌≡◌, ◌∙◌, ℕ, ◌+◌, ◌<◌, ◌≤◌, false, List, [], ◌∷◌, ◌++◌, length, sym, ap, subst, arith, Vec}
use Rattle.std.specs.List.{AllByRecursion}
use Rattle.cc_defs.specs.Declarations.{is_below, numbers_where}
use Rattle.cc_sorts.specs.declared.table.PutAt.{PutAt}
use Rattle.cc_sorts.specs.Lists.{lists_of, at_each, AreBelow}
use Rattle.cc_sorts.specs.Numbers.{Ascends, has, union}
use Rattle.cc_sorts.specs.Shown.{shown_list, shown_lists, put_end, set_each}
use Rattle.cc_sorts.specs.SortViews.{SortsView, members_at, name_at, with_pair, with_object, IsPast}
use Rattle.cc_sorts.proofs.Showing.{shown_put, shown_filled, fresh_lists, where_ascends, where_within}
use Rattle.std.proofs.Math.ListN.{length-map}
use Rattle.cc_sorts.proofs.Vectors.{items_of}
use Rattle.cc_sorts.proofs.Spaces.{above_stays, pair_length}

-- the numbers of a sort and of those above it
abbrev pub above_of : SortsView → ℕ → List ℕ
above_of sorts sort = numbers_where (λ name. is_below sorts.pairs (name_at sorts sort) name) 0 sorts.names

pub above_ascends : (sorts : SortsView) (sort : ℕ) (numbers : List ℕ) → numbers ≡ above_of sorts sort → Ascends numbers
above_ascends sorts sort numbers is = subst Ascends (sym is) (where_ascends (λ name. is_below sorts.pairs (name_at sorts sort) name) 0 sorts.names)

pub above_within : (sorts : SortsView) (sort count : ℕ) (numbers : List ℕ) → numbers ≡ above_of sorts sort → length sorts.names ≡ count → AreBelow count numbers
above_within sorts sort count numbers is same =
    subst (AreBelow count) (sym is) (subst (λ (n : ℕ). AreBelow n (above_of sorts sort)) same (where_within (λ name. is_below sorts.pairs (name_at sorts sort) name) sorts.names))

pub put_lists : (puts more : List PutAt) (put : PutAt) (sorts new : SortsView) (sort number : ℕ) (numbers : List ℕ) (lists mid last : List (List ℕ)) →
    length sorts.members ≡ length sorts.names → IsPast (length puts) sorts → lists ≡ shown_lists puts sorts.members → mid ≡ lists → number ≡ length puts →
    new ≡ with_object sorts sort number → more ≡ puts ++ put ∷ [] → numbers ≡ above_of new sort → last ≡ at_each numbers (put_end put.object) mid → last ≡ shown_lists more new.members
put_lists puts more put sorts new sort number numbers lists mid last count past is is_mid is_number is_new is_more is_numbers is_last =
    let same : new ≡ with_object sorts sort (length puts) = is_new ∙ ap (with_object sorts sort) is_number in
    is_last ∙ ap (at_each numbers (put_end put.object)) is_mid
    ∙ ap (λ (w : List ℕ). at_each w (put_end put.object) lists) (is_numbers ∙ ap (λ (w : SortsView). above_of w sort) same)
    ∙ shown_put puts put sorts sort lists count past is
    ∙ sym (ap (λ (w : List PutAt). shown_lists w new.members) is_more ∙ ap (λ (w : SortsView). shown_lists (puts ++ put ∷ []) w.members) same)

-- the numbers above the upper sort stay behind a pair
pub above_pair : (sorts new : SortsView) (upper lower : ℕ) (numbers : List ℕ) → is_below sorts.pairs (name_at sorts upper) (name_at sorts lower) ≡ false →
    new ≡ with_pair sorts upper lower → numbers ≡ above_of new upper → numbers ≡ above_of sorts upper
above_pair sorts new upper lower numbers apart is_new is_numbers = is_numbers ∙ ap (λ (w : SortsView). above_of w upper) is_new ∙ above_stays sorts upper lower apart

pub pair_lists : (puts : List PutAt) (sorts new : SortsView) (upper lower : ℕ) (numbers : List ℕ) (lists mid last : List (List ℕ)) →
    is_below sorts.pairs (name_at sorts upper) (name_at sorts lower) ≡ false → length sorts.members ≡ length sorts.names → lists ≡ shown_lists puts sorts.members → mid ≡ lists →
    new ≡ with_pair sorts upper lower → numbers ≡ above_of new upper → last ≡ set_each numbers (λ number. shown_list puts (members_at new number)) mid → last ≡ shown_lists puts new.members
pair_lists puts sorts new upper lower numbers lists mid last apart count is is_mid is_new is_numbers is_last =
    is_last ∙ ap (set_each numbers (λ number. shown_list puts (members_at new number))) is_mid
    ∙ ap (λ (w : List ℕ). set_each w (λ number. shown_list puts (members_at new number)) lists) (above_pair sorts new upper lower numbers apart is_new is_numbers)
    ∙ shown_filled puts (λ list. union list (members_at sorts lower)) sorts.pairs (name_at sorts upper) sorts.names sorts.members new.members lists count is (ap (λ (w : SortsView). w.members) is_new)

-- there is room for what a sort above has behind a pair
pub pair_room : (sorts new : SortsView) (upper lower number more room : ℕ) → new ≡ with_pair sorts upper lower → more ≡ length (members_at sorts lower) →
    length (members_at sorts number) + more ≤ room → length (members_at new number) ≤ room
pair_room sorts new upper lower number more room is_new is_more p =
    let count : length (members_at new number) ≡ length (members_at (with_pair sorts upper lower) number) = ap (λ (w : SortsView). length (members_at w number)) is_new in
    omega (arith, count, is_more, p, pair_length sorts upper lower number)

-- ---- what the steps want

pub above_kept : (sorts new : SortsView) (sort number : ℕ) (numbers : List ℕ) → new ≡ with_object sorts sort number → numbers ≡ above_of new sort → numbers ≡ above_of sorts sort
above_kept sorts new sort number numbers is_new is = is ∙ ap (λ (w : SortsView). above_of w sort) is_new

-- as many lists as sorts
pub listed_len : {Y Z : Type 0} (vectors : Vec (Vec ℕ Z) Y) (puts : List PutAt) (sorts : SortsView) → lists_of vectors.items ≡ shown_lists puts sorts.members →
    length sorts.members ≡ length sorts.names → length sorts.names ≡ vectors.len
listed_len vectors puts sorts is count =
    omega (arith, length-map vectors.items items_of, ap length is, length-map sorts.members (shown_list puts), count, vectors.ok.0)

pub fresh_shown : (puts : List PutAt) (object : ℕ) (sorts : SortsView) (lists mid : List (List ℕ)) → AllByRecursion (λ put. put.object < object) puts → IsPast (length puts) sorts →
    lists ≡ shown_lists puts sorts.members → mid ≡ lists → AllByRecursion (λ list. has object list ≡ false) mid
fresh_shown puts object sorts lists mid all past is is_mid =
    let P : List (List ℕ) → Type 0 = λ w. AllByRecursion (λ list. has object list ≡ false) w in
    subst P (sym (is_mid ∙ is)) (fresh_lists puts object sorts.members all past)

pub same_length : {X : Type 0} (old new : List X) → new ≡ old → length old ≡ length new
same_length old new is = ap length (sym is)
