-- Ranges of numbers, judged by their ends and one by one.
use Rattle.std.proofs.Common.{◌≡◌, ◌∙◌, ℕ, zero, suc, ◌+◌, ◌-◌, ◌≤◌, min, max, inl, inr, Bool, true, false, not, ◌&&◌, ◌||◌, nat_lt, List, [], ◌∷◌, ◌++◌, map, flat_map, Option, Some, None, is_none, refl, sym, ap, arith}
use Rattle.std.specs.Prelude.{◌==◌}
use Rattle.std.specs.List.{list_any}
use Rattle.std.proofs.lemmas.Bool.{cases_lt, cases_order, lt-ltb, le-ltb, eq-eqb, ne_eqb}
use Rattle.std.proofs.lemmas.List.Folds.{list_any-append}
use Rattle.cc_defs.specs.DeclarationFaults.{any_has, is_twice, is_sort, is_taken, same_pair, is_that, has_put}
use Rattle.cc_defs.specs.Declarations.{Declaration, Span, Number, Named, Declared, Put, put_declared, variable_declared, constant_declared, puts, pairs, from_to}
use Rattle.cc_defs.specs.Grammar.{same_text}
use Rattle.std.proofs.lemmas.Grind.{flat_map-append}
use Rattle.cc_sorts.specs.Declaring.{numbers_of, plain_head, plain_declaration}
use Rattle.cc_sorts.specs.declared.declaration.Declaration as declarations
use Rattle.cc_sorts.specs.declared.declaration.Declaration.TheVariants as declared
use Rattle.cc_sorts.specs.Lefts.{is_from, is_number_from, has_put_from, meets, takes, IsLeft, twice_by}
use Rattle.cc_sorts.specs.declared.left.Left.{Left}
use Rattle.cc_sorts.specs.declared.left.Range.{Range}
use Rattle.cc_sorts.proofs.Behind.{puts_same}
use Rattle.cc_sorts.proofs.Clear.{has_append}
use Rattle.cc_sorts.proofs.Lefts.{put_more}
use Rattle.cc_sorts.proofs.Swaps.{or_false}
use Rattle.cc_sorts.proofs.Walks.{first_numbers, number_next}

-- ---- tests of numbers

-- from the one on, so many
abbrev is_up : ℕ → ℕ → Option ℕ → Bool
is_up low count None = false
is_up low count (Some x) = not (nat_lt x low) && nat_lt x (low + count)

none_up : (low : ℕ) (o : Option ℕ) → is_up low 0 o ≡ false
none_up low None = refl
none_up low (Some x) = elim (cases_lt x low) [
  | inl less ↦ ap (λ (t : Bool). not t && nat_lt x (low + 0)) (lt-ltb x low less)
  | inr least ↦ ap (λ (t : Bool). not t && nat_lt x (low + 0)) (le-ltb x low least) ∙ le-ltb x (low + 0) (omega arith)
]

-- by whether a number is less than the first, than the second, than the third, or is the third
under_first : (a b c d : Bool) → a ≡ true → d ≡ false → (not a && b) ≡ ((not a && c) || d)
under_first a b c d e f = ap (λ (t : Bool). not t && b) e ∙ sym (ap (λ (t : Bool). (not t && c) || d) e ∙ f)

not_under : (a b c d : Bool) → a ≡ false → b ≡ (c || d) → (not a && b) ≡ ((not a && c) || d)
not_under a b c d e f = ap (λ (t : Bool). not t && b) e ∙ f ∙ sym (ap (λ (t : Bool). (not t && c) || d) e)

up_next : (x to : ℕ) → nat_lt x (suc to) ≡ (nat_lt x to || (x == to))
up_next x to = elim (cases_order x to) [
  | inl same ↦ lt-ltb x (suc to) (omega arith) ∙ sym (ap (λ (t : Bool). t || (x == to)) (le-ltb x to (omega arith)) ∙ eq-eqb x to same)
  | inr (inl under) ↦ lt-ltb x (suc to) (omega arith) ∙ sym (ap (λ (t : Bool). t || (x == to)) (lt-ltb x to under))
  | inr (inr over) ↦ le-ltb x (suc to) (omega arith) ∙ sym (ap (λ (t : Bool). t || (x == to)) (le-ltb x to (omega arith)) ∙ ne_eqb x to (λ (same : x ≡ to). omega arith))
]

up_more : (low count : ℕ) (o : Option ℕ) → is_up low (suc count) o ≡ (is_up low count o || is_that (low + count) o)
up_more low count None = refl
up_more low count (Some x) = elim (cases_lt x low) [
  | inl less ↦ under_first (nat_lt x low) (nat_lt x (low + suc count)) (nat_lt x (low + count)) (x == (low + count)) (lt-ltb x low less) (ne_eqb x (low + count) (λ (same : x ≡ low + count). omega arith))
  | inr least ↦ not_under (nat_lt x low) (nat_lt x (low + suc count)) (nat_lt x (low + count)) (x == (low + count)) (le-ltb x low least) (more (omega arith) ∙ up_next x (low + count))
]
  where
    more : low + suc count ≡ suc (low + count) → nat_lt x (low + suc count) ≡ nat_lt x (suc (low + count))
    more e = ap (nat_lt x) e

up_all : (low high : ℕ) (o : Option ℕ) → is_up low (high + 1 - low) o ≡ is_number_from low high o
up_all low high None = refl
up_all low high (Some x) = elim (cases_lt x low) [
  | inl less ↦ ap (λ (t : Bool). not t && nat_lt x (low + (high + 1 - low))) (lt-ltb x low less) ∙ sym (ap (λ (t : Bool). not t && not (nat_lt high x)) (lt-ltb x low less))
  | inr least ↦ elim (cases_lt high x) [
    | inl past ↦ ap (λ (t : Bool). not (nat_lt x low) && t) (le-ltb x (low + (high + 1 - low)) (omega arith) ∙ sym (ap not (lt-ltb high x past)))
    | inr within ↦ ap (λ (t : Bool). not (nat_lt x low) && t) (lt-ltb x (low + (high + 1 - low)) (omega arith) ∙ sym (ap not (le-ltb high x within)))
  ]
]

-- ---- tests of puts

abbrev has_up : ℕ → ℕ → List ℕ → Put → Bool
has_up low count sort put = is_up low count put.number && same_text sort put.sort

split_and : (a b s : Bool) → ((a || b) && s) ≡ ((a && s) || (b && s))
split_and true b true = refl
split_and true true false = refl
split_and true false false = refl
split_and false b s = refl

or_four : (a b c d : Bool) → ((a || b) || (c || d)) ≡ ((a || c) || (b || d))
or_four true b c d = refl
or_four false true true d = refl
or_four false true false d = refl
or_four false false c d = refl

any_up : (low count : ℕ) (sort : List ℕ) (os : List Put) → list_any (has_up low (suc count) sort) os ≡ (list_any (has_up low count sort) os || list_any (has_put (low + count) sort) os)
any_up low count sort [] = refl
any_up low count sort (o ∷ os) =
    ap (λ (t : Bool). (t && same_text sort o.sort) || list_any (has_up low (suc count) sort) os) (up_more low count o.number)
    ∙ ap (λ (t : Bool). t || list_any (has_up low (suc count) sort) os) (split_and (is_up low count o.number) (is_that (low + count) o.number) (same_text sort o.sort))
    ∙ ap (λ (t : Bool). ((is_up low count o.number && same_text sort o.sort) || (is_that (low + count) o.number && same_text sort o.sort)) || t) (any_up low count sort os)
    ∙ or_four (has_up low count sort o) (has_put (low + count) sort o) (list_any (has_up low count sort) os) (list_any (has_put (low + count) sort) os)

any_none : (low : ℕ) (sort : List ℕ) (os : List Put) → list_any (has_up low 0 sort) os ≡ false
any_none low sort [] = refl
any_none low sort (o ∷ os) = ap (λ (t : Bool). (t && same_text sort o.sort) || list_any (has_up low 0 sort) os) (none_up low o.number) ∙ any_none low sort os

any_all : (low high : ℕ) (sort : List ℕ) (os : List Put) → list_any (has_up low (high + 1 - low) sort) os ≡ list_any (has_put_from low high sort) os
any_all low high sort [] = refl
any_all low high sort (o ∷ os) =
    ap (λ (t : Bool). (t && same_text sort o.sort) || list_any (has_up low (high + 1 - low) sort) os) (up_all low high o.number)
    ∙ ap (λ (t : Bool). has_put_from low high sort o || t) (any_all low high sort os)

-- ---- the numbers of a range differ

any_next : (sort : List ℕ) (low count : ℕ) (test : Put → Bool) →
    list_any test (flat_map put_declared (first_numbers sort low (suc count)))
    ≡ (list_any test (flat_map put_declared (first_numbers sort low count)) || list_any test (put_declared (Number (low + count) sort)))
any_next sort low count test =
    ap (λ (w : List Declaration). list_any test (flat_map put_declared w)) (number_next sort low count)
    ∙ ap (list_any test) (flat_map-append put_declared (first_numbers sort low count) (Number (low + count) sort ∷ []))
    ∙ list_any-append test (flat_map put_declared (first_numbers sort low count)) (put_declared (Number (low + count) sort))

none_before : (sort : List ℕ) (low count value : ℕ) → low + count ≤ value → list_any (has_put value sort) (flat_map put_declared (first_numbers sort low count)) ≡ false
none_before sort low zero value p = refl
none_before sort low (suc count) value p =
    any_next sort low count (has_put value sort)
    ∙ ap (λ (t : Bool). t || ((((low + count) == value) && same_text sort sort) || false)) (none_before sort low count value (omega arith))
    ∙ ap (λ (t : Bool). (t && same_text sort sort) || false) (ne_eqb (low + count) value (λ (same : low + count ≡ value). omega arith))

twice_up : (left : List Declaration) (sort : List ℕ) (low count : ℕ) → any_has is_twice left (first_numbers sort low count) ≡ list_any (has_up low count sort) (puts left)
twice_up left sort low zero = sym (any_none low sort (puts left))
twice_up left sort low (suc count) =
    let before = first_numbers sort low count in
    let next = Number (low + count) sort in
    ap (any_has is_twice left) (number_next sort low count)
    ∙ has_append is_twice left before (next ∷ [])
    ∙ ap (λ (t : Bool). t || (is_twice (left ++ before) next || false)) (twice_up left sort low count)
    ∙ ap (λ (t : Bool). list_any (has_up low count sort) (puts left) || t)
    (or_false (is_twice (left ++ before) next) ∙ put_more left before (has_put (low + count) sort)
    ∙ ap (λ (t : Bool). list_any (has_put (low + count) sort) (puts left) || t) (none_before sort low count (low + count) (omega arith))
    ∙ or_false (list_any (has_put (low + count) sort) (puts left)))
    ∙ sym (any_up low count sort (puts left))

-- a range was made before where one of its numbers was put into the sort
pub twice_block : (left : List Declaration) (low high : ℕ) (sort : List ℕ) → any_has is_twice left (Span low high sort ∷ numbers_of sort (from_to low high)) ≡ list_any (has_put_from low high sort) (puts left)
twice_block left low high sort =
    twice_up (left ++ Span low high sort ∷ []) sort low (high + 1 - low)
    ∙ ap (list_any (has_up low (high + 1 - low) sort)) (puts_same left (Span low high sort) refl)
    ∙ any_all low high sort (puts left)

-- ---- faults that a single number does not have

no_number : (fault : List Declaration → Declaration → Bool) (left : List Declaration) (sort values : List ℕ) →
    ((left : List Declaration) (value : ℕ) (sort : List ℕ) → fault left (Number value sort) ≡ false) → any_has fault left (numbers_of sort values) ≡ false
no_number fault left sort [] none = refl
no_number fault left sort (value ∷ values) none =
    ap (λ (t : Bool). t || any_has fault (left ++ Number value sort ∷ []) (numbers_of sort values)) (none left value sort) ∙ no_number fault (left ++ Number value sort ∷ []) sort values none

pub head_fault : (fault : List Declaration → Declaration → Bool) (left : List Declaration) (file line : ℕ) (d : declarations.Declaration) →
    ((left : List Declaration) (value : ℕ) (sort : List ℕ) → fault left (Number value sort) ≡ false) →
    fault left (plain_head file line d) ≡ any_has fault left (plain_declaration file line d)
head_fault fault left file line (declared.Sort name) none = sym (or_false (fault left (plain_head file line (declared.Sort name))))
head_fault fault left file line (declared.Object name sort) none = sym (or_false (fault left (plain_head file line (declared.Object name sort))))
head_fault fault left file line (declared.Numbers low high sort) none =
    let head = Span low high sort.now in
    sym (ap (λ (t : Bool). fault left head || t) (no_number fault (left ++ head ∷ []) sort.now (from_to low high) none) ∙ or_false (fault left head))
head_fault fault left file line (declared.Link name) none = sym (or_false (fault left (plain_head file line (declared.Link name))))
head_fault fault left file line (declared.Subsort upper lower) none = sym (or_false (fault left (plain_head file line (declared.Subsort upper lower))))
head_fault fault left file line (declared.Variable name sort) none = sym (or_false (fault left (plain_head file line (declared.Variable name sort))))
head_fault fault left file line (declared.Constant shape kind) none = sym (or_false (fault left (plain_head file line (declared.Constant shape kind))))
head_fault fault left file line (declared.Kinds shapes kind) none = sym (or_false (fault left (plain_head file line (declared.Kinds shapes kind))))

-- ---- ranges that meet

abbrev have_together : ℕ → ℕ → ℕ → ℕ → Bool
have_together low high from count = nat_lt (max low from) (min (high + 1) (from + count))

together_next : (low high from count : ℕ) → (have_together low high from count || is_from low high (from + count)) ≡ have_together low high from (suc count)
together_next low high from count = elim (cases_lt (from + count) low) [
  | inl less ↦
      ap (λ (t : Bool). have_together low high from count || (not t && not (nat_lt high (from + count)))) (lt-ltb (from + count) low less)
      ∙ or_false (have_together low high from count) ∙ le-ltb (max low from) (min (high + 1) (from + count)) (omega arith)
      ∙ sym (le-ltb (max low from) (min (high + 1) (from + suc count)) (omega arith))
  | inr least ↦ elim (cases_lt high (from + count)) [
    | inl past ↦
        let same : min (high + 1) (from + count) ≡ min (high + 1) (from + suc count) = omega arith in
        ap (λ (t : Bool). have_together low high from count || (not (nat_lt (from + count) low) && not t)) (lt-ltb high (from + count) past)
        ∙ ap (λ (t : Bool). have_together low high from count || t) (never (not (nat_lt (from + count) low)))
        ∙ or_false (have_together low high from count) ∙ ap (nat_lt (max low from)) same
    | inr within ↦
        ap (λ (t : Bool). have_together low high from count || (not t && not (nat_lt high (from + count)))) (le-ltb (from + count) low least)
        ∙ ap (λ (t : Bool). have_together low high from count || not t) (le-ltb high (from + count) within)
        ∙ always (have_together low high from count) ∙ sym (lt-ltb (max low from) (min (high + 1) (from + suc count)) (omega arith))
  ]
]
  where
    never : (b : Bool) → (b && false) ≡ false
    never true = refl
    never false = refl

    always : (b : Bool) → (b || true) ≡ true
    always true = refl
    always false = refl

any_number : (low high : ℕ) (sort : List ℕ) (value : ℕ) (other : List ℕ) → list_any (has_put_from low high sort) (put_declared (Number value other)) ≡ (is_from low high value && same_text sort other)
any_number low high sort value other = or_false (is_from low high value && same_text sort other)

any_together : (low high : ℕ) (sort : List ℕ) (from count : ℕ) (other : List ℕ) →
    list_any (has_put_from low high sort) (flat_map put_declared (first_numbers other from count)) ≡ (have_together low high from count && same_text sort other)
any_together low high sort from zero other =
    sym (ap (λ (t : Bool). t && same_text sort other) (le-ltb (max low from) (min (high + 1) (from + 0)) (omega arith)))
any_together low high sort from (suc count) other =
    any_next other from count (has_put_from low high sort)
    ∙ ap (λ (t : Bool). t || list_any (has_put_from low high sort) (put_declared (Number (from + count) other))) (any_together low high sort from count other)
    ∙ ap (λ (t : Bool). (have_together low high from count && same_text sort other) || t) (any_number low high sort (from + count) other)
    ∙ sym (split_and (have_together low high from count) (is_from low high (from + count)) (same_text sort other))
    ∙ ap (λ (t : Bool). t && same_text sort other) (together_next low high from count)

-- the ends of two ranges, where one of four things is wrong, or none
first_wrong : (m s a b c d : Bool) → m ≡ false → a ≡ true → (m && s) ≡ ((not a && not b) && ((not c && not d) && s))
first_wrong m s a b c d e f = ap (λ (t : Bool). t && s) e ∙ sym (ap (λ (t : Bool). (not t && not b) && ((not c && not d) && s)) f)

second_wrong : (m s a b c d : Bool) → m ≡ false → a ≡ false → b ≡ true → (m && s) ≡ ((not a && not b) && ((not c && not d) && s))
second_wrong m s a b c d e f g =
    ap (λ (t : Bool). t && s) e ∙ sym (ap (λ (t : Bool). (not t && not b) && ((not c && not d) && s)) f ∙ ap (λ (t : Bool). not t && ((not c && not d) && s)) g)

both_right : (a b : Bool) (r : Bool) → a ≡ false → b ≡ false → ((not a && not b) && r) ≡ r
both_right a b r f g = ap (λ (t : Bool). (not t && not b) && r) f ∙ ap (λ (t : Bool). not t && r) g

third_wrong : (m s a b c d : Bool) → m ≡ false → a ≡ false → b ≡ false → c ≡ true → (m && s) ≡ ((not a && not b) && ((not c && not d) && s))
third_wrong m s a b c d e f g h =
    ap (λ (t : Bool). t && s) e ∙ sym (both_right a b ((not c && not d) && s) f g ∙ ap (λ (t : Bool). (not t && not d) && s) h)

fourth_wrong : (m s a b c d : Bool) → m ≡ false → a ≡ false → b ≡ false → c ≡ false → d ≡ true → (m && s) ≡ ((not a && not b) && ((not c && not d) && s))
fourth_wrong m s a b c d e f g h k =
    ap (λ (t : Bool). t && s) e ∙ sym (both_right a b ((not c && not d) && s) f g ∙ ap (λ (t : Bool). (not t && not d) && s) h ∙ ap (λ (t : Bool). not t && s) k)

none_wrong : (m s a b c d : Bool) → m ≡ true → a ≡ false → b ≡ false → c ≡ false → d ≡ false → (m && s) ≡ ((not a && not b) && ((not c && not d) && s))
none_wrong m s a b c d e f g h k =
    ap (λ (t : Bool). t && s) e ∙ sym (both_right a b ((not c && not d) && s) f g ∙ both_right c d s h k)

meet_together : (low high : ℕ) (sort : List ℕ) (from to : ℕ) (other : List ℕ) →
    (have_together low high from (to + 1 - from) && same_text sort other)
    ≡ ((not (nat_lt high low) && not (nat_lt to from)) && ((not (nat_lt to low) && not (nat_lt high from)) && same_text sort other))
meet_together low high sort from to other = elim (cases_lt high low) [
  | inl a ↦ first_wrong (have_together low high from (to + 1 - from)) (same_text sort other) (nat_lt high low) (nat_lt to from) (nat_lt to low) (nat_lt high from)
      (le-ltb (max low from) (min (high + 1) (from + (to + 1 - from))) (omega arith)) (lt-ltb high low a)
  | inr a ↦ elim (cases_lt to from) [
    | inl b ↦ second_wrong (have_together low high from (to + 1 - from)) (same_text sort other) (nat_lt high low) (nat_lt to from) (nat_lt to low) (nat_lt high from)
        (le-ltb (max low from) (min (high + 1) (from + (to + 1 - from))) (omega arith)) (le-ltb high low a) (lt-ltb to from b)
    | inr b ↦ elim (cases_lt to low) [
      | inl d ↦ third_wrong (have_together low high from (to + 1 - from)) (same_text sort other) (nat_lt high low) (nat_lt to from) (nat_lt to low) (nat_lt high from)
          (le-ltb (max low from) (min (high + 1) (from + (to + 1 - from))) (omega arith)) (le-ltb high low a) (le-ltb to from b) (lt-ltb to low d)
      | inr d ↦ elim (cases_lt high from) [
        | inl e ↦ fourth_wrong (have_together low high from (to + 1 - from)) (same_text sort other) (nat_lt high low) (nat_lt to from) (nat_lt to low) (nat_lt high from)
            (le-ltb (max low from) (min (high + 1) (from + (to + 1 - from))) (omega arith)) (le-ltb high low a) (le-ltb to from b) (le-ltb to low d) (lt-ltb high from e)
        | inr e ↦ none_wrong (have_together low high from (to + 1 - from)) (same_text sort other) (nat_lt high low) (nat_lt to from) (nat_lt to low) (nat_lt high from)
            (lt-ltb (max low from) (min (high + 1) (from + (to + 1 - from))) (omega arith)) (le-ltb high low a) (le-ltb to from b) (le-ltb to low d) (le-ltb high from e)
      ]
    ]
  ]
]

-- one of the numbers is that of a range where the two meet
pub put_in_range : (low high : ℕ) (sort : List ℕ) (range : Range) →
    list_any (has_put_from low high sort) (flat_map put_declared (Span range.low range.high range.sort.now ∷ numbers_of range.sort.now (from_to range.low range.high))) ≡ meets low high sort range
put_in_range low high sort range =
    any_together low high sort range.low (range.high + 1 - range.low) range.sort.now ∙ meet_together low high sort range.low range.high range.sort.now

pub range_added : (table : Bool) (low high : ℕ) (sort : List ℕ) (old new : List Range) (range : Range) → new ≡ old ++ range ∷ [] →
    (table || list_any (meets low high sort) new)
    ≡ ((table || list_any (meets low high sort) old) || list_any (has_put_from low high sort) (flat_map put_declared (Span range.low range.high range.sort.now ∷ numbers_of range.sort.now (from_to range.low range.high))))
range_added table low high sort old new range is =
    ap (λ (w : List Range). table || list_any (meets low high sort) w) is
    ∙ ap (λ (t : Bool). table || t) (list_any-append (meets low high sort) old (range ∷ []) ∙ ap (λ (t : Bool). list_any (meets low high sort) old || t) (or_false (meets low high sort range)))
    ∙ or_joined table (list_any (meets low high sort) old) (meets low high sort range)
    ∙ ap (λ (t : Bool). (table || list_any (meets low high sort) old) || t) (sym (put_in_range low high sort range))
  where
    or_joined : (a b c : Bool) → (a || (b || c)) ≡ ((a || b) || c)
    or_joined true b c = refl
    or_joined false b c = refl

-- ---- what a range does not declare

pub flat_none : {Y : Type 0} (f : Declaration → List Y) (sort values : List ℕ) → ((value : ℕ) → f (Number value sort) ≡ []) → flat_map f (numbers_of sort values) ≡ []
flat_none f sort [] none = refl
flat_none {Y} f sort (value ∷ values) none =
    ap (λ (w : List Y). w ++ flat_map f (numbers_of sort values)) (none value) ∙ flat_none f sort values none

pub takes_none : (name sort values : List ℕ) → takes name (numbers_of sort values) ≡ false
takes_none name sort values =
    ap (λ (t : Bool). t || (list_any (λ (v : Named). same_text name v.0) (flat_map variable_declared (numbers_of sort values))
    || list_any (same_text name) (map (λ (c : Declared). c.shape.name) (flat_map constant_declared (numbers_of sort values))))) (no_name values)
    ∙ ap (λ (w : List Named). list_any (λ (v : Named). same_text name v.0) w
    || list_any (same_text name) (map (λ (c : Declared). c.shape.name) (flat_map constant_declared (numbers_of sort values)))) (flat_none variable_declared sort values (λ value. refl))
    ∙ ap (λ (w : List Declared). list_any (same_text name) (map (λ (c : Declared). c.shape.name) w)) (flat_none constant_declared sort values (λ value. refl))
  where
    no_name : (values : List ℕ) → list_any (λ (put : Put). is_none put.number && same_text name put.name) (flat_map put_declared (numbers_of sort values)) ≡ false
    no_name [] = refl
    no_name (value ∷ values) = no_name values

-- ---- what was made before

pub twice_is : (left : Left) (declared_before : List Declaration) (file line : ℕ) (d : declarations.Declaration) → IsLeft left declared_before →
    twice_by left d ≡ any_has is_twice declared_before (plain_declaration file line d)
twice_is left before file line (declared.Sort name) is = sym (is.sorts_are name.now) ∙ sym (or_false (is_sort before name.now))
twice_is left before file line (declared.Object name sort) is = sym (is.names_are name.now) ∙ sym (or_false (is_taken before name.now))
twice_is left before file line (declared.Numbers low high sort) is = sym (is.numbers_are low high sort.now) ∙ sym (twice_block before low high sort.now)
twice_is left before file line (declared.Link name) is = refl
twice_is left before file line (declared.Subsort upper lower) is = sym (is.pairs_are (upper.now, lower.now)) ∙ sym (or_false (list_any (same_pair (upper.now, lower.now)) (pairs before)))
twice_is left before file line (declared.Variable name sort) is = sym (is.names_are name.now) ∙ sym (or_false (is_taken before name.now))
twice_is left before file line (declared.Constant shape kind) is = sym (is.names_are shape.now.name.now) ∙ sym (or_false (is_taken before shape.now.name.now))
twice_is left before file line (declared.Kinds shapes kind) is = refl
