-- Space and comments.
use Rattle.std.proofs.Common.{◌≡◌, ℕ, zero, suc, ◌+◌, ◌<◌, ◌≤◌, Bool, true, false, ◌||◌, ◌&&◌, cond, eqb, List, [], ◌∷◌, ◌++◌, length, get_or, take, drop, refl, sym, ap, subst, ◌∙◌, add-one, arith, inl, inr, ◌⊎◌}
use Rattle.std.proofs.Math.Seq.{take-suc, drop-cons}
use Rattle.std.proofs.lemmas.Bool.{eqb-true}
use Rattle.std.proofs.lemmas.List.Sums.{count_by_more_yes, count_by_more_no}
use Rattle.cc_defs.specs.Tokens.{is_space, is_gap, ends_inside, begins_gap, line_feeds, Skips}
use Rattle.cc_text.specs.Fronts.{IsGapOf}
use Rattle.cc_text.specs.Steps.{goes_in_gap, stays_inside, feed_of}

pub bool_cases : (t : Bool) → (t ≡ true) ⊎ (t ≡ false)
bool_cases true = inl refl
bool_cases false = inr refl

pub both : (s t : Bool) → (s && t) ≡ true → (s ≡ true) × (t ≡ true)
both true t e = (refl, e)
both false t e = absurd cc

pub both_are : (s t : Bool) → s ≡ true → t ≡ true → (s && t) ≡ true
both_are true t e f = f
both_are false t e f = absurd cc

pub none_of : (s t : Bool) → (s || t) ≡ false → (s ≡ false) × (t ≡ false)
none_of true t e = absurd cc
none_of false t e = (refl, e)

-- ---- byte by byte

space_feed : (b : ℕ) → eqb b 10 ≡ true → is_space b ≡ true
space_feed b e = rw (eqb-true b 10 e) refl

step_by : (feed comment inside space outside within : Bool) → (feed ≡ true → space ≡ true)
    → cond feed outside (cond (inside || comment) within (space && outside))
    ≡ ((inside || (space || comment)) && cond (cond feed false (inside || comment)) within outside)
step_by true comment inside false outside within f = absurd (let e = f refl in cc)
step_by true comment true true outside within f = refl
step_by true comment false true outside within f = refl
step_by false comment true space outside within f = refl
step_by false true false true outside within f = refl
step_by false true false false outside within f = refl
step_by false false false true outside within f = refl
step_by false false false false outside within f = refl

chosen : (inside : Bool) (bs : List ℕ) → cond inside (is_gap true bs) (is_gap false bs) ≡ is_gap inside bs
chosen true bs = refl
chosen false bs = refl

pub gap-cons : (inside : Bool) (b : ℕ) (bs : List ℕ) → is_gap inside (b ∷ bs) ≡ (goes_in_gap inside b && is_gap (stays_inside inside b) bs)
gap-cons inside b bs =
    step_by (eqb b 10) (eqb b 37) inside (is_space b) (is_gap false bs) (is_gap true bs) (space_feed b)
    ∙ ap (λ (t : Bool). goes_in_gap inside b && t) (chosen (stays_inside inside b) bs)

ends_by : (feed comment : Bool) (bs : List ℕ)
    → cond feed (ends_inside false bs) (cond comment (ends_inside true bs) (ends_inside false bs)) ≡ ends_inside (cond feed false comment) bs
ends_by true comment bs = refl
ends_by false true bs = refl
ends_by false false bs = refl

pub ends-cons : (inside : Bool) (b : ℕ) (bs : List ℕ) → ends_inside inside (b ∷ bs) ≡ ends_inside (stays_inside inside b) bs
ends-cons inside b bs = ends_by (eqb b 10) (inside || eqb b 37) bs

pub gap-append : (inside : Bool) (xs ys : List ℕ) → is_gap inside (xs ++ ys) ≡ (is_gap inside xs && is_gap (ends_inside inside xs) ys)
gap-append inside [] ys = refl
gap-append inside (b ∷ xs) ys =
    gap-cons inside b (xs ++ ys) ∙ ap (λ (t : Bool). goes_in_gap inside b && t) (gap-append (stays_inside inside b) xs ys)
    ∙ and_assoc (goes_in_gap inside b) (is_gap (stays_inside inside b) xs) (is_gap (ends_inside (stays_inside inside b) xs) ys)
    ∙ sym (ap (λ (t : Bool). t && is_gap (ends_inside (stays_inside inside b) xs) ys) (gap-cons inside b xs))
    ∙ sym (ap (λ (t : Bool). is_gap inside (b ∷ xs) && is_gap t ys) (ends-cons inside b xs))
  where
    and_assoc : (s t u : Bool) → (s && (t && u)) ≡ ((s && t) && u)
    and_assoc true t u = refl
    and_assoc false t u = refl

pub ends-append : (inside : Bool) (xs ys : List ℕ) → ends_inside inside (xs ++ ys) ≡ ends_inside (ends_inside inside xs) ys
ends-append inside [] ys = refl
ends-append inside (b ∷ xs) ys =
    ends-cons inside b (xs ++ ys) ∙ ends-append (stays_inside inside b) xs ys ∙ sym (ap (λ (t : Bool). ends_inside t ys) (ends-cons inside b xs))

-- ---- the loop over the bytes of a gap

pub gap-grows : (text : List ℕ) (i : ℕ) (inside : Bool) → i < length text → is_gap false (take i text) ≡ true → inside ≡ ends_inside false (take i text)
    → goes_in_gap inside (get_or text i 0) ≡ true
    → (is_gap false (take (i + 1) text) ≡ true) × (stays_inside inside (get_or text i 0) ≡ ends_inside false (take (i + 1) text))
gap-grows text i inside lt space in_is goes =
    let b = get_or text i 0 in
    let more : take (i + 1) text ≡ take i text ++ b ∷ [] = rw add-one (take-suc text i 0 lt) in
    let one : is_gap inside (b ∷ []) ≡ true = gap-cons inside b [] ∙ rw goes refl in
    let first : is_gap false (take i text ++ b ∷ []) ≡ true = gap-append false (take i text) (b ∷ []) ∙ rw (space, ← in_is) one in
    let second : ends_inside false (take i text ++ b ∷ []) ≡ stays_inside inside b = ends-append false (take i text) (b ∷ []) ∙ rw (← in_is) (ends-cons inside b []) in
    (ap (is_gap false) more ∙ first, sym (ap (ends_inside false) more ∙ second))

pub gap_stops : (text : List ℕ) (i : ℕ) (inside : Bool) → i < length text → goes_in_gap inside (get_or text i 0) ≡ false
    → (inside ≡ false) × (begins_gap (drop i text) ≡ false)
gap_stops text i inside lt stops =
    let p = none_of inside _ stops in
    let cut : drop i text ≡ get_or text i 0 ∷ drop (suc i) text = drop-cons text i 0 lt in
    (p.0, ap begins_gap cut ∙ p.1)

pub feed_le : (feed b : ℕ) → feed ≡ feed_of b → feed ≤ 1
feed_le feed b e = elim (bool_cases (eqb b 10)) [
  | inl f ↦ (let g : feed ≡ 1 = rw (e, f) refl in omega arith)
  | inr f ↦ (let g : feed ≡ 0 = rw (e, f) refl in omega arith)
]

pub feeds-grow : (text : List ℕ) (i lines feed : ℕ) → i < length text → lines ≡ line_feeds (take i text) → feed ≡ feed_of (get_or text i 0)
    → lines + feed ≡ line_feeds (take (i + 1) text)
feeds-grow text i lines feed lt so_far one =
    elim (bool_cases (eqb (get_or text i 0) 10)) [
      | inl e ↦ (let f : feed ≡ 1 = rw (one, e) refl in let g = count_by_more_yes (λ b. eqb b 10) text i 0 lt e in omega arith)
      | inr e ↦ (let f : feed ≡ 0 = rw (one, e) refl in let g = count_by_more_no (λ b. eqb b 10) text i 0 lt e in omega arith)
    ]

-- ---- one gap

pub gap_begins : (b : ℕ) (bs rest : List ℕ) → is_gap false (b ∷ bs) ≡ true → begins_gap (b ∷ rest) ≡ true
gap_begins b bs rest e = (both (goes_in_gap false b) (is_gap (stays_inside false b) bs) (sym (gap-cons false b bs) ∙ e)).0

pub one_gap : (inside : Bool) (gap other rest after : List ℕ) → gap ++ rest ≡ other ++ after
    → is_gap inside gap ≡ true → ends_inside inside gap ≡ false → begins_gap rest ≡ false
    → is_gap inside other ≡ true → ends_inside inside other ≡ false → begins_gap after ≡ false → gap ≡ other
one_gap inside [] [] rest after e s1 o1 b1 s2 o2 b2 = refl
one_gap inside [] (b ∷ other) rest after e s1 o1 b1 s2 o2 b2 =
    let f : is_gap false (b ∷ other) ≡ true = subst (λ (t : Bool). is_gap t (b ∷ other) ≡ true) o1 s2 in
    let g : begins_gap rest ≡ true = ap begins_gap e ∙ gap_begins b other (other ++ after) f in
    absurd cc
one_gap inside (b ∷ gap) [] rest after e s1 o1 b1 s2 o2 b2 =
    let f : is_gap false (b ∷ gap) ≡ true = subst (λ (t : Bool). is_gap t (b ∷ gap) ≡ true) o2 s1 in
    let g : begins_gap after ≡ true = ap begins_gap (sym e) ∙ gap_begins b gap (gap ++ rest) f in
    absurd cc
one_gap inside (b ∷ gap) (c ∷ other) rest after e s1 o1 b1 s2 o2 b2 =
    let same : b ≡ c = cc in
    let tails : gap ++ rest ≡ other ++ after = cc in
    let p1 = both (goes_in_gap inside b) (is_gap (stays_inside inside b) gap) (sym (gap-cons inside b gap) ∙ s1) in
    let p2 = both (goes_in_gap inside c) (is_gap (stays_inside inside c) other) (sym (gap-cons inside c other) ∙ s2) in
    let q2 : is_gap (stays_inside inside b) other ≡ true = rw same p2.1 in
    let r2 : ends_inside (stays_inside inside b) other ≡ false = rw same (sym (ends-cons inside c other) ∙ o2) in
    let rest_is = one_gap (stays_inside inside b) gap other rest after tails p1.1 (sym (ends-cons inside b gap) ∙ o1) b1 q2 r2 b2 in
    cc

-- a gap up to the end has nothing else in it
pub whole_gap : (text gap rest : List ℕ) → text ≡ gap ++ rest → is_gap false text ≡ true → ends_inside false gap ≡ false → begins_gap rest ≡ false → ⊥
whole_gap text gap [] e s o b = absurd cc
whole_gap text gap (c ∷ rest) e s o b =
    let f : is_gap false (gap ++ c ∷ rest) ≡ true = ap (is_gap false) (sym e) ∙ s in
    let p = both (is_gap false gap) (is_gap (ends_inside false gap) (c ∷ rest)) (sym (gap-append false gap (c ∷ rest)) ∙ f) in
    let g : is_gap false (c ∷ rest) ≡ true = subst (λ (t : Bool). is_gap t (c ∷ rest) ≡ true) o p.1 in
    let h = gap_begins c rest rest g in
    absurd cc

-- ---- a text is a gap, or has one before the rest

pub gap_split : (inside : Bool) (text : List ℕ) → (is_gap inside text ≡ true)
    ⊎ ((gap : List ℕ) × (rest : List ℕ) × (text ≡ gap ++ rest) × (is_gap inside gap ≡ true) × (ends_inside inside gap ≡ false) × (begins_gap rest ≡ false))
gap_split inside [] = inl refl
gap_split inside (b ∷ bs) =
    elim (bool_cases (goes_in_gap inside b)) [
      | inl e ↦ elim (gap_split (stays_inside inside b) bs) [
        | inl g ↦ inl (gap-cons inside b bs ∙ rw (e, g) refl)
        | inr g ↦ inr (b ∷ g.0, g.1, ap (λ (l : List ℕ). b ∷ l) g.2, gap-cons inside b g.0 ∙ rw (e, g.3) refl, ends-cons inside b g.0 ∙ g.4, g.5)
      ]
      | inr e ↦ let p = none_of inside _ e in inr ([], b ∷ bs, refl, refl, p.0, p.1)
    ]
