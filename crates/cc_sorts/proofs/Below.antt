-- Sorts below others, by pairs of them.
use Rattle.std.proofs.Common.{◌≡◌, ◌∙◌, ◌⊎◌, inl, inr, ℕ, Bool, true, false, ◌||◌, ◌&&◌, List, [], ◌∷◌, IsTrue, refl, sym, ap, subst}
use Rattle.std.proofs.lemmas.Bool.{false≢true}
use Rattle.std.specs.Cmp.Lexicographic.{bytes_decides}
use Rattle.std.specs.List.{list_any, AllByRecursion}
use Rattle.cc_defs.specs.Declarations.{Pair, is_below}
use Rattle.cc_defs.specs.Grammar.{same_text}
use Rattle.cc_sorts.specs.Laws.{IsOrderOf, BelowIsLeast}
use Rattle.cc_sorts.proofs.Swaps.{or_false, same_swap}

pub and_false : (a : Bool) → (a && false) ≡ false
and_false true = refl
and_false false = refl

-- a sort that is the upper one of no pair has only itself below it
pub alone_below : (pairs : List Pair) (lower upper : List ℕ) → list_any (λ pair. same_text upper pair.0) pairs ≡ false → is_below pairs lower upper ≡ same_text lower upper
alone_below [] lower upper e = refl
alone_below (pair ∷ pairs) lower upper e =
    ap (λ t. is_below pairs lower upper || (is_below pairs lower pair.1 && t)) (alone_below pairs pair.0 upper (others _ _ e) ∙ same_swap pair.0 upper ∙ first _ _ e)
    ∙ ap (λ t. is_below pairs lower upper || t) (and_false (is_below pairs lower pair.1))
    ∙ or_false (is_below pairs lower upper)
    ∙ alone_below pairs lower upper (others _ _ e)
  where
    first : (a b : Bool) → (a || b) ≡ false → a ≡ false
    first true b f = absurd cc
    first false b f = refl

    others : (a b : Bool) → (a || b) ≡ false → b ≡ false
    others true b f = absurd cc
    others false b f = f

-- ---- what a search upwards from a sort needs

pub either : (a b : Bool) → (a || b) ≡ true → (a ≡ true) ⊎ (b ≡ true)
either true b e = inl refl
either false b e = inr e

pub both : (a b : Bool) → (a && b) ≡ true → (a ≡ true) × (b ≡ true)
both true b e = (refl, e)
both false b e = absurd cc

pub by_first : (a b : Bool) → a ≡ true → (a || b) ≡ true
by_first a b e = ap (λ t. t || b) e

pub by_second : (a b c : Bool) → b ≡ true → c ≡ true → (a || (b && c)) ≡ true
by_second true b c e f = refl
by_second false b c e f = ap (λ t. t && c) e ∙ f

-- a sort is below itself
pub below_self : (pairs : List Pair) (sort : List ℕ) → is_below pairs sort sort ≡ true
below_self [] sort = (bytes_decides sort sort).1 refl
below_self (pair ∷ pairs) sort = by_first _ _ (below_self pairs sort)

-- a sort below another is below those above that one
pub below_through : (pairs : List Pair) (lower middle upper : List ℕ) → is_below pairs lower middle ≡ true → is_below pairs middle upper ≡ true → is_below pairs lower upper ≡ true
below_through [] lower middle upper e f =
    subst (λ (sort : List ℕ). same_text lower sort ≡ true) ((bytes_decides middle upper).0 f) e
below_through (pair ∷ pairs) lower middle upper e f =
    here (either _ _ e) (either _ _ f) (below_through pairs lower middle upper) (below_through pairs lower middle pair.1) (below_through pairs pair.0 middle upper)
  where
    here : (is_below pairs lower middle ≡ true) ⊎ ((is_below pairs lower pair.1 && is_below pairs pair.0 middle) ≡ true) →
        (is_below pairs middle upper ≡ true) ⊎ ((is_below pairs middle pair.1 && is_below pairs pair.0 upper) ≡ true) →
        (is_below pairs lower middle ≡ true → is_below pairs middle upper ≡ true → is_below pairs lower upper ≡ true) →
        (is_below pairs lower middle ≡ true → is_below pairs middle pair.1 ≡ true → is_below pairs lower pair.1 ≡ true) →
        (is_below pairs pair.0 middle ≡ true → is_below pairs middle upper ≡ true → is_below pairs pair.0 upper ≡ true) →
        is_below (pair ∷ pairs) lower upper ≡ true
    here (inl g) (inl h) all up down = by_first (is_below pairs lower upper) (is_below pairs lower pair.1 && is_below pairs pair.0 upper) (all g h)
    here (inl g) (inr h) all up down = by_second (is_below pairs lower upper) (is_below pairs lower pair.1) (is_below pairs pair.0 upper) (up g (both (is_below pairs middle pair.1) (is_below pairs pair.0 upper) h).0) (both (is_below pairs middle pair.1) (is_below pairs pair.0 upper) h).1
    here (inr g) (inl h) all up down = by_second (is_below pairs lower upper) (is_below pairs lower pair.1) (is_below pairs pair.0 upper) (both (is_below pairs lower pair.1) (is_below pairs pair.0 middle) g).0 (down (both (is_below pairs lower pair.1) (is_below pairs pair.0 middle) g).1 h)
    here (inr g) (inr h) all up down = by_second (is_below pairs lower upper) (is_below pairs lower pair.1) (is_below pairs pair.0 upper) (both (is_below pairs lower pair.1) (is_below pairs pair.0 middle) g).0 (both (is_below pairs middle pair.1) (is_below pairs pair.0 upper) h).1

-- each pair has its lower sort below its upper one
pub below_each : (pairs : List Pair) → AllByRecursion (λ pair. IsTrue (is_below pairs pair.1 pair.0)) pairs
below_each [] = tt
below_each (pair ∷ pairs) = (by_second _ _ _ (below_self pairs pair.1) (below_self pairs pair.0), more pairs (below_each pairs))
  where
    more : (some : List Pair) → AllByRecursion (λ other. IsTrue (is_below pairs other.1 other.0)) some → AllByRecursion (λ other. IsTrue (is_below (pair ∷ pairs) other.1 other.0)) some
    more [] all = tt
    more (other ∷ some) all = (by_first (is_below pairs other.1 other.0) (is_below pairs other.1 pair.1 && is_below pairs pair.0 other.0) all.0, more some all.1)

-- what holds of a sort, and of the upper sort of a pair where it holds of the lower one, holds of all sorts above
pub closed_above : (found : List ℕ → Bool) (pairs : List Pair) (lower upper : List ℕ) → AllByRecursion (λ pair. IsTrue (found pair.1) → IsTrue (found pair.0)) pairs →
    found lower ≡ true → is_below pairs lower upper ≡ true → found upper ≡ true
closed_above found [] lower upper closed at_lower below = subst (λ (sort : List ℕ). found sort ≡ true) ((bytes_decides lower upper).0 below) at_lower
closed_above found (pair ∷ pairs) lower upper closed at_lower below =
    here (either _ _ below) (closed_above found pairs lower upper closed.1 at_lower) (closed_above found pairs lower pair.1 closed.1 at_lower) (closed_above found pairs pair.0 upper closed.1)
  where
    here : (is_below pairs lower upper ≡ true) ⊎ ((is_below pairs lower pair.1 && is_below pairs pair.0 upper) ≡ true) →
        (is_below pairs lower upper ≡ true → found upper ≡ true) → (is_below pairs lower pair.1 ≡ true → found pair.1 ≡ true) →
        (found pair.0 ≡ true → is_below pairs pair.0 upper ≡ true → found upper ≡ true) → found upper ≡ true
    here (inl e) all up down = all e
    here (inr e) all up down = down (closed.0 (up (both (is_below pairs lower pair.1) (is_below pairs pair.0 upper) e).0)) (both (is_below pairs lower pair.1) (is_below pairs pair.0 upper) e).1

goes_up : (below : List ℕ → List ℕ → Bool) (all some : List Pair) (lower : List ℕ) → IsOrderOf all below → AllByRecursion (λ pair. below pair.1 pair.0 ≡ true) some →
    AllByRecursion (λ pair. IsTrue (below lower pair.1) → IsTrue (below lower pair.0)) some
goes_up below all [] lower order each = tt
goes_up below all (pair ∷ some) lower order each = (λ e. order.goes_on lower pair.1 pair.0 e each.0, goes_up below all some lower order each.1)

pub below_least : BelowIsLeast
below_least pairs = (
  record { itself = below_self pairs; goes_on = below_through pairs; each = below_each pairs },
  λ below order lower upper e. closed_above (below lower) pairs lower upper (goes_up below pairs pairs lower order order.each) (order.itself lower) e,
)

-- a pair of a sort that is below the other already changes nothing
pub implied_same : (pairs : List Pair) (upper lower sort other : List ℕ) → is_below pairs lower upper ≡ true → is_below ((upper, lower) ∷ pairs) sort other ≡ is_below pairs sort other
implied_same pairs upper lower sort other implied = by (is_below pairs sort other) refl (is_below pairs sort lower && is_below pairs upper other) refl
  where
    by : (a : Bool) → is_below pairs sort other ≡ a → (b : Bool) → (is_below pairs sort lower && is_below pairs upper other) ≡ b → (is_below pairs sort other || (is_below pairs sort lower && is_below pairs upper other)) ≡ is_below pairs sort other
    by true e b f = ap (λ t. t || (is_below pairs sort lower && is_below pairs upper other)) e ∙ sym e
    by false e false f = ap (λ t. is_below pairs sort other || t) f ∙ or_false (is_below pairs sort other)
    by false e true f =
        let parts = both (is_below pairs sort lower) (is_below pairs upper other) f in
        ap (λ t. is_below pairs sort other || t) f
        ∙ absurd (false≢true (sym e ∙ below_through pairs sort lower other parts.0 (below_through pairs lower upper other implied parts.1)))
