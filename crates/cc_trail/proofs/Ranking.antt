-- The two literals that are best to watch are different ones of those that were looked at.
use Rattle.std.proofs.Common.{◌≡◌, ◌≢◌, ◌∙◌, ℕ, ◌+◌, ◌<◌, ◌≤◌, zero, suc, inl, inr, Bool, true, false, List, [], ◌∷◌, ◌++◌, length, get_or, take, refl, sym, subst, ap, arith}
use Rattle.std.specs.Prelude.{Contains}
use Rattle.std.proofs.lemmas.List.{get_or-take, length-take, take_more}
use Rattle.std.proofs.lemmas.List.Elements.{Contains-append_left, Contains-append_right}
use Rattle.cc_defs.specs.Clauses.{Literal, IsClause, IsBefore}
use Rattle.cc_trail.specs.Watches.{AreTwoOf}
use Rattle.cc_trail.proofs.Attaching.{different}

pub true_is_false : (b : Bool) → b ≡ true → b ≡ false → ⊥
true_is_false b e f = cc

in_front : (clause : List Literal) (n : ℕ) (literal : Literal) → Contains (take n clause) literal → Contains clause literal
in_front clause n literal (k, low, is) = let counted = length-take n clause in (k, omega arith, sym (get_or-take n clause k literal (omega arith)) ∙ is)

pub two_of_front : (clause : List Literal) (n : ℕ) (first second : Literal) → AreTwoOf (take n clause) first second → AreTwoOf clause first second
two_of_front clause n first second (one, two, apart) = (in_front clause n first one, in_front clause n second two, apart)

before_trans : (a b c : Literal) → IsBefore a b → IsBefore b c → IsBefore a c
before_trans a b c (inl low) (inl high) = inl (omega arith)
before_trans a b c (inl low) (inr (same, f, t)) = inl (omega arith)
before_trans a b c (inr (same, f, t)) (inl high) = inl (omega arith)
before_trans a b c (inr (same, f, t)) (inr (equal, g, u)) = absurd (true_is_false b.positive t g)

rest_is : (a : Literal) (clause : List Literal) → IsClause (a ∷ clause) → IsClause clause
rest_is a [] is = tt
rest_is a (b ∷ clause) is = is.1

head_before : (a : Literal) (clause : List Literal) → IsClause (a ∷ clause) → (literal : Literal) → Contains clause literal → IsBefore a literal
head_before a [] is literal (k, low, same) = absurd (omega arith)
head_before a (b ∷ clause) is literal (zero, low, same) = subst (λ (l : Literal). IsBefore a l) same is.0
head_before a (b ∷ clause) is literal (suc k, low, same) = before_trans a b literal is.0 (head_before b clause is.1 literal (k, omega arith, same))

-- the literal at an index is another one than those before it
apart_before : (clause : List Literal) (index : ℕ) (item : Literal) → IsClause clause → index < length clause → item ≡ get_or clause index item →
    (literal : Literal) → Contains (take index clause) literal → item ≢ literal
apart_before [] index item is within item_is literal there same = absurd (omega arith)
apart_before (a ∷ clause) zero item is within item_is literal (k, low, at) same = absurd (omega arith)
apart_before (a ∷ clause) (suc index) item is within item_is literal (zero, low, at) same =
    different a item (head_before a clause is item (index, omega arith, sym item_is)) (at ∙ sym same)
apart_before (a ∷ clause) (suc index) item is within item_is literal (suc k, low, at) same =
    apart_before clause index item (rest_is a clause is) (omega arith) item_is literal (k, omega arith, at) same

-- the first two, in either order
pub first_ones : (clause : List Literal) (one two d e : Literal) → IsClause clause → 2 ≤ length clause → one ≡ get_or clause 0 d → two ≡ get_or clause 1 e →
    AreTwoOf (take 2 clause) one two × AreTwoOf (take 2 clause) two one
first_ones [] one two d e is long one_is two_is = absurd (omega arith)
first_ones (a ∷ []) one two d e is long one_is two_is = absurd (omega arith)
first_ones (a ∷ b ∷ clause) one two d e is long one_is two_is =
    let one_in : Contains (a ∷ b ∷ []) one = (0, omega arith, sym one_is) in
    let two_in : Contains (a ∷ b ∷ []) two = (1, omega arith, sym two_is) in
    let apart : one ≢ two = λ same. different a b is.0 (sym one_is ∙ same ∙ two_is) in
    ((one_in, two_in, apart), (two_in, one_in, λ same. apart (sym same)))

-- one more is looked at
module _ (clause : List Literal) (index : ℕ) (item first second : Literal) (is : IsClause clause) (within : index < length clause) (item_is : item ≡ get_or clause index item)
    (two : AreTwoOf (take index clause) first second) where
  more_is : take (index + 1) clause ≡ take index clause ++ item ∷ []
  more_is = take_more clause index item within ∙ ap (λ (l : Literal). take index clause ++ l ∷ []) (sym item_is)

  still_in : (literal : Literal) → Contains (take index clause) literal → Contains (take (index + 1) clause) literal
  still_in literal there = rw more_is (Contains-append_left (take index clause) (item ∷ []) literal there)

  item_in : Contains (take (index + 1) clause) item
  item_in = rw more_is (Contains-append_right (take index clause) (item ∷ []) item (0, omega arith, refl))

  pub two_kept : AreTwoOf (take (index + 1) clause) first second
  two_kept = (still_in first two.0, still_in second two.1, two.2)

  pub two_best : AreTwoOf (take (index + 1) clause) item first
  two_best = (item_in, still_in first two.0, apart_before clause index item is within item_is first two.0)

  pub two_better : AreTwoOf (take (index + 1) clause) first item
  two_better = (still_in first two.0, item_in, λ same. apart_before clause index item is within item_is first two.0 (sym same))

of_take : (n : ℕ) (clause : List Literal) (literal : Literal) → Contains (take n clause) literal → Contains clause literal
of_take zero clause literal (k, low, at) = absurd (omega arith)
of_take (suc n) [] literal (k, low, at) = absurd (omega arith)
of_take (suc n) (a ∷ clause) literal (zero, low, at) = (zero, omega arith, at)
of_take (suc n) (a ∷ clause) literal (suc k, low, at) = let (j, within, is) = of_take n clause literal (k, omega arith, at) in (suc j, omega (arith, within), is)

-- two of the first ones are two of all
pub two_of_all : (n : ℕ) (clause : List Literal) (first second : Literal) → AreTwoOf (take n clause) first second → AreTwoOf clause first second
two_of_all n clause first second two = (of_take n clause first two.0, of_take n clause second two.1, two.2)
