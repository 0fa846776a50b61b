-- Chains of nodes: each head has one, no node is twice in it, and a write at a node that is not in it leaves it. A walk goes
-- along a chain, and takes nodes out of it.
use Rattle.std.proofs.Common.{◌≡◌, ◌≢◌, ◌∙◌, ℕ, ◌+◌, ◌<◌, ◌≤◌, zero, suc, inl, inr, eqb, true, false, List, [], ◌∷◌, ◌++◌, length, get_or, set, take, refl, sym, subst, ap, arith, length-append, append_assoc}
use Rattle.std.specs.Prelude.{◌⊎◌}
use Rattle.std.specs.List.{IsDistinct, AllByRecursion, list_any}
use Rattle.std.proofs.lemmas.List.{length-set, length-take-le, get_or-take, get_or-set_other, get_or-set_same, get_or_append_left}
use Rattle.std.proofs.lemmas.Bool.Decides.{eqb_tells}
use Rattle.std.proofs.lemmas.Map.Steps.{length-le_from_distinct_below}
use Rattle.cc_defs.specs.Clauses.{IsIn}
use Rattle.cc_trail.specs.LinkParts.{IsChain, chain_of, link_at, heads_relinked, next_relinked}
use Rattle.cc_trail.proofs.StepLists.{in_right}

pub chain_same : (next : List ℕ) (head : ℕ) (xs ys : List ℕ) → IsChain next head xs → IsChain next head ys → xs ≡ ys
chain_same next head [] [] a b = refl
chain_same next head [] (y ∷ ys) a b = absurd (omega (arith, a, b.0))
chain_same next head (x ∷ xs) [] a b = absurd (omega (arith, a.0, b))
chain_same next head (x ∷ xs) (y ∷ ys) a b =
    let same : y ≡ x = omega (arith, a.0, b.0) in
    let rest : xs ≡ ys = chain_same next (get_or next x 0) xs ys a.2 (subst (λ (n : ℕ). IsChain next (get_or next n 0) ys) same b.2) in
    cc

pub chain_within : (next : List ℕ) (head : ℕ) (xs : List ℕ) (node : ℕ) → IsChain next head xs → IsIn xs node → node < length next
chain_within next head [] node chain none = elim none [ ]
chain_within next head (x ∷ xs) node chain (inl same) = subst (λ (n : ℕ). n < length next) same chain.1
chain_within next head (x ∷ xs) node chain (inr later) = chain_within next (get_or next x 0) xs node chain.2 later

-- what is behind a member of a chain
chain_behind : (next : List ℕ) (head : ℕ) (xs : List ℕ) (node : ℕ) → IsChain next head xs → IsIn xs node →
    (ys : List ℕ) × IsChain next (suc node) (node ∷ ys) × (length ys < length xs)
chain_behind next head [] node chain none = elim none [ ]
chain_behind next head (x ∷ xs) node chain (inl same) =
    (xs, (refl, subst (λ (n : ℕ). n < length next) same chain.1, subst (λ (n : ℕ). IsChain next (get_or next n 0) xs) same chain.2), omega arith)
chain_behind next head (x ∷ xs) node chain (inr later) =
    let (ys, behind, shorter) = chain_behind next (get_or next x 0) xs node chain.2 later in
    (ys, behind, omega arith)

pub first_once : (next : List ℕ) (head node : ℕ) (rest : List ℕ) → IsChain next head (node ∷ rest) → IsIn rest node → ⊥
first_once next head node rest chain again =
    let found = chain_behind next (get_or next node 0) rest node chain.2 again in
    let same : node ∷ rest ≡ node ∷ found.0 = chain_same next (suc node) (node ∷ rest) (node ∷ found.0) (refl, chain.1, chain.2) found.1 in
    let equal : length (node ∷ rest) ≡ length (node ∷ found.0) = ap length same in
    let shorter : length found.0 < length rest = found.2 in
    absurd (omega arith)

pub chain_set : (next : List ℕ) (head : ℕ) (xs : List ℕ) (node value : ℕ) → IsChain next head xs → (IsIn xs node → ⊥) → IsChain (set next node value) head xs
chain_set next head [] node value chain fresh = chain
chain_set next head (x ∷ xs) node value chain fresh =
    let other : x ≢ node = λ same. fresh (inl same) in
    let count : length (set next node value) ≡ length next = length-set next node value in
    let within : x < length next = chain.1 in (
      chain.0,
      omega arith,
      subst (λ (head : ℕ). IsChain (set next node value) head xs) (sym (get_or-set_other next node x value 0 other))
          (chain_set next (get_or next x 0) xs node value chain.2 (λ later. fresh (inr later))),
    )

pub chain_append : (next more : List ℕ) (head : ℕ) (xs : List ℕ) → IsChain next head xs → IsChain (next ++ more) head xs
chain_append next more head [] chain = chain
chain_append next more head (x ∷ xs) chain =
    let count : length (next ++ more) ≡ length next + length more = length-append next more in
    let within : x < length next = chain.1 in (
      chain.0,
      omega arith,
      subst (λ (head : ℕ). IsChain (next ++ more) head xs) (sym (get_or_append_left next more 0 x within))
          (chain_append next more (get_or next x 0) xs chain.2),
    )

-- a chain that the last node is not in
pub chain_take : (next : List ℕ) (head : ℕ) (xs : List ℕ) (last : ℕ) → suc last ≡ length next → IsChain next head xs → (IsIn xs last → ⊥) →
    IsChain (take last next) head xs
chain_take next head [] last is chain fresh = chain
chain_take next head (x ∷ xs) last is chain fresh =
    let other : x ≢ last = λ same. fresh (inl same) in
    let within : x < length next = chain.1 in
    let count : length (take last next) ≡ last = length-take-le last next (omega arith) in (
      chain.0,
      omega arith,
      subst (λ (head : ℕ). IsChain (take last next) head xs) (sym (get_or-take last next x 0 (omega arith)))
          (chain_take next (get_or next x 0) xs last is chain.2 (λ later. fresh (inr later))),
    )

apart : (x : ℕ) (ys : List ℕ) → (IsIn ys x → ⊥) → AllByRecursion (λ y. eqb x y ≡ false) ys
apart x [] fresh = tt
apart x (y ∷ ys) fresh = (
  elim (eqb_tells x y) [
    | inl same ↦ absurd (fresh (inl (sym (same.1))))
    | inr other ↦ other.0
  ],
  apart x ys (λ later. fresh (inr later)),
)

pub chain_distinct : (next : List ℕ) (head : ℕ) (xs : List ℕ) → IsChain next head xs → IsDistinct eqb xs
unfolding IsDistinct
chain_distinct next head [] chain = tt
chain_distinct next head (x ∷ xs) chain =
    (apart x xs (first_once next head x xs chain), chain_distinct next (get_or next x 0) xs chain.2)

below : (next : List ℕ) (head : ℕ) (xs : List ℕ) → IsChain next head xs → (q : ℕ) → list_any (eqb q) xs ≡ true → q < length next
below next head [] chain q e = cc
below next head (x ∷ xs) chain q e = elim (eqb_tells q x) [
  | inl same ↦ let within : x < length next = chain.1 in let same_is : q ≡ x = same.1 in omega arith
  | inr other ↦ below next (get_or next x 0) xs chain.2 q (rw (other.0) at e)
]

pub chain_length : (next : List ℕ) (head : ℕ) (xs : List ℕ) → IsChain next head xs → length xs ≤ length next
chain_length next head xs chain = length-le_from_distinct_below xs (length next) (chain_distinct next head xs chain) (below next head xs chain)

chain_taken : (most : ℕ) (next : List ℕ) (head : ℕ) (xs : List ℕ) → IsChain next head xs → length xs ≤ most → chain_of most next head ≡ xs
chain_taken zero next head [] chain few = refl
chain_taken zero next head (x ∷ xs) chain few = absurd (omega arith)
chain_taken (suc most) next head [] chain few = rw chain refl
chain_taken (suc most) next head (x ∷ xs) chain few =
    let rest : chain_of most next (get_or next x 0) ≡ xs = chain_taken most next (get_or next x 0) xs chain.2 (omega arith) in
    rw (chain.0) (ap (λ (ys : List ℕ). x ∷ ys) rest)

pub chain_is : (next : List ℕ) (head : ℕ) (xs : List ℕ) → IsChain next head xs → chain_of (length next) next head ≡ xs
chain_is next head xs chain = chain_taken (length next) next head xs chain (chain_length next head xs chain)

-- ---- a chain is split, and a node is taken out of it

pub chain_split : (next : List ℕ) (head : ℕ) (xs : List ℕ) (node : ℕ) → IsChain next head xs → IsIn xs node →
    (front : List ℕ) × (back : List ℕ) × (xs ≡ front ++ node ∷ back) × IsChain next (get_or next node 0) back
chain_split next head [] node chain none = elim none [ ]
chain_split next head (x ∷ xs) node chain (inl same) =
    ([], xs, ap (λ (n : ℕ). n ∷ xs) same, subst (λ (n : ℕ). IsChain next (get_or next n 0) xs) same chain.2)
chain_split next head (x ∷ xs) node chain (inr later) =
    let (front, back, is, behind) = chain_split next (get_or next x 0) xs node chain.2 later in
    (x ∷ front, back, ap (λ (ys : List ℕ). x ∷ ys) is, behind)

pub chain_cut : (next : List ℕ) (head : ℕ) (front : List ℕ) (before node : ℕ) (back : List ℕ) → IsChain next head (front ++ before ∷ node ∷ back) →
    IsChain (set next before (get_or next node 0)) head (front ++ before ∷ back)
chain_cut next head [] before node back chain =
    let count : length (set next before (get_or next node 0)) ≡ length next = length-set next before (get_or next node 0) in
    let within : before < length next = chain.1 in (
      chain.0,
      omega arith,
      subst (λ (head : ℕ). IsChain (set next before (get_or next node 0)) head back) (sym (get_or-set_same next before (get_or next node 0) 0 within))
          (chain_set next (get_or next node 0) back before (get_or next node 0) chain.2.2 (λ here. first_once next head before (node ∷ back) chain (inr here))),
    )
chain_cut next head (x ∷ front) before node back chain =
    let other : x ≢ before = λ same. first_once next head x (front ++ before ∷ node ∷ back) chain (in_right front (before ∷ node ∷ back) x (inl (sym same))) in
    let count : length (set next before (get_or next node 0)) ≡ length next = length-set next before (get_or next node 0) in
    let within : x < length next = chain.1 in (
      chain.0,
      omega arith,
      subst (λ (head : ℕ). IsChain (set next before (get_or next node 0)) head (front ++ before ∷ back))
          (sym (get_or-set_other next before x (get_or next node 0) 0 other)) (chain_cut next (get_or next x 0) front before node back chain.2),
    )

once_in : (next : List ℕ) (head : ℕ) (front : List ℕ) (node : ℕ) (back : List ℕ) → IsChain next head (front ++ node ∷ back) → IsIn (front ++ back) node → ⊥
once_in next head [] node back chain here = first_once next head node back chain here
once_in next head (x ∷ front) node back chain (inl same) =
    first_once next head x (front ++ node ∷ back) chain (in_right front (node ∷ back) x (inl (sym same)))
once_in next head (x ∷ front) node back chain (inr later) = once_in next (get_or next x 0) front node back chain.2 later

in_wider : (front : List ℕ) (node : ℕ) (back : List ℕ) (m : ℕ) → IsIn (front ++ back) m → IsIn (front ++ node ∷ back) m
in_wider [] node back m here = inr here
in_wider (x ∷ front) node back m (inl same) = inl same
in_wider (x ∷ front) node back m (inr later) = inr (in_wider front node back m later)

in_narrower : (front : List ℕ) (node : ℕ) (back : List ℕ) (m : ℕ) → IsIn (front ++ node ∷ back) m → (node ≡ m) ⊎ IsIn (front ++ back) m
in_narrower [] node back m (inl same) = inl same
in_narrower [] node back m (inr later) = inr later
in_narrower (x ∷ front) node back m (inl same) = inr (inl same)
in_narrower (x ∷ front) node back m (inr later) = elim (in_narrower front node back m later) [
  | inl same ↦ inl same
  | inr here ↦ inr (inr here)
]

-- the same nodes but this one
pub record IsLess (others xs : List ℕ) (node : ℕ) : Type 0 where
  pub wider : (m : ℕ) → IsIn others m → IsIn xs m
  pub narrower : (m : ℕ) → IsIn xs m → (node ≡ m) ⊎ IsIn others m
  pub once : IsIn others node → ⊥

pub less_of : (next : List ℕ) (head : ℕ) (xs front : List ℕ) (node : ℕ) (back : List ℕ) → IsChain next head xs → xs ≡ front ++ node ∷ back → IsLess (front ++ back) xs node
less_of next head xs front node back chain is = record {
  wider = λ m here. subst (λ (ys : List ℕ). IsIn ys m) (sym is) (in_wider front node back m here);
  narrower = λ m here. in_narrower front node back m (subst (λ (ys : List ℕ). IsIn ys m) is here);
  once = once_in next head front node back (subst (λ (ys : List ℕ). IsChain next head ys) is chain);
}

-- ---- a walk along a chain

-- what a walk has left to visit, behind the node before
abbrev pub IsLeft : ℕ → List ℕ → List ℕ → Type 0
IsLeft zero xs left = xs ≡ left
IsLeft (suc before) xs left = (front : List ℕ) × (xs ≡ front ++ before ∷ left)

pub walk_of : (heads next : List ℕ) (walked before : ℕ) (xs : List ℕ) → IsChain next (get_or heads walked 0) xs → ((node : ℕ) → before ≡ suc node → IsIn xs node) →
    (left : List ℕ) × IsChain next (link_at heads next walked before) left × IsLeft before xs left
walk_of heads next walked zero xs chain passed = (xs, chain, refl)
walk_of heads next walked (suc before) xs chain passed =
    let (front, back, is, behind) = chain_split next (get_or heads walked 0) xs before chain (passed before refl) in
    (back, behind, (front, is))

pub left_in : (before : ℕ) (xs left : List ℕ) (m : ℕ) → IsLeft before xs left → IsIn left m → IsIn xs m
left_in zero xs left m is here = subst (λ (ys : List ℕ). IsIn ys m) (sym is) here
left_in (suc before) xs left m (front, is) here = subst (λ (ys : List ℕ). IsIn ys m) (sym is) (in_right front (before ∷ left) m (inr here))

-- the node that the walk has come to is taken out of its chain
pub record IsRelinked (heads next : List ℕ) (walked before : ℕ) (nodes : ℕ → List ℕ) (others rest : List ℕ) : Type 0 where
  pub chain : IsChain next (get_or heads walked 0) others
  pub here : IsChain next (link_at heads next walked before) rest
  pub apart : (code : ℕ) → code ≢ walked → IsChain next (get_or heads code 0) (nodes code)
  pub passed : (node : ℕ) → before ≡ suc node → IsIn others node

pub relinked : (heads next : List ℕ) (walked before node : ℕ) (xs rest : List ℕ) (nodes : ℕ → List ℕ) → walked < length heads → IsChain next (get_or heads walked 0) xs →
    IsChain next (link_at heads next walked before) (node ∷ rest) → IsLeft before xs (node ∷ rest) →
    ((code : ℕ) → code ≢ walked → IsChain next (get_or heads code 0) (nodes code)) → ((code m : ℕ) → code ≢ walked → IsIn (nodes code) m → IsIn xs m → ⊥) →
    (others : List ℕ) × IsLess others xs node ×
    IsRelinked (heads_relinked heads walked before (get_or next node 0)) (next_relinked next before (get_or next node 0)) walked before nodes others rest
relinked heads next walked zero node xs rest nodes within chain here left apart disjoint =
    let front : IsChain next (get_or (set heads walked (get_or next node 0)) walked 0) rest = rw (get_or-set_same heads walked (get_or next node 0) 0 within) (here.2) in (
      rest,
      less_of next (get_or heads walked 0) xs [] node rest chain left,
      (record {
        chain = front;
        here = front;
        apart = λ code other. rw (get_or-set_other heads walked code (get_or next node 0) 0 other) (apart code other);
        passed = λ m none. absurd (omega arith);
      }),
    )
relinked heads next walked (suc before) node xs rest nodes within chain here (front, is) apart disjoint =
    let whole : IsChain next (get_or heads walked 0) (front ++ before ∷ node ∷ rest) = subst (λ (ys : List ℕ). IsChain next (get_or heads walked 0) ys) is chain in
    let before_in : IsIn xs before = subst (λ (ys : List ℕ). IsIn ys before) (sym is) (in_right front (before ∷ node ∷ rest) before (inl refl)) in
    let low : before < length next = chain_within next (get_or heads walked 0) xs before chain before_in in
    let cut : (front ++ before ∷ []) ++ rest ≡ front ++ before ∷ rest = append_assoc front (before ∷ []) rest in (
      (front ++ before ∷ []) ++ rest,
      less_of next (get_or heads walked 0) xs (front ++ before ∷ []) node rest chain (is ∙ sym (append_assoc front (before ∷ []) (node ∷ rest))),
      (record {
        chain = subst (λ (ys : List ℕ). IsChain (set next before (get_or next node 0)) (get_or heads walked 0) ys) (sym cut)
            (chain_cut next (get_or heads walked 0) front before node rest whole);
        here = rw (get_or-set_same next before (get_or next node 0) 0 low) (chain_set next (get_or next node 0) rest before (get_or next node 0) (here.2)
            (λ again. once_in next (get_or heads walked 0) front before (node ∷ rest) whole (in_right front (node ∷ rest) before (inr again))));
        apart = λ code other.
            chain_set next (get_or heads code 0) (nodes code) before (get_or next node 0) (apart code other) (λ again. disjoint code before other again before_in);
        passed = λ m e.
            let same : before ≡ m = omega arith in
            subst (λ (k : ℕ). IsIn ((front ++ before ∷ []) ++ rest) k) same (subst (λ (ys : List ℕ). IsIn ys before) (sym cut) (in_right front (before ∷ rest) before (inl refl)));
      }),
    )
