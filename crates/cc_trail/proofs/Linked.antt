-- What stays true of links: a walk along a chain begins, goes on and ends, a node is moved to another chain,
-- or the last one is taken out, two are added.
use Rattle.std.proofs.Common.{◌≡◌, ◌≢◌, ◌∙◌, ℕ, ◌+◌, ◌-◌, ◌*◌, ◌<◌, ◌≤◌, zero, suc, inl, inr, eqb, true, false, List, [], ◌∷◌, ◌++◌, length, get_or, set, take, refl, sym, subst, ap, arith, length-append}
use Rattle.std.specs.Prelude.{◌↔◌, if◌then◌else◌, Bool, replicate, drop}
use Rattle.std.proofs.lemmas.Bool.Decides.{eqb_tells, leb_tells}
use Rattle.std.proofs.lemmas.List.{length-set, length-replicate, length-take-le, get_or-take, get_or-set_other, get_or-set_same, get_or_append_left, get_or-append-add}
use Rattle.cc_defs.specs.Clauses.{Literal, IsIn, IsLiteralOver}
use Rattle.cc_trail.specs.Links.{BeginsWith, no_literal, watched_at, code_of}
use Rattle.cc_trail.specs.LinkParts.{IsChain, chain_of, link_at, heads_relinked, next_relinked, AreLinks}
use Rattle.cc_trail.proofs.Codes.{code_injective}
use Rattle.cc_trail.proofs.Chains.{chain_within, first_once, chain_set, chain_append, chain_take, chain_is, IsLess, IsLeft, IsRelinked, walk_of, left_in, relinked}

bounds_by : (variables x : ℕ) (sign : Bool) → 0 < x → x ≤ variables → (2 ≤ 2 * x + (if sign then 1 else 0)) × (2 * x + (if sign then 1 else 0) < 2 * variables + 2)
bounds_by variables x false low high = ((omega arith), (omega arith))
bounds_by variables x true low high = ((omega arith), (omega arith))

pub code_bounds : (variables : ℕ) (a : Literal) → IsLiteralOver variables a → (2 ≤ code_of a) × (code_of a < 2 * variables + 2)
code_bounds variables a over = bounds_by variables a.variable a.positive over.0 over.1

-- a function changed at two numbers, the second one first
abbrev pub changed : {X : Type 0} → ℕ → ℕ → X → X → (ℕ → X) → ℕ → X
changed i j a b f n = if eqb n j then b else if eqb n i then a else f n

-- a fact about two functions that are changed at the same numbers
changed_all : {X Y : Type 0} (R : ℕ → X → Y → Type 0) (i j : ℕ) (a b : X) (f : ℕ → X) (c d : Y) (g : ℕ → Y) → R i a c → R j b d →
    ((n : ℕ) → n ≢ i → n ≢ j → R n (f n) (g n)) → (n : ℕ) → R n (changed i j a b f n) (changed i j c d g n)
changed_all R i j a b f c d g first second others n = elim (eqb_tells n j) [
  | inl same ↦ rw (same.0) (rw (same.1) second)
  | inr apart ↦ elim (eqb_tells n i) [
    | inl same ↦ rw (apart.0, same.0) (rw (same.1) first)
    | inr other ↦ rw (apart.0, other.0) (others n (other.1) (apart.1))
  ]
]

changed_each : {X : Type 0} (R : ℕ → X → Type 0) (i j : ℕ) (a b : X) (f : ℕ → X) → R i a → R j b →
    ((n : ℕ) → n ≢ i → n ≢ j → R n (f n)) → (n : ℕ) → R n (changed i j a b f n)
changed_each R i j a b f first second others = changed_all (λ n x y. R n x) i j a b f a b f first second others

changed_first : {X : Type 0} (i j : ℕ) (a b : X) (f : ℕ → X) → i ≢ j → changed i j a b f i ≡ a
changed_first i j a b f apart = elim (eqb_tells i j) [
  | inl same ↦ absurd (apart (same.1))
  | inr other ↦ rw (other.0) (elim (eqb_tells i i) [
    | inl same ↦ rw (same.0) refl
    | inr no_way ↦ absurd (no_way.1 refl)
  ])
]

changed_second : {X : Type 0} (i j : ℕ) (a b : X) (f : ℕ → X) → changed i j a b f j ≡ b
changed_second i j a b f = elim (eqb_tells j j) [
  | inl same ↦ rw (same.0) refl
  | inr no_way ↦ absurd (no_way.1 refl)
]

changed_other : {X : Type 0} (i j : ℕ) (a b : X) (f : ℕ → X) (n : ℕ) → n ≢ i → n ≢ j → changed i j a b f n ≡ f n
changed_other i j a b f n first second = elim (eqb_tells n j) [
  | inl same ↦ absurd (second (same.1))
  | inr other ↦ rw (other.0) (elim (eqb_tells n i) [
    | inl same ↦ absurd (first (same.1))
    | inr apart ↦ rw (apart.0) refl
  ])
]

written : (heads : List ℕ) (i j a b : ℕ) → i < length heads → j < length heads → (n : ℕ) →
    get_or (set (set heads i a) j b) n 0 ≡ changed i j a b (λ n. get_or heads n 0) n
written heads i j a b i_within j_within n = elim (eqb_tells n j) [
  | inl same ↦ rw (same.0) (rw (same.1) (get_or-set_same (set heads i a) j b 0 (subst (λ (k : ℕ). j < k) (sym (length-set heads i a)) j_within)))
  | inr apart ↦ elim (eqb_tells n i) [
    | inl same ↦ rw (apart.0, same.0) (get_or-set_other (set heads i a) j n b 0 (apart.1) ∙ rw (same.1) (get_or-set_same heads i a 0 i_within))
    | inr other ↦ rw (apart.0, other.0) (get_or-set_other (set heads i a) j n b 0 (apart.1) ∙ get_or-set_other heads i n a 0 (other.1))
  ]
]

-- ---- a walk

module _ (variables : ℕ) (heads next : List ℕ) (watched : List Literal) (walked before : ℕ) (links : AreLinks variables heads next watched walked before) where
  walk : (left : List ℕ) × IsChain next (link_at heads next walked before) left × IsLeft before (links.linked.nodes walked) left
  walk = walk_of heads next walked before (links.linked.nodes walked) (links.linked.chains walked) links.linked.passed

  left_is : (xs : List ℕ) → chain_of (length next) next (link_at heads next walked before) ≡ xs → walk.0 ≡ xs
  left_is xs is = sym (chain_is next (link_at heads next walked before) (walk.0) (walk.1)) ∙ is

  left_chain : (xs : List ℕ) → chain_of (length next) next (link_at heads next walked before) ≡ xs → IsChain next (link_at heads next walked before) xs
  left_chain xs is = subst (λ (ys : List ℕ). IsChain next (link_at heads next walked before) ys) (left_is xs is) (walk.1)

  pub first_of : (node : ℕ) → link_at heads next walked before ≡ suc node →
      BeginsWith (chain_of (length next) next (link_at heads next walked before)) node × (node < length watched)
  first_of node link = at_first (walk.0) (walk.1) (chain_is next (link_at heads next walked before) (walk.0) (walk.1))
    where
      at_first : (xs : List ℕ) → IsChain next (link_at heads next walked before) xs → chain_of (length next) next (link_at heads next walked before) ≡ xs →
          BeginsWith (chain_of (length next) next (link_at heads next walked before)) node × (node < length watched)
      at_first [] chain is = absurd (omega (arith, link, chain))
      at_first (x ∷ xs) chain is =
          let same : x ≡ node = omega (arith, link, chain.0) in
          let count = links.next_count in
          let within : x < length next = chain.1 in ((xs, rw (← same) is), omega arith)

  pub ahead_once : (node : ℕ) → BeginsWith (chain_of (length next) next (link_at heads next walked before)) node →
      IsIn (drop 1 (chain_of (length next) next (link_at heads next walked before))) node → ⊥
  ahead_once node begins = rw (begins.1) (first_once next (link_at heads next walked before) node (begins.0) (left_chain (node ∷ begins.0) (begins.1)))

  pub none_first : link_at heads next walked before ≡ 0 → chain_of (length next) next (link_at heads next walked before) ≡ []
  none_first link = rw link (chain_is next 0 [] refl)

  pub before_low : before ≤ length next
  before_low = low_of before links.linked.passed
    where
      low_of : (b : ℕ) → ((node : ℕ) → b ≡ suc node → IsIn (links.linked.nodes walked) node) → b ≤ length next
      low_of zero passed = omega arith
      low_of (suc b) passed =
          let within : b < length next = chain_within next (get_or heads walked 0) (links.linked.nodes walked) b (links.linked.chains walked) (passed b refl) in
          omega arith

  -- it begins at a literal
  module _ (literal : Literal) (over : IsLiteralOver variables literal) where
    pub within_heads : code_of literal < length heads
    within_heads =
        let bounds = code_bounds variables literal over in
        let count = links.heads_count in omega (arith, bounds.1)

    pub links_begun : AreLinks variables heads next watched (code_of literal) 0
    links_begun = record {
      variables_few = links.variables_few;
      heads_count = links.heads_count;
      next_count = links.next_count;
      next_few = links.next_few;
      over = links.over;
      walked_low = within_heads;
      linked = record {
        nodes = links.linked.nodes;
        chains = links.linked.chains;
        watching = links.linked.watching;
        listed = links.linked.listed;
        passed = λ node none. absurd (omega arith);
      };
    }

    pub nodes_begun : (node : ℕ) → IsIn (chain_of (length next) next (get_or heads (code_of literal) 0)) node ↔ ((node < length watched) × (watched_at watched node ≡ literal))
    nodes_begun node =
        let count = links.next_count in
        let is : chain_of (length next) next (get_or heads (code_of literal) 0) ≡ links.linked.nodes (code_of literal) =
        chain_is next (get_or heads (code_of literal) 0) (links.linked.nodes (code_of literal)) (links.linked.chains (code_of literal)) in (
          (λ there. watches (subst (λ (xs : List ℕ). IsIn xs node) is there)),
          (λ here. let bound : node < length watched = here.0 in
              subst (λ (xs : List ℕ). IsIn xs node) (sym is) (subst (λ (n : ℕ). IsIn (links.linked.nodes n) node) (ap code_of here.1) (links.linked.listed node (omega arith)))),
        )
      where
        watches : IsIn (links.linked.nodes (code_of literal)) node → (node < length watched) × (watched_at watched node ≡ literal)
        watches here =
            let count = links.next_count in
            let within = chain_within next (get_or heads (code_of literal) 0) (links.linked.nodes (code_of literal)) node (links.linked.chains (code_of literal)) here in
            ((omega arith), code_injective (watched_at watched node) literal (links.linked.watching (code_of literal) node here))

  -- it ends
  pub links_ended : AreLinks variables heads next watched 0 0
  links_ended = record {
    variables_few = links.variables_few;
    heads_count = links.heads_count;
    next_count = links.next_count;
    next_few = links.next_few;
    over = links.over;
    walked_low = let count = links.heads_count in omega arith;
    linked = record {
      nodes = links.linked.nodes;
      chains = links.linked.chains;
      watching = links.linked.watching;
      listed = links.linked.listed;
      passed = λ node none. absurd (omega arith);
    };
  }

  pub none_ended : chain_of (length next) next (get_or heads 0 0) ≡ []
  none_ended = chain_is next (get_or heads 0 0) (links.linked.nodes 0) (links.linked.chains 0) ∙ empty (links.linked.nodes 0) (links.linked.chains 0) (links.linked.watching 0)
    where
      empty : (xs : List ℕ) → IsChain next (get_or heads 0 0) xs → ((node : ℕ) → IsIn xs node → code_of (watched_at watched node) ≡ 0) → xs ≡ []
      empty [] chain watching = refl
      empty (x ∷ xs) chain watching =
          let count = links.next_count in
          let within : x < length next = chain.1 in
          let high = (code_bounds variables (watched_at watched x) (links.over x (omega arith))).0 in
          let none : code_of (watched_at watched x) ≡ 0 = watching x (inl refl) in
          absurd (omega (arith, high))

  -- it goes past a node, which may be moved to the chain of another literal
  module _ (node : ℕ) (rest : List ℕ) (begins : chain_of (length next) next (link_at heads next walked before) ≡ node ∷ rest) where
    here_chain : IsChain next (link_at heads next walked before) (node ∷ rest)
    here_chain = left_chain (node ∷ rest) begins

    node_in : IsIn (links.linked.nodes walked) node
    node_in = left_in before (links.linked.nodes walked) (walk.0) node (walk.2) (rw (left_is (node ∷ rest) begins) (inl refl))

    pub node_within : (node < length next) × (node < length watched)
    node_within = let count = links.next_count in let within : node < length next = here_chain.1 in (within, omega arith)

    node_code : code_of (watched_at watched node) ≡ walked
    node_code = links.linked.watching walked node node_in

    pub links_passed : AreLinks variables heads next watched walked (suc node)
    links_passed = record {
      variables_few = links.variables_few;
      heads_count = links.heads_count;
      next_count = links.next_count;
      next_few = links.next_few;
      over = links.over;
      walked_low = links.walked_low;
      linked = record {
        nodes = links.linked.nodes;
        chains = links.linked.chains;
        watching = links.linked.watching;
        listed = links.linked.listed;
        passed = λ m e. let same : node ≡ m = omega arith in subst (λ (k : ℕ). IsIn (links.linked.nodes walked) k) same node_in;
      };
    }

    pub chain_passed : chain_of (length next) next (get_or next node 0) ≡ rest
    chain_passed = chain_is next (get_or next node 0) rest (here_chain.2)

    elsewhere : (code m : ℕ) → code ≢ walked → IsIn (links.linked.nodes code) m → IsIn (links.linked.nodes walked) m → ⊥
    elsewhere code m other there here = other (sym (links.linked.watching code m there) ∙ links.linked.watching walked m here)

    fresh : (code : ℕ) → code ≢ walked → IsIn (links.linked.nodes code) node → ⊥
    fresh code other there = elsewhere code node other there node_in

    cut : (others : List ℕ) × IsLess others (links.linked.nodes walked) node ×
        IsRelinked (heads_relinked heads walked before (get_or next node 0)) (next_relinked next before (get_or next node 0)) walked before links.linked.nodes others rest
    cut = relinked heads next walked before node (links.linked.nodes walked) rest links.linked.nodes links.walked_low (links.linked.chains walked) here_chain
        (subst (λ (xs : List ℕ). IsLeft before (links.linked.nodes walked) xs) (left_is (node ∷ rest) begins) (walk.2))
        (λ code _. links.linked.chains code) elsewhere

    module _ (heads_now next_now : List ℕ) (heads_are : heads_now ≡ heads_relinked heads walked before (get_or next node 0))
        (next_are : next_now ≡ next_relinked next before (get_or next node 0)) where
      now : IsRelinked heads_now next_now walked before links.linked.nodes (cut.0) rest
      now = rw (heads_are, next_are) (cut.2)

      pub counts : (length heads_now ≡ length heads) × (length next_now ≡ length next)
      counts = rw (heads_are, next_are) (counts_of before)
        where
          counts_of : (b : ℕ) → (length (heads_relinked heads walked b (get_or next node 0)) ≡ length heads) × (length (next_relinked next b (get_or next node 0)) ≡ length next)
          counts_of zero = (length-set heads walked (get_or next node 0), refl)
          counts_of (suc b) = (refl, length-set next b (get_or next node 0))

      -- the last node is in no chain any more, and the lists end before it
      module _ (last : suc node ≡ length next) where
        cut_short : (head : ℕ) (xs : List ℕ) → IsChain next_now head xs → (IsIn xs node → ⊥) → IsChain (take node next_now) head xs
        cut_short head xs chain not_here = chain_take next_now head xs node (last ∙ sym (counts.1)) chain not_here

        watched_short : (m : ℕ) → m < node → watched_at (take node watched) m ≡ watched_at watched m
        watched_short m low = get_or-take node watched m no_literal low

        watching_short : (n m : ℕ) → IsIn (links.linked.nodes n) m → m ≢ node → code_of (watched_at (take node watched) m) ≡ n
        watching_short n m here other =
            let within : m < length next = chain_within next (get_or heads n 0) (links.linked.nodes n) m (links.linked.chains n) here in
            ap code_of (watched_short m (omega arith)) ∙ links.linked.watching n m here

        chains_removed : (n : ℕ) → IsChain (take node next_now) (get_or heads_now n 0) (changed walked walked (cut.0) (cut.0) links.linked.nodes n)
        chains_removed =
            let here : IsChain (take node next_now) (get_or heads_now walked 0) (cut.0) = cut_short (get_or heads_now walked 0) (cut.0) now.chain (cut.1).once in
            changed_each (λ (n : ℕ) (xs : List ℕ). IsChain (take node next_now) (get_or heads_now n 0) xs) walked walked (cut.0) (cut.0) links.linked.nodes here here
            (λ n other _. cut_short (get_or heads_now n 0) (links.linked.nodes n) (now.apart n other) (fresh n other))

        watching_removed : (n : ℕ) → (m : ℕ) → IsIn (changed walked walked (cut.0) (cut.0) links.linked.nodes n) m → code_of (watched_at (take node watched) m) ≡ n
        watching_removed =
            changed_each (λ (n : ℕ) (xs : List ℕ). (m : ℕ) → IsIn xs m → code_of (watched_at (take node watched) m) ≡ n) walked walked (cut.0) (cut.0) links.linked.nodes
            here here (λ n other _ m there. watching_short n m there (λ e. fresh n other (subst (λ (k : ℕ). IsIn (links.linked.nodes n) k) e there)))
          where
            here : (m : ℕ) → IsIn (cut.0) m → code_of (watched_at (take node watched) m) ≡ walked
            here m there = watching_short walked m ((cut.1).wider m there) (λ e. (cut.1).once (subst (λ (k : ℕ). IsIn (cut.0) k) e there))

        listed_removed : (m : ℕ) → m < node → IsIn (changed walked walked (cut.0) (cut.0) links.linked.nodes (code_of (watched_at (take node watched) m))) m
        listed_removed m low = rw (watched_short m low) (still (code_of (watched_at watched m)) (links.linked.listed m (omega arith)))
          where
            still : (n : ℕ) → IsIn (links.linked.nodes n) m → IsIn (changed walked walked (cut.0) (cut.0) links.linked.nodes n) m
            still n here = elim (eqb_tells n walked) [
              | inl same ↦ rw (same.1) (rw (changed_second walked walked (cut.0) (cut.0) links.linked.nodes)
                  (elim ((cut.1).narrower m (subst (λ (k : ℕ). IsIn (links.linked.nodes k) m) (same.1) here)) [
                    | inl is ↦ absurd (omega arith)
                    | inr there ↦ there
                  ]))
              | inr other ↦
                  subst (λ (xs : List ℕ). IsIn xs m) (sym (changed_other walked walked (cut.0) (cut.0) links.linked.nodes n (other.1) (other.1))) here
            ]

        next_short : length (take node next_now) ≡ node
        next_short = let same = counts.1 in length-take-le node next_now (omega arith)

        watched_count : length (take node watched) ≡ node
        watched_count = let count = links.next_count in length-take-le node watched (omega arith)

        pub links_removed : AreLinks variables heads_now (take node next_now) (take node watched) 0 0
        links_removed = record {
          variables_few = links.variables_few;
          heads_count = counts.0 ∙ links.heads_count;
          next_count = next_short ∙ sym watched_count;
          next_few = let few = links.next_few in let count = next_short in omega arith;
          over = λ m within.
              let count = watched_count in
              let before_count = links.next_count in
              let low : m < node = omega arith in
              rw (watched_short m low) (links.over m (omega arith));
          walked_low = let count = links.heads_count in let same = counts.0 in omega arith;
          linked = record {
            nodes = changed walked walked (cut.0) (cut.0) links.linked.nodes;
            chains = chains_removed;
            watching = watching_removed;
            listed = λ m within. listed_removed m (subst (λ (n : ℕ). m < n) next_short within);
            passed = λ m none. absurd (omega arith);
          };
        }

      module _ (literal : Literal) (over : IsLiteralOver variables literal) (apart : watched_at watched node ≢ literal) where
        pub code_low : code_of literal < length heads
        code_low = within_heads literal over

        code_apart : code_of literal ≢ walked
        code_apart same = apart (code_injective (watched_at watched node) literal (node_code ∙ sym same))

        module _ (mark : ℕ) (mark_is : mark ≡ suc node) (link : ℕ) (link_is : link ≡ get_or heads_now (code_of literal) 0) where
          -- a chain that the node is not in
          kept : (head : ℕ) (xs : List ℕ) → IsChain next_now head xs → (IsIn xs node → ⊥) → IsChain (set next_now node link) head xs
          kept head xs chain not_here = chain_set next_now head xs node link chain not_here

          head_kept : (code : ℕ) → code ≢ code_of literal → get_or (set heads_now (code_of literal) mark) code 0 ≡ get_or heads_now code 0
          head_kept code other = get_or-set_other heads_now (code_of literal) code mark 0 other

          watched_kept : (m : ℕ) → m ≢ node → watched_at (set watched node literal) m ≡ watched_at watched m
          watched_kept m other = get_or-set_other watched node m literal no_literal other

          watched_now : watched_at (set watched node literal) node ≡ literal
          watched_now = get_or-set_same watched node literal no_literal (node_within.1)

          nodes_moved : ℕ → List ℕ
          nodes_moved = changed walked (code_of literal) (cut.0) (node ∷ links.linked.nodes (code_of literal)) links.linked.nodes

          walked_is : changed walked (code_of literal) (cut.0) (node ∷ links.linked.nodes (code_of literal)) links.linked.nodes walked ≡ cut.0
          walked_is = changed_first walked (code_of literal) (cut.0) (node ∷ links.linked.nodes (code_of literal)) links.linked.nodes (λ e. code_apart (sym e))

          code_is : changed walked (code_of literal) (cut.0) (node ∷ links.linked.nodes (code_of literal)) links.linked.nodes (code_of literal) ≡ node ∷ links.linked.nodes (code_of literal)
          code_is = changed_second walked (code_of literal) (cut.0) (node ∷ links.linked.nodes (code_of literal)) links.linked.nodes

          chains_moved : (n : ℕ) → IsChain (set next_now node link) (get_or (set heads_now (code_of literal) mark) n 0)
              (changed walked (code_of literal) (cut.0) (node ∷ links.linked.nodes (code_of literal)) links.linked.nodes n)
          chains_moved =
              let same_count = counts in
              let within : node < length next = node_within.0 in
              let low : code_of literal < length heads = code_low in
              let count : length (set next_now node link) ≡ length next_now = length-set next_now node link in
              let tail : IsChain (set next_now node link) (get_or (set next_now node link) node 0) (links.linked.nodes (code_of literal)) =
              rw (get_or-set_same next_now node link 0 (omega (arith, same_count.1)))
              (subst (λ (head : ℕ). IsChain (set next_now node link) head (links.linked.nodes (code_of literal))) (sym link_is)
              (kept (get_or heads_now (code_of literal) 0) (links.linked.nodes (code_of literal)) (now.apart (code_of literal) code_apart) (fresh (code_of literal) code_apart))) in
              changed_each (λ (n : ℕ) (xs : List ℕ). IsChain (set next_now node link) (get_or (set heads_now (code_of literal) mark) n 0) xs) walked (code_of literal)
              (cut.0) (node ∷ links.linked.nodes (code_of literal)) links.linked.nodes
              (rw (head_kept walked (λ e. code_apart (sym e))) (kept (get_or heads_now walked 0) (cut.0) now.chain (cut.1).once))
              (rw (get_or-set_same heads_now (code_of literal) mark 0 (omega (arith, same_count.0))) (mark_is, (omega (arith, same_count.1)), tail))
              (λ n other apart_too. rw (head_kept n apart_too) (kept (get_or heads_now n 0) (links.linked.nodes n) (now.apart n other) (fresh n other)))

          watching_moved : (n : ℕ) → (m : ℕ) → IsIn (changed walked (code_of literal) (cut.0) (node ∷ links.linked.nodes (code_of literal)) links.linked.nodes n) m →
              code_of (watched_at (set watched node literal) m) ≡ n
          watching_moved =
              changed_each (λ (n : ℕ) (xs : List ℕ). (m : ℕ) → IsIn xs m → code_of (watched_at (set watched node literal) m) ≡ n) walked (code_of literal)
              (cut.0) (node ∷ links.linked.nodes (code_of literal)) links.linked.nodes
              (λ m here.
              ap code_of (watched_kept m (λ e. (cut.1).once (subst (λ (k : ℕ). IsIn (cut.0) k) e here))) ∙ links.linked.watching walked m ((cut.1).wider m here))
              behind
              (λ n other _ m here. ap code_of (watched_kept m (λ e. fresh n other (subst (λ (k : ℕ). IsIn (links.linked.nodes n) k) e here))) ∙ links.linked.watching n m here)
            where
              behind : (m : ℕ) → IsIn (node ∷ links.linked.nodes (code_of literal)) m → code_of (watched_at (set watched node literal) m) ≡ code_of literal
              behind m (inl same) = ap code_of (ap (λ (k : ℕ). watched_at (set watched node literal) k) (sym same) ∙ watched_now)
              behind m (inr here) =
                  ap code_of (watched_kept m (λ e. fresh (code_of literal) code_apart (subst (λ (k : ℕ). IsIn (links.linked.nodes (code_of literal)) k) e here))) ∙
                  links.linked.watching (code_of literal) m here

          listed_moved : (m : ℕ) → m < length (set next_now node link) →
              IsIn (changed walked (code_of literal) (cut.0) (node ∷ links.linked.nodes (code_of literal)) links.linked.nodes (code_of (watched_at (set watched node literal) m))) m
          listed_moved m within =
              let same_count = counts in
              let count : length (set next_now node link) ≡ length next_now = length-set next_now node link in
              elim (eqb_tells m node) [
                | inl same ↦
                    let mine : watched_at (set watched node literal) m ≡ literal = ap (λ (k : ℕ). watched_at (set watched node literal) k) (same.1) ∙ watched_now in
                    rw mine (rw code_is (inl (sym (same.1))))
                | inr other ↦
                    rw (watched_kept m (other.1)) (old_listed m (other.1) (code_of (watched_at watched m)) (links.linked.listed m (omega (arith, same_count.1))))
              ]
            where
              old_listed : (m : ℕ) → m ≢ node → (n : ℕ) → IsIn (links.linked.nodes n) m →
                  IsIn (changed walked (code_of literal) (cut.0) (node ∷ links.linked.nodes (code_of literal)) links.linked.nodes n) m
              old_listed m other n here = elim (eqb_tells n walked) [
                | inl same ↦ rw (same.1) (rw walked_is (elim ((cut.1).narrower m (subst (λ (k : ℕ). IsIn (links.linked.nodes k) m) (same.1) here)) [
                  | inl is ↦ absurd (other (sym is))
                  | inr there ↦ there
                ]))
                | inr apart_walked ↦ elim (eqb_tells n (code_of literal)) [
                  | inl same ↦ rw (same.1) (rw code_is (inr (subst (λ (k : ℕ). IsIn (links.linked.nodes k) m) (same.1) here)))
                  | inr apart_code ↦
                      subst (λ (xs : List ℕ). IsIn xs m)
                      (sym (changed_other walked (code_of literal) (cut.0) (node ∷ links.linked.nodes (code_of literal)) links.linked.nodes n (apart_walked.1) (apart_code.1))) here
                ]
              ]

          pub links_moved : AreLinks variables (set heads_now (code_of literal) mark) (set next_now node link) (set watched node literal) walked before
          links_moved = record {
            variables_few = links.variables_few;
            heads_count = length-set heads_now (code_of literal) mark ∙ counts.0 ∙ links.heads_count;
            next_count = length-set next_now node link ∙ counts.1 ∙ links.next_count ∙ sym (length-set watched node literal);
            next_few =
                let same_count = counts in
                let few = links.next_few in
                let count : length (set next_now node link) ≡ length next_now = length-set next_now node link in omega (arith, same_count.1);
            over = λ m within. elim (eqb_tells m node) [
              | inl same ↦ rw (same.1) (rw watched_now over)
              | inr other ↦
                  let count : length (set watched node literal) ≡ length watched = length-set watched node literal in
                  rw (watched_kept m (other.1)) (links.over m (omega arith))
            ];
            walked_low =
                let same_count = counts in
                let low = links.walked_low in
                let count : length (set heads_now (code_of literal) mark) ≡ length heads_now = length-set heads_now (code_of literal) mark in omega (arith, same_count.0);
            linked = record {
              nodes = changed walked (code_of literal) (cut.0) (node ∷ links.linked.nodes (code_of literal)) links.linked.nodes;
              chains = chains_moved;
              watching = watching_moved;
              listed = listed_moved;
              passed = λ m e. rw walked_is (now.passed m e);
            };
          }

          here_moved : (b : ℕ) → IsChain next_now (link_at heads_now next_now walked b) rest → ((m : ℕ) → b ≡ suc m → IsIn (cut.0) m) →
              IsChain (set next_now node link) (link_at (set heads_now (code_of literal) mark) (set next_now node link) walked b) rest
          here_moved zero chain passed =
              rw (head_kept walked (λ e. code_apart (sym e))) (kept (get_or heads_now walked 0) rest chain (first_once next (link_at heads next walked before) node rest here_chain))
          here_moved (suc b) chain passed =
              rw (get_or-set_other next_now node b link 0 (λ e. (cut.1).once (subst (λ (k : ℕ). IsIn (cut.0) k) e (passed b refl))))
              (kept (get_or next_now b 0) rest chain (first_once next (link_at heads next walked before) node rest here_chain))

          pub chain_moved : chain_of (length (set next_now node link)) (set next_now node link)
              (link_at (set heads_now (code_of literal) mark) (set next_now node link) walked before) ≡ rest
          chain_moved = chain_is (set next_now node link) (link_at (set heads_now (code_of literal) mark) (set next_now node link) walked before) rest
              (here_moved before now.here now.passed)

-- ---- two nodes are added

module _ (variables : ℕ) (heads next : List ℕ) (watched : List Literal) (walked before : ℕ) (links : AreLinks variables heads next watched walked before)
    (a b : Literal) (a_over : IsLiteralOver variables a) (b_over : IsLiteralOver variables b) (apart : a ≢ b)
    (few : length watched < 4294966000) (one two : ℕ) (one_is : one ≡ get_or heads (code_of a) 0) (two_is : two ≡ get_or heads (code_of b) 0)
    (first second : ℕ) (first_is : first ≡ suc (length watched)) (second_is : second ≡ suc (suc (length watched))) where
  next_then : length (next ++ one ∷ two ∷ []) ≡ length watched + 2
  next_then = let count = links.next_count in omega (arith, length-append next (one ∷ two ∷ []))

  codes_apart : code_of a ≢ code_of b
  codes_apart same = apart (code_injective a b same)

  pub codes_low : (code_of a < length heads) × (code_of b < length heads)
  codes_low =
      let count = links.heads_count in
      let a_bounds = code_bounds variables a a_over in
      let b_bounds = code_bounds variables b b_over in
      ((omega (arith, a_bounds.1)), omega (arith, b_bounds.1))

  read_first : get_or (next ++ one ∷ two ∷ []) (length watched) 0 ≡ one
  read_first = subst (λ (n : ℕ). get_or (next ++ one ∷ two ∷ []) n 0 ≡ one) (add_zero_is ∙ links.next_count) (get_or-append-add next (one ∷ two ∷ []) 0 0)
    where
      add_zero_is : length next + 0 ≡ length next
      add_zero_is = omega arith

  read_second : get_or (next ++ one ∷ two ∷ []) (suc (length watched)) 0 ≡ two
  read_second = subst (λ (n : ℕ). get_or (next ++ one ∷ two ∷ []) n 0 ≡ two) add_one_is (get_or-append-add next (one ∷ two ∷ []) 1 0)
    where
      add_one_is : length next + 1 ≡ suc (length watched)
      add_one_is = let count = links.next_count in omega arith

  watched_first : watched_at (watched ++ a ∷ b ∷ []) (length watched) ≡ a
  watched_first = subst (λ (n : ℕ). watched_at (watched ++ a ∷ b ∷ []) n ≡ a) add_zero_is (get_or-append-add watched (a ∷ b ∷ []) 0 no_literal)
    where
      add_zero_is : length watched + 0 ≡ length watched
      add_zero_is = omega arith

  watched_second : watched_at (watched ++ a ∷ b ∷ []) (suc (length watched)) ≡ b
  watched_second = subst (λ (n : ℕ). watched_at (watched ++ a ∷ b ∷ []) n ≡ b) add_one_is (get_or-append-add watched (a ∷ b ∷ []) 1 no_literal)
    where
      add_one_is : length watched + 1 ≡ suc (length watched)
      add_one_is = omega arith

  watched_before : (m : ℕ) → m < length next → watched_at (watched ++ a ∷ b ∷ []) m ≡ watched_at watched m
  watched_before m low = let count = links.next_count in get_or_append_left watched (a ∷ b ∷ []) no_literal m (omega arith)

  old_low : (n m : ℕ) → IsIn (links.linked.nodes n) m → m < length next
  old_low n m here = chain_within next (get_or heads n 0) (links.linked.nodes n) m (links.linked.chains n) here

  chain_old : (n : ℕ) → IsChain (next ++ one ∷ two ∷ []) (get_or heads n 0) (links.linked.nodes n)
  chain_old n = chain_append next (one ∷ two ∷ []) (get_or heads n 0) (links.linked.nodes n) (links.linked.chains n)

  chains_added : (n : ℕ) → IsChain (next ++ one ∷ two ∷ []) (get_or (set (set heads (code_of a) first) (code_of b) second) n 0)
      (changed (code_of a) (code_of b) (length watched ∷ links.linked.nodes (code_of a)) (suc (length watched) ∷ links.linked.nodes (code_of b)) links.linked.nodes n)
  chains_added n =
      let count = next_then in
      subst (λ (head : ℕ). IsChain (next ++ one ∷ two ∷ []) head
      (changed (code_of a) (code_of b) (length watched ∷ links.linked.nodes (code_of a)) (suc (length watched) ∷ links.linked.nodes (code_of b)) links.linked.nodes n))
      (sym (written heads (code_of a) (code_of b) first second (codes_low.0) (codes_low.1) n))
      (changed_all (λ (n head : ℕ) (list : List ℕ). IsChain (next ++ one ∷ two ∷ []) head list) (code_of a) (code_of b) first second (λ (n : ℕ). get_or heads n 0)
      (length watched ∷ links.linked.nodes (code_of a)) (suc (length watched) ∷ links.linked.nodes (code_of b)) links.linked.nodes
      (first_is, (omega arith), subst (λ (head : ℕ). IsChain (next ++ one ∷ two ∷ []) head (links.linked.nodes (code_of a))) (sym (read_first ∙ one_is)) (chain_old (code_of a)))
      (second_is, (omega arith), subst (λ (head : ℕ). IsChain (next ++ one ∷ two ∷ []) head (links.linked.nodes (code_of b))) (sym (read_second ∙ two_is)) (chain_old (code_of b)))
      (λ n _ _. chain_old n) n)

  watching_added : (n : ℕ) → (m : ℕ) →
      IsIn (changed (code_of a) (code_of b) (length watched ∷ links.linked.nodes (code_of a)) (suc (length watched) ∷ links.linked.nodes (code_of b)) links.linked.nodes n) m →
      code_of (watched_at (watched ++ a ∷ b ∷ []) m) ≡ n
  watching_added = changed_each (λ (n : ℕ) (xs : List ℕ). (m : ℕ) → IsIn xs m → code_of (watched_at (watched ++ a ∷ b ∷ []) m) ≡ n) (code_of a) (code_of b)
      (length watched ∷ links.linked.nodes (code_of a)) (suc (length watched) ∷ links.linked.nodes (code_of b)) links.linked.nodes one_of two_of
      (λ n _ _ m here. old_of n m here)
    where
      old_of : (n m : ℕ) → IsIn (links.linked.nodes n) m → code_of (watched_at (watched ++ a ∷ b ∷ []) m) ≡ n
      old_of n m here = ap code_of (watched_before m (old_low n m here)) ∙ links.linked.watching n m here

      one_of : (m : ℕ) → IsIn (length watched ∷ links.linked.nodes (code_of a)) m → code_of (watched_at (watched ++ a ∷ b ∷ []) m) ≡ code_of a
      one_of m (inl same) = ap code_of (ap (λ (k : ℕ). watched_at (watched ++ a ∷ b ∷ []) k) (sym same) ∙ watched_first)
      one_of m (inr here) = ap code_of (watched_before m (old_low (code_of a) m here)) ∙ links.linked.watching (code_of a) m here

      two_of : (m : ℕ) → IsIn (suc (length watched) ∷ links.linked.nodes (code_of b)) m → code_of (watched_at (watched ++ a ∷ b ∷ []) m) ≡ code_of b
      two_of m (inl same) = ap code_of (ap (λ (k : ℕ). watched_at (watched ++ a ∷ b ∷ []) k) (sym same) ∙ watched_second)
      two_of m (inr here) = ap code_of (watched_before m (old_low (code_of b) m here)) ∙ links.linked.watching (code_of b) m here

  first_nodes : changed (code_of a) (code_of b) (length watched ∷ links.linked.nodes (code_of a)) (suc (length watched) ∷ links.linked.nodes (code_of b)) links.linked.nodes (code_of a) ≡
      length watched ∷ links.linked.nodes (code_of a)
  first_nodes = changed_first (code_of a) (code_of b) (length watched ∷ links.linked.nodes (code_of a)) (suc (length watched) ∷ links.linked.nodes (code_of b)) links.linked.nodes codes_apart

  second_nodes : changed (code_of a) (code_of b) (length watched ∷ links.linked.nodes (code_of a)) (suc (length watched) ∷ links.linked.nodes (code_of b)) links.linked.nodes (code_of b) ≡
      suc (length watched) ∷ links.linked.nodes (code_of b)
  second_nodes = changed_second (code_of a) (code_of b) (length watched ∷ links.linked.nodes (code_of a)) (suc (length watched) ∷ links.linked.nodes (code_of b)) links.linked.nodes

  old_added : (n m : ℕ) → IsIn (links.linked.nodes n) m →
      IsIn (changed (code_of a) (code_of b) (length watched ∷ links.linked.nodes (code_of a)) (suc (length watched) ∷ links.linked.nodes (code_of b)) links.linked.nodes n) m
  old_added n m here = elim (eqb_tells n (code_of a)) [
    | inl same ↦ rw (same.1) (rw first_nodes (inr (subst (λ (k : ℕ). IsIn (links.linked.nodes k) m) (same.1) here)))
    | inr not_a ↦ elim (eqb_tells n (code_of b)) [
      | inl same ↦ rw (same.1) (rw second_nodes (inr (subst (λ (k : ℕ). IsIn (links.linked.nodes k) m) (same.1) here)))
      | inr not_b ↦ subst (λ (xs : List ℕ). IsIn xs m)
          (sym (changed_other (code_of a) (code_of b) (length watched ∷ links.linked.nodes (code_of a)) (suc (length watched) ∷ links.linked.nodes (code_of b)) links.linked.nodes n
          (not_a.1) (not_b.1))) here
    ]
  ]

  listed_added : (m : ℕ) → m < length (next ++ one ∷ two ∷ []) →
      IsIn (changed (code_of a) (code_of b) (length watched ∷ links.linked.nodes (code_of a)) (suc (length watched) ∷ links.linked.nodes (code_of b)) links.linked.nodes
      (code_of (watched_at (watched ++ a ∷ b ∷ []) m))) m
  listed_added m within =
      let count = next_then in
      let next_count = links.next_count in
      elim (leb_tells (length next) m) [
        | inr before ↦ let low : m < length next = before.1 in
            rw (watched_before m low) (old_added (code_of (watched_at watched m)) m (links.linked.listed m low))
        | inl past ↦ let far : length next ≤ m = past.1 in elim (eqb_tells m (length watched)) [
          | inl same ↦ rw (same.1) (rw watched_first (rw first_nodes (inl refl)))
          | inr other ↦
              let not_first : m ≢ length watched = other.1 in
              let is : m ≡ suc (length watched) = omega arith in
              rw is (rw watched_second (rw second_nodes (inl refl)))
        ]
      ]

  over_added : (m : ℕ) → m < length (watched ++ a ∷ b ∷ []) → IsLiteralOver variables (watched_at (watched ++ a ∷ b ∷ []) m)
  over_added m within = elim (leb_tells (length watched) m) [
    | inl past ↦
        let count : length (watched ++ a ∷ b ∷ []) ≡ length watched + 2 = length-append watched (a ∷ b ∷ []) in
        let far : length watched ≤ m = past.1 in
        at (m - length watched) (omega arith) (omega arith)
    | inr before ↦ let near : m < length watched = before.1 in rw (get_or_append_left watched (a ∷ b ∷ []) no_literal m near) (links.over m near)
  ]
    where
      at : (k : ℕ) → m ≡ length watched + k → k < 2 → IsLiteralOver variables (watched_at (watched ++ a ∷ b ∷ []) m)
      at zero is few = rw is (rw (get_or-append-add watched (a ∷ b ∷ []) 0 no_literal) a_over)
      at (suc zero) is few = rw is (rw (get_or-append-add watched (a ∷ b ∷ []) 1 no_literal) b_over)
      at (suc (suc k)) is few = absurd (omega arith)

  pub links_added : AreLinks variables (set (set heads (code_of a) first) (code_of b) second) (next ++ one ∷ two ∷ []) (watched ++ a ∷ b ∷ []) 0 0
  links_added = record {
    variables_few = links.variables_few;
    heads_count = length-set (set heads (code_of a) first) (code_of b) second ∙ length-set heads (code_of a) first ∙ links.heads_count;
    next_count = next_then ∙ sym (length-append watched (a ∷ b ∷ []));
    next_few = let count = next_then in omega arith;
    over = over_added;
    walked_low =
        let count = links.heads_count in
        let one_count : length (set heads (code_of a) first) ≡ length heads = length-set heads (code_of a) first in
        let two_count : length (set (set heads (code_of a) first) (code_of b) second) ≡ length (set heads (code_of a) first) =
        length-set (set heads (code_of a) first) (code_of b) second in omega arith;
    linked = record {
      nodes = changed (code_of a) (code_of b) (length watched ∷ links.linked.nodes (code_of a)) (suc (length watched) ∷ links.linked.nodes (code_of b)) links.linked.nodes;
      chains = chains_added;
      watching = watching_added;
      listed = listed_added;
      passed = λ m none. absurd (omega arith);
    };
  }

-- ---- links of no clause

pub links_made : (variables : ℕ) → variables ≤ 4000000 → AreLinks variables (replicate (2 * variables + 2) 0) [] [] 0 0
links_made variables few = record {
  variables_few = few;
  heads_count = length-replicate (2 * variables + 2) 0;
  next_count = refl;
  next_few = omega arith;
  over = λ node within. absurd (omega arith);
  walked_low = rw (length-replicate {A = ℕ} (2 * variables + 2) 0) (omega arith);
  linked = record {
    nodes = λ _. [];
    chains = λ code. all_zero (2 * variables + 2) code;
    watching = λ code node here. elim here [ ];
    listed = λ node within. absurd (omega arith);
    passed = λ node none. absurd (omega arith);
  };
}
  where
    all_zero : (n k : ℕ) → get_or {A = ℕ} (replicate n 0) k 0 ≡ 0
    all_zero zero k = refl
    all_zero (suc n) zero = refl
    all_zero (suc n) (suc k) = all_zero n k
