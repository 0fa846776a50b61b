-- A walk over a term from its end: what holds between two operands, and what follows at the last.
use Rattle.std.proofs.Common.{◌≡◌, ℕ, ◌+◌, ◌-◌, ◌<◌, ◌≤◌, Bool, List, [], ◌∷◌, ◌++◌, length, take, drop, get_or, refl, ap, sym, ◌∙◌, append_assoc, length-append, arith}
use Rattle.std.specs.Int.{from_bool}
use Rattle.std.proofs.Math.Seq.{take-append_seam, get_or-append_seam}
use Rattle.std.proofs.lemmas.List.{take-append-drop, length-take-le}
use Rattle.cc_defs.specs.declared.node.Node.{Node}
use Rattle.cc_defs.specs.declared.node.Node.TheVariants as nodes
use Rattle.cc_defs.specs.Terms.{Ground, Operands, nothing, and_then, operand_count, postfix, postfixes, truth}
use Rattle.cc_arena.specs.Walks.{arity, decision, EndsOperand, IsWalked}
use Rattle.cc_arena.proofs.Formulas.{top, below, splits_after, count_is_arity, postfixes_are_one, true_count, truth_is_decided}

-- Before the operand that ends at `at`: `done` operands are walked, and `trues` of them are true. The operands of the
-- node at `whole` begin behind `prefix`.
pub record Midway (valuation : ℕ → ℕ) (term : List Node) (whole at count done trues : ℕ) : Type 0 where
  pub prefix : List Node
  pub operands : Operands
  pub left : Operands
  pub reads : take whole term ≡ prefix ++ postfixes operands
  pub counted : operand_count operands ≡ count
  pub reads_left : take at term ≡ prefix ++ postfixes left
  pub counted_left : operand_count left + done ≡ count
  pub trues_left : true_count valuation left + trues ≡ true_count valuation operands

-- a list that begins with xs ++ ys has xs before the length of xs
front_of_take : {A : Type 0} → (l : List A) (end at : ℕ) (xs ys : List A) → take end l ≡ xs ++ ys → at ≡ length xs → take at l ≡ xs
front_of_take l end at xs ys e n =
    let whole : l ≡ xs ++ (ys ++ drop end l) = sym (take-append-drop end l) ∙ ap (λ z. z ++ drop end l) e ∙ append_assoc xs ys (drop end l) in
    ap (λ k. take k l) n ∙ ap (take (length xs)) whole ∙ take-append_seam xs (ys ++ drop end l)

-- a list that begins with xs and x has x at the length of xs
last_of_take : {A : Type 0} → (l : List A) (end at : ℕ) (xs : List A) (x d : A) → take end l ≡ xs ++ (x ∷ []) → at ≡ length xs → get_or l at d ≡ x
last_of_take l end at xs x d e n =
    let whole : l ≡ xs ++ (x ∷ drop end l) = sym (take-append-drop end l) ∙ ap (λ z. z ++ drop end l) e ∙ append_assoc xs (x ∷ []) (drop end l) in
    ap (λ k. get_or l k d) n ∙ ap (λ z. get_or z (length xs) d) whole ∙ get_or-append_seam xs x (drop end l) d

-- how long a front is that lies within the list
length_of_take : {A : Type 0} → (l : List A) (end : ℕ) (xs ys : List A) → end ≤ length l → take end l ≡ xs ++ ys → end ≡ length xs + length ys
length_of_take l end xs ys h e = sym (length-take-le end l h) ∙ ap length e ∙ length-append xs ys

-- a formula that ends here has its last node here, and its operands before it
pub record NodeHere (term : List Node) (end : ℕ) (prefix : List Node) (formula : Ground) : Type 0 where
  pub some : 0 < end
  pub reads : take (end - 1) term ≡ prefix ++ postfixes (below formula)
  pub node : get_or term (end - 1) nodes.True ≡ top formula

pub node_here : (term : List Node) (end : ℕ) (prefix : List Node) (formula : Ground) → end ≤ length term → take end term ≡ prefix ++ postfix formula → NodeHere term end prefix formula
node_here term end prefix formula h e =
    let xs = prefix ++ postfixes (below formula) in
    let split : take end term ≡ xs ++ (top formula ∷ []) = e ∙ splits_after prefix formula in
    let long : end ≡ length xs + 1 = length_of_take term end xs (top formula ∷ []) h split in
    let at : end - 1 ≡ length xs = omega arith in
    record {
      some = omega arith;
      reads = front_of_take term end (end - 1) xs (top formula ∷ []) split at;
      node = last_of_take term end (end - 1) xs (top formula) nodes.True split at;
    }

-- before the first operand that is walked, none of them are walked
pub begins : (valuation : ℕ → ℕ) (term : List Node) (end : ℕ) → EndsOperand term end → end ≤ length term → Midway valuation term (end - 1) (end - 1) (arity (get_or term (end - 1) nodes.True)) 0 0
begins valuation term end (prefix, formula, e) h =
    let here = node_here term end prefix formula h e in
    let counted : operand_count (below formula) ≡ arity (get_or term (end - 1) nodes.True) = count_is_arity formula ∙ ap arity (sym here.node) in
    record {
      prefix = prefix;
      operands = below formula;
      left = below formula;
      reads = here.reads;
      counted = counted;
      reads_left = here.reads;
      counted_left = omega arith;
      trues_left = omega arith;
    }

-- there is a last node
pub has_node : (term : List Node) (end : ℕ) → EndsOperand term end → end ≤ length term → 0 < end
has_node term end (prefix, formula, e) h = (node_here term end prefix formula h e).some

-- one more operand, where the operands that are left are known
pub record Next (term prefix : List Node) (at : ℕ) (left : Operands) : Type 0 where
  pub front : Operands
  pub last : Ground
  pub is : left ≡ and_then front last
  pub reads : take at term ≡ (prefix ++ postfixes front) ++ postfix last

-- while fewer are walked than there are, there is one more
next : (term prefix : List Node) (at done count : ℕ) (left : Operands) → operand_count left + done ≡ count → done < count → take at term ≡ prefix ++ postfixes left → Next term prefix at left
next term prefix at done count nothing n h e = absurd (omega arith)
next term prefix at done count (and_then front last) n h e = record { front = front; last = last; is = refl; reads = e ∙ sym (append_assoc prefix (postfixes front) (postfix last)) }

-- so the next operand may be walked
pub next_ends : {valuation : ℕ → ℕ} {term : List Node} {whole at count done trues : ℕ} → Midway valuation term whole at count done trues → done < count → EndsOperand term at
next_ends {valuation} {term} {whole} {at} {count} {done} {trues} m h =
    let n = next term m.prefix at done count m.left m.counted_left h m.reads_left in
    (m.prefix ++ postfixes n.front, n.last, n.reads)

-- a walk over it leads on to the one before it
pub steps : {valuation : ℕ → ℕ} {term : List Node} {whole at count done trues : ℕ} → Midway valuation term whole at count done trues → done < count → (holds : Bool) (start : ℕ) → IsWalked term valuation at holds start → (added : ℕ) → added ≡ from_bool holds → Midway valuation term whole start count (done + 1) (trues + added)
steps {valuation} {term} {whole} {at} {count} {done} {trues} m h holds start walked added added_is =
    let n = next term m.prefix at done count m.left m.counted_left h m.reads_left in
    let w = walked (m.prefix ++ postfixes n.front) n.last n.reads in
    let counts : operand_count m.left ≡ operand_count n.front + 1 = ap operand_count n.is in
    let trues_of : true_count valuation m.left ≡ true_count valuation n.front + from_bool (truth valuation n.last) = ap (true_count valuation) n.is in
    let holds_is : from_bool holds ≡ from_bool (truth valuation n.last) = ap from_bool w.0 in
    record {
      prefix = m.prefix;
      operands = m.operands;
      left = n.front;
      reads = m.reads;
      counted = m.counted;
      reads_left = front_of_take term at start (m.prefix ++ postfixes n.front) (postfix n.last) n.reads w.1;
      counted_left = omega (arith, m.counted_left);
      trues_left = omega (arith, m.trues_left);
    }

-- and it begins no later than it ends
pub start_le : {valuation : ℕ → ℕ} {term : List Node} {whole at count done trues : ℕ} → Midway valuation term whole at count done trues → done < count → (holds : Bool) (start : ℕ) → IsWalked term valuation at holds start → at ≤ length term → start ≤ at
start_le {valuation} {term} {whole} {at} {count} {done} {trues} m h holds start walked k =
    let n = next term m.prefix at done count m.left m.counted_left h m.reads_left in
    let w = walked (m.prefix ++ postfixes n.front) n.last n.reads in
    omega (arith, w.1, length_of_take term at (m.prefix ++ postfixes n.front) (postfix n.last) k n.reads)

-- no operands, where none are left
none_left : (left : Operands) → operand_count left ≡ 0 → left ≡ nothing
none_left nothing e = refl
none_left (and_then a f) e = absurd (omega arith)

-- where all of them are walked, the node and the number of the true ones decide for each formula that ends here
pub ends : {valuation : ℕ → ℕ} {term : List Node} {end at done trues : ℕ} → Midway valuation term (end - 1) at (arity (get_or term (end - 1) nodes.True)) done trues → arity (get_or term (end - 1) nodes.True) ≤ done → end ≤ length term → at ≤ length term → IsWalked term valuation end (decision valuation (get_or term (end - 1) nodes.True) trues) at
ends {valuation} {term} {end} {at} {done} {trues} m h within at_within prefix formula e =
    let here = node_here term end prefix formula within e in
    let none = none_left m.left (omega (arith, m.counted_left)) in
    let counts : operand_count m.operands ≡ operand_count (below formula) = m.counted ∙ ap arity here.node ∙ sym (count_is_arity formula) in
    let same = postfixes_are_one m.operands m.prefix prefix (below formula) counts (sym m.reads ∙ here.reads) in
    let trues_are : trues ≡ true_count valuation (below formula) = omega (arith, m.trues_left, ap (true_count valuation) none, ap (true_count valuation) same.1) in
    let begin : at ≡ length m.prefix + 0 = length_of_take term at m.prefix [] at_within (m.reads_left ∙ ap (λ left. m.prefix ++ postfixes left) none) in
    (ap (λ node. decision valuation node trues) here.node ∙ ap (decision valuation (top formula)) trues_are ∙ sym (truth_is_decided valuation formula), omega (arith, begin, ap length same.0))
