-- Loops over the positions of a key.
use Rattle.std.proofs.Common.{◌≡◌, ◌∙◌, ℕ, zero, suc, ◌+◌, ◌-◌, ◌<◌, ◌≤◌, List, [], ◌∷◌, ◌++◌, length, map, refl, sym, ap, arith, append_assoc, append-nil}
use Rattle.std.specs.Prelude.{slice_index}
use Rattle.cc_defs.specs.declared.node.Node.{Node}
use Rattle.cc_defs.specs.declared.node.Node.TheVariants as nodes
use Rattle.cc_defs.specs.declared.refusal.Fault.{Fault}
use Rattle.cc_defs.specs.ClauseLists.{after_key, values_above}
use Rattle.cc_defs.specs.Clauses.{Literal}
use Rattle.cc_defs.specs.Rows.{IsRow}
use Rattle.cc_defs.specs.Rules.{upto}
use Rattle.cc_defs.specs.Terms.{Ground, Operands, nothing, and_then, operand_count, operands_behind, postfix, postfixes}
use Rattle.cc_defs.specs.Terms as terms
use Rattle.cc_form.specs.declared.writer.Writer.{Writer}
use Rattle.cc_form.specs.Machine.{IsPast, IsRan, Ran, run}
use Rattle.cc_form.specs.Making.{key_down, key_part, key_up, nodes_above}
use Rattle.cc_form.proofs.Parts.{front_rises, part_fails, ran_part}
use Rattle.cc_form.proofs.Running.{past_more, run_is}

-- ---- a list that grows by a part a turn

module _ (sizes : List ℕ) (stack : List Literal) (last : ℕ) (whole : ℕ → List Node) (part : ℕ → List Node) (grows : (n : ℕ) → whole (suc n) ≡ whole n ++ part n) where
  rises : (k n : ℕ) → (run sizes (whole n) stack last).last ≤ (run sizes (whole (n + k)) stack last).last
  rises zero n = let same = ap (λ (m : ℕ). (run sizes (whole m) stack last).last) (let e : n ≡ n + 0 = omega arith in e) in omega arith
  rises (suc k) n =
      let more = rises k n in
      let next = front_rises sizes (whole (n + k)) (part (n + k)) stack last in
      let same = ap (λ (t : List Node). (run sizes t stack last).last) (sym (grows (n + k))) in
      let end = ap (λ (m : ℕ). (run sizes (whole m) stack last).last) (let e : suc (n + k) ≡ n + suc k = omega arith in e) in
      omega arith

pub turn_ran : (old now new : Writer) (whole part : ℕ → List Node) (n : ℕ) (own : List Node) → ((m : ℕ) → whole (suc m) ≡ whole m ++ part m) → own ≡ part n →
    IsRan old now (run old.places (whole n) old.stack.items old.last) → IsRan now new (run now.places own now.stack.items now.last) → IsRan old new (run old.places (whole (n + 1)) old.stack.items old.last)
turn_ran old now new whole part n own grows same one other =
    ran_part old now new (whole n) own (whole (n + 1)) (ap (λ (t : List Node). whole n ++ t) same ∙ sym (grows n) ∙ ap whole (let e : suc n ≡ n + 1 = omega arith in e)) one other

pub turn_fails : (old now : Writer) (whole part : ℕ → List Node) (n count : ℕ) (own : List Node) (fault : Fault) → ((m : ℕ) → whole (suc m) ≡ whole m ++ part m) → own ≡ part n → n < count →
    IsRan old now (run old.places (whole n) old.stack.items old.last) → IsPast (run now.places own now.stack.items now.last).last fault → IsPast (run old.places (whole count) old.stack.items old.last).last fault
turn_fails old now whole part n count own fault grows same less one past =
    past_more (run old.places (whole (suc n)) old.stack.items old.last).last (run old.places (whole count) old.stack.items old.last).last fault
    (let up = rises old.places old.stack.items old.last whole part grows (count - suc n) (suc n) in
    let end = ap (λ (m : ℕ). (run old.places (whole m) old.stack.items old.last).last) (let e : suc n + (count - suc n) ≡ count = omega arith in e) in omega arith)
    (part_fails old now (whole n) own [] (whole (suc n)) fault (append-nil (whole n ++ own) ∙ ap (λ (t : List Node). whole n ++ t) same ∙ sym (grows n)) one past)

-- ---- the nodes of a key

atoms_of : (position value n : ℕ) (operands : Operands) (xs : List ℕ) → postfixes (operands_behind operands (map (λ more. terms.Atom position (value + 1 + more)) xs))
    ≡ postfixes operands ++ map (λ more. nodes.Atom position (value + 1 + more)) xs
atoms_of position value n operands [] = sym (append-nil (postfixes operands))
atoms_of position value n operands (x ∷ xs) =
    atoms_of position value n (and_then operands (terms.Atom position (value + 1 + x))) xs ∙ append_assoc (postfixes operands) (nodes.Atom position (value + 1 + x) ∷ []) (map (λ more. nodes.Atom position (value + 1 + more)) xs)

count_of : (position value : ℕ) (operands : Operands) (xs : List ℕ) → operand_count (operands_behind operands (map (λ more. terms.Atom position (value + 1 + more)) xs)) ≡ operand_count operands + length xs
count_of position value operands [] = omega arith
count_of position value operands (x ∷ xs) = let more = count_of position value (and_then operands (terms.Atom position (value + 1 + x))) xs in omega arith

upto_long : (n : ℕ) → length (upto n) ≡ n
upto_long zero = refl
upto_long (suc n) = long (upto n) ∙ ap (λ (k : ℕ). k + 1) (upto_long n) ∙ omega arith
  where
    long : (xs : List ℕ) → length (xs ++ n ∷ []) ≡ length xs + 1
    long [] = omega arith
    long (x ∷ xs) = let more = long xs in omega arith

-- from a position on
down_from : ℕ → List ℕ → List ℕ → List Node
down_from position [] row = []
down_from position (size ∷ sizes) [] = []
down_from position (size ∷ sizes) (index ∷ row) = key_part position size index ++ down_from (position + 1) sizes row

nodes_from : (sizes row : List ℕ) (position : ℕ) → IsRow sizes row → postfix (after_key position sizes row) ≡ down_from position sizes row ++ nodes.False ∷ [] ++ key_up (length row)
unfolding down_from
nodes_from [] [] position is = refl
nodes_from [] (index ∷ row) position is = absurd is
nodes_from (size ∷ sizes) [] position is = absurd is
nodes_from (size ∷ sizes) (index ∷ row) position is =
    let n = size - (index + 1) in
    let rest = postfix (after_key (position + 1) sizes row) in
    let above : postfixes (operands_behind nothing (values_above position index size)) ≡ nodes_above position index n = atoms_of position index n nothing (upto n) in
    let count : operand_count (operands_behind nothing (values_above position index size)) ≡ n = (let c = count_of position index nothing (upto n) in let long = upto_long n in omega arith) in
    let part = nodes_above position index n ++ nodes.Any n ∷ [] in
    let down = down_from (position + 1) sizes row in
    ap (λ (t : List Node). (t ++ nodes.Any (operand_count (operands_behind nothing (values_above position index size))) ∷ []) ++ ((nodes.Atom position index ∷ rest) ++ nodes.All 2 ∷ []) ++ nodes.Any 2 ∷ []) above
    ∙ ap (λ (k : ℕ). (nodes_above position index n ++ nodes.Any k ∷ []) ++ ((nodes.Atom position index ∷ rest) ++ nodes.All 2 ∷ []) ++ nodes.Any 2 ∷ []) count
    ∙ ap (λ (t : List Node). part ++ ((nodes.Atom position index ∷ t) ++ nodes.All 2 ∷ []) ++ nodes.Any 2 ∷ []) (nodes_from sizes row (position + 1) is.1)
    ∙ turned part down (nodes.Atom position index) (nodes.False ∷ []) (key_up (length row)) (nodes.All 2) (nodes.Any 2)
  where
    turned : (p d : List Node) (a : Node) (f u : List Node) (x y : Node) → p ++ ((a ∷ (d ++ f ++ u)) ++ x ∷ []) ++ y ∷ [] ≡ (p ++ a ∷ []) ++ d ++ f ++ (u ++ x ∷ y ∷ [])
    turned p d a f u x y =
        append_assoc p ((a ∷ (d ++ f ++ u)) ++ x ∷ []) (y ∷ [])
        ∙ ap (λ (t : List Node). p ++ (a ∷ t)) (append_assoc (d ++ f ++ u) (x ∷ []) (y ∷ []) ∙ append_assoc (d ++ f) u (x ∷ y ∷ []))
        ∙ sym (append_assoc p (a ∷ []) (d ++ f ++ (u ++ x ∷ y ∷ [])))
        ∙ sym (append_assoc (p ++ a ∷ []) (d ++ f) (u ++ x ∷ y ∷ [])) ∙ ap (λ (t : List Node). t ++ (u ++ x ∷ y ∷ [])) (sym (append_assoc (p ++ a ∷ []) d f))

-- the same from the front
module _ (all whole : List ℕ) where
  behind_from : (sizes row : List ℕ) (position : ℕ) → IsRow sizes row → ((k : ℕ) → slice_index all (position + k) ≡ slice_index sizes k) → ((k : ℕ) → slice_index whole (position + k) ≡ slice_index row k) →
      key_down all whole position ++ down_from position sizes row ≡ key_down all whole (position + length row)
  unfolding down_from
  behind_from [] [] position is at at' = append-nil (key_down all whole position) ∙ ap (key_down all whole) (let e : position ≡ position + 0 = omega arith in e)
  behind_from [] (index ∷ row) position is at at' = absurd is
  behind_from (size ∷ sizes) [] position is at at' = absurd is
  behind_from (size ∷ sizes) (index ∷ row) position is at at' =
      let s : slice_index all position ≡ size = ap (slice_index all) (let e : position ≡ position + 0 = omega arith in e) ∙ at 0 in
      let i : slice_index whole position ≡ index = ap (slice_index whole) (let e : position ≡ position + 0 = omega arith in e) ∙ at' 0 in
      sym (append_assoc (key_down all whole position) (key_part position size index) (down_from (position + 1) sizes row))
      ∙ ap (λ (k : ℕ). key_down all whole position ++ key_part position k index ++ down_from (position + 1) sizes row) (sym s)
      ∙ ap (λ (k : ℕ). key_down all whole position ++ key_part position (slice_index all position) k ++ down_from (position + 1) sizes row) (sym i)
      ∙ ap (λ (k : ℕ). key_down all whole k ++ down_from (position + 1) sizes row) (let e : suc position ≡ position + 1 = omega arith in e)
      ∙ behind_from sizes row (position + 1) is.1 (λ k. ap (slice_index all) (let e : position + 1 + k ≡ position + suc k = omega arith in e) ∙ at (suc k)) (λ k. ap (slice_index whole) (let e : position + 1 + k ≡ position + suc k = omega arith in e) ∙ at' (suc k))
      ∙ ap (key_down all whole) (let e : position + 1 + length row ≡ position + suc (length row) = omega arith in e)

pub key_nodes : (sizes row : List ℕ) → IsRow sizes row → key_down sizes row (length row) ++ nodes.False ∷ [] ++ key_up (length row) ≡ postfix (after_key 0 sizes row)
key_nodes sizes row is =
    let same : (xs : List ℕ) (k : ℕ) → slice_index xs (0 + k) ≡ slice_index xs k = λ xs k. ap (slice_index xs) (let e : 0 + k ≡ k = omega arith in e) in
    sym (nodes_from sizes row 0 is ∙ ap (λ (t : List Node). t ++ nodes.False ∷ [] ++ key_up (length row)) (behind_from sizes row sizes row 0 is (same sizes) (same row) ∙ ap (key_down sizes row) (let e : 0 + length row ≡ length row = omega arith in e)))

pub key_long : (sizes row : List ℕ) (last : ℕ) → IsRow sizes row → length (run sizes (key_down sizes row (length row) ++ nodes.False ∷ [] ++ key_up (length row)) [] last).stack ≡ 1
key_long sizes row last is =
    ap (λ (t : List Node). length (run sizes t [] last).stack) (key_nodes sizes row is) ∙ ap (λ (r : Ran). length r.stack) (run_is sizes (after_key 0 sizes row) last)
