-- A formula as its last node and the operands that stand before it, and that its nodes are those of no other formula.
use Rattle.std.proofs.Common.{◌≡◌, ℕ, ◌+◌, ◌≤◌, Bool, true, false, not, ◌&&◌, ◌||◌, ◌==◌, List, [], ◌∷◌, ◌++◌, refl, ap, sym, ◌∙◌, append_assoc, append-nil, arith}
use Rattle.std.specs.Int.{from_bool}
use Rattle.std.proofs.lemmas.Bool.Decides.{nat_tests}
use Rattle.std.specs.Bool.{beq}
use Rattle.cc_defs.specs.declared.node.Node.{Node}
use Rattle.cc_defs.specs.declared.node.Node.TheVariants as nodes
use Rattle.cc_defs.specs.Terms.{Ground, Truth, Falsehood, Atom, Not, All, Any, Same, Operands, nothing, and_then, operand_count, postfix, postfixes, truth, all_true, any_true}
use Rattle.cc_arena.specs.Walks.{arity, decision}

-- the last node of a formula
abbrev pub top : Ground → Node
top Truth = nodes.True
top Falsehood = nodes.False
top (Atom constant value) = nodes.Atom constant value
top (Not operand) = nodes.Not
top (All operands) = nodes.All (operand_count operands)
top (Any operands) = nodes.Any (operand_count operands)
top (Same first second) = nodes.Same

-- the operands of a formula
abbrev pub below : Ground → Operands
below Truth = nothing
below Falsehood = nothing
below (Atom constant value) = nothing
below (Not operand) = and_then nothing operand
below (All operands) = operands
below (Any operands) = operands
below (Same first second) = and_then (and_then nothing first) second

-- a formula's nodes are its operands' nodes and its last node
postfix_splits : (formula : Ground) → postfix formula ≡ postfixes (below formula) ++ (top formula ∷ [])
postfix_splits Truth = refl
postfix_splits formula = refl

-- the last node tells how many operands there are
pub count_is_arity : (formula : Ground) → operand_count (below formula) ≡ arity (top formula)
count_is_arity Truth = refl
count_is_arity formula = refl

-- two lists with a last element are the same in both parts
last_is_one : {A : Type 0} → (xs ys : List A) (x y : A) → xs ++ (x ∷ []) ≡ ys ++ (y ∷ []) → (xs ≡ ys) × (x ≡ y)
last_is_one [] [] x y e = (refl, cc)
last_is_one [] (b ∷ []) x y e = cc
last_is_one [] (b ∷ c ∷ ys) x y e = cc
last_is_one (a ∷ []) [] x y e = cc
last_is_one (a ∷ c ∷ xs) [] x y e = cc
last_is_one (a ∷ xs) (b ∷ ys) x y e = let s : xs ++ (x ∷ []) ≡ ys ++ (y ∷ []) = cc in let i = last_is_one xs ys x y s in (cc, cc)

-- what stands before a formula's nodes, its operands' nodes and its last node
pub splits_after : (prefix : List Node) (formula : Ground) → prefix ++ postfix formula ≡ (prefix ++ postfixes (below formula)) ++ (top formula ∷ [])
splits_after prefix formula = ap (λ nodes. prefix ++ nodes) (postfix_splits formula) ∙ sym (append_assoc prefix (postfixes (below formula)) (top formula ∷ []))

-- a formula is known by its last node and its operands
parts_make_one : (f g : Ground) → top f ≡ top g → below f ≡ below g → f ≡ g
parts_make_one Truth Truth t b = refl
parts_make_one Falsehood Falsehood t b = refl
parts_make_one (Atom c v) (Atom d w) t b = cc
parts_make_one (Not f) (Not g) t b = cc
parts_make_one (All f) (All g) t b = cc
parts_make_one (Any f) (Any g) t b = cc
parts_make_one (Same f h) (Same g i) t b = cc
parts_make_one f g t b = cc

-- nodes that end with this formula's end with no other's
abbrev IsOne : Ground → Type 0
IsOne f = (p q : List Node) (g : Ground) → p ++ postfix f ≡ q ++ postfix g → (p ≡ q) × (f ≡ g)

-- nodes that end with those of these operands end with those of no others, as many
abbrev AreOne : Operands → Type 0
AreOne a = (p q : List Node) (b : Operands) → operand_count a ≡ operand_count b → p ++ postfixes a ≡ q ++ postfixes b → (p ≡ q) × (a ≡ b)

one_from_operands : (f : Ground) → AreOne (below f) → IsOne f
one_from_operands f ones p q g e =
    let parts = last_is_one (p ++ postfixes (below f)) (q ++ postfixes (below g)) (top f) (top g) (sym (splits_after p f) ∙ e ∙ splits_after q g) in
    let counts : operand_count (below f) ≡ operand_count (below g) = count_is_arity f ∙ ap arity parts.1 ∙ sym (count_is_arity g) in
    let same = ones p q (below g) counts parts.0 in
    (same.0, parts_make_one f g parts.1 same.1)

none_are_one : AreOne nothing
none_are_one p q nothing n e = (sym (append-nil p) ∙ e ∙ append-nil q, refl)
none_are_one p q (and_then b g) n e = absurd (omega arith)

one_more : (a : Operands) (f : Ground) → AreOne a → IsOne f → AreOne (and_then a f)
one_more a f ones one p q nothing n e = absurd (omega arith)
one_more a f ones one p q (and_then b g) n e =
    let last = one (p ++ postfixes a) (q ++ postfixes b) g (append_assoc p (postfixes a) (postfix f) ∙ e ∙ sym (append_assoc q (postfixes b) (postfix g))) in
    let front = ones p q b (omega arith) last.0 in
    (front.0, cc)

mutual
  pub postfix_is_one : (f : Ground) → IsOne f
  postfix_is_one Truth = one_from_operands Truth none_are_one
  postfix_is_one Falsehood = one_from_operands Falsehood none_are_one
  postfix_is_one (Atom c v) = one_from_operands (Atom c v) none_are_one
  postfix_is_one (Not f) = one_from_operands (Not f) (one_more nothing f none_are_one (postfix_is_one f))
  postfix_is_one (All a) = one_from_operands (All a) (postfixes_are_one a)
  postfix_is_one (Any a) = one_from_operands (Any a) (postfixes_are_one a)
  postfix_is_one (Same f g) = one_from_operands (Same f g) (one_more (and_then nothing f) g (one_more nothing f none_are_one (postfix_is_one f)) (postfix_is_one g))

  pub postfixes_are_one : (a : Operands) → AreOne a
  postfixes_are_one nothing = none_are_one
  postfixes_are_one (and_then a f) = one_more a f (postfixes_are_one a) (postfix_is_one f)

-- how many operands are true
abbrev pub true_count : (ℕ → ℕ) → Operands → ℕ
true_count valuation nothing = 0
true_count valuation (and_then a f) = true_count valuation a + from_bool (truth valuation f)

-- a test of one or two operands, by the number of the true ones
not_counts : (x : Bool) → not x ≡ (0 + from_bool x == 0)
not_counts true = refl
not_counts false = refl

same_counts : (x y : Bool) → beq x y ≡ not (0 + from_bool x + from_bool y == 1)
same_counts true true = refl
same_counts true false = refl
same_counts false true = refl
same_counts false false = refl

-- one more operand, by the number of the true ones
all_counts_more : (n t : ℕ) (x y : Bool) → t ≤ n → x ≡ (t == n) → (x && y) ≡ (t + from_bool y == n + 1)
all_counts_more n t true true h e = grind (arith, nat_tests)
all_counts_more n t true false h e = grind (arith, nat_tests)
all_counts_more n t false true h e = grind (arith, nat_tests)
all_counts_more n t false false h e = grind (arith, nat_tests)

any_counts_more : (t : ℕ) (x y : Bool) → x ≡ not (t == 0) → (x || y) ≡ not (t + from_bool y == 0)
any_counts_more t true true e = grind (arith, nat_tests)
any_counts_more t true false e = grind (arith, nat_tests)
any_counts_more t false true e = grind (arith, nat_tests)
any_counts_more t false false e = grind (arith, nat_tests)

pub from_bool-le : (x : Bool) → from_bool x ≤ 1
from_bool-le true = omega arith
from_bool-le false = omega arith

true_count-le : (valuation : ℕ → ℕ) (a : Operands) → true_count valuation a ≤ operand_count a
true_count-le valuation nothing = omega arith
true_count-le valuation (and_then a f) = omega (arith, true_count-le valuation a, from_bool-le (truth valuation f))

all_counts : (valuation : ℕ → ℕ) (a : Operands) → all_true valuation a ≡ (true_count valuation a == operand_count a)
all_counts valuation nothing = refl
all_counts valuation (and_then a f) = all_counts_more (operand_count a) (true_count valuation a) (all_true valuation a) (truth valuation f) (true_count-le valuation a) (all_counts valuation a)

any_counts : (valuation : ℕ → ℕ) (a : Operands) → any_true valuation a ≡ not (true_count valuation a == 0)
any_counts valuation nothing = refl
any_counts valuation (and_then a f) = any_counts_more (true_count valuation a) (any_true valuation a) (truth valuation f) (any_counts valuation a)

-- the last node and the number of the operands that are true decide
pub truth_is_decided : (valuation : ℕ → ℕ) (f : Ground) → truth valuation f ≡ decision valuation (top f) (true_count valuation (below f))
truth_is_decided valuation Truth = refl
truth_is_decided valuation Falsehood = refl
truth_is_decided valuation (Atom c v) = refl
truth_is_decided valuation (Not f) = not_counts (truth valuation f)
truth_is_decided valuation (All a) = all_counts valuation a
truth_is_decided valuation (Any a) = any_counts valuation a
truth_is_decided valuation (Same f g) = same_counts (truth valuation f) (truth valuation g)
