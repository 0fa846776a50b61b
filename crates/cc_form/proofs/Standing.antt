-- Where constants stand among the positions of a horizon.
use Rattle.std.proofs.Common.{◌≡◌, ◌∙◌, ℕ, zero, suc, ◌+◌, ◌-◌, ◌*◌, ◌%◌, ◌<◌, ◌≤◌, inl, inr, Bool, List, [], ◌∷◌, ◌++◌, length, map, slice_get, Option, Some, None, refl, sym, ap, subst, arith, option_map, length-append}
use Rattle.std.specs.Prelude.{if◌then◌else◌, IfSome}
use Rattle.std.specs.List.{AllByRecursion}
use Rattle.std.proofs.Math.Nat.{add-mod_left, add-mul, mul-add, mul_comm, mod-eq_of_lt}
use Rattle.std.proofs.lemmas.Bool.{cases_lt, lt-ltb, le-ltb}
use Rattle.std.proofs.lemmas.List.{length-map}
use Rattle.std.proofs.lemmas.Option.{slice_get-map, slice_get_within}
use Rattle.cc_defs.specs.declared.node.Node.{Node}
use Rattle.cc_defs.specs.declared.node.Node.TheVariants as nodes
use Rattle.cc_defs.specs.declared.signature.Const.{Const}
use Rattle.cc_defs.specs.Description.{domain_sizes}
use Rattle.cc_defs.specs.Signatures.{Signature, ground_constants, position_count}
use Rattle.cc_defs.specs.Terms.{Ground, Operands, Fits, IsTermOver, nothing, and_then, operand_count, postfix, postfixes}
use Rattle.cc_defs.specs.Terms as terms
use Rattle.cc_defs.specs.TimedRules.{moved, moved_operands}
use Rattle.cc_theory.specs.declared.rule.Timed.{Timed}
use Rattle.cc_theory.specs.declared.rule.TimedHead.{TimedHead}
use Rattle.cc_theory.specs.declared.rule.TimedHead.TheVariants as timed_heads
use Rattle.cc_theory.specs.declared.rule.TimedRule.{TimedRule}
use Rattle.cc_theory.specs.Making.{stride_of}
use Rattle.cc_theory.specs.Theories.{AreRulesAt, IsAtom, IsHeadAt, IsTermAt, sizes_of_step}
use Rattle.cc_form.specs.Machine.{moved_node, moved_nodes}
use Rattle.cc_form.specs.Making.{IsBodyOver, head_nodes, part_nodes}
use Rattle.cc_form.specs.Places.{position_sizes}

-- ---- lists

pub front : {X : Type 0} (xs ys : List X) (i : ℕ) → i < length xs → slice_get (xs ++ ys) i ≡ slice_get xs i
front [] ys i less = absurd (omega arith)
front (x ∷ xs) ys zero less = refl
front (x ∷ xs) ys (suc i) less = front xs ys i (omega arith)

pub back : {X : Type 0} (xs ys : List X) (i : ℕ) → slice_get (xs ++ ys) (length xs + i) ≡ slice_get ys i
back [] ys i = ap (slice_get ys) (let e : 0 + i ≡ i = omega arith in e)
back (x ∷ xs) ys i = ap (slice_get (x ∷ xs ++ ys)) (let e : suc (length xs) + i ≡ suc (length xs + i) = omega arith in e) ∙ back xs ys i

module _ (signature : Signature) where
  abbrev all : List ℕ
  all = domain_sizes (ground_constants signature)

  abbrev stride : ℕ
  stride = stride_of signature

  all_long : length all ≡ stride
  all_long = length-map (ground_constants signature) (λ (c : Const). length c.domain) ∙ length-append signature.fluents signature.actions

  shifted : (h step c : ℕ) → slice_get (position_sizes signature (suc h)) (suc step * stride + c) ≡ slice_get (position_sizes signature h) (step * stride + c)
  shifted h step c =
      ap (slice_get (position_sizes signature (suc h))) (let s : (step + 1) * stride ≡ step * stride + 1 * stride = add-mul step 1 stride in let t : suc step * stride ≡ (step + 1) * stride = ap (λ (n : ℕ). n * stride) (let u : suc step ≡ step + 1 = omega arith in u) in let long = all_long in let e : suc step * stride + c ≡ length all + (step * stride + c) = omega arith in e)
      ∙ back all (position_sizes signature h) (step * stride + c)

  before_last : (h step c : ℕ) → step < h → c < stride → slice_get (position_sizes signature h) (step * stride + c) ≡ slice_get all c
  before_last zero step c less within = absurd (omega arith)
  before_last (suc h) zero c less within =
      ap (slice_get (position_sizes signature (suc h))) (let e : 0 * stride + c ≡ c = omega arith in e) ∙ front all (position_sizes signature h) c (let long = all_long in omega arith)
  before_last (suc h) (suc step) c less within = shifted h step c ∙ before_last h step c (omega arith) within

  at_last : (h c : ℕ) → slice_get (position_sizes signature h) (h * stride + c) ≡ slice_get (domain_sizes signature.fluents) c
  at_last zero c = ap (slice_get (domain_sizes signature.fluents)) (let e : 0 * stride + c ≡ c = omega arith in e)
  at_last (suc h) c = shifted h h c ∙ at_last h c

  -- a constant of a step
  pub stands : (h step c size : ℕ) → step ≤ h → slice_get (sizes_of_step signature h step) c ≡ Some size → slice_get (position_sizes signature h) (step * stride + c) ≡ Some size
  stands h step c size within at = elim (cases_lt step h) [
    | inl less ↦
        let here : slice_get all c ≡ Some size = subst (λ (b : Bool). slice_get (if b then all else domain_sizes signature.fluents) c ≡ Some size) (lt-ltb step h less) at in
        before_last h step c less (let inside = slice_get_within all c size here in let long = all_long in omega arith) ∙ here
    | inr most ↦
        let here : slice_get (domain_sizes signature.fluents) c ≡ Some size = subst (λ (b : Bool). slice_get (if b then all else domain_sizes signature.fluents) c ≡ Some size) (le-ltb step h most) at in
        let same : step ≡ h = omega arith in
        subst (λ (n : ℕ). slice_get (position_sizes signature h) (n * stride + c) ≡ Some size) (sym same) (at_last h c ∙ here)
  ]

  -- ---- terms

  node_stands : (h step : ℕ) → step ≤ h → (node : Node) → Fits (sizes_of_step signature h step) node → Fits (position_sizes signature h) (moved_node (step * stride) node)
  node_stands h step within nodes.True fits = tt
  node_stands h step within nodes.False fits = tt
  node_stands h step within (nodes.Atom constant value) fits = (fits.0, stands h step constant fits.0 within fits.1, fits.2)
  node_stands h step within nodes.Not fits = tt
  node_stands h step within (nodes.All count) fits = tt
  node_stands h step within (nodes.Any count) fits = tt
  node_stands h step within nodes.Same fits = tt

  nodes_stand : (h step : ℕ) → step ≤ h → (term : List Node) → AllByRecursion (Fits (sizes_of_step signature h step)) term → AllByRecursion (Fits (position_sizes signature h)) (moved_nodes (step * stride) term)
  nodes_stand h step within [] fit = tt
  nodes_stand h step within (node ∷ term) fit = (node_stands h step within node fit.0, nodes_stand h step within term fit.1)

  -- ---- atoms

  whole_steps : (h : ℕ) → (stride * (h + 1) ≡ stride * h + stride)
  whole_steps h = mul-add stride h 1 ∙ omega arith

  pub atom_there : (h position value size : ℕ) → slice_get (position_sizes signature h) position ≡ Some size → value < size → IsAtom signature h position value
  atom_there h position value size at less =
      let found = constant_at h position size at in
      record { constant = found.0; within = within h position size at; found = found.1; short = (let e = found.2 in omega arith) }
    where
      of_sizes : (constants : List Const) (i size : ℕ) → slice_get (domain_sizes constants) i ≡ Some size → (c : Const) × (slice_get constants i ≡ Some c) × (length c.domain ≡ size)
      of_sizes [] i size at = absurd cc
      of_sizes (c ∷ constants) zero size at = (c, refl, cc)
      of_sizes (c ∷ constants) (suc i) size at = of_sizes constants i size at

      constant_at : (h position size : ℕ) → slice_get (position_sizes signature h) position ≡ Some size →
          (c : Const) × (slice_get (ground_constants signature) (position % length (ground_constants signature)) ≡ Some c) × (length c.domain ≡ size)
      constant_at zero position size at =
          let found = of_sizes signature.fluents position size at in
          let inside = slice_get_within signature.fluents position found.0 found.1 in
          let long = length-append signature.fluents signature.actions in
          let less : position < length (ground_constants signature) = omega arith in
          (found.0, ap (slice_get (ground_constants signature)) (mod-eq_of_lt less) ∙ front signature.fluents signature.actions position inside ∙ found.1, found.2)
      constant_at (suc h) position size at = elim (cases_lt position (length all)) [
        | inl inside ↦
            let found = of_sizes (ground_constants signature) position size (sym (front all (position_sizes signature h) position inside) ∙ at) in
            let less = slice_get_within (ground_constants signature) position found.0 found.1 in
            (found.0, ap (slice_get (ground_constants signature)) (mod-eq_of_lt less) ∙ found.1, found.2)
        | inr behind ↦
            let rest = position - length all in
            let split : position ≡ length all + rest = omega arith in
            let found = constant_at h rest size (sym (back all (position_sizes signature h) rest) ∙ ap (slice_get (position_sizes signature (suc h))) (sym split) ∙ at) in
            let count : length all ≡ length (ground_constants signature) = length-map (ground_constants signature) (λ (c : Const). length c.domain) in
            (found.0, ap (slice_get (ground_constants signature)) (ap (λ (n : ℕ). n % length (ground_constants signature)) (split ∙ ap (λ (n : ℕ). n + rest) count) ∙ add-mod_left (length (ground_constants signature)) rest) ∙ found.1, found.2)
      ]

      within : (h position size : ℕ) → slice_get (position_sizes signature h) position ≡ Some size → position < position_count signature h
      within zero position size at =
          let found = of_sizes signature.fluents position size at in
          let inside = slice_get_within signature.fluents position found.0 found.1 in
          let one : length signature.fluents * (0 + 1) ≡ length signature.fluents = mul_comm (length signature.fluents) 1 ∙ omega arith in
          omega arith
      within (suc h) position size at = elim (cases_lt position (length all)) [
        | inl inside ↦
            let long = all_long in
            let f : length signature.fluents * (suc h + 1) ≡ length signature.fluents * (h + 1) + length signature.fluents = ap (λ (n : ℕ). length signature.fluents * n) (let e : suc h + 1 ≡ h + 1 + 1 = omega arith in e) ∙ mul-add (length signature.fluents) (h + 1) 1 ∙ omega arith in
            let g : length signature.actions * suc h ≡ length signature.actions * h + length signature.actions = ap (λ (n : ℕ). length signature.actions * n) (let e : suc h ≡ h + 1 = omega arith in e) ∙ mul-add (length signature.actions) h 1 ∙ omega arith in
            omega arith
        | inr behind ↦
            let rest = position - length all in
            let split : position ≡ length all + rest = omega arith in
            let more = within h rest size (sym (back all (position_sizes signature h) rest) ∙ ap (slice_get (position_sizes signature (suc h))) (sym split) ∙ at) in
            let long = all_long in
            let f : length signature.fluents * (suc h + 1) ≡ length signature.fluents * (h + 1) + length signature.fluents = ap (λ (n : ℕ). length signature.fluents * n) (let e : suc h + 1 ≡ h + 1 + 1 = omega arith in e) ∙ mul-add (length signature.fluents) (h + 1) 1 ∙ omega arith in
            let g : length signature.actions * suc h ≡ length signature.actions * h + length signature.actions = ap (λ (n : ℕ). length signature.actions * n) (let e : suc h ≡ h + 1 = omega arith in e) ∙ mul-add (length signature.actions) h 1 ∙ omega arith in
            omega arith
      ]

  -- an atom of the horizon has its size among those of the positions
  pub size_there : (h position : ℕ) (c : Const) → position < position_count signature h → slice_get (ground_constants signature) (position % length (ground_constants signature)) ≡ Some c →
      slice_get (position_sizes signature h) position ≡ Some (length c.domain)
  size_there zero position c within found =
      let one : length signature.fluents * (0 + 1) ≡ length signature.fluents = mul_comm (length signature.fluents) 1 ∙ omega arith in
      let none : length signature.actions * 0 ≡ 0 = mul_comm (length signature.actions) 0 ∙ omega arith in
      let here : position < length signature.fluents = omega arith in
      let long = length-append signature.fluents signature.actions in
      let less : position < length (ground_constants signature) = omega arith in
      slice_get-map (λ (k : Const). length k.domain) signature.fluents position
      ∙ ap (option_map (λ (k : Const). length k.domain)) (sym (front signature.fluents signature.actions position here) ∙ ap (slice_get (ground_constants signature)) (sym (mod-eq_of_lt less)) ∙ found)
  size_there (suc h) position c within found = elim (cases_lt position (length all)) [
    | inl inside ↦
        let count : length all ≡ length (ground_constants signature) = length-map (ground_constants signature) (λ (k : Const). length k.domain) in
        let less : position < length (ground_constants signature) = omega arith in
        front all (position_sizes signature h) position inside ∙ slice_get-map (λ (k : Const). length k.domain) (ground_constants signature) position
        ∙ ap (option_map (λ (k : Const). length k.domain)) (ap (slice_get (ground_constants signature)) (sym (mod-eq_of_lt less)) ∙ found)
    | inr behind ↦
        let rest = position - length all in
        let split : position ≡ length all + rest = omega arith in
        let count : length all ≡ length (ground_constants signature) = length-map (ground_constants signature) (λ (k : Const). length k.domain) in
        let long = all_long in
        let f : length signature.fluents * (suc h + 1) ≡ length signature.fluents * (h + 1) + length signature.fluents = ap (λ (n : ℕ). length signature.fluents * n) (let e : suc h + 1 ≡ h + 1 + 1 = omega arith in e) ∙ mul-add (length signature.fluents) (h + 1) 1 ∙ omega arith in
        let g : length signature.actions * suc h ≡ length signature.actions * h + length signature.actions = ap (λ (n : ℕ). length signature.actions * n) (let e : suc h ≡ h + 1 = omega arith in e) ∙ mul-add (length signature.actions) h 1 ∙ omega arith in
        let fewer : rest < position_count signature h = omega arith in
        let same : position % length (ground_constants signature) ≡ rest % length (ground_constants signature) =
        ap (λ (n : ℕ). n % length (ground_constants signature)) (split ∙ ap (λ (n : ℕ). n + rest) count) ∙ add-mod_left (length (ground_constants signature)) rest in
        ap (slice_get (position_sizes signature (suc h))) split ∙ back all (position_sizes signature h) rest
        ∙ size_there h rest c fewer (ap (slice_get (ground_constants signature)) (sym same) ∙ found)
  ]

-- ---- moved terms

map_behind : {A B : Type 0} (f : A → B) (xs ys : List A) → map f (xs ++ ys) ≡ map f xs ++ map f ys
map_behind f [] ys = refl
map_behind f (x ∷ xs) ys = ap (λ l. f x ∷ l) (map_behind f xs ys)

mutual
  pub moved_postfix : (by : ℕ) (f : Ground) → moved_nodes by (postfix f) ≡ postfix (moved by f)
  moved_postfix by terms.Truth = refl
  moved_postfix by terms.Falsehood = refl
  moved_postfix by (terms.Atom constant value) = refl
  moved_postfix by (terms.Not f) = map_behind (moved_node by) (postfix f) (nodes.Not ∷ []) ∙ ap (λ (l : List Node). l ++ nodes.Not ∷ []) (moved_postfix by f)
  moved_postfix by (terms.All operands) =
      map_behind (moved_node by) (postfixes operands) (nodes.All (operand_count operands) ∷ []) ∙ ap (λ (l : List Node). l ++ nodes.All (operand_count operands) ∷ []) (moved_postfixes by operands)
      ∙ ap (λ (n : ℕ). postfixes (moved_operands by operands) ++ nodes.All n ∷ []) (sym (moved_count by operands))
  moved_postfix by (terms.Any operands) =
      map_behind (moved_node by) (postfixes operands) (nodes.Any (operand_count operands) ∷ []) ∙ ap (λ (l : List Node). l ++ nodes.Any (operand_count operands) ∷ []) (moved_postfixes by operands)
      ∙ ap (λ (n : ℕ). postfixes (moved_operands by operands) ++ nodes.Any n ∷ []) (sym (moved_count by operands))
  moved_postfix by (terms.Same f g) =
      map_behind (moved_node by) (postfix f ++ postfix g) (nodes.Same ∷ []) ∙ ap (λ (l : List Node). l ++ nodes.Same ∷ []) (map_behind (moved_node by) (postfix f) (postfix g))
      ∙ ap (λ (l : List Node). l ++ moved_nodes by (postfix g) ++ nodes.Same ∷ []) (moved_postfix by f) ∙ ap (λ (l : List Node). postfix (moved by f) ++ l ++ nodes.Same ∷ []) (moved_postfix by g)

  pub moved_postfixes : (by : ℕ) (operands : Operands) → moved_nodes by (postfixes operands) ≡ postfixes (moved_operands by operands)
  moved_postfixes by nothing = refl
  moved_postfixes by (and_then operands f) =
      map_behind (moved_node by) (postfixes operands) (postfix f) ∙ ap (λ (l : List Node). l ++ moved_nodes by (postfix f)) (moved_postfixes by operands)
      ∙ ap (λ (l : List Node). postfixes (moved_operands by operands) ++ l) (moved_postfix by f)

  pub moved_count : (by : ℕ) (operands : Operands) → operand_count (moved_operands by operands) ≡ operand_count operands
  moved_count by nothing = refl
  moved_count by (and_then operands f) = ap (λ (n : ℕ). n + 1) (moved_count by operands)

pub term_stands : (signature : Signature) (h step : ℕ) (term : List Node) → IsTermAt signature h step term → IsTermOver (position_sizes signature h) (moved_nodes (step * stride_of signature) term)
term_stands signature h step term is = record {
  formula = moved (step * stride_of signature) is.term.formula;
  written = ap (moved_nodes (step * stride_of signature)) is.term.written ∙ moved_postfix (step * stride_of signature) is.term.formula;
  fits = nodes_stand signature h step is.within term is.term.fits;
}

-- ---- rules

head_stands : (signature : Signature) (h : ℕ) (head : TimedHead) → IsHeadAt signature h head → IsTermOver (position_sizes signature h) (head_nodes head)
head_stands signature h timed_heads.Falsity is = record { formula = terms.Truth; written = refl; fits = (tt, tt) }
head_stands signature h (timed_heads.Atom position value) is = record {
  formula = terms.Atom position value;
  written = refl;
  fits = ((length is.constant.domain, size_there signature h position is.constant is.within is.found, is.short), tt);
}

part_stands : (signature : Signature) (h : ℕ) (part : Option Timed) → h ≤ 1000 → IfSome part (λ timed. IsTermAt signature h timed.step timed.nodes.now) →
    IfSome part (λ timed. (timed.step ≤ 1000) × IsTermOver (position_sizes signature h) (part_nodes (stride_of signature) timed))
part_stands signature h None most is = tt
part_stands signature h (Some timed) most is = ((let within = is.within in omega arith), term_stands signature h timed.step timed.nodes.now is)

pub rules_stand : (signature : Signature) (h : ℕ) (rules : List TimedRule) → h ≤ 1000 → AreRulesAt signature h rules → AllByRecursion (IsBodyOver (position_sizes signature h) (stride_of signature)) rules
rules_stand signature h [] most are = tt
rules_stand signature h (rule ∷ rules) most are = (
  record { head = head_stands signature h rule.head are.0.head; now = part_stands signature h rule.now most are.0.now; before = part_stands signature h rule.before most are.0.before },
  rules_stand signature h rules most are.1,
)
