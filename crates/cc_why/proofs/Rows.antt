-- A row of a horizon, by its signature: how long it is, the atom at each of its positions, and that it has room for the rules.
use Rattle.std.proofs.Common.{◌≡◌, ◌∙◌, ℕ, zero, suc, ◌+◌, ◌-◌, ◌*◌, ◌%◌, ◌<◌, ◌≤◌, Bool, true, false, nat_lt, List, [], ◌∷◌, length, slice_get, Option, Some, None, option_map, refl, sym, ap, subst, arith, length-append}
use Rattle.std.specs.Prelude.{if◌then◌else◌, slice_index, IfSome}
use Rattle.std.specs.List.{AllByRecursion}
use Rattle.std.proofs.Math.Nat.{mul-le-mul_right, add-mul, mul_comm, mul-add}
use Rattle.std.proofs.lemmas.Bool.{ltb-true}
use Rattle.std.proofs.lemmas.List.{length-map}
use Rattle.std.proofs.lemmas.Option.{slice_get_within}
use Rattle.cc_defs.specs.declared.node.Node.{Node}
use Rattle.cc_defs.specs.declared.node.Node.TheVariants as nodes
use Rattle.cc_defs.specs.declared.signature.Const.{Const}
use Rattle.cc_defs.specs.Conditions.{IsSignatureOfDescription}
use Rattle.cc_defs.specs.Description.{Description, domain_sizes, sizes_at}
use Rattle.cc_defs.specs.Laws.{PositionsHaveSizes}
use Rattle.cc_defs.specs.Rows.{IsRow}
use Rattle.cc_defs.specs.Signatures.{Signature, ground_constants, position_count}
use Rattle.cc_defs.specs.Terms.{Fits, IsTermOver, NamesBelow}
use Rattle.cc_theory.specs.declared.rule.Timed.{Timed}
use Rattle.cc_theory.specs.declared.rule.TimedHead.{TimedHead}
use Rattle.cc_theory.specs.declared.rule.TimedHead.TheVariants as timed_heads
use Rattle.cc_theory.specs.declared.rule.TimedRule.{TimedRule}
use Rattle.cc_theory.specs.Making.{stride_of}
use Rattle.cc_theory.specs.Theories.{AreRulesAt, IsHeadAt, IsRuleAt, IsTermAt, sizes_of_step}
use Rattle.cc_why.specs.Meeting.{AreAtoms, IsHeadIn, IsPartIn, IsRuleIn, IsTermFrom}
use Rattle.cc_why.proofs.Lists.{all_each}

-- ---- rows

pub row_long : (sizes row : List ℕ) → IsRow sizes row → length row ≡ length sizes
row_long [] [] is = refl
row_long [] (v ∷ row) is = absurd is
row_long (s ∷ sizes) [] is = absurd is
row_long (s ∷ sizes) (v ∷ row) is = ap suc (row_long sizes row is.1)

pub row_at : (sizes row : List ℕ) (p size : ℕ) → IsRow sizes row → slice_get sizes p ≡ Some size → (p < length row) × (slice_index row p < size)
row_at [] row p size is e = absurd cc
row_at (s ∷ sizes) [] p size is e = absurd is
row_at (s ∷ sizes) (v ∷ row) zero size is e = let same : s ≡ size = cc in (omega arith, subst (λ (n : ℕ). v < n) same is.0)
row_at (s ∷ sizes) (v ∷ row) (suc p) size is e = let more = row_at sizes row p size is.1 e in let less = more.0 in (omega arith, more.1)

-- a position of a row has a size
pub size_there : (sizes row : List ℕ) (p : ℕ) → IsRow sizes row → p < length row → (size : ℕ) × (slice_get sizes p ≡ Some size)
size_there [] [] p is less = absurd (omega arith)
size_there [] (v ∷ row) p is less = absurd is
size_there (s ∷ sizes) [] p is less = absurd is
size_there (s ∷ sizes) (v ∷ row) zero is less = (s, refl)
size_there (s ∷ sizes) (v ∷ row) (suc p) is less = size_there sizes row p is.1 (omega arith)

-- the description of a signature, with no laws
abbrev pub bare : Signature → Description
bare signature = record {
  objects = [];
  universe = record { sorts = []; numbers = signature.numbers; symbols = []; fluents = signature.fluents; actions = signature.actions };
  laws = [];
}

pub bare_signature : (signature : Signature) → IsSignatureOfDescription (bare signature) signature
bare_signature signature = record { fluents = refl; actions = refl; numbers = refl }

found_const : (found : Option Const) (size : ℕ) → option_map (λ (constant : Const). length constant.domain) found ≡ Some size → (constant : Const) × (found ≡ Some constant) × (length constant.domain ≡ size)
found_const (Some constant) size e = (constant, refl, cc)
found_const None size e = absurd cc

module _ (have : PositionsHaveSizes) (d : Description) (signature : Signature) (of : IsSignatureOfDescription d signature) (horizon : ℕ) (row : List ℕ) (is : IsRow (sizes_at d horizon) row) where
  pub count_is : length row ≡ position_count signature horizon
  count_is = row_long (sizes_at d horizon) row is ∙ (have d signature of horizon).0

  pub atoms_there : AreAtoms signature horizon row
  atoms_there position less =
      let within = subst (λ (n : ℕ). position < n) count_is less in
      let size = size_there (sizes_at d horizon) row position is less in
      let same = sym ((have d signature of horizon).1 position within) ∙ size.1 in
      let found = found_const (slice_get (ground_constants signature) (position % length (ground_constants signature))) size.0 same in
      record {
        constant = found.0;
        within = within;
        found = found.1;
        short = subst (λ (n : ℕ). slice_index row position < n) (sym found.2) (row_at (sizes_at d horizon) row position size.0 is size.1).1;
      }

-- a row that is not empty has constants
pub constants_there : (signature : Signature) (horizon : ℕ) (row : List ℕ) → AreAtoms signature horizon row → 0 < length row → 0 < length (ground_constants signature)
constants_there signature horizon row atoms some =
    let at = atoms 0 some in
    let less = slice_get_within (ground_constants signature) (0 % length (ground_constants signature)) at.constant at.found in
    omega arith

-- ---- room

module _ (F A horizon step : ℕ) where
  abbrev whole : ℕ
  whole = F * (horizon + 1) + A * horizon

  pub fluents_room : step ≤ horizon → step * (F + A) + F ≤ whole
  fluents_room at =
      let f : step * F ≤ horizon * F = mul-le-mul_right F at in
      let a : step * A ≤ horizon * A = mul-le-mul_right A at in
      let sum : step * (F + A) ≡ step * F + step * A = mul-add step F A in
      let f_turned : F * (horizon + 1) ≡ horizon * F + F = mul_comm F (horizon + 1) ∙ add-mul horizon 1 F ∙ omega arith in
      let a_turned : A * horizon ≡ horizon * A = mul_comm A horizon in
      omega arith

  pub all_room : step < horizon → step * (F + A) + (F + A) ≤ whole
  all_room at =
      let next : (step + 1) * (F + A) ≤ horizon * (F + A) = mul-le-mul_right (F + A) (let e : step + 1 ≤ horizon = omega arith in e) in
      let spread : (step + 1) * (F + A) ≡ step * (F + A) + (F + A) = add-mul step 1 (F + A) ∙ omega arith in
      let sum : horizon * (F + A) ≡ horizon * F + horizon * A = mul-add horizon F A in
      let f_turned : F * (horizon + 1) ≡ horizon * F + F = mul_comm F (horizon + 1) ∙ add-mul horizon 1 F ∙ omega arith in
      let a_turned : A * horizon ≡ horizon * A = mul_comm A horizon in
      omega arith

node_named : (sizes : List ℕ) (count : ℕ) → length sizes ≤ count → (node : Node) → Fits sizes node → NamesBelow count node
node_named sizes count less (nodes.Atom constant value) fits = let within = slice_get_within sizes constant fits.0 fits.1 in omega arith
node_named sizes count less nodes.True fits = tt
node_named sizes count less nodes.False fits = tt
node_named sizes count less nodes.Not fits = tt
node_named sizes count less (nodes.All operands) fits = tt
node_named sizes count less (nodes.Any operands) fits = tt
node_named sizes count less nodes.Same fits = tt

nodes_named : (sizes : List ℕ) (count : ℕ) → length sizes ≤ count → (term : List Node) → AllByRecursion (Fits sizes) term → AllByRecursion (NamesBelow count) term
nodes_named sizes count less [] fit = tt
nodes_named sizes count less (node ∷ term) fit = (node_named sizes count less node fit.0, nodes_named sizes count less term fit.1)

pub term_from : (sizes : List ℕ) (count start : ℕ) (term : List Node) → start + length sizes ≤ count → IsTermOver sizes term → IsTermFrom count start term
term_from sizes count start term less is = record {
  within = omega arith;
  term = record { formula = is.formula; written = is.written; names = nodes_named sizes (count - start) (omega arith) term is.fits };
}

module _ (signature : Signature) (horizon : ℕ) where
  abbrev count : ℕ
  count = position_count signature horizon

  fluent_count : length (domain_sizes signature.fluents) ≡ length signature.fluents
  fluent_count = length-map signature.fluents (λ (c : Const). length c.domain)

  all_count : length (domain_sizes (ground_constants signature)) ≡ length signature.fluents + length signature.actions
  all_count = length-map (ground_constants signature) (λ (c : Const). length c.domain) ∙ length-append signature.fluents signature.actions

  term_room : (step : ℕ) → step ≤ horizon → (b : Bool) → nat_lt step horizon ≡ b →
      step * stride_of signature + length (if b then domain_sizes (ground_constants signature) else domain_sizes signature.fluents) ≤ count
  term_room step within true less =
      let room = all_room (length signature.fluents) (length signature.actions) horizon step (ltb-true step horizon less) in
      let e = all_count in omega arith
  term_room step within false less =
      let room = fluents_room (length signature.fluents) (length signature.actions) horizon step within in
      let e = fluent_count in omega arith

  term_fits : (step : ℕ) (term : List Node) → IsTermAt signature horizon step term → IsTermFrom count (step * stride_of signature) term
  term_fits step term is = term_from (sizes_of_step signature horizon step) count (step * stride_of signature) term (term_room step is.within (nat_lt step horizon) refl) is.term

  part_fits : (part : Option Timed) → IfSome part (λ (timed : Timed). IsTermAt signature horizon timed.step timed.nodes.now) → IsPartIn count (stride_of signature) part
  part_fits None is = tt
  part_fits (Some timed) is = term_fits timed.step timed.nodes.now is

  head_fits : (head : TimedHead) → IsHeadAt signature horizon head → IsHeadIn count head
  head_fits (timed_heads.Atom position value) is = is.within
  head_fits timed_heads.Falsity is = tt

  rule_fits : (rule : TimedRule) → IsRuleAt signature horizon rule → IsRuleIn count (stride_of signature) rule
  rule_fits rule is = record { head = head_fits rule.head is.head; now = part_fits rule.now is.now; before = part_fits rule.before is.before }

  rules_fit : (rules : List TimedRule) → AreRulesAt signature horizon rules → AllByRecursion (IsRuleIn count (stride_of signature)) rules
  rules_fit rules are = all_each (IsRuleIn count (stride_of signature)) (IsRuleAt signature horizon) (λ rule. rule) rule_fits rules are

  -- for a row and a stride that are as long
  pub rules_stand : (long stride : ℕ) → long ≡ count → stride ≡ stride_of signature → (rules : List TimedRule) → AreRulesAt signature horizon rules → AllByRecursion (IsRuleIn long stride) rules
  rules_stand long stride same step rules are =
      subst (λ (n : ℕ). AllByRecursion (IsRuleIn n stride) rules) (sym same) (subst (λ (n : ℕ). AllByRecursion (IsRuleIn count n) rules) (sym step) (rules_fit rules are))
