-- Where the terms of laws and conditions stand among the positions of a horizon.
use Rattle.std.proofs.Common.{Bor, ◌≡◌, ◌∙◌, ℕ, zero, suc, ◌+◌, ◌*◌, ◌<◌, ◌≤◌, inl, inr, Bool, true, false, List, [], ◌∷◌, ◌++◌, length, map, nat_lt, slice_get, Option, Some, None, refl, sym, ap, subst, arith, option_map, length-append}
use Rattle.std.specs.Prelude.{if◌then◌else◌, IfSome, IsNone}
use Rattle.std.specs.List.{AllByRecursion}
use Rattle.std.proofs.Math.Nat.{add-mul, mul-le-mul_right}
use Rattle.std.proofs.lemmas.Bool.{cases_lt, lt-ltb, le-ltb, ltb-true}
use Rattle.std.proofs.lemmas.List.{length-map}
use Rattle.std.proofs.lemmas.Option.{slice_get_within}
use Rattle.cc_arena.specs.declared.ground_laws.GroundCondition.{GroundCondition}
use Rattle.cc_arena.specs.GroundViews.{plain_ground_condition}
use Rattle.cc_defs.specs.declared.node.Node.{Node}
use Rattle.cc_defs.specs.declared.node.Node.TheVariants as nodes
use Rattle.cc_defs.specs.declared.signature.Const.{Const}
use Rattle.cc_defs.specs.declared.signature.LawKind.{LawKind}
use Rattle.cc_defs.specs.declared.signature.LawKind.TheVariants as law_kinds
use Rattle.cc_defs.specs.Conditions.{IsFluentTerm, IsTermOf}
use Rattle.cc_defs.specs.Description.{domain_sizes}
use Rattle.cc_defs.specs.Histories.{step_of}
use Rattle.cc_defs.specs.Signatures.{Signature, ground_constants}
use Rattle.cc_defs.specs.Terms.{Fits, IsTermOver}
use Rattle.cc_defs.specs.Universe.{Universe}
use Rattle.cc_form.specs.Machine.{moved_node, moved_nodes}
use Rattle.cc_form.specs.Places.{position_sizes}
use Rattle.cc_form.specs.Queries.{IsConditionAt}
use Rattle.cc_rivals.specs.declared.timed.PlacedRule.{PlacedRule}
use Rattle.cc_rivals.specs.Making.{IsLawBelow, IsPlacedBelow, IsRuleBelow, placed_condition, placed_of_kind, placed_rule}
use Rattle.cc_rivals.specs.Wides.{AreWideLawsFor}
use Rattle.cc_wide.specs.WideForms.{IsWideOfKind}
use Rattle.cc_theory.specs.Making.{stride_of}
use Rattle.cc_theory.specs.Theories.{IsTermAt, sizes_of_step}
use Rattle.cc_wide.specs.declared.ground.WideGroundLaw.{WideGroundLaw}
use Rattle.cc_wide.specs.WideGrounds.{plain_wide_ground}

-- ---- lists

pub front : {X : Type 0} (xs ys : List X) (i : ℕ) → i < length xs → slice_get (xs ++ ys) i ≡ slice_get xs i
front [] ys i less = absurd (omega arith)
front (x ∷ xs) ys zero less = refl
front (x ∷ xs) ys (suc i) less = front xs ys i (omega arith)

back : {X : Type 0} (xs ys : List X) (i : ℕ) → slice_get (xs ++ ys) (length xs + i) ≡ slice_get ys i
back [] ys i = ap (slice_get ys) (let e : 0 + i ≡ i = omega arith in e)
back (x ∷ xs) ys i = ap (slice_get (x ∷ xs ++ ys)) (let e : suc (length xs) + i ≡ suc (length xs + i) = omega arith in e) ∙ back xs ys i

pub domain_behind : (xs ys : List Const) → domain_sizes (xs ++ ys) ≡ domain_sizes xs ++ domain_sizes ys
domain_behind [] ys = refl
domain_behind (x ∷ xs) ys = ap (λ (l : List ℕ). length x.domain ∷ l) (domain_behind xs ys)

-- ---- constants at their steps

module _ (signature : Signature) where
  abbrev all : List ℕ
  all = domain_sizes (ground_constants signature)

  abbrev stride : ℕ
  stride = stride_of signature

  all_long : length all ≡ stride
  all_long = length-map (ground_constants signature) (λ (c : Const). length c.domain) ∙ length-append signature.fluents signature.actions

  next_step : (step : ℕ) → suc step * stride ≡ step * stride + stride
  next_step step = ap (λ (n : ℕ). n * stride) (let u : suc step ≡ step + 1 = omega arith in u) ∙ add-mul step 1 stride ∙ omega arith

  shifted : (h step c : ℕ) → slice_get (position_sizes signature (suc h)) (suc step * stride + c) ≡ slice_get (position_sizes signature h) (step * stride + c)
  shifted h step c =
      ap (slice_get (position_sizes signature (suc h))) (let t = next_step step in let long = all_long in let e : suc step * stride + c ≡ length all + (step * stride + c) = omega arith in e)
      ∙ back all (position_sizes signature h) (step * stride + c)

  before_last : (h step c : ℕ) → step < h → c < stride → slice_get (position_sizes signature h) (step * stride + c) ≡ slice_get all c
  before_last zero step c less within = absurd (omega arith)
  before_last (suc h) zero c less within =
      ap (slice_get (position_sizes signature (suc h))) (let e : 0 * stride + c ≡ c = omega arith in e) ∙ front all (position_sizes signature h) c (let long = all_long in omega arith)
  before_last (suc h) (suc step) c less within = shifted h step c ∙ before_last h step c (omega arith) within

  at_last : (h c : ℕ) → slice_get (position_sizes signature h) (h * stride + c) ≡ slice_get (domain_sizes signature.fluents) c
  at_last zero c = ap (slice_get (domain_sizes signature.fluents)) (let e : 0 * stride + c ≡ c = omega arith in e)
  at_last (suc h) c = shifted h h c ∙ at_last h c

  -- a constant of a step
  pub stands : (h step c size : ℕ) → step ≤ h → slice_get (sizes_of_step signature h step) c ≡ Some size → slice_get (position_sizes signature h) (step * stride + c) ≡ Some size
  stands h step c size within at = elim (cases_lt step h) [
    | inl less ↦
        let here : slice_get all c ≡ Some size = subst (λ (b : Bool). slice_get (if b then all else domain_sizes signature.fluents) c ≡ Some size) (lt-ltb step h less) at in
        before_last h step c less (let inside = slice_get_within all c size here in let long = all_long in omega arith) ∙ here
    | inr most ↦
        let here : slice_get (domain_sizes signature.fluents) c ≡ Some size = subst (λ (b : Bool). slice_get (if b then all else domain_sizes signature.fluents) c ≡ Some size) (le-ltb step h most) at in
        let same : step ≡ h = omega arith in
        subst (λ (n : ℕ). slice_get (position_sizes signature h) (n * stride + c) ≡ Some size) (sym same) (at_last h c ∙ here)
  ]

  -- a fluent at the first step
  pub first_stands : (h c size : ℕ) → slice_get (domain_sizes signature.fluents) c ≡ Some size → slice_get (position_sizes signature h) c ≡ Some size
  first_stands zero c size at = at
  first_stands (suc h) c size at =
      front all (position_sizes signature h) c (let inside = slice_get_within (domain_sizes signature.fluents) c size at in let long = all_long in let own = length-map signature.fluents (λ (k : Const). length k.domain) in omega arith)
      ∙ ap (λ (l : List ℕ). slice_get l c) (domain_behind signature.fluents signature.actions)
      ∙ front (domain_sizes signature.fluents) (domain_sizes signature.actions) c (slice_get_within (domain_sizes signature.fluents) c size at) ∙ at

  positions_long : (h : ℕ) → length (position_sizes signature h) ≡ h * stride + length signature.fluents
  positions_long zero = length-map signature.fluents (λ (k : Const). length k.domain) ∙ omega arith
  positions_long (suc h) =
      length-append all (position_sizes signature h)
      ∙ (let long = all_long in let more = positions_long h in let next = next_step h in let e : length all + length (position_sizes signature h) ≡ suc h * stride + length signature.fluents = omega arith in e)

  step_within : (h step : ℕ) → step ≤ h → step * stride ≤ length (position_sizes signature h)
  step_within h step within = let long = positions_long h in let less : step * stride ≤ h * stride = mul-le-mul_right stride within in omega arith

  -- ---- terms

  node_stands : (h step : ℕ) → step ≤ h → (node : Node) → Fits (sizes_of_step signature h step) node → Fits (position_sizes signature h) (moved_node (step * stride) node)
  node_stands h step within nodes.True fits = tt
  node_stands h step within nodes.False fits = tt
  node_stands h step within (nodes.Atom constant value) fits = (fits.0, stands h step constant fits.0 within fits.1, fits.2)
  node_stands h step within nodes.Not fits = tt
  node_stands h step within (nodes.All count) fits = tt
  node_stands h step within (nodes.Any count) fits = tt
  node_stands h step within nodes.Same fits = tt

  nodes_stand : (h step : ℕ) → step ≤ h → (term : List Node) → AllByRecursion (Fits (sizes_of_step signature h step)) term → AllByRecursion (Fits (position_sizes signature h)) (moved_nodes (step * stride) term)
  nodes_stand h step within [] fit = tt
  nodes_stand h step within (node ∷ term) fit = (node_stands h step within node fit.0, nodes_stand h step within term fit.1)

  -- as many as a draft takes
  pub few_in_front : stride ≤ 8589934592 → (h : ℕ) → h ≤ 1000 → h * stride ≤ 9000000000000
  few_in_front bound h most = let less : h * stride ≤ 1000 * stride = mul-le-mul_right stride most in omega arith

  module _ (limit h : ℕ) (bound : h * stride ≤ limit) where
    low : (step : ℕ) → step ≤ h → step * stride ≤ limit
    low step within = let less : step * stride ≤ h * stride = mul-le-mul_right stride within in omega arith

    pub term_placed : (step : ℕ) (term : Bor (List Node)) → IsTermAt signature h step term.now → IsPlacedBelow limit (position_sizes signature h) (record { first = step * stride; nodes = term })
    term_placed step term is = record {
      formula = is.term.formula;
      written = is.term.written;
      fits = nodes_stand h step is.within term.now is.term.fits;
      within = step_within h step is.within;
      low = low step is.within;
    }

    -- ---- conditions

    pub condition_placed : h ≤ 1000 → (condition : GroundCondition) → IsConditionAt signature h (plain_ground_condition condition) → (step_of condition.at h ≤ 1000) × IsPlacedBelow limit (position_sizes signature h) (placed_condition stride h condition)
    condition_placed most condition is = ((let within = is.within in omega arith), term_placed (step_of condition.at h) condition.nodes is)

    pub conditions_placed : h ≤ 1000 → (conditions : List GroundCondition) → AllByRecursion (IsConditionAt signature h) (map plain_ground_condition conditions) →
        AllByRecursion (λ condition. (step_of condition.at h ≤ 1000) × IsPlacedBelow limit (position_sizes signature h) (placed_condition stride h condition)) conditions
    conditions_placed most [] are = tt
    conditions_placed most (c ∷ conditions) are = (condition_placed most c are.0, conditions_placed most conditions are.1)

    pub claim_placed : h ≤ 1000 → (claim : Option GroundCondition) → IfSome (option_map plain_ground_condition claim) (IsConditionAt signature h) →
        IfSome claim (λ condition. (step_of condition.at h ≤ 1000) × IsPlacedBelow limit (position_sizes signature h) (placed_condition stride h condition))
    claim_placed most None is = tt
    claim_placed most (Some c) is = condition_placed most c is

    -- ---- laws

    node_fits : (node : Node) → Fits (domain_sizes signature.fluents) node → Fits all node
    node_fits (nodes.Atom constant value) fits = (fits.0, first_in constant fits.0 fits.1, fits.2)
      where
        first_in : (c size : ℕ) → slice_get (domain_sizes signature.fluents) c ≡ Some size → slice_get all c ≡ Some size
        first_in c size at = ap (λ (l : List ℕ). slice_get l c) (domain_behind signature.fluents signature.actions) ∙ front (domain_sizes signature.fluents) (domain_sizes signature.actions) c (slice_get_within (domain_sizes signature.fluents) c size at) ∙ at
    node_fits nodes.True fits = tt
    node_fits nodes.False fits = tt
    node_fits nodes.Not fits = tt
    node_fits (nodes.All operands) fits = tt
    node_fits (nodes.Any operands) fits = tt
    node_fits nodes.Same fits = tt

    nodes_fit : (term : List Node) → AllByRecursion (Fits (domain_sizes signature.fluents)) term → AllByRecursion (Fits all) term
    nodes_fit [] fit = tt
    nodes_fit (node ∷ term) fit = (node_fits node fit.0, nodes_fit term fit.1)

    fluent_term : (step : ℕ) (term : List Node) → step ≤ h → IsTermOver (domain_sizes signature.fluents) term → IsTermAt signature h step term
    fluent_term step term within is = record { within = within; term = chosen (nat_lt step h) }
      where
        chosen : (b : Bool) → IsTermOver (if b then all else domain_sizes signature.fluents) term
        chosen true = record { formula = is.formula; written = is.written; fits = nodes_fit term is.fits }
        chosen false = is

    any_term : (step : ℕ) (term : List Node) → nat_lt step h ≡ true → IsTermOver all term → IsTermAt signature h step term
    any_term step term less is = record {
      within = (let below = ltb-true step h less in omega arith);
      term = subst (λ (b : Bool). IsTermOver (if b then all else domain_sizes signature.fluents) term) (sym less) is;
    }

    module _ (u : Universe) (fluents : u.fluents ≡ signature.fluents) (actions : u.actions ≡ signature.actions) where
      of_fluents : (term : List Node) → IsFluentTerm u term → IsTermOver (domain_sizes signature.fluents) term
      of_fluents term is = subst (λ (l : List Const). IsTermOver (domain_sizes l) term) fluents is

      of_any : (term : List Node) → IsTermOf u term → IsTermOver all term
      of_any term is = subst (λ (l : List Const). IsTermOver (domain_sizes (signature.fluents ++ l)) term) actions (subst (λ (l : List Const). IsTermOver (domain_sizes (l ++ u.actions)) term) fluents is)

      no_after : (after : Option (Bor (List Node))) (step : ℕ) → IsNone (option_map (λ (n : Bor (List Node)). n.now) after) →
          IfSome (option_map (λ (n : Bor (List Node)). record { first = step * stride; nodes = n }) after) (IsPlacedBelow limit (position_sizes signature h))
      no_after None step is = tt
      no_after (Some n) step is = absurd cc

      after_placed : (given : Option (Bor (List Node))) (step : ℕ) → nat_lt step h ≡ true → (after : List Node) → option_map (λ (n : Bor (List Node)). n.now) given ≡ Some after → IsTermOf u after →
          IfSome (option_map (λ (n : Bor (List Node)). record { first = step * stride; nodes = n }) given) (IsPlacedBelow limit (position_sizes signature h))
      after_placed None step less after is term = absurd cc
      after_placed (Some n) step less after is term = term_placed step n (any_term step n.now less (of_any n.now (subst (IsTermOf u) (let same : after ≡ n.now = cc in same) term)))

      where_taken : (b : Bool) (rule : PlacedRule) → (b ≡ true → IsRuleBelow limit (position_sizes signature h) rule) → IfSome (if b then Some rule else None) (IsRuleBelow limit (position_sizes signature h))
      where_taken true rule over = over refl
      where_taken false rule over = tt

      kind_over : (kind : LawKind) (law : WideGroundLaw) (step : ℕ) → step ≤ h → IsWideOfKind kind u (plain_wide_ground law) → IfSome (placed_of_kind kind stride h step law) (IsRuleBelow limit (position_sizes signature h))
      kind_over law_kinds.Static law step within is = record {
        head = term_placed step law.head (fluent_term step law.head.now within (of_fluents law.head.now is.head));
        body = term_placed step law.body (fluent_term step law.body.now within (of_fluents law.body.now is.body));
        after = no_after law.after step is.after;
      }
      kind_over law_kinds.ActionDynamic law step within is = where_taken (nat_lt step h) (placed_rule stride law step step) (λ e. record {
        head = term_placed step law.head (any_term step law.head.now e (of_any law.head.now is.head));
        body = term_placed step law.body (any_term step law.body.now e (of_any law.body.now is.body));
        after = no_after law.after step is.after;
      })
      kind_over law_kinds.FluentDynamic law step within is = where_taken (nat_lt step h) (placed_rule stride law (step + 1) step) (λ e.
          let later : step + 1 ≤ h = (let less = ltb-true step h e in omega arith) in
          record {
            head = term_placed (step + 1) law.head (fluent_term (step + 1) law.head.now later (of_fluents law.head.now is.head));
            body = term_placed (step + 1) law.body (fluent_term (step + 1) law.body.now later (of_fluents law.body.now is.body));
            after = after_placed law.after step e is.after is.written is.term;
          })

      universe_over : (laws : List WideGroundLaw) (step : ℕ) → step ≤ h → AllByRecursion (λ law. IsWideOfKind law.kind u law) (map plain_wide_ground laws) → AllByRecursion (IsLawBelow limit (position_sizes signature h) stride h step) laws
      universe_over [] step within are = tt
      universe_over (law ∷ laws) step within are = (kind_over law.kind law step within are.0, universe_over laws step within are.1)

    pub laws_over : (laws : List WideGroundLaw) → AreWideLawsFor signature laws → (step : ℕ) → step ≤ h → AllByRecursion (IsLawBelow limit (position_sizes signature h) stride h step) laws
    laws_over laws are step within = universe_over are.u are.fluents are.actions laws step within are.laws_fit
