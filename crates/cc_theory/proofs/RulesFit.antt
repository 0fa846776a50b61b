-- The rules that are made from ground laws are rules of the horizon: their heads are atoms of it, or falsity, and their parts are
-- terms of their steps.
use Rattle.std.proofs.Common.{Bor, ◌≡◌, ◌∙◌, ℕ, suc, ◌+◌, ◌*◌, ◌%◌, ◌<◌, ◌≤◌, Bool, true, false, List, [], ◌∷◌, ◌++◌, length, flat_map, nat_lt, slice_get, Option, Some, None, refl, sym, ap, subst, arith, option_map, length-append}
use Rattle.std.specs.Prelude.{if◌then◌else◌, IfSome, IsNone}
use Rattle.std.specs.List.{AllByRecursion}
use Rattle.std.proofs.Math.Nat.{mul-le-mul_right, add-mul, mul_comm, mul-add}
use Rattle.std.proofs.lemmas.Bool.{ltb-true}
use Rattle.std.proofs.lemmas.Nat.{mod-mul-add}
use Rattle.std.proofs.lemmas.Option.{slice_get_within}
use Rattle.cc_arena.specs.declared.ground_laws.GroundLaw.{GroundLaw}
use Rattle.cc_arena.specs.GroundViews.{plain_ground_law, plain_ground_laws}
use Rattle.cc_defs.specs.declared.node.GroundHead.{GroundHead}
use Rattle.cc_defs.specs.declared.node.GroundHead.TheVariants as heads
use Rattle.cc_defs.specs.declared.node.Node.{Node}
use Rattle.cc_defs.specs.declared.node.Node.TheVariants as nodes
use Rattle.cc_defs.specs.declared.signature.Const.{Const}
use Rattle.cc_defs.specs.declared.signature.Kind.{Kind}
use Rattle.cc_defs.specs.declared.signature.Kind.TheVariants as kinds
use Rattle.cc_defs.specs.declared.signature.LawKind.{LawKind}
use Rattle.cc_defs.specs.declared.signature.LawKind.TheVariants as law_kinds
use Rattle.cc_defs.specs.Conditions.{AreGroundLaws, IsTermOf, IsGroundFluentHead, IsGroundSimpleHead, IsGroundActionHead, IsGroundOfKind}
use Rattle.cc_defs.specs.Description.{domain_sizes}
use Rattle.cc_defs.specs.Rules.{upto}
use Rattle.cc_defs.specs.Signatures.{Signature, ground_constants, position_count}
use Rattle.cc_defs.specs.Terms.{Fits, IsTermOver}
use Rattle.cc_defs.specs.Universe.{Universe, constants_in}
use Rattle.cc_theory.specs.declared.rule.Timed.{Timed}
use Rattle.cc_theory.specs.declared.rule.TimedRule.{TimedRule}
use Rattle.cc_theory.specs.Making.{all_initial, head_at, initial_of, initial_rule, rule_at, rule_of_kind, rules_at_step, rules_for, rules_in}
use Rattle.cc_theory.specs.Theories.{AreLawsFor, AreRulesAt, IsAtom, IsHeadAt, IsRuleAt, IsTermAt}
use Rattle.cc_theory.proofs.HeadsFit.{all_behind, among_first, flat_upto, mapped_upto}

-- ---- terms of fluents are terms of all constants

module _ (fluents actions : List Const) where
  node_fits : (node : Node) → Fits (domain_sizes fluents) node → Fits (domain_sizes (fluents ++ actions)) node
  node_fits (nodes.Atom constant value) fits = (
    fits.0,
    subst (λ (sizes : List ℕ). slice_get sizes constant ≡ Some fits.0) (sym (sizes_behind fluents)) (among_first (domain_sizes fluents) (domain_sizes actions) constant fits.0 fits.1),
    fits.2,
  )
    where
      sizes_behind : (constants : List Const) → domain_sizes (constants ++ actions) ≡ domain_sizes constants ++ domain_sizes actions
      sizes_behind [] = refl
      sizes_behind (c ∷ constants) = ap (λ (l : List ℕ). length c.domain ∷ l) (sizes_behind constants)
  node_fits nodes.True fits = tt
  node_fits nodes.False fits = tt
  node_fits nodes.Not fits = tt
  node_fits (nodes.All operands) fits = tt
  node_fits (nodes.Any operands) fits = tt
  node_fits nodes.Same fits = tt

  nodes_fit : (term : List Node) → AllByRecursion (Fits (domain_sizes fluents)) term → AllByRecursion (Fits (domain_sizes (fluents ++ actions))) term
  nodes_fit [] fit = tt
  nodes_fit (node ∷ term) fit = (node_fits node fit.0, nodes_fit term fit.1)

module _ (signature : Signature) (horizon : ℕ) where
  fluent_term : (step : ℕ) (term : List Node) → step ≤ horizon → IsTermOver (domain_sizes signature.fluents) term → IsTermAt signature horizon step term
  fluent_term step term within is = record { within = within; term = chosen (nat_lt step horizon) }
    where
      chosen : (b : Bool) → IsTermOver (if b then domain_sizes (ground_constants signature) else domain_sizes signature.fluents) term
      chosen true = record { formula = is.formula; written = is.written; fits = nodes_fit signature.fluents signature.actions term is.fits }
      chosen false = is

  any_term : (step : ℕ) (term : List Node) → nat_lt step horizon ≡ true → IsTermOver (domain_sizes (ground_constants signature)) term → IsTermAt signature horizon step term
  any_term step term less is = record {
    within = (let below = ltb-true step horizon less in omega arith);
    term = subst (λ (b : Bool). IsTermOver (if b then domain_sizes (ground_constants signature) else domain_sizes signature.fluents) term) (sym less) is;
  }

  -- ---- heads

  abbrev F : ℕ
  F = length signature.fluents

  abbrev A : ℕ
  A = length signature.actions

  abbrev stride : ℕ
  stride = F + A

  atom_at : (step number value : ℕ) (found : Const) → slice_get (ground_constants signature) number ≡ Some found → value < length found.domain →
      step * stride + number < position_count signature horizon → IsAtom signature horizon (step * stride + number) value
  atom_at step number value found at less within =
      let long : length (ground_constants signature) ≡ stride = length-append signature.fluents signature.actions in
      let number_less : number < stride = (let here = slice_get_within (ground_constants signature) number found at in omega arith) in
      record {
        constant = found;
        within = within;
        found = ap (λ (n : ℕ). slice_get (ground_constants signature) ((step * stride + number) % n)) long
            ∙ ap (slice_get (ground_constants signature)) (mod-mul-add step stride number number_less) ∙ at;
        short = less;
      }

  fluent_within : (step number : ℕ) → step ≤ horizon → number < F → step * stride + number < position_count signature horizon
  fluent_within step number at less =
      let f : step * F ≤ horizon * F = mul-le-mul_right F at in
      let a : step * A ≤ horizon * A = mul-le-mul_right A at in
      let sum : step * stride ≡ step * F + step * A = mul-add step F A in
      let f_turned : F * (horizon + 1) ≡ horizon * F + F = mul_comm F (horizon + 1) ∙ add-mul horizon 1 F ∙ omega arith in
      let a_turned : A * horizon ≡ horizon * A = mul_comm A horizon in
      omega arith

  action_within : (step number : ℕ) → step < horizon → number < stride → step * stride + number < position_count signature horizon
  action_within step number at less =
      let whole : (step + 1) * stride ≤ horizon * stride = mul-le-mul_right stride (let e : step + 1 ≤ horizon = omega arith in e) in
      let spread : (step + 1) * stride ≡ step * stride + stride = add-mul step 1 stride ∙ omega arith in
      let sum : horizon * stride ≡ horizon * F + horizon * A = mul-add horizon F A in
      let f_turned : F * (horizon + 1) ≡ horizon * F + F = mul_comm F (horizon + 1) ∙ add-mul horizon 1 F ∙ omega arith in
      let a_turned : A * horizon ≡ horizon * A = mul_comm A horizon in
      omega arith

  fluent_atom : (step number value : ℕ) (found : Const) → step ≤ horizon → slice_get signature.fluents number ≡ Some found → value < length found.domain →
      IsAtom signature horizon (step * stride + number) value
  fluent_atom step number value found within at less =
      atom_at step number value found (among_first signature.fluents signature.actions number found at) less
      (fluent_within step number within (slice_get_within signature.fluents number found at))

  first_atom : (number value : ℕ) (found : Const) → slice_get signature.fluents number ≡ Some found → value < length found.domain → IsAtom signature horizon number value
  first_atom number value found at less =
      subst (λ (p : ℕ). IsAtom signature horizon p value) (let e : 0 * stride + number ≡ number = omega arith in e) (fluent_atom 0 number value found (omega arith) at less)

  -- ---- initial rules

  abbrev Fit : TimedRule → Type 0
  Fit rule = IsRuleAt signature horizon rule

  initial_fit : (kind : Kind) (number : ℕ) (found : Const) → slice_get signature.fluents number ≡ Some found → AllByRecursion Fit (initial_of kind number (length found.domain))
  initial_fit kinds.Simple number found at = mapped_upto Fit (initial_rule number) (length found.domain)
      (λ value less. record { head = first_atom number value found at less; now = tt; before = tt })
  initial_fit kinds.Determined number found at = tt
  initial_fit kinds.Action number found at = tt

  all_initial_fit : (number : ℕ) (cs : List Const) → ((i : ℕ) (c : Const) → slice_get cs i ≡ Some c → slice_get signature.fluents (number + i) ≡ Some c) →
      AllByRecursion Fit (all_initial number cs)
  all_initial_fit number [] at = tt
  all_initial_fit number (c ∷ cs) at =
      let here : slice_get signature.fluents number ≡ Some c = ap (slice_get signature.fluents) (let e : number ≡ number + 0 = omega arith in e) ∙ at 0 c refl in
      all_behind Fit (initial_of c.kind number (length c.domain)) (all_initial (number + 1) cs) (initial_fit c.kind number c here)
      (all_initial_fit (number + 1) cs (λ i d e. ap (slice_get signature.fluents) (let s : number + 1 + i ≡ number + suc i = omega arith in s) ∙ at (suc i) d e))

-- ---- rules of laws

module _ (u : Universe) (horizon : ℕ) where
  abbrev own : Signature
  own = record { fluents = u.fluents; actions = u.actions; numbers = u.numbers }

  fluent_head : (head : GroundHead) (step : ℕ) → step ≤ horizon → IsGroundFluentHead u head → IsHeadAt own horizon (head_at (stride own horizon) step head)
  fluent_head (heads.Atom number value) step within is = fluent_atom own horizon step number value is.0 within is.1 is.2
  fluent_head heads.Falsity step within is = tt

  simple_head : (head : GroundHead) (step : ℕ) → step ≤ horizon → IsGroundSimpleHead u head → IsHeadAt own horizon (head_at (stride own horizon) step head)
  simple_head (heads.Atom number value) step within is = fluent_atom own horizon step number value is.0 within is.1 is.2
  simple_head heads.Falsity step within is = tt

  action_head : (head : GroundHead) (step : ℕ) → step < horizon → IsGroundActionHead u head → IsHeadAt own horizon (head_at (stride own horizon) step head)
  action_head (heads.Atom number value) step within is =
      let long : length (constants_in u) ≡ stride own horizon = length-append u.fluents u.actions in
      let less : number < stride own horizon = (let here = slice_get_within (constants_in u) number is.0 is.2 in omega arith) in
      atom_at own horizon step number value is.0 is.2 is.3 (action_within own horizon step number within less)
  action_head heads.Falsity step within is = tt

  where_taken : (b : Bool) (rule : TimedRule) → (b ≡ true → Fit own horizon rule) → AllByRecursion (Fit own horizon) (rules_in (if b then Some rule else None))
  where_taken true rule fits = (fits refl, tt)
  where_taken false rule fits = tt

  -- an `after` part that is missing, or is a term of its step
  abbrev PartFits : Option Timed → Type 0
  PartFits part = IfSome part (λ timed. IsTermAt own horizon timed.step timed.nodes.now)

  abbrev AfterFits : ℕ → Option (Bor (List Node)) → Type 0
  AfterFits step after = PartFits (option_map (λ nodes. record { step = step; nodes = nodes }) after)

  no_after : (after : Option (Bor (List Node))) (step : ℕ) → IsNone (option_map (λ (n : Bor (List Node)). n.now) after) → AfterFits step after
  no_after None step is = tt
  no_after (Some n) step is = absurd cc

  after_part : (given : Option (Bor (List Node))) (step : ℕ) → nat_lt step horizon ≡ true → (after : List Node) →
      option_map (λ (n : Bor (List Node)). n.now) given ≡ Some after → IsTermOf u after → AfterFits step given
  after_part None step e after is term = absurd cc
  after_part (Some n) step e after is term = any_term own horizon step n.now e (subst (IsTermOf u) (let same : after ≡ n.now = cc in same) term)

  kind_fits : (kind : LawKind) (law : GroundLaw) (step : ℕ) → step ≤ horizon → IsGroundOfKind kind u (plain_ground_law law) →
      AllByRecursion (Fit own horizon) (rules_in (rule_of_kind kind (stride own horizon) horizon step law))
  kind_fits law_kinds.Static law step within is =
      (record { head = fluent_head law.head step within is.head; now = fluent_term own horizon step law.body.now within is.body; before = no_after law.after step is.after }, tt)
  kind_fits law_kinds.ActionDynamic law step within is = where_taken (nat_lt step horizon) _ (λ e. record {
    head = action_head law.head step (ltb-true step horizon e) is.head;
    now = any_term own horizon step law.body.now e is.body;
    before = no_after law.after step is.after;
  })
  kind_fits law_kinds.FluentDynamic law step within is = where_taken (nat_lt step horizon) _ (λ e.
      let later : step + 1 ≤ horizon = (let less = ltb-true step horizon e in omega arith) in
      record {
        head = simple_head law.head (step + 1) later is.head;
        now = fluent_term own horizon (step + 1) law.body.now later is.body;
        before = after_part law.after step e is.after is.written is.term;
      })

  laws_fit : (laws : List GroundLaw) (step : ℕ) → step ≤ horizon → AreGroundLaws u (plain_ground_laws laws) → AllByRecursion (Fit own horizon) (rules_at_step (stride own horizon) laws horizon step)
  laws_fit [] step within are = tt
  laws_fit (law ∷ laws) step within are =
      all_behind (Fit own horizon) (rules_in (rule_at (stride own horizon) horizon step law)) (rules_at_step (stride own horizon) laws horizon step)
      (kind_fits law.kind law step within are.0) (laws_fit laws step within are.1)

  universe_fits : (laws : List GroundLaw) → AreGroundLaws u (plain_ground_laws laws) → AreRulesAt own horizon (rules_for own laws horizon)
  universe_fits laws are =
      all_behind (Fit own horizon) (all_initial 0 u.fluents) (flat_map (rules_at_step (stride own horizon) laws horizon) (upto (horizon + 1)))
      (all_initial_fit own horizon 0 u.fluents (λ i c e. ap (slice_get u.fluents) (let s : 0 + i ≡ i = omega arith in s) ∙ e))
      (flat_upto (Fit own horizon) (rules_at_step (stride own horizon) laws horizon) (horizon + 1) (λ step less. laws_fit laws step (omega arith) are))

pub rules_fit : (signature : Signature) (laws : List GroundLaw) (horizon : ℕ) → AreLawsFor signature laws → AreRulesAt signature horizon (rules_for signature laws horizon)
rules_fit signature laws horizon are =
    subst (λ (s : Signature). AreRulesAt s horizon (rules_for s laws horizon)) (same are.fluents are.actions are.numbers) (universe_fits are.u horizon laws are.laws_fit)
  where
    same : {fluents actions : List Const} {numbers : List (Option ℕ)} → fluents ≡ signature.fluents → actions ≡ signature.actions → numbers ≡ signature.numbers →
        record { fluents = fluents; actions = actions; numbers = numbers } ≡ signature
    same {fluents} {actions} {numbers} f a n i = record { fluents = f i; actions = a i; numbers = n i }
