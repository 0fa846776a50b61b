-- The rules of a horizon as data have the tests of its theory.
use Rattle.std.proofs.Common.{◌≡◌, ◌∙◌, ℕ, ◌+◌, Bool, true, false, ◌&&◌, List, [], ◌∷◌, length, map, flat_map, nat_lt, Option, Some, None, refl, sym, ap, subst, is_some}
use Rattle.std.specs.Prelude.{slice_index, if◌then◌else◌}
use Rattle.std.specs.List.{AllByRecursion, AllZip}
use Rattle.cc_arena.specs.Laws.{TermsMeanFormulas, HeadsMeanHeads, HeadsThereAreGround}
use Rattle.cc_arena.specs.Walks.{OneFormula}
use Rattle.cc_defs.specs.declared.node.GroundHead.{GroundHead}
use Rattle.cc_defs.specs.declared.signature.Const.{Const}
use Rattle.cc_defs.specs.declared.signature.Kind.{Kind}
use Rattle.cc_defs.specs.declared.signature.Kind.TheVariants as kinds
use Rattle.cc_defs.specs.declared.signature.LawKind.{LawKind}
use Rattle.cc_defs.specs.declared.signature.LawKind.TheVariants as law_kinds
use Rattle.cc_defs.specs.Description.{Description, values_at}
use Rattle.cc_defs.specs.Environments.{Instance, Under, Together, instances, instances_from, instances_of, pairs_of, choices, has_instance, passes, range_values}
use Rattle.cc_defs.specs.GroundLaws.{ground_head}
use Rattle.cc_defs.specs.Nodes.{term_of}
use Rattle.cc_defs.specs.Resolved.{Formula, Law, BaseLaw}
use Rattle.cc_defs.specs.Resolved as resolved
use Rattle.cc_defs.specs.Rules.{upto, initial_rule, initial_rules, initial_rules_of, part_satisfied, rule_at, rules_of_kind, rules_of_instance, rules_at_step, rules_at, not_together}
use Rattle.cc_defs.specs.Satisfaction.{Environment, giving, satisfied, head_is_there}
use Rattle.cc_defs.specs.Terms.{Ground, truth}
use Rattle.cc_defs.specs.Theories.{Rule}
use Rattle.cc_defs.specs.TimedRules.{TimedRule, all_initial_timed, initial_timed, at_step, part_at, timed_at, timed_of_kind, timed_of_instance, timed_rules, timed_together, timed_with}
use Rattle.cc_defs.specs.Universe.{HaveOwnValues, boolean_actions}
use Rattle.cc_theory.specs.Completion.{holds}
use Rattle.cc_theory.proofs.Cases.{head_at, joined_truth, step_truth}
use Rattle.cc_theory.proofs.Lists.{all_append, all_in, all_map, all_passing, both_hold, zip_append, zip_flat, zip_map}
use Rattle.cc_theory.proofs.Supported.{SameRule}

-- what terms and heads mean
pub record Meaning : Type 0 where
  pub terms_mean : TermsMeanFormulas
  pub one : OneFormula
  pub heads_mean : HeadsMeanHeads
  pub there : HeadsThereAreGround

some_of : {X : Type 0} → (o : Option X) → is_some o ≡ true → (x : X) × (o ≡ Some x)
some_of (Some x) e = (x, refl)
some_of None e = absurd cc

module _ (meaning : Meaning) (d : Description) (own : HaveOwnValues d.universe) where
  term_is : (v : ℕ → ℕ) (env : Environment) (formula : Formula) → truth v (term_of d.universe env formula) ≡ satisfied d.universe v env formula
  term_is v env formula =
      let m = meaning.terms_mean d.universe own env formula in
      ap (λ (g : Ground). truth v g) (meaning.one (term_of d.universe env formula) m.term m.written) ∙ m.truth_is v

  part_is : (row : List ℕ) (env : Environment) (step : ℕ) (part : Option Formula) → holds row (part_at d env step part) ≡ part_satisfied d env row step part
  part_is row env step None = refl
  part_is row env step (Some formula) = step_truth d row step (term_of d.universe env formula) ∙ term_is (λ number. values_at d row step number) env formula

  -- ---- an instance has a ground head

  abbrev HasHead : Instance → Type 0
  HasHead (Under base law values) = (head : GroundHead) × (ground_head d.universe (giving values) law.head ≡ Some head)
  HasHead (Together base pair) = Unit {0}

  law_has : (base : ℕ) (law : BaseLaw) → AllByRecursion HasHead (instances_of d.universe base law)
  law_has base (resolved.One law) =
      all_passing HasHead (Under base law) (has_instance d.universe law) (choices (map (range_values d.universe) law.ranges)) (λ values passing.
      some_of (ground_head d.universe (giving values) law.head)
      (sym (meaning.there d.universe (giving values) law.head) ∙ (both_hold (passes d.universe law.test values) (head_is_there d.universe (giving values) law.head) passing).1))
  law_has base (resolved.NoConcurrency file line) = all_map HasHead (Together base) (pairs_of (boolean_actions d.universe)) (λ pair. tt)

  have_from : (base : ℕ) (laws : List BaseLaw) → AllByRecursion HasHead (instances_from d.universe base laws)
  have_from base [] = tt
  have_from base (law ∷ laws) = all_append HasHead (instances_of d.universe base law) (instances_from d.universe (base + 1) laws) (law_has base law) (have_from (base + 1) laws)

  -- ---- rules

  rule_same : (law : Law) (env : Environment) (now before : ℕ) (head : GroundHead) → ground_head d.universe env law.head ≡ Some head →
      AllZip SameRule (rule_at d law env now before ∷ []) (timed_at d law env now before)
  rule_same law env now before head e =
      subst (λ (o : Option GroundHead). AllZip SameRule (rule_at d law env now before ∷ []) (timed_with d law env now before o)) (sym e) (
        record {
          head = λ row. sym (head_at d row now head ∙ meaning.heads_mean d.universe own env law.head head e (λ number. values_at d row now number));
          body = λ row.
              sym (joined_truth (λ position. slice_index row position) (at_step d now (term_of d.universe env law.body)) (part_at d env before law.after)
              ∙ ap (λ (b : Bool). b && holds row (part_at d env before law.after)) (step_truth d row now (term_of d.universe env law.body) ∙ term_is (λ number. values_at d row now number) env law.body)
              ∙ ap (λ (b : Bool). satisfied d.universe (λ number. values_at d row now number) env law.body && b) (part_is row env before law.after));
        },
        tt,
      )

  module _ (horizon step : ℕ) where
    where_before : (b : Bool) (rules : List Rule) (timed : List TimedRule) → AllZip SameRule rules timed → AllZip SameRule (if b then rules else []) (if b then timed else [])
    where_before true rules timed same = same
    where_before false rules timed same = tt

    kind_same : (kind : LawKind) (law : Law) (env : Environment) (head : GroundHead) → ground_head d.universe env law.head ≡ Some head →
        AllZip SameRule (rules_of_kind kind d horizon law step env) (timed_of_kind kind d horizon law step env)
    kind_same law_kinds.Static law env head e = rule_same law env step step head e
    kind_same law_kinds.ActionDynamic law env head e = where_before (nat_lt step horizon) _ _ (rule_same law env step step head e)
    kind_same law_kinds.FluentDynamic law env head e = where_before (nat_lt step horizon) _ _ (rule_same law env (step + 1) step head e)

    instance_same : (instance : Instance) → HasHead instance → AllZip SameRule (rules_of_instance d horizon step instance) (timed_of_instance d horizon step instance)
    instance_same (Under base law values) has = kind_same law.kind law (giving values) has.0 has.1
    instance_same (Together base pair) has =
        where_before (nat_lt step horizon) (not_together d step pair ∷ []) (timed_together d step pair ∷ []) (record { head = λ row. refl; body = λ row. refl }, tt)

  initial_same_of : (kind : Kind) (number size : ℕ) → AllZip SameRule (initial_rules_of kind number size) (initial_timed kind number size)
  initial_same_of kinds.Simple number size = zip_map SameRule (initial_rule number) _ (upto size) (λ value. record { head = λ row. refl; body = λ row. refl })
  initial_same_of kinds.Determined number size = tt
  initial_same_of kinds.Action number size = tt

  initial_same : (number : ℕ) (constants : List Const) → AllZip SameRule (initial_rules number constants) (all_initial_timed number constants)
  initial_same number [] = tt
  initial_same number (constant ∷ constants) =
      zip_append SameRule (initial_rules_of constant.kind number (length constant.domain)) (initial_rules (number + 1) constants)
      (initial_timed constant.kind number (length constant.domain)) (all_initial_timed (number + 1) constants)
      (initial_same_of constant.kind number (length constant.domain)) (initial_same (number + 1) constants)

  pub rules_same : (horizon : ℕ) → AllZip SameRule (rules_at d horizon) (timed_rules d horizon)
  rules_same horizon =
      let is = instances d.universe d.laws in
      zip_append SameRule (initial_rules 0 d.universe.fluents) (flat_map (rules_at_step d horizon) (upto (horizon + 1)))
      (all_initial_timed 0 d.universe.fluents) (flat_map (λ step. flat_map (timed_of_instance d horizon step) is) (upto (horizon + 1)))
      (initial_same 0 d.universe.fluents)
      (zip_flat SameRule (rules_at_step d horizon) (λ step. flat_map (timed_of_instance d horizon step) is) (upto (horizon + 1)) (λ step here.
      zip_flat SameRule (rules_of_instance d horizon step) (timed_of_instance d horizon step) is (λ instance there.
      instance_same horizon step instance (all_in HasHead is (have_from 0 d.laws) instance there))))
