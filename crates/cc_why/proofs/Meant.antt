-- What ground laws mean at a step is the sourced rules of a description that the laws stand for.
use Rattle.std.proofs.Common.{◌≡◌, ◌∙◌, ℕ, ◌+◌, ◌*◌, Bool, true, false, List, [], ◌∷◌, ◌++◌, map, flat_map, nat_lt, Option, Some, None, refl, sym, ap, subst, option_map, Bor}
use Rattle.std.specs.Prelude.{if◌then◌else◌}
use Rattle.cc_arena.specs.declared.ground_laws.GroundLaw.{GroundLaw}
use Rattle.cc_arena.specs.GroundViews.{plain_ground_law, plain_ground_laws}
use Rattle.cc_defs.specs.declared.node.GroundHead.{GroundHead}
use Rattle.cc_defs.specs.declared.node.GroundHead.TheVariants as heads
use Rattle.cc_defs.specs.declared.node.Node.{Node}
use Rattle.cc_defs.specs.declared.signature.LawKind.{LawKind}
use Rattle.cc_defs.specs.declared.signature.LawKind.TheVariants as law_kinds
use Rattle.cc_defs.specs.Description.{Description, stride}
use Rattle.cc_defs.specs.Environments.{Instance, Under, Together, instances}
use Rattle.cc_defs.specs.GroundLaws.{PlainGroundLaw, StandFor, ground_head, law_of_instance, law_with, pair_law}
use Rattle.cc_defs.specs.Nodes.{nodes_of, term_of}
use Rattle.cc_defs.specs.Resolved.{Formula, Law}
use Rattle.cc_defs.specs.Satisfaction.{Environment, giving}
use Rattle.cc_defs.specs.Terms.{Ground, all_of, postfix}
use Rattle.cc_defs.specs.Terms as terms
use Rattle.cc_defs.specs.TimedRules.{TimedRule, at_step, head_at_step, joined_parts, moved, part_at, timed_of_kind, timed_of_instance, timed_with}
use Rattle.cc_theory.specs.Making.{head_at, rule_of}
use Rattle.cc_theory.specs.Theories.{IsPart, IsRuleOf, plain_head}
use Rattle.cc_why.specs.Causes.{Sourced, cause_of, sourced, sourced_at_step}
use Rattle.cc_why.specs.declared.cause.Cause.TheVariants as kinds
use Rattle.cc_why.specs.Noting.{MeanAt, MeansAt, after_at, head_step}

module _ (d : Description) where
  head_same : (step : ℕ) (head : GroundHead) → plain_head (head_at (stride d) step head) ≡ head_at_step d step head
  head_same step (heads.Atom constant value) = refl
  head_same step heads.Falsity = refl

  -- a ground law of this number that has the terms of these formulas
  pub record HasTerms (law : GroundLaw) (base : ℕ) (kind : LawKind) (head : GroundHead) (now before : Ground) : Type 0 where
    pub base_is : law.base ≡ base
    pub kind_is : law.kind ≡ kind
    pub head_is : law.head ≡ head
    pub now_is : law.body.now ≡ postfix now
    pub before_is : (step : ℕ) → IsPart (stride d) (after_at law step) (moved (step * stride d) before)

  abbrev meant_rule : ℕ → ℕ → GroundHead → Ground → Ground → TimedRule
  meant_rule now before head first second = record { head = head_at_step d now head; body = joined_parts (at_step d now first) (at_step d before second) }

  module _ (horizon step : ℕ) where
    -- the rules of an instance at a step
    abbrev meant_of_kind : LawKind → GroundHead → Ground → Ground → List TimedRule
    meant_of_kind law_kinds.Static head first second = meant_rule step step head first second ∷ []
    meant_of_kind law_kinds.ActionDynamic head first second = if nat_lt step horizon then meant_rule step step head first second ∷ [] else []
    meant_of_kind law_kinds.FluentDynamic head first second = if nat_lt step horizon then meant_rule (step + 1) step head first second ∷ [] else []

    abbrev of_law : ℕ → List TimedRule → List Sourced
    of_law base rules = map (sourced (kinds.Law base)) rules

    -- what is meant by a law with these terms
    module _ (law : GroundLaw) (base : ℕ) (kind : LawKind) (head : GroundHead) (first second : Ground) (has : HasTerms law base kind head first second) where
      rule_same : (now : ℕ) → IsRuleOf (stride d) (rule_of (stride d) law now step) (meant_rule now step head first second)
      rule_same now = record {
        head = ap (λ (h : GroundHead). plain_head (head_at (stride d) now h)) has.head_is ∙ head_same now head;
        body = (at_step d now first, at_step d step second, (first, has.now_is, refl), has.before_is step, refl);
      }

      rule_meant : (now : ℕ) → MeansAt (stride d) step law (Some now) (of_law base (meant_rule now step head first second ∷ []))
      rule_meant now = (meant_rule now step head first second, rule_same now, ap (λ (n : ℕ). sourced (kinds.Law n) (meant_rule now step head first second) ∷ []) (sym has.base_is))

      where_below : (b : Bool) (now : ℕ) → MeansAt (stride d) step law (if b then Some now else None) (of_law base (if b then meant_rule now step head first second ∷ [] else []))
      where_below true now = rule_meant now
      where_below false now = refl

      kind_meant : (wanted : LawKind) → MeansAt (stride d) step law (head_step wanted horizon step) (of_law base (meant_of_kind wanted head first second))
      kind_meant law_kinds.Static = rule_meant step
      kind_meant law_kinds.ActionDynamic = where_below (nat_lt step horizon) step
      kind_meant law_kinds.FluentDynamic = where_below (nat_lt step horizon) (step + 1)

      law_meant : MeansAt (stride d) step law (head_step law.kind horizon step) (of_law base (meant_of_kind kind head first second))
      law_meant = subst (λ (k : LawKind). MeansAt (stride d) step law (head_step k horizon step) (of_law base (meant_of_kind kind head first second))) (sym has.kind_is) (kind_meant kind)

    abbrev Continues : List PlainGroundLaw → List Sourced → Type 0
    Continues rest more = (laws : List GroundLaw) → plain_ground_laws laws ≡ rest → MeanAt (stride d) horizon step laws more

    -- with a ground law in front
    in_front : (p : PlainGroundLaw) (rest : List PlainGroundLaw) (own more : List Sourced) →
        ((law : GroundLaw) → plain_ground_law law ≡ p → MeansAt (stride d) step law (head_step law.kind horizon step) own) →
        Continues rest more → Continues (p ∷ rest) (own ++ more)
    in_front p rest own more here later [] e = absurd cc
    in_front p rest own more here later (law ∷ laws) e = (own, more, here law cc, later laws cc, refl)

    module _ (law : Law) (env : Environment) where
      abbrev before_meant : Option Formula → Ground
      before_meant None = terms.Truth
      before_meant (Some formula) = term_of d.universe env formula

      part_same : (before : ℕ) (after : Option Formula) → at_step d before (before_meant after) ≡ part_at d env before after
      part_same before None = refl
      part_same before (Some formula) = refl

      part_from : (given : Option (Bor (List Node))) (after : Option Formula) → option_map (λ nodes. nodes.now) given ≡ option_map (nodes_of d.universe env) after → (at : ℕ) →
          IsPart (stride d) (option_map (λ nodes. record { step = at; nodes = nodes }) given) (moved (at * stride d) (before_meant after))
      part_from None None e at = refl
      part_from None (Some formula) e at = absurd cc
      part_from (Some nodes) None e at = absurd cc
      part_from (Some nodes) (Some formula) e at = (term_of d.universe env formula, cc, refl)

      made_terms : (base : ℕ) (head : GroundHead) (made : GroundLaw) →
          plain_ground_law made ≡ record { head = head; body = nodes_of d.universe env law.body; after = option_map (nodes_of d.universe env) law.after; kind = law.kind; base = base } →
          HasTerms made base law.kind head (term_of d.universe env law.body) (before_meant law.after)
      made_terms base head made e = record {
        base_is = ap (λ p. p.base) e;
        kind_is = ap (λ p. p.kind) e;
        head_is = ap (λ p. p.head) e;
        now_is = ap (λ p. p.body) e;
        before_is = part_from made.after law.after (ap (λ p. p.after) e);
      }

      abbrev with_kind : LawKind → Option GroundHead → List TimedRule
      with_kind law_kinds.Static o = timed_with d law env step step o
      with_kind law_kinds.ActionDynamic o = if nat_lt step horizon then timed_with d law env step step o else []
      with_kind law_kinds.FluentDynamic o = if nat_lt step horizon then timed_with d law env (step + 1) step o else []

      kind_is : (kind : LawKind) → timed_of_kind kind d horizon law step env ≡ with_kind kind (ground_head d.universe env law.head)
      kind_is law_kinds.Static = refl
      kind_is law_kinds.ActionDynamic = refl
      kind_is law_kinds.FluentDynamic = refl

      abbrev meant_rules : ℕ → ℕ → GroundHead → Ground → List TimedRule
      meant_rules now before head part = record { head = head_at_step d now head; body = joined_parts (at_step d now (term_of d.universe env law.body)) part } ∷ []

      some_is : (kind : LawKind) (head : GroundHead) → meant_of_kind kind head (term_of d.universe env law.body) (before_meant law.after) ≡ with_kind kind (Some head)
      some_is law_kinds.Static head = ap (meant_rules step step head) (part_same step law.after)
      some_is law_kinds.ActionDynamic head = ap (λ part. if nat_lt step horizon then meant_rules step step head part else []) (part_same step law.after)
      some_is law_kinds.FluentDynamic head = ap (λ part. if nat_lt step horizon then meant_rules (step + 1) step head part else []) (part_same step law.after)

      abbrev nil : List TimedRule
      nil = []

      neither : (b : Bool) → nil ≡ (if b then nil else nil)
      neither true = refl
      neither false = refl

      none_is : (kind : LawKind) → nil ≡ with_kind kind None
      none_is law_kinds.Static = refl
      none_is law_kinds.ActionDynamic = neither (nat_lt step horizon)
      none_is law_kinds.FluentDynamic = neither (nat_lt step horizon)

      under : (base : ℕ) (o : Option GroundHead) (rest : List PlainGroundLaw) (more : List Sourced) → Continues rest more →
          Continues (law_with d.universe base law env o ++ rest) (of_law base (with_kind law.kind o) ++ more)
      under base None rest more later = subst (λ (own : List TimedRule). Continues rest (of_law base own ++ more)) (none_is law.kind) later
      under base (Some head) rest more later =
          subst (λ (own : List TimedRule). Continues (law_with d.universe base law env (Some head) ++ rest) (of_law base own ++ more)) (some_is law.kind head)
          (in_front _ rest (of_law base (meant_of_kind law.kind head (term_of d.universe env law.body) (before_meant law.after))) more
          (λ made e. law_meant made base law.kind head (term_of d.universe env law.body) (before_meant law.after) (made_terms base head made e)) later)

    abbrev both_done : ℕ × ℕ → Ground
    both_done pair = all_of (terms.Atom pair.0 1 ∷ terms.Atom pair.1 1 ∷ [])

    pair_part : (given : Option (Bor (List Node))) (pair : ℕ × ℕ) → option_map (λ nodes. nodes.now) given ≡ Some (postfix (both_done pair)) → (at : ℕ) →
        IsPart (stride d) (option_map (λ nodes. record { step = at; nodes = nodes }) given) (moved (at * stride d) (both_done pair))
    pair_part None pair e at = absurd cc
    pair_part (Some nodes) pair e at = (both_done pair, cc, refl)

    pair_terms : (base : ℕ) (pair : ℕ × ℕ) (made : GroundLaw) → plain_ground_law made ≡ pair_law base pair →
        HasTerms made base law_kinds.FluentDynamic heads.Falsity terms.Truth (both_done pair)
    pair_terms base pair made e = record {
      base_is = ap (λ p. p.base) e;
      kind_is = ap (λ p. p.kind) e;
      head_is = ap (λ p. p.head) e;
      now_is = ap (λ p. p.body) e;
      before_is = pair_part made.after pair (ap (λ p. p.after) e);
    }

    abbrev at_instance : Instance → List Sourced
    at_instance instance = map (sourced (cause_of instance)) (timed_of_instance d horizon step instance)

    instances_meant : (is : List Instance) → Continues (flat_map (law_of_instance d.universe) is) (flat_map at_instance is)
    instances_meant [] [] e = refl
    instances_meant [] (law ∷ laws) e = absurd cc
    instances_meant (Under base law values ∷ is) laws e =
        let env = giving values in
        let o = ground_head d.universe env law.head in
        subst (λ (own : List TimedRule). MeanAt (stride d) horizon step laws (of_law base own ++ flat_map at_instance is)) (sym (kind_is law env law.kind))
        (under law env base o (flat_map (law_of_instance d.universe) is) (flat_map at_instance is) (instances_meant is) laws e)
    instances_meant (Together base pair ∷ is) laws e =
        in_front (pair_law base pair) (flat_map (law_of_instance d.universe) is) (of_law base (meant_of_kind law_kinds.FluentDynamic heads.Falsity terms.Truth (both_done pair))) (flat_map at_instance is)
        (λ made same. law_meant made base law_kinds.FluentDynamic heads.Falsity terms.Truth (both_done pair) (pair_terms base pair made same)) (instances_meant is) laws e

  pub step_meant : (laws : List GroundLaw) → StandFor (plain_ground_laws laws) d → (horizon step : ℕ) → MeanAt (stride d) horizon step laws (sourced_at_step d horizon step)
  step_meant laws stand horizon step = instances_meant horizon step (instances d.universe d.laws) laws stand
