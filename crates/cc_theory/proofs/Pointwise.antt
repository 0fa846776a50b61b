-- The rules that are made from ground laws are those of a description that the laws stand for, one by one.
use Rattle.std.proofs.Common.{◌≡◌, ◌∙◌, ℕ, suc, ◌+◌, ◌*◌, Bool, true, false, List, [], ◌∷◌, ◌++◌, length, map, flat_map, nat_lt, Option, Some, None, refl, sym, ap, subst, option_map, Bor, Result, Ok, Err, IfOk}
use Rattle.std.specs.Prelude.{if◌then◌else◌}
use Rattle.std.specs.List.{AllZip}
use Rattle.cc_arena.specs.declared.ground_laws.GroundLaw.{GroundLaw}
use Rattle.cc_arena.specs.GroundViews.{plain_ground_law, plain_ground_laws}
use Rattle.cc_defs.specs.declared.node.GroundHead.{GroundHead}
use Rattle.cc_defs.specs.declared.node.GroundHead.TheVariants as heads
use Rattle.cc_defs.specs.declared.node.Node.{Node}
use Rattle.cc_defs.specs.declared.signature.Const.{Const}
use Rattle.cc_defs.specs.declared.signature.Kind.{Kind}
use Rattle.cc_defs.specs.declared.signature.Kind.TheVariants as kinds
use Rattle.cc_defs.specs.declared.signature.LawKind.{LawKind}
use Rattle.cc_defs.specs.declared.signature.LawKind.TheVariants as law_kinds
use Rattle.cc_defs.specs.Description.{Description, stride}
use Rattle.cc_defs.specs.Environments.{Instance, Under, Together, instances}
use Rattle.cc_defs.specs.GroundLaws.{PlainGroundLaw, ground_head, ground_laws, law_of_instance, law_with, pair_law}
use Rattle.cc_defs.specs.Nodes.{nodes_of, term_of}
use Rattle.cc_defs.specs.Resolved.{Formula, Law}
use Rattle.cc_defs.specs.Rules.{upto}
use Rattle.cc_defs.specs.Satisfaction.{Environment, giving}
use Rattle.cc_defs.specs.Signatures.{Signature}
use Rattle.cc_defs.specs.Terms.{Ground, all_of, postfix}
use Rattle.cc_defs.specs.Terms as terms
use Rattle.cc_defs.specs.TimedRules.{all_initial_timed, at_step, head_at_step, initial_timed, joined_parts, moved, part_at, timed_of_kind, timed_of_instance, timed_rules, timed_together, timed_with}
use Rattle.cc_defs.specs.TimedRules as timed
use Rattle.cc_theory.specs.declared.rule.TimedRule.{TimedRule}
use Rattle.cc_theory.specs.Making.{all_initial, head_at, initial_of, initial_rule, rule_of, rule_at, rule_of_kind, rules_at_step, rules_for, rules_in}
use Rattle.cc_theory.specs.Theories.{AreLawsOf, IsPart, IsRuleOf, plain_head}

module _ {A B : Type 0} (R : A → B → Type 0) where
  zip_behind : (xs : List A) (ys : List B) (more : List A) (others : List B) → AllZip R xs ys → AllZip R more others → AllZip R (xs ++ more) (ys ++ others)
  zip_behind [] [] more others are rest = rest
  zip_behind [] (y ∷ ys) more others are rest = absurd are
  zip_behind (x ∷ xs) [] more others are rest = absurd are
  zip_behind (x ∷ xs) (y ∷ ys) more others are rest = (are.0, zip_behind xs ys more others are.1 rest)

  zip_mapped : (f : ℕ → A) (g : ℕ → B) → ((n : ℕ) → R (f n) (g n)) → (ns : List ℕ) → AllZip R (map f ns) (map g ns)
  zip_mapped f g each [] = tt
  zip_mapped f g each (n ∷ ns) = (each n, zip_mapped f g each ns)

  zip_flat : (f : ℕ → List A) (g : ℕ → List B) → ((n : ℕ) → AllZip R (f n) (g n)) → (ns : List ℕ) → AllZip R (flat_map f ns) (flat_map g ns)
  zip_flat f g each [] = tt
  zip_flat f g each (n ∷ ns) = zip_behind (f n) (g n) (flat_map f ns) (flat_map g ns) (each n) (zip_flat f g each ns)

module _ (d : Description) where
  abbrev Same : List TimedRule → List timed.TimedRule → Type 0
  Same made meant = AllZip (IsRuleOf (stride d)) made meant

  -- ---- initial rules

  initial_same : (kind : Kind) (number size : ℕ) → Same (initial_of kind number size) (initial_timed kind number size)
  initial_same kinds.Simple number size =
      zip_mapped (IsRuleOf (stride d)) (initial_rule number) (λ value. record { head = heads.Atom number value; body = terms.Atom number value })
      (λ value. record { head = refl; body = refl }) (upto size)
  initial_same kinds.Determined number size = tt
  initial_same kinds.Action number size = tt

  all_initial_same : (number : ℕ) (constants : List Const) → Same (all_initial number constants) (all_initial_timed number constants)
  all_initial_same number [] = tt
  all_initial_same number (c ∷ cs) =
      zip_behind (IsRuleOf (stride d)) (initial_of c.kind number (length c.domain)) (initial_timed c.kind number (length c.domain)) (all_initial (number + 1) cs) (all_initial_timed (number + 1) cs)
      (initial_same c.kind number (length c.domain)) (all_initial_same (number + 1) cs)

  -- ---- rules of laws

  head_same : (step : ℕ) (head : GroundHead) → plain_head (head_at (stride d) step head) ≡ head_at_step d step head
  head_same step (heads.Atom constant value) = refl
  head_same step heads.Falsity = refl

  -- a ground law that has the terms of these formulas
  pub record HasTerms (law : GroundLaw) (kind : LawKind) (head : GroundHead) (now before : Ground) : Type 0 where
    pub kind_is : law.kind ≡ kind
    pub head_is : law.head ≡ head
    pub now_is : law.body.now ≡ postfix now
    pub before_is : (step : ℕ) → IsPart (stride d) (option_map (λ nodes. record { step = step; nodes = nodes }) law.after) (moved (step * stride d) before)

  abbrev meant_rule : ℕ → ℕ → GroundHead → Ground → Ground → timed.TimedRule
  meant_rule now before head first second = record { head = head_at_step d now head; body = joined_parts (at_step d now first) (at_step d before second) }

  rule_same : (law : GroundLaw) (kind : LawKind) (head : GroundHead) (first second : Ground) → HasTerms law kind head first second → (now before : ℕ) →
      IsRuleOf (stride d) (rule_of (stride d) law now before) (meant_rule now before head first second)
  rule_same law kind head first second has now before = record {
    head = ap (λ (h : GroundHead). plain_head (head_at (stride d) now h)) has.head_is ∙ head_same now head;
    body = (at_step d now first, at_step d before second, (first, has.now_is, refl), has.before_is before, refl);
  }

  module _ (horizon step : ℕ) where
    -- the rules of an instance at a step
    abbrev meant_of_kind : LawKind → GroundHead → Ground → Ground → List timed.TimedRule
    meant_of_kind law_kinds.Static head first second = meant_rule step step head first second ∷ []
    meant_of_kind law_kinds.ActionDynamic head first second = if nat_lt step horizon then meant_rule step step head first second ∷ [] else []
    meant_of_kind law_kinds.FluentDynamic head first second = if nat_lt step horizon then meant_rule (step + 1) step head first second ∷ [] else []

    where_below : (b : Bool) (made : TimedRule) (meant : timed.TimedRule) → IsRuleOf (stride d) made meant →
        Same (rules_in (if b then Some made else None)) (if b then meant ∷ [] else [])
    where_below true made meant is = (is, tt)
    where_below false made meant is = tt

    kind_same : (law : GroundLaw) (kind wanted : LawKind) (head : GroundHead) (first second : Ground) → HasTerms law kind head first second →
        Same (rules_in (rule_of_kind wanted (stride d) horizon step law)) (meant_of_kind wanted head first second)
    kind_same law kind law_kinds.Static head first second has = (rule_same law kind head first second has step step, tt)
    kind_same law kind law_kinds.ActionDynamic head first second has = where_below (nat_lt step horizon) _ _ (rule_same law kind head first second has step step)
    kind_same law kind law_kinds.FluentDynamic head first second has = where_below (nat_lt step horizon) _ _ (rule_same law kind head first second has (step + 1) step)

    law_same : (law : GroundLaw) (kind : LawKind) (head : GroundHead) (first second : Ground) → HasTerms law kind head first second →
        Same (rules_in (rule_at (stride d) horizon step law)) (meant_of_kind kind head first second)
    law_same law kind head first second has =
        subst (λ k. Same (rules_in (rule_of_kind k (stride d) horizon step law)) (meant_of_kind kind head first second)) (sym has.kind_is) (kind_same law kind kind head first second has)

    abbrev Continues : List PlainGroundLaw → List timed.TimedRule → Type 0
    Continues rest more = (laws : List GroundLaw) → plain_ground_laws laws ≡ rest → Same (rules_at_step (stride d) laws horizon step) more

    -- with a ground law in front
    in_front : (p : PlainGroundLaw) (rest : List PlainGroundLaw) (own more : List timed.TimedRule) →
        ((law : GroundLaw) → plain_ground_law law ≡ p → Same (rules_in (rule_at (stride d) horizon step law)) own) →
        Continues rest more → Continues (p ∷ rest) (own ++ more)
    in_front p rest own more here later [] e = absurd cc
    in_front p rest own more here later (law ∷ laws) e =
        zip_behind (IsRuleOf (stride d)) (rules_in (rule_at (stride d) horizon step law)) own (rules_at_step (stride d) laws horizon step) more (here law cc) (later laws cc)

    module _ (law : Law) (env : Environment) where
      abbrev before_meant : Option Formula → Ground
      before_meant None = terms.Truth
      before_meant (Some formula) = term_of d.universe env formula

      part_same : (before : ℕ) (after : Option Formula) → at_step d before (before_meant after) ≡ part_at d env before after
      part_same before None = refl
      part_same before (Some formula) = refl

      part_from : (given : Option (Bor (List Node))) (after : Option Formula) → option_map (λ nodes. nodes.now) given ≡ option_map (nodes_of d.universe env) after → (at : ℕ) →
          IsPart (stride d) (option_map (λ nodes. record { step = at; nodes = nodes }) given) (moved (at * stride d) (before_meant after))
      part_from None None e at = refl
      part_from None (Some formula) e at = absurd cc
      part_from (Some nodes) None e at = absurd cc
      part_from (Some nodes) (Some formula) e at = (term_of d.universe env formula, cc, refl)

      made_terms : (base : ℕ) (head : GroundHead) (made : GroundLaw) →
          plain_ground_law made ≡ record { head = head; body = nodes_of d.universe env law.body; after = option_map (nodes_of d.universe env) law.after; kind = law.kind; base = base } →
          HasTerms made law.kind head (term_of d.universe env law.body) (before_meant law.after)
      made_terms base head made e = record {
        kind_is = ap (λ p. p.kind) e;
        head_is = ap (λ p. p.head) e;
        now_is = ap (λ p. p.body) e;
        before_is = part_from made.after law.after (ap (λ p. p.after) e);
      }

      abbrev with_kind : LawKind → Option GroundHead → List timed.TimedRule
      with_kind law_kinds.Static o = timed_with d law env step step o
      with_kind law_kinds.ActionDynamic o = if nat_lt step horizon then timed_with d law env step step o else []
      with_kind law_kinds.FluentDynamic o = if nat_lt step horizon then timed_with d law env (step + 1) step o else []

      kind_is : (kind : LawKind) → timed_of_kind kind d horizon law step env ≡ with_kind kind (ground_head d.universe env law.head)
      kind_is law_kinds.Static = refl
      kind_is law_kinds.ActionDynamic = refl
      kind_is law_kinds.FluentDynamic = refl

      abbrev meant_rules : ℕ → ℕ → GroundHead → Ground → List timed.TimedRule
      meant_rules now before head part = record { head = head_at_step d now head; body = joined_parts (at_step d now (term_of d.universe env law.body)) part } ∷ []

      some_is : (kind : LawKind) (head : GroundHead) → meant_of_kind kind head (term_of d.universe env law.body) (before_meant law.after) ≡ with_kind kind (Some head)
      some_is law_kinds.Static head = ap (meant_rules step step head) (part_same step law.after)
      some_is law_kinds.ActionDynamic head = ap (λ part. if nat_lt step horizon then meant_rules step step head part else []) (part_same step law.after)
      some_is law_kinds.FluentDynamic head = ap (λ part. if nat_lt step horizon then meant_rules (step + 1) step head part else []) (part_same step law.after)

      abbrev nil : List timed.TimedRule
      nil = []

      neither : (b : Bool) → nil ≡ (if b then nil else nil)
      neither true = refl
      neither false = refl

      none_is : (kind : LawKind) → nil ≡ with_kind kind None
      none_is law_kinds.Static = refl
      none_is law_kinds.ActionDynamic = neither (nat_lt step horizon)
      none_is law_kinds.FluentDynamic = neither (nat_lt step horizon)

      under : (base : ℕ) (o : Option GroundHead) (rest : List PlainGroundLaw) (more : List timed.TimedRule) → Continues rest more →
          Continues (law_with d.universe base law env o ++ rest) (with_kind law.kind o ++ more)
      under base None rest more later = subst (λ own. Continues rest (own ++ more)) (none_is law.kind) later
      under base (Some head) rest more later =
          subst (λ own. Continues (law_with d.universe base law env (Some head) ++ rest) (own ++ more)) (some_is law.kind head)
          (in_front _ rest (meant_of_kind law.kind head (term_of d.universe env law.body) (before_meant law.after)) more
          (λ made e. law_same made law.kind head (term_of d.universe env law.body) (before_meant law.after) (made_terms base head made e)) later)

    abbrev both_done : ℕ × ℕ → Ground
    both_done pair = all_of (terms.Atom pair.0 1 ∷ terms.Atom pair.1 1 ∷ [])

    pair_part : (given : Option (Bor (List Node))) (pair : ℕ × ℕ) → option_map (λ nodes. nodes.now) given ≡ Some (postfix (both_done pair)) → (at : ℕ) →
        IsPart (stride d) (option_map (λ nodes. record { step = at; nodes = nodes }) given) (moved (at * stride d) (both_done pair))
    pair_part None pair e at = absurd cc
    pair_part (Some nodes) pair e at = (both_done pair, cc, refl)

    pair_terms : (base : ℕ) (pair : ℕ × ℕ) (made : GroundLaw) → plain_ground_law made ≡ pair_law base pair →
        HasTerms made law_kinds.FluentDynamic heads.Falsity terms.Truth (both_done pair)
    pair_terms base pair made e = record {
      kind_is = ap (λ p. p.kind) e;
      head_is = ap (λ p. p.head) e;
      now_is = ap (λ p. p.body) e;
      before_is = pair_part made.after pair (ap (λ p. p.after) e);
    }

    instances_same : (is : List Instance) → Continues (flat_map (law_of_instance d.universe) is) (flat_map (timed_of_instance d horizon step) is)
    instances_same [] [] e = tt
    instances_same [] (law ∷ laws) e = absurd cc
    instances_same (Under base law values ∷ is) laws e =
        let env = giving values in
        let o = ground_head d.universe env law.head in
        subst (λ own. Same (rules_at_step (stride d) laws horizon step) (own ++ flat_map (timed_of_instance d horizon step) is)) (sym (kind_is law env law.kind))
        (under law env base o (flat_map (law_of_instance d.universe) is) (flat_map (timed_of_instance d horizon step) is) (instances_same is) laws e)
    instances_same (Together base pair ∷ is) laws e =
        in_front (pair_law base pair) (flat_map (law_of_instance d.universe) is) (meant_of_kind law_kinds.FluentDynamic heads.Falsity terms.Truth (both_done pair)) (flat_map (timed_of_instance d horizon step) is)
        (λ made same. law_same made law_kinds.FluentDynamic heads.Falsity terms.Truth (both_done pair) (pair_terms base pair made same)) (instances_same is) laws e

  described : (laws : List GroundLaw) (horizon : ℕ) → plain_ground_laws laws ≡ ground_laws d.universe d.laws →
      Same (all_initial 0 d.universe.fluents ++ flat_map (rules_at_step (stride d) laws horizon) (upto (horizon + 1))) (timed_rules d horizon)
  described laws horizon e =
      let f = rules_at_step (stride d) laws horizon in
      let g : ℕ → List timed.TimedRule = λ step. flat_map (timed_of_instance d horizon step) (instances d.universe d.laws) in
      zip_behind (IsRuleOf (stride d)) (all_initial 0 d.universe.fluents) (all_initial_timed 0 d.universe.fluents) (flat_map f (upto (horizon + 1))) (flat_map g (upto (horizon + 1)))
      (all_initial_same 0 d.universe.fluents) (zip_flat (IsRuleOf (stride d)) f g (λ step. instances_same horizon step (instances d.universe d.laws) laws e) (upto (horizon + 1)))

pub rules_same : (signature : Signature) (laws : List GroundLaw) (d : Description) → AreLawsOf signature laws d → (horizon : ℕ) →
    AllZip (IsRuleOf (stride d)) (rules_for signature laws horizon) (timed_rules d horizon)
rules_same signature laws d of horizon =
    let to : (fluents actions : List Const) → List TimedRule =
    λ fluents actions. all_initial 0 fluents ++ flat_map (rules_at_step (length fluents + length actions) laws horizon) (upto (horizon + 1)) in
    subst (λ (made : List TimedRule). AllZip (IsRuleOf (stride d)) made (timed_rules d horizon))
    (sym (ap (λ (fluents : List Const). to fluents signature.actions) of.signature_is.fluents ∙ ap (to d.universe.fluents) of.signature_is.actions))
    (described d laws horizon of.laws_are)

pub as_long : {A B : Type 0} (R : A → B → Type 0) (xs : List A) (ys : List B) → AllZip R xs ys → length xs ≡ length ys
as_long R [] [] are = refl
as_long R [] (y ∷ ys) are = absurd are
as_long R (x ∷ xs) [] are = absurd are
as_long R (x ∷ xs) (y ∷ ys) are = ap suc (as_long R xs ys are.1)

pub same_length : (signature : Signature) (laws : List GroundLaw) (d : Description) → AreLawsOf signature laws d → (horizon : ℕ) →
    length (rules_for signature laws horizon) ≡ length (timed_rules d horizon)
same_length signature laws d of horizon = as_long (IsRuleOf (stride d)) _ _ (rules_same signature laws d of horizon)

-- what holds of what a result was made to be holds of it
pub as_made : {A E B : Type 0} (view : A → B) (P : B → Type 0) (result : Result A E) (made : B) → P made → IfOk result (λ a. view a ≡ made) → IfOk result (λ a. P (view a))
as_made view P (Ok a) made holds e = subst P (sym e) holds
as_made view P (Err fault) made holds e = tt
