-- The rules of a horizon by cases: a case is a ground law with the trees of its terms.
use Rattle.std.proofs.Common.{◌≡◌, ◌∙◌, ℕ, ◌+◌, ◌*◌, ◌<◌, Bool, true, false, ◌&&◌, ◌||◌, not, List, [], ◌∷◌, ◌++◌, length, flat_map, nat_lt, Option, Some, None, refl, sym, ap, subst, length-append}
use Rattle.std.specs.Option.{option_map}
use Rattle.std.specs.Prelude.{◌==◌, IsNone, slice_index, if◌then◌else◌}
use Rattle.std.specs.Bool.{beq}
use Rattle.std.specs.List.{AllByRecursion}
use Rattle.std.proofs.lemmas.List.{length-map}
use Rattle.std.proofs.lemmas.Option.{slice_get_within}
use Rattle.cc_arena.specs.Meanings.{head_truth}
use Rattle.cc_defs.specs.declared.node.GroundHead.{GroundHead}
use Rattle.cc_defs.specs.declared.node.GroundHead.TheVariants as heads
use Rattle.cc_defs.specs.declared.node.Node.{Node}
use Rattle.cc_defs.specs.declared.node.Node.TheVariants as nodes
use Rattle.cc_defs.specs.declared.signature.Const.{Const}
use Rattle.cc_defs.specs.declared.signature.LawKind.{LawKind}
use Rattle.cc_defs.specs.declared.signature.LawKind.TheVariants as law_kinds
use Rattle.cc_defs.specs.Conditions.{AreGroundLaws, IsFluentTerm, IsTermOf, IsGroundFluentHead, IsGroundSimpleHead, IsGroundActionHead, IsGroundOfKind}
use Rattle.cc_defs.specs.Description.{Description, domain_sizes, stride, values_at}
use Rattle.cc_defs.specs.Environments.{Instance, Under, Together, instances}
use Rattle.cc_defs.specs.GroundLaws.{PlainGroundLaw, ground_head, law_of_instance, law_with}
use Rattle.cc_defs.specs.Nodes.{nodes_of, term_of}
use Rattle.cc_defs.specs.Resolved.{Formula, Law}
use Rattle.cc_defs.specs.Rules.{upto}
use Rattle.cc_defs.specs.Satisfaction.{Environment, giving}
use Rattle.cc_defs.specs.Terms.{Ground, Operands, Fits, IsTermOver, all_of, postfix, postfixes, truth, all_true, any_true}
use Rattle.cc_defs.specs.Terms as terms
use Rattle.cc_defs.specs.TimedRules.{TimedRule, all_initial_timed, at_step, head_at_step, joined_parts, moved, moved_operands, part_at, timed_of_kind, timed_of_instance, timed_rules, timed_together, timed_with}
use Rattle.cc_defs.specs.Universe.{Universe, constants_in}
use Rattle.cc_theory.specs.Completion.{holds}
use Rattle.cc_theory.proofs.Lists.{all_append, all_left, all_right, flat_flat, flat_same}
use Rattle.cc_theory.proofs.Supported.{meets_head}

-- ---- cases

-- the terms of its `if` part and its `after` part
pub record Case : Type 0 where
  pub kind : LawKind
  pub head : GroundHead
  pub now : Ground
  pub before : Ground

abbrev pub before_of : Universe → Environment → Option Formula → Ground
before_of u env None = terms.Truth
before_of u env (Some formula) = term_of u env formula

abbrev pub case_with : Universe → Law → Environment → Option GroundHead → List Case
case_with u law env None = []
case_with u law env (Some head) = record { kind = law.kind; head = head; now = term_of u env law.body; before = before_of u env law.after } ∷ []

abbrev pub case_of_instance : Universe → Instance → List Case
case_of_instance u (Under base law values) = case_with u law (giving values) (ground_head u (giving values) law.head)
case_of_instance u (Together base pair) =
    record { kind = law_kinds.FluentDynamic; head = heads.Falsity; now = terms.Truth; before = all_of (terms.Atom pair.0 1 ∷ terms.Atom pair.1 1 ∷ []) } ∷ []

abbrev pub cases : Description → List Case
cases d = flat_map (case_of_instance d.universe) (instances d.universe d.laws)

-- ---- their rules

abbrev pub timed_case : Description → Case → ℕ → ℕ → TimedRule
timed_case d c now before = record { head = head_at_step d now c.head; body = joined_parts (at_step d now c.now) (at_step d before c.before) }

abbrev pub of_kind : LawKind → Description → ℕ → ℕ → Case → List TimedRule
of_kind law_kinds.Static d horizon step c = timed_case d c step step ∷ []
of_kind law_kinds.ActionDynamic d horizon step c = if nat_lt step horizon then timed_case d c step step ∷ [] else []
of_kind law_kinds.FluentDynamic d horizon step c = if nat_lt step horizon then timed_case d c (step + 1) step ∷ [] else []

abbrev pub of_case : Description → ℕ → ℕ → Case → List TimedRule
of_case d horizon step c = of_kind c.kind d horizon step c

abbrev pub by_cases : Description → ℕ → List TimedRule
by_cases d horizon = all_initial_timed 0 d.universe.fluents ++ flat_map (λ step. flat_map (of_case d horizon step) (cases d)) (upto (horizon + 1))

abbrev nil : List TimedRule
nil = []

module _ (d : Description) (horizon step : ℕ) where
  module _ (law : Law) (env : Environment) where
    part_same : (before : ℕ) (after : Option Formula) → part_at d env before after ≡ at_step d before (before_of d.universe env after)
    part_same before None = refl
    part_same before (Some formula) = refl

    with_same : (now before : ℕ) (head : GroundHead) →
        timed_with d law env now before (Some head)
        ≡ timed_case d (record { kind = law.kind; head = head; now = term_of d.universe env law.body; before = before_of d.universe env law.after }) now before ∷ []
    with_same now before head =
        ap (λ (part : Ground). record { head = head_at_step d now head; body = joined_parts (at_step d now (term_of d.universe env law.body)) part } ∷ []) (part_same before law.after)

    none_same : (b : Bool) → (if b then nil else nil) ≡ nil
    none_same true = refl
    none_same false = refl

    some_same : (b : Bool) (xs : List TimedRule) (x : TimedRule) → xs ≡ x ∷ [] → (if b then xs else []) ≡ (if b then x ∷ [] else []) ++ []
    some_same true xs x e = e
    some_same false xs x e = refl

    -- as the rules of a kind, for a given head
    abbrev with_kind : LawKind → Option GroundHead → List TimedRule
    with_kind law_kinds.Static o = timed_with d law env step step o
    with_kind law_kinds.ActionDynamic o = if nat_lt step horizon then timed_with d law env step step o else []
    with_kind law_kinds.FluentDynamic o = if nat_lt step horizon then timed_with d law env (step + 1) step o else []

    kind_same : (kind : LawKind) → timed_of_kind kind d horizon law step env ≡ with_kind kind (ground_head d.universe env law.head)
    kind_same law_kinds.Static = refl
    kind_same law_kinds.ActionDynamic = refl
    kind_same law_kinds.FluentDynamic = refl

    cases_same : (kind : LawKind) (o : Option GroundHead) → with_kind kind o ≡ flat_map (of_kind kind d horizon step) (case_with d.universe law env o)
    cases_same law_kinds.Static None = refl
    cases_same law_kinds.Static (Some head) = with_same step step head
    cases_same law_kinds.ActionDynamic None = none_same (nat_lt step horizon)
    cases_same law_kinds.ActionDynamic (Some head) = some_same (nat_lt step horizon) _ _ (with_same step step head)
    cases_same law_kinds.FluentDynamic None = none_same (nat_lt step horizon)
    cases_same law_kinds.FluentDynamic (Some head) = some_same (nat_lt step horizon) _ _ (with_same (step + 1) step head)

    own_kind : (o : Option GroundHead) → flat_map (of_kind law.kind d horizon step) (case_with d.universe law env o) ≡ flat_map (of_case d horizon step) (case_with d.universe law env o)
    own_kind None = refl
    own_kind (Some head) = refl

  instance_same : (instance : Instance) → timed_of_instance d horizon step instance ≡ flat_map (of_case d horizon step) (case_of_instance d.universe instance)
  instance_same (Under base law values) =
      let env = giving values in
      let o = ground_head d.universe env law.head in
      kind_same law env law.kind ∙ cases_same law env law.kind o ∙ own_kind law env o
  instance_same (Together base pair) = elim (nat_lt step horizon) as (λ b. (if b then timed_together d step pair ∷ [] else []) ≡ (if b then timed_together d step pair ∷ [] else []) ++ []) [
    | true ↦ refl
    | false ↦ refl
  ]

pub rules_by_cases : (d : Description) (horizon : ℕ) → timed_rules d horizon ≡ by_cases d horizon
rules_by_cases d horizon =
    let is = instances d.universe d.laws in
    ap (λ (l : List TimedRule). all_initial_timed 0 d.universe.fluents ++ l)
    (flat_same (λ step. flat_map (timed_of_instance d horizon step) is) (λ step. flat_map (of_case d horizon step) (cases d)) (upto (horizon + 1)) (λ step.
    flat_same (timed_of_instance d horizon step) (λ i. flat_map (of_case d horizon step) (case_of_instance d.universe i)) is (instance_same d horizon step)
    ∙ sym (flat_flat (of_case d horizon step) (case_of_instance d.universe) is)))

-- ---- what a term reads

-- a term reads only the constants below a number
abbrev pub Reads : ℕ → Ground → Type 0
Reads count term = (v w : ℕ → ℕ) → ((constant : ℕ) → constant < count → v constant ≡ w constant) → truth v term ≡ truth w term

module _ (sizes : List ℕ) (v w : ℕ → ℕ) (agree : (constant : ℕ) → constant < length sizes → v constant ≡ w constant) where
  mutual
    pub reads : (term : Ground) → AllByRecursion (Fits sizes) (postfix term) → truth v term ≡ truth w term
    reads terms.Truth fits = refl
    reads terms.Falsehood fits = refl
    reads (terms.Atom constant value) fits = ap (λ (n : ℕ). n == value) (agree constant (slice_get_within sizes constant fits.0.0 fits.0.1))
    reads (terms.Not f) fits = ap not (reads f (all_left (Fits sizes) (postfix f) (nodes.Not ∷ []) fits))
    reads (terms.All operands) fits = all_read operands (all_left (Fits sizes) (postfixes operands) (nodes.All _ ∷ []) fits)
    reads (terms.Any operands) fits = any_read operands (all_left (Fits sizes) (postfixes operands) (nodes.Any _ ∷ []) fits)
    reads (terms.Same f g) fits =
        let more = all_left (Fits sizes) (postfix f ++ postfix g) (nodes.Same ∷ []) fits in
        ap (λ (b : Bool). beq b (truth v g)) (reads f (all_left (Fits sizes) (postfix f) (postfix g) more))
        ∙ ap (λ (b : Bool). beq (truth w f) b) (reads g (all_right (Fits sizes) (postfix f) (postfix g) more))

    all_read : (operands : Operands) → AllByRecursion (Fits sizes) (postfixes operands) → all_true v operands ≡ all_true w operands
    all_read terms.nothing fits = refl
    all_read (terms.and_then operands last) fits =
        ap (λ (b : Bool). b && truth v last) (all_read operands (all_left (Fits sizes) (postfixes operands) (postfix last) fits))
        ∙ ap (λ (b : Bool). all_true w operands && b) (reads last (all_right (Fits sizes) (postfixes operands) (postfix last) fits))

    any_read : (operands : Operands) → AllByRecursion (Fits sizes) (postfixes operands) → any_true v operands ≡ any_true w operands
    any_read terms.nothing fits = refl
    any_read (terms.and_then operands last) fits =
        ap (λ (b : Bool). b || truth v last) (any_read operands (all_left (Fits sizes) (postfixes operands) (postfix last) fits))
        ∙ ap (λ (b : Bool). any_true w operands || b) (reads last (all_right (Fits sizes) (postfixes operands) (postfix last) fits))

-- ---- the form of a case, by its kind

abbrev pub IsFit : LawKind → Universe → Case → Type 0
IsFit law_kinds.Static u c = IsGroundFluentHead u c.head × Reads (length u.fluents) c.now × Reads (length u.fluents) c.before
IsFit law_kinds.ActionDynamic u c =
    IsGroundActionHead u c.head × Reads (length u.fluents + length u.actions) c.now × Reads (length u.fluents + length u.actions) c.before
IsFit law_kinds.FluentDynamic u c = IsGroundSimpleHead u c.head × Reads (length u.fluents) c.now × Reads (length u.fluents + length u.actions) c.before

module _ (u : Universe) where
  fluent_reads : (term : Ground) → IsFluentTerm u (postfix term) → Reads (length u.fluents) term
  fluent_reads term is v w agree =
      reads (domain_sizes u.fluents) v w (λ constant less. agree constant (subst (λ (n : ℕ). constant < n) (length-map u.fluents (λ (c : Const). length c.domain)) less)) term is.fits

  any_reads : (term : Ground) → IsTermOf u (postfix term) → Reads (length u.fluents + length u.actions) term
  any_reads term is v w agree =
      let count : length (domain_sizes (constants_in u)) ≡ length u.fluents + length u.actions =
      length-map (constants_in u) (λ (c : Const). length c.domain) ∙ length-append u.fluents u.actions in
      reads (domain_sizes (constants_in u)) v w (λ constant less. agree constant (subst (λ (n : ℕ). constant < n) count less)) term is.fits

  written_reads : (term : Ground) (after : List Node) → Some (postfix term) ≡ Some after → IsTermOf u after → Reads (length u.fluents + length u.actions) term
  written_reads term after written is = let same : postfix term ≡ after = cc in any_reads term (subst (IsTermOf u) (sym same) is)

  module _ (base : ℕ) (law : Law) (env : Environment) where
    no_after : (n : ℕ) (o : Option Formula) → IsNone (option_map (nodes_of u env) o) → Reads n (before_of u env o)
    no_after n None none = λ v w agree. refl
    no_after n (Some formula) none = absurd cc

    after_reads : (o : Option Formula) (after : List Node) → option_map (nodes_of u env) o ≡ Some after → IsTermOf u after → Reads (length u.fluents + length u.actions) (before_of u env o)
    after_reads None after written is = λ v w agree. refl
    after_reads (Some formula) after written is = written_reads (term_of u env formula) after written is

    module _ (head : GroundHead) where
      abbrev made : PlainGroundLaw
      made = record { head = head; body = nodes_of u env law.body; after = option_map (nodes_of u env) law.after; kind = law.kind; base = base }

      abbrev case : Case
      case = record { kind = law.kind; head = head; now = term_of u env law.body; before = before_of u env law.after }

      kind_fits : (kind : LawKind) → IsGroundOfKind kind u made → IsFit kind u case
      kind_fits law_kinds.Static g = (g.head, fluent_reads (term_of u env law.body) g.body, no_after (length u.fluents) law.after g.after)
      kind_fits law_kinds.ActionDynamic g = (g.head, any_reads (term_of u env law.body) g.body, no_after (length u.fluents + length u.actions) law.after g.after)
      kind_fits law_kinds.FluentDynamic g = (g.head, fluent_reads (term_of u env law.body) g.body, after_reads law.after g.after g.written g.term)

    with_fits : (o : Option GroundHead) → AreGroundLaws u (law_with u base law env o) → AllByRecursion (λ c. IsFit c.kind u c) (case_with u law env o)
    with_fits None are = tt
    with_fits (Some head) are = (kind_fits head law.kind are.0, tt)

  instance_fits : (instance : Instance) → AreGroundLaws u (law_of_instance u instance) → AllByRecursion (λ c. IsFit c.kind u c) (case_of_instance u instance)
  instance_fits (Under base law values) are = with_fits base law (giving values) (ground_head u (giving values) law.head) are
  instance_fits (Together base pair) are =
      ((tt, (λ v w agree. refl), written_reads (all_of (terms.Atom pair.0 1 ∷ terms.Atom pair.1 1 ∷ [])) are.0.after are.0.written are.0.term), tt)

  pub cases_fit : (is : List Instance) → AreGroundLaws u (flat_map (law_of_instance u) is) → AllByRecursion (λ c. IsFit c.kind u c) (flat_map (case_of_instance u) is)
  cases_fit [] are = tt
  cases_fit (i ∷ is) are =
      let here = all_left (λ (law : PlainGroundLaw). IsGroundOfKind law.kind u law) (law_of_instance u i) (flat_map (law_of_instance u) is) are in
      let later = all_right (λ (law : PlainGroundLaw). IsGroundOfKind law.kind u law) (law_of_instance u i) (flat_map (law_of_instance u) is) are in
      all_append (λ (c : Case). IsFit c.kind u c) (case_of_instance u i) (flat_map (case_of_instance u) is) (instance_fits i here) (cases_fit is later)

-- ---- terms and heads at a step

module _ (v : ℕ → ℕ) (by : ℕ) where
  mutual
    moved_truth : (term : Ground) → truth v (moved by term) ≡ truth (λ constant. v (by + constant)) term
    moved_truth terms.Truth = refl
    moved_truth terms.Falsehood = refl
    moved_truth (terms.Atom constant value) = refl
    moved_truth (terms.Not f) = ap not (moved_truth f)
    moved_truth (terms.All operands) = moved_all operands
    moved_truth (terms.Any operands) = moved_any operands
    moved_truth (terms.Same f g) =
        ap (λ (b : Bool). beq b (truth v (moved by g))) (moved_truth f) ∙ ap (λ (b : Bool). beq (truth (λ constant. v (by + constant)) f) b) (moved_truth g)

    moved_all : (operands : Operands) → all_true v (moved_operands by operands) ≡ all_true (λ constant. v (by + constant)) operands
    moved_all terms.nothing = refl
    moved_all (terms.and_then operands last) =
        ap (λ (b : Bool). b && truth v (moved by last)) (moved_all operands) ∙ ap (λ (b : Bool). all_true (λ constant. v (by + constant)) operands && b) (moved_truth last)

    moved_any : (operands : Operands) → any_true v (moved_operands by operands) ≡ any_true (λ constant. v (by + constant)) operands
    moved_any terms.nothing = refl
    moved_any (terms.and_then operands last) =
        ap (λ (b : Bool). b || truth v (moved by last)) (moved_any operands) ∙ ap (λ (b : Bool). any_true (λ constant. v (by + constant)) operands || b) (moved_truth last)

and_true : (b : Bool) → b ≡ (b && true)
and_true true = refl
and_true false = refl

pub joined_truth : (v : ℕ → ℕ) (now before : Ground) → truth v (joined_parts now before) ≡ (truth v now && truth v before)
joined_truth v terms.Truth before = refl
joined_truth v now terms.Truth = and_true (truth v now)
joined_truth v now before = refl

pub step_truth : (d : Description) (row : List ℕ) (step : ℕ) (term : Ground) → holds row (at_step d step term) ≡ truth (λ number. values_at d row step number) term
step_truth d row step term = moved_truth (λ position. slice_index row position) (step * stride d) term

pub head_at : (d : Description) (row : List ℕ) (step : ℕ) (head : GroundHead) → meets_head row (head_at_step d step head) ≡ head_truth (λ number. values_at d row step number) head
head_at d row step (heads.Atom constant value) = refl
head_at d row step heads.Falsity = refl

pub body_at : (d : Description) (row : List ℕ) (now before : ℕ) (f g : Ground) →
    holds row (joined_parts (at_step d now f) (at_step d before g)) ≡ (truth (λ number. values_at d row now number) f && truth (λ number. values_at d row before number) g)
body_at d row now before f g =
    joined_truth (λ position. slice_index row position) (at_step d now f) (at_step d before g)
    ∙ ap (λ (b : Bool). b && holds row (at_step d before g)) (step_truth d row now f)
    ∙ ap (λ (b : Bool). truth (λ number. values_at d row now number) f && b) (step_truth d row before g)
